-- Which steps of a stage are persistent: a collect, and a send or a receive on a queue that no
-- other process will use in this phase.
use Rattle.std.specs.Prelude.{◌≡◌, ◌⊎◌, ◌≤◌, ◌+◌, ◌==◌, ◌&&◌, ◌||◌, not, ℕ, zero, suc, Bool, true, false, List, Some, None, is_some, length, slice_get, Vec}
use Rattle.std.specs.Option.{option_map}
use Rattle.std.specs.declared.alloc.Global.{Global}
use Rattle.mq_model.specs.Record.{Past, Descriptor, Process, Queue}
use Rattle.mq_model.specs.Descriptors.{called_queue, held, is_place}
use Rattle.mq_model.specs.Messages.{is_receive, is_send}
use Rattle.mq_model.specs.Notices.{registered}
use Rattle.mq_model.specs.Waits.{open_wait}
use Rattle.mq_model.specs.declared.entries.Call.{Call}
use Rattle.mq_model.specs.declared.entries.Call.TheVariants.{MqOpen, MqUnlink}
use Rattle.mq_state.specs.Trails.{can_call}
use Rattle.script_orders.specs.Likeness.{is_to_come}
use Rattle.script_orders.specs.Progress.{Progress}
use Rattle.script_orders.specs.Stage.{Stage, turn_of}
use Rattle.script_orders.specs.declared.plan.Planned.{Planned}
use Rattle.script_orders.specs.declared.plan.Step.{Step}
use Rattle.script_orders.specs.declared.plan.Step.TheVariants as steps

-- The process at an index waits, and its wait is answered: it can take a step, so it collects.
pub record MayCollect (s : Stage) (index : ℕ) : Type 0 where
  pub few : length s.programs ≤ 32
  pub waits : is_some (open_wait s.past (index + 1)) ≡ true
  pub can : is_some (turn_of s index) ≡ true

-- descriptor d of process p is one of queue q
abbrev pub is_held_on : Past → Process → Queue → Descriptor → Bool
is_held_on past p q d = is_place q (option_map (λ h. h.queue) (held past p d))

-- one of the first n descriptors of process p is
abbrev pub is_held_among : Past → Process → Queue → ℕ → Bool
is_held_among past p q zero = false
is_held_among past p q (suc n) = is_held_among past p q n || is_held_on past p q n

-- a call that may use queue q: one that is made on it, or that opens or unlinks a name
abbrev pub may_use : Past → Process → Queue → Call → Bool
may_use past p q (MqOpen flags attr) = true
may_use past p q MqUnlink = true
may_use past p q call = is_place q (called_queue past p call)

-- the same of a line: an exit closes the descriptors of the queue
abbrev pub step_may_use : Past → Process → Queue → Step → Bool
step_may_use past p q (steps.Call call) = may_use past p q call
step_may_use past p q (steps.Refusal fault) = false
step_may_use past p q steps.Exit = is_held_among past p q 16

-- the same of a line in this phase
abbrev pub line_may_use : Past → ℕ → Process → Queue → Planned → Bool
line_may_use past phase p q planned = planned.phase == phase && step_may_use past p q planned.step

-- the process at an index may still use queue q in this phase
abbrev pub will_use : Stage → Queue → ℕ → Bool
will_use s q index = is_to_come (line_may_use s.past s.phase (index + 1) q) s index

-- one of the first n processes, other than the one at an index, may
abbrev pub others_will_use : Stage → Queue → ℕ → ℕ → Bool
others_will_use s q index zero = false
others_will_use s q index (suc n) = others_will_use s q index n ||
    not (n == index) && will_use s q n

-- a call that sends or receives a message, or tries to
abbrev pub is_transfer : Call → Bool
is_transfer call = is_send call || is_receive call

-- The next line of process p is in this phase. It is a send or a receive on queue q that the
-- process may make now, and nobody is registered for notification there.
pub record StartsOn (past : Past) (phase : ℕ) (p : Process) (seat : Progress)
    (program : List Planned) (q : Queue) : Type 0 where
  pub next : Planned
  pub call : Call
  pub line : slice_get program seat.begun ≡ Some next
  pub in_phase : (next.phase == phase) ≡ true
  pub is : next.step ≡ steps.Call call
  pub transfers : is_transfer call ≡ true
  pub can : can_call past p call next.given.items ≡ true
  pub on : called_queue past p call ≡ Some q
  pub unregistered : registered past q ≡ None

-- the process at an index starts so
pub record IsNextOn (s : Stage) (index : ℕ) (q : Queue) : Type 0 where
  pub program : Vec Planned Global
  pub seat : Progress
  pub has : slice_get s.programs index ≡ Some program
  pub sits : slice_get s.seats index ≡ Some seat
  pub starts : StartsOn s.past s.phase (index + 1) seat program.items q

-- The same, and no other process will use the queue in this phase.
pub record UsesAlone (s : Stage) (index : ℕ) : Type 0 where
  pub few : length s.programs ≤ 32
  pub queue : Queue
  pub next : IsNextOn s index queue
  pub alone : others_will_use s queue index (length s.programs) ≡ false

-- the step of the process at an index is persistent
abbrev pub IsPersistent : Stage → ℕ → Type 0
IsPersistent s index = MayCollect s index ⊎ UsesAlone s index
