-- Equivalent stages, and their state keys.
use Rattle.std.specs.Prelude.{◌≡◌, ◌≤◌, ℕ, zero, suc, Bool, false, ◌||◌, List, ◌∷◌, ◌++◌, drop, length, slice_get, Vec}
use Rattle.std.specs.List.{list_any}
use Rattle.std.specs.Option.{option_and_then, option_map, unwrap_or}
use Rattle.std.specs.declared.alloc.Global.{Global}
use Rattle.mq_model.specs.Record.{Past}
use Rattle.mq_model.specs.Messages.{is_receive}
use Rattle.mq_equivalence.specs.Key.{key_if, listed}
use Rattle.mq_equivalence.specs.Equivalence.{Agree}
use Rattle.script_orders.specs.Progress.{Progress}
use Rattle.script_orders.specs.Stage.{Stage}
use Rattle.script_orders.specs.declared.plan.Planned.{Planned}
use Rattle.script_orders.specs.declared.plan.Step.{Step}
use Rattle.script_orders.specs.declared.plan.Step.TheVariants.{Call, Refusal, Exit}

-- the same stage with another journal
abbrev pub with_past : Stage → Past → Stage
with_past s past = record {
  programs = s.programs;
  phases = s.phases;
  script = s.script;
  start = s.start;
  phase = s.phase;
  past = past;
  seats = s.seats;
}

-- whether a step receives a message
abbrev pub step_receives : Step → Bool
step_receives (Call call) = is_receive call
step_receives (Refusal fault) = false
step_receives Exit = false

-- whether a line from this one on receives a message
abbrev pub receives_from : List Planned → ℕ → Bool
receives_from program begun = list_any (λ planned. step_receives planned.step) (drop begun program)

-- whether there is such a line among those that the process at an index has not begun
abbrev pub is_to_come : (Planned → Bool) → Stage → ℕ → Bool
is_to_come is_such s index =
    unwrap_or (option_and_then (λ (program : Vec Planned Global). option_map
    (λ (seat : Progress). list_any is_such (drop seat.begun program.items))
    (slice_get s.seats index)) (slice_get s.programs index)) false

-- whether the process at an index will make a receive that it has not begun
abbrev pub will_receive : Stage → ℕ → Bool
will_receive = is_to_come (λ planned. step_receives planned.step)

-- whether one of the first n processes will
abbrev pub one_receives : Stage → ℕ → Bool
one_receives s zero = false
one_receives s (suc n) = one_receives s n || will_receive s n

-- whether a receive is to come
abbrev pub receives : Stage → Bool
receives s = one_receives s (length s.programs)

-- The stages differ only in their journals, and these are equivalent, or agree if no receive is to
-- come.
pub record AreStagesAlike (x y : Stage) : Type 0 where
  pub few : length x.programs ≤ 32
  pub differ : y ≡ with_past x y.past
  pub journals : Agree (receives x) x.past y.past

abbrev pub seat_code : Progress → List ℕ
seat_code seat = seat.begun ∷ (length seat.text ∷ seat.text)

abbrev pub stage_code : Stage → List ℕ
stage_code s = s.phase ∷ (listed seat_code s.seats ++ key_if (receives s) s.past)

-- the list is the state key of a stage
pub record IsStageKey (s : Stage) (key : List ℕ) : Type 0 where
  pub few : length s.programs ≤ 32
  pub is : key ≡ stage_code s
