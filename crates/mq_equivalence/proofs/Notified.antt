-- The registration that a reply notifies, and what an entry makes of the notices.
use Rattle.std.proofs.Common.{◌≡◌, ℕ, Bool, false, ◌&&◌, List, [], ◌∷◌, ◌++◌, drop, Option, Some, None, is_some, if◌then◌else◌, refl, sym, ◌∙◌, ap, arith}
use Rattle.std.specs.Option.{option_map, option_and_then}
use Rattle.mq_model.specs.Record.{Past}
use Rattle.mq_model.specs.Threads.{shares}
use Rattle.mq_model.specs.Descriptors.{called_queue}
use Rattle.mq_model.specs.Notices.{gives_notice, notices, notified, registered}
use Rattle.mq_model.specs.Legality.{Legal}
use Rattle.mq_model.specs.declared.entries.Registration.{Registration}
use Rattle.mq_model.specs.declared.entries.Call.{Call}
use Rattle.mq_model.specs.declared.entries.Reply.{Reply}
use Rattle.mq_model.specs.declared.entries.Reply.TheVariants.{Opened, Queued, Handed, Waits, Got, Collected, Attrs, Notice, Done, Refused, Withdrawn}
use Rattle.mq_model.proofs.Cases.{Says}
use Rattle.mq_model.proofs.Alive.{rec}
use Rattle.mq_model.proofs.NoticeSteps.{notices-given, notices-notified, notices-same}
use Rattle.mq_equivalence.specs.Views.{Registered, registered_as}

abbrev pub viewed : Registration → Registered
viewed n = record { process = n.process; d = n.d; value = n.value }

-- the registration at place j, which a call on its queue notifies
pub record Notifies (past : Past) (p : ℕ) (call : Call) (j : ℕ) : Type 0 where
  pub queue : ℕ
  pub called : called_queue past p call ≡ Some queue
  pub registration : Registration
  pub stands : registered past queue ≡ Some registration
  pub place : registration.place ≡ j

sends : (past : Past) (p : ℕ) (call : Call) (n : Option ℕ) (j : ℕ) → Says past p call (Queued n) →
    n ≡ Some j → Notifies past p call j
sends past p call n j says e = grind arith

receives : (past : Past) (p : ℕ) (call : Call) (m : ℕ) (a n : Option ℕ) (j : ℕ) →
    Says past p call (Got m a n) → n ≡ Some j → Notifies past p call j
receives past p call m a n j says e = grind arith

pub notifies : (past : Past) (p : ℕ) (call : Call) (reply : Reply) (j : ℕ) →
    Says past p call reply → notified reply ≡ Some j → Notifies past p call j
notifies past p call reply j says e = grind (arith, sends, receives)

-- notices -----------------------------------------------------------------------------------------

-- the registration that a call notifies
abbrev pub notified_as : Past → ℕ → Call → Reply → Option Registered
notified_as past p call reply = if is_some (notified reply)
    then option_and_then (registered_as past) (called_queue past p call) else None

-- the notices of caller k's process, with that of this registration
abbrev pub gain : Option Registered → ℕ → List ℕ → List ℕ
gain None k values = values
gain (Some n) k values = if shares n.process k then values ++ n.value ∷ [] else values

-- what a call of caller p makes of the notices of caller k's process
abbrev pub after_notices : ℕ → Bool → Option Registered → ℕ → List ℕ → List ℕ
after_notices p gives o k values = if gives && shares p k then drop 1 (gain o k values)
    else gain o k values

brings : (past : Past) → Legal past →
    (p : ℕ) (call : Call) (reply : Reply) (payload : List ℕ) (j : ℕ) → notified reply ≡ Some j →
    gives_notice reply ≡ false → Notifies past p call j → (k : ℕ) →
    notices (rec p call reply payload ∷ past) k ≡
    gain (option_and_then (registered_as past) (called_queue past p call)) k (notices past k)
brings past legal p call reply payload j is quiet n k =
    let here : option_and_then (registered_as past) (called_queue past p call) ≡
    Some (viewed n.registration) = ap (option_and_then (registered_as past)) n.called ∙
    ap (option_map viewed) n.stands in
    notices-notified past legal (rec p call reply payload) n.queue n.registration k n.stands
    (is ∙ ap Some (sym n.place)) quiet
    ∙ sym (ap (λ (o : Option Registered). gain o k (notices past k)) here)

pub notices-step : (past : Past) → Legal past →
    (p : ℕ) (call : Call) (reply : Reply) (payload : List ℕ) → Says past p call reply → (k : ℕ) →
    notices (rec p call reply payload ∷ past) k ≡ after_notices p (gives_notice reply)
    (notified_as past p call reply) k (notices past k)
notices-step past legal p call (Queued (Some j)) payload says k = brings past legal p call
    (Queued (Some j)) payload j refl refl (notifies past p call (Queued (Some j)) j says refl) k
notices-step past legal p call (Got m a (Some j)) payload says k = brings past legal p call
    (Got m a (Some j)) payload j refl refl (notifies past p call (Got m a (Some j)) j says refl) k
notices-step past legal p call (Notice (Some v)) payload says k =
    notices-given past p call v payload k
notices-step past legal p call (Notice None) payload says k =
    notices-same past (rec p call (Notice None) payload) k refl refl
notices-step past legal p call (Queued None) payload says k =
    notices-same past (rec p call (Queued None) payload) k refl refl
notices-step past legal p call (Got m a None) payload says k =
    notices-same past (rec p call (Got m a None) payload) k refl refl
notices-step past legal p call (Opened d created) payload says k =
    notices-same past (rec p call (Opened d created) payload) k refl refl
notices-step past legal p call (Handed w) payload says k =
    notices-same past (rec p call (Handed w) payload) k refl refl
notices-step past legal p call Waits payload says k =
    notices-same past (rec p call Waits payload) k refl refl
notices-step past legal p call (Collected b) payload says k =
    notices-same past (rec p call (Collected b) payload) k refl refl
notices-step past legal p call (Withdrawn w) payload says k =
    notices-same past (rec p call (Withdrawn w) payload) k refl refl
notices-step past legal p call (Attrs s) payload says k =
    notices-same past (rec p call (Attrs s) payload) k refl refl
notices-step past legal p call Done payload says k =
    notices-same past (rec p call Done payload) k refl refl
notices-step past legal p call (Refused f) payload says k =
    notices-same past (rec p call (Refused f) payload) k refl refl
