-- The open wait of a caller, and the entry that answers it.
use Rattle.std.specs.Prelude.{◌≡◌, Bool, true, false, not, ◌==◌, List, [], ◌∷◌, ◌++◌, length, Option, Some, None, is_some, if◌then◌else◌}
use Rattle.std.specs.List.{list_all}
use Rattle.mq_model.specs.Record.{Record, Past, Place, Process}
use Rattle.mq_model.specs.Deadlines.{deadline_of}
use Rattle.mq_model.specs.Descriptors.{is_place}
use Rattle.mq_model.specs.declared.entries.Deadline.{Deadline}
use Rattle.mq_model.specs.declared.entries.Reply.{Reply}
use Rattle.mq_model.specs.declared.entries.Reply.TheVariants.{Handed, Waits, Got, Withdrawn}

abbrev pub is_wait : Reply → Bool
is_wait Waits = true
is_wait _ = false

-- the open wait of a caller: its last entry, if that call waits
abbrev pub open_wait : Past → Process → Option Place
open_wait [] p = None
open_wait (r ∷ past) p =
    if r.entry.process == p then (if is_wait r.entry.reply then Some (length past) else None)
    else open_wait past p

-- the deadline of the call in which a caller waits
abbrev pub wait_deadline : Past → Process → Option Deadline
wait_deadline [] p = None
wait_deadline (r ∷ past) p =
    if r.entry.process == p then (if is_wait r.entry.reply then deadline_of r.entry.call else None)
    else wait_deadline past p

-- the wait that a reply serves: the receive to which it hands a message, or the send that it admits
abbrev pub named_wait : Reply → Option Place
named_wait (Handed wait) = Some wait
named_wait (Got place admitted notified) = admitted
named_wait _ = None

-- the wait that a reply ends: the one that it serves, or one that is withdrawn
abbrev pub ended_wait : Reply → Option Place
ended_wait (Withdrawn wait) = Some wait
ended_wait reply = named_wait reply

-- the reply serves this wait
abbrev pub names_wait : Reply → Option Place → Bool
names_wait reply None = false
names_wait reply (Some w) = is_place w (named_wait reply)

-- the place of the entry that answers the open wait of a caller: a later one, which serves it
abbrev pub answered_by : Past → Process → Option Place
answered_by [] p = None
answered_by (r ∷ past) p =
    if r.entry.process == p then None
    else (if names_wait r.entry.reply (open_wait past p) then Some (length past) else
    answered_by past p)

-- the caller has an open wait that a later entry serves
abbrev pub is_answered : Past → Process → Bool
is_answered past p = is_some (answered_by past p)

-- all these records are of other callers
abbrev pub are_of_others : Process → List Record → Bool
are_of_others p more = list_all (λ r. not (r.entry.process == p)) more

-- Records of other callers leave an open wait open, and an answered one answered.
pub record OthersLeave (past : Past) (p : Process) : Type 0 where
  pub wait : (more : List Record) → are_of_others p more ≡ true →
      open_wait (more ++ past) p ≡ open_wait past p
  pub answered : (more : List Record) → are_of_others p more ≡ true → is_answered past p ≡ true →
      is_answered (more ++ past) p ≡ true
