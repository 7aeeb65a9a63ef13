-- How many callers wait after an entry, and that the tables keep their sizes.
use Rattle.std.proofs.Common.{◌≡◌, ℕ, refl, ◌+◌, ◌<◌, ◌≤◌, List, length, arith, IsTrue}
use Rattle.std.proofs.lemmas.List.Sums.{count_by-le-length}
use Rattle.mq_model.specs.Record.{Past}
use Rattle.mq_model.specs.Legality.{may_call}
use Rattle.mq_model.specs.Callers.{wait_in, waits_count, CallersMirror}
use Rattle.mq_model.specs.CallersNoted.{noted_waits}
use Rattle.mq_model.specs.OwnersNoted.{noted}
use Rattle.mq_model.specs.declared.owners.Owner.{Owner}
use Rattle.mq_model.proofs.OwnerLines.{length-with_slot}
use Rattle.mq_model.specs.declared.callers.Caller.{Caller}
use Rattle.mq_model.specs.declared.entries.Call.{Call}
use Rattle.mq_model.specs.declared.entries.Reply.{Reply}
use Rattle.mq_model.proofs.Frames.{answered_by-none}
use Rattle.mq_model.proofs.Cases.{Says}
use Rattle.mq_model.proofs.CallersKeep.{turn-none}
use Rattle.mq_model.proofs.CallerLines.{length-with_wait, length-with_answer, waits_count-with_wait, waits_count-with_answer, waits_count-no_wait}
use Rattle.mq_state.specs.Kept.{HasEntryRoom}
use Rattle.mq_state.specs.declared.moves.WaitMove.{WaitMove}
use Rattle.mq_state.specs.declared.moves.WaitMove.TheVariants.{Stays, Begins, Ends}
use Rattle.mq_state.specs.Moves.{wait_move}
use Rattle.mq_state.specs.Tables.{MovesOwnWait}
use Rattle.mq_state.proofs.QueueLines.{mapped}

pub length-noted : (callers : List Caller) (here p : ℕ) (call : Call) (reply : Reply) (q : ℕ) →
    length (noted_waits callers here p call reply q) ≡ length callers
length-noted callers here p call reply q = grind (arith, length-with_wait, length-with_answer)

pub owners-noted : (owners : List Owner) (p : ℕ) (call : Call) (reply : Reply) (q : ℕ) →
    length (noted owners p call reply q) ≡ length owners
owners-noted owners p call reply q = grind (arith, length-with_slot)

-- how many wait after an entry
abbrev pub MovesCount : WaitMove → ℕ → ℕ → Type 0
MovesCount Stays before after = after ≡ before
MovesCount Begins before after = after ≡ before + 1
MovesCount Ends before after = after + 1 ≡ before

pub waits-moved : (callers : List Caller) (here p : ℕ) (call : Call) (reply : Reply) (q : ℕ)
    (move : WaitMove) → move ≡ wait_move reply → MovesOwnWait move (wait_in callers p) →
    p < length callers →
    MovesCount move (waits_count callers) (waits_count (noted_waits callers here p call reply q))
waits-moved callers here p call reply q move is own lt = grind (
  arith,
  waits_count-no_wait,
  waits_count-with_wait,
  waits_count-with_answer,
)

pub waits-few : (callers : List Caller) → waits_count callers ≤ length callers
unfolding waits_count
waits-few callers = count_by-le-length _ callers

-- in a legal journal a caller begins a wait only if it has none, and ends only one that it has
pub own-wait : (past : Past) (callers : List Caller) → CallersMirror past callers →
    (p : ℕ) (call : Call) (reply : Reply) → Says past p call reply → IsTrue (may_call past p call) →
    MovesOwnWait (wait_move reply) (wait_in callers p)
own-wait past callers m p call reply says turn = grind (arith, turn-none, mapped, answered_by-none)

-- there is room for the collect entries after the entry
pub waits-noted : (past : Past) (callers : List Caller) → CallersMirror past callers →
    (p : ℕ) (call : Call) (reply : Reply) (q room : ℕ) → Says past p call reply →
    IsTrue (may_call past p call) → p < length callers →
    HasEntryRoom reply (waits_count callers) room →
    waits_count (noted_waits callers (length past) p call reply q) + 1 ≤ room
waits-noted past callers m p call reply q room says turn lt has =
    grind (
      arith,
      waits-moved callers (length past) p call reply q (wait_move reply) refl,
      own-wait past callers m p call reply says turn,
    )
