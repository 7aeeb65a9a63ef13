-- The rows of the queues say how many callers wait, after each entry.
use Rattle.std.proofs.Common.{◌≡◌, ℕ, ◌<◌, true, List, length, Option, Some, arith}
use Rattle.mq_model.specs.Record.{Past}
use Rattle.mq_model.specs.Legality.{Legal}
use Rattle.mq_model.specs.Callers.{wait_in, CallersMirror}
use Rattle.mq_model.specs.CallersNoted.{noted_waits}
use Rattle.mq_model.specs.declared.callers.Caller.{Caller}
use Rattle.mq_model.specs.declared.callers.OpenWait.{OpenWait}
use Rattle.mq_model.specs.declared.owners.Owner.{Owner}
use Rattle.mq_model.specs.declared.entries.Attr.{Attr}
use Rattle.mq_model.specs.declared.entries.Entry.{Entry}
use Rattle.mq_model.specs.declared.entries.Call.{Call}
use Rattle.mq_model.specs.declared.entries.Reply.{Reply}
use Rattle.mq_model.proofs.CallerLines.{wait_in-with_wait, wait_in-with_answer}
use Rattle.mq_slots.specs.Held.{Held}
use Rattle.mq_state.specs.declared.moves.Moves.{Moves}
use Rattle.mq_state.specs.Moves.{wait_move}
use Rattle.mq_state.specs.QueueShown.{QueueShown}
use Rattle.mq_state.specs.Queues.{waiting_in, noted_queues, QueuesMirror}
use Rattle.mq_state.specs.Tables.{with_fresh, MovesOwnWait}
use Rattle.mq_state.specs.WaitCounts.{waits_on, wait_count, KnowWaits, moved_queue, waits_noted}
use Rattle.mq_state.proofs.WaitCounts.{count-same, count-none}
use Rattle.mq_state.proofs.WaitsNoted.{length-noted}
use Rattle.mq_state.proofs.QueueLines.{changed-from, map-from, queue_in-without, queue_in-push, queue_in-place, places-changed}
use Rattle.mq_state.proofs.QueuesKeep.{alive-line}
use Rattle.mq_state.proofs.Fitting.{blocked-on-below}
use Rattle.mq_model.specs.Descriptors.{alive}
use Rattle.mq_model.specs.Messages.{is_in}

-- the rows after an entry, before the update of the number of those that wait
know-lines : (callers : List Caller) (noted_owners : List Owner) (brought : Option Held)
    (given : Attr) (here : ℕ) (e : Entry) (q : ℕ) (moves : Moves) (queues : List QueueShown) →
    wait_count here callers ≡ 0 → KnowWaits callers queues →
    KnowWaits callers (with_fresh brought given here
    (noted_queues noted_owners here e q moves queues))
know-lines callers noted_owners brought given here e q moves queues none knows =
    grind (arith, changed-from, map-from, queue_in-without, queue_in-place, queue_in-push)

-- the callers that wait after an entry
-- ------------------------------------------------------------

-- an entry leaves the callers that wait on a queue, unless it begins or ends a wait there
noted-same : (callers : List Caller) (here p : ℕ) (call : Call) (reply : Reply) (q k : ℕ) →
    p < length callers → MovesOwnWait (wait_move reply) (wait_in callers p) →
    (moved_queue callers p (wait_move reply) q ≡ Some k → ⊥) →
    (j : ℕ) → waits_on k (wait_in (noted_waits callers here p call reply q) j) ≡
    waits_on k (wait_in callers j)
noted-same callers here p call reply q k lt own other j =
    grind (arith, wait_in-with_wait, wait_in-with_answer)

-- the rows after the update of the number of those that wait
know-noted : (callers after : List Caller) (moved : Option ℕ) (queues : List QueueShown) →
    ((k : ℕ) → (moved ≡ Some k → ⊥) → wait_count k after ≡ wait_count k callers) →
    KnowWaits callers queues → KnowWaits after (waits_noted moved after queues)
know-noted callers after moved queues same knows = grind (arith, changed-from, queue_in-place)

-- the rows after an entry say how many callers wait
pub waits-known : (past : Past) → Legal past →
    (callers after : List Caller) (after_owners : List Owner) → CallersMirror past callers →
    (e : Entry) (q : ℕ) (moves : Moves) (brought : Option Held) (given : Attr)
    (queues : List QueueShown) → e.process < length callers →
    MovesOwnWait (wait_move e.reply) (wait_in callers e.process) →
    after ≡ noted_waits callers (length past) e.process e.call e.reply q →
    KnowWaits callers queues →
    KnowWaits after (waits_noted (moved_queue callers e.process (wait_move e.reply) q) after
    (with_fresh brought given (length past) (noted_queues after_owners (length past) e
    q moves queues)))
waits-known past legal callers after after_owners m e q moves brought given queues lt own is knows =
    let same = λ (k : ℕ) (other : moved_queue callers e.process (wait_move e.reply) q ≡ Some k → ⊥).
    count-same k after callers (grind (arith, length-noted))
    (λ j. grind (
      arith,
      noted-same callers (length past) e.process e.call e.reply q k lt
          own other j,
    )) in
    let below = λ (p : ℕ) (w : OpenWait) (here : wait_in callers p ≡ Some w). blocked-on-below past
    legal w.kind w.queue w.place (m.blocked p w here) in
    know-noted callers after _ _ same (know-lines callers after_owners brought given (length past) e
    q moves queues (count-none (length past) callers (λ p. grind (arith, below p))) knows)

-- what else the rows say is unchanged
-- --------------------------------------------------------------

pub mirror-waiting : (past : Past) (moved : Option ℕ) (callers : List Caller)
    (queues : List QueueShown) → QueuesMirror past queues →
    QueuesMirror past (waits_noted moved callers queues)
mirror-waiting past moved callers queues m =
    record {
      places = grind (arith, m.places, places-changed);
      lines = λ k y e. grind (arith, changed-from, m.lines k);
    }

-- what the row of a queue says is read
pub count-known : (past : Past) (callers : List Caller) (queues : List QueueShown) →
    QueuesMirror past queues → KnowWaits callers queues → (q : ℕ) → is_in (alive past) q ≡ true →
    waiting_in queues q ≡ wait_count q callers
unfolding waiting_in
count-known past callers queues m knows q h = grind (arith, alive-line)
