-- Which entries a later reply may need, besides what the tables have of them. The code does not
-- decide this: it keeps at least these entries.
use Rattle.std.specs.Prelude.{◌≡◌, ◌≢◌, Bool, true, false, ◌==◌, List, [], ◌∷◌, length, Option, Some, None, if◌then◌else◌}
use Rattle.mq_model.specs.Record.{Record, Past, Place, record_at}
use Rattle.mq_model.specs.Descriptors.{alive, called_queue, is_place}
use Rattle.mq_model.specs.Legality.{IsLegalNext}
use Rattle.mq_model.specs.Waits.{answered_by}
use Rattle.mq_model.specs.Messages.{is_in, with_place, is_send, present, waiting_sends}
use Rattle.mq_laws.specs.Laws.{reply_at}
use Rattle.mq_model.specs.declared.entries.Call.{Call}
use Rattle.mq_model.specs.declared.entries.Reply.{Reply}
use Rattle.mq_model.specs.declared.entries.Reply.TheVariants.{Opened, Queued, Handed, Waits, Got, Collected, Withdrawn}

-- an open that created its queue, whose name is needed, and a send whose message did not fail
abbrev pub is_kept : Call → Reply → Bool
is_kept call (Opened d created) = created
is_kept call (Queued notified) = true
is_kept call (Handed wait) = true
is_kept call Waits = is_send call
is_kept call _ = false

-- the entry that a reply ends: that of the message that it returns or collects, or of the send that
-- it withdraws
abbrev pub ended_by : Reply → Option Place
ended_by (Got place admitted notified) = Some place
ended_by (Collected by) = Some by
ended_by (Withdrawn wait) = Some wait
ended_by _ = None

abbrev pub ended : Past → List Place
ended [] = []
ended (r ∷ past) = with_place (ended_by r.entry.reply) (ended past)

-- what was ended before the latest entry: the message of the latest one may be read until the next
abbrev pub ended_before : Past → List Place
ended_before [] = []
ended_before (r ∷ past) = ended past

-- what the latest entry ended
abbrev pub ended_last : Past → Option Place
ended_last [] = None
ended_last (r ∷ past) = ended_by r.entry.reply

-- the queue with which an entry is lost: the one that it created, or to which it sent; a message
-- that was handed over is lost with none
abbrev pub home_of : Past → Record → Reply → Option Place
home_of past r (Opened d created) = Some (length past)
home_of past r (Queued notified) = called_queue past r.entry.process r.entry.call
home_of past r Waits = called_queue past r.entry.process r.entry.call
home_of past r _ = None

-- an entry that sends a message, or that waits, is made on queue q
abbrev pub GoesToBy : Past → Record → Place → Reply → Type 0
GoesToBy past r q (Queued notified) = called_queue past r.entry.process r.entry.call ≡ Some q
GoesToBy past r q Waits = called_queue past r.entry.process r.entry.call ≡ Some q
GoesToBy past r q _ = Unit {0}

abbrev pub GoesTo : Past → Record → Place → Type 0
GoesTo past r q = GoesToBy past r q r.entry.reply

abbrev pub home : Past → Place → Option Place
home [] k = None
home (r ∷ past) k = if k == length past then home_of past r r.entry.reply else home past k

abbrev pub is_kept_record : Option Record → Bool
is_kept_record None = false
is_kept_record (Some r) = is_kept r.entry.call r.entry.reply

abbrev pub is_kept_at : Past → Place → Bool
is_kept_at past k = is_kept_record (record_at past k)

abbrev pub IsThere : Past → Option Place → Type 0
IsThere past None = Unit {0}
IsThere past (Some q) = is_in (alive past) q ≡ true

-- the entry at a place may still be read
pub record IsNeeded (past : Past) (k : Place) : Type 0 where
  pub kept : is_kept_at past k ≡ true
  pub going : is_in (ended_before past) k ≡ false
  pub there : IsThere past (home past k)

-- What a later reply can depend on is needed: the names of the queues that exist, the messages that
-- are present in them, the sends that wait on them, and the messages that were handed over and not
-- yet collected.
pub record NeedsWhatIsAsked (past : Past) : Type 0 where
  pub names : (q : Place) → is_in (alive past) q ≡ true → IsNeeded past q
  pub messages : (q m : Place) → is_in (alive past) q ≡ true → is_in (present past q) m ≡ true →
      IsNeeded past m
  pub sends : (q w : Place) → is_in (alive past) q ≡ true → is_in (waiting_sends past q) w ≡ true →
      IsNeeded past w
  pub handed : (p by w : Place) → answered_by past p ≡ Some by →
      reply_at past by ≡ Some (Handed w) → IsNeeded past by

-- everything that is needed passes a test
abbrev pub HasNeeded : Past → (Place → Bool) → Type 0
HasNeeded past has = (k : Place) → IsNeeded past k → has k ≡ true

-- A store that has everything that is needed still has it if it drops what the latest entry ended
-- and adds a new entry of a kind that is kept, or if it drops what is lost with a queue that no
-- longer exists.
pub record StaysEnough (past : Past) : Type 0 where
  pub added : (r : Record) (has after : Place → Bool) → IsLegalNext past r →
      (is_kept r.entry.call r.entry.reply ≡ true → after (length past) ≡ true) →
      ((k : Place) → is_place k (ended_last past) ≡ false → has k ≡ true → after k ≡ true) →
      HasNeeded past has → HasNeeded (r ∷ past) after
  pub dropped : (q : Place) (has after : Place → Bool) → is_in (alive past) q ≡ false →
      ((k : Place) → home past k ≢ Some q → has k ≡ true → after k ≡ true) → HasNeeded past has →
      HasNeeded past after
