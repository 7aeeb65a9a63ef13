-- A call that fails changes nothing: what the definitions say after its entry is what they said
-- before it.
use Rattle.std.specs.Prelude.{ℕ, ◌≡◌, ◌+◌, true, List, Some}
use Rattle.mq_model.specs.Record.{Record, Past, record_at, first}
use Rattle.mq_model.specs.Names.{bound_queue, attributes}
use Rattle.mq_model.specs.Descriptors.{held, created, alive}
use Rattle.mq_model.specs.Messages.{is_in, is_accepted, taken, present, is_full, best, priority, waiting_sends, waiting_receives}
use Rattle.mq_model.specs.Notices.{registered, notices}
use Rattle.mq_model.specs.Waits.{open_wait, wait_deadline, answered_by}
use Rattle.mq_model.specs.declared.faults.Fault.{Fault}
use Rattle.mq_model.specs.declared.entries.Reply.TheVariants.{Refused}

-- The same names, descriptors, queues, messages, waits with their deadlines, registrations and
-- notices. Attributes and priorities are stated only for queues that were created and messages that
-- are present, since the definitions take them from the place of an entry, and the place of the
-- failed call names neither a queue nor a message.
pub record IsUnchanged (old new : Past) : Type 0 where
  pub names : (name : List ℕ) → bound_queue new name ≡ bound_queue old name
  pub descriptors : (p d : ℕ) → held new p d ≡ held old p d
  pub queues : created new ≡ created old
  pub existing : alive new ≡ alive old
  pub limits : (q : ℕ) → is_in (created old) q ≡ true → attributes new q ≡ attributes old q
  pub accepted : (q m : ℕ) → is_accepted new q m ≡ is_accepted old q m
  pub received : taken new ≡ taken old
  pub messages : (q : ℕ) → present new q ≡ present old q
  pub priorities : (q m : ℕ) → is_in (present old q) m ≡ true → priority new m ≡ priority old m
  pub next_message : (q : ℕ) → best new q ≡ best old q
  pub fullness : (q : ℕ) → is_in (created old) q ≡ true → is_full new q ≡ is_full old q
  pub sends : (q : ℕ) → waiting_sends new q ≡ waiting_sends old q
  pub receives : (q : ℕ) → waiting_receives new q ≡ waiting_receives old q
  pub waits : (p : ℕ) → open_wait new p ≡ open_wait old p
  pub deadlines : (p : ℕ) → wait_deadline new p ≡ wait_deadline old p
  pub answers : (p : ℕ) → answered_by new p ≡ answered_by old p
  pub registrations : (q : ℕ) → registered new q ≡ registered old q
  pub pending : (p : ℕ) → notices new p ≡ notices old p

-- no entry with an error changes anything
abbrev pub RefusalsChangeNothing : Past → Type 0
RefusalsChangeNothing past = (k : ℕ) (r : Record) (fault : Fault) → record_at past k ≡ Some r →
    r.entry.reply ≡ Refused fault → IsUnchanged (first k past) (first (k + 1) past)
