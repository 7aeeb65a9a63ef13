-- The checker's tables remain those of the journal.
use Rattle.std.proofs.Common.{◌≡◌, ℕ, Bool, List, ◌∷◌, length, Option, Some, refl, ap, ◌∙◌, arith, unwrap_or}
use Rattle.mq_model.specs.Record.{Record, Past}
use Rattle.mq_model.specs.Descriptors.{opened_queue, called_queue}
use Rattle.mq_model.specs.Messages.{taken_by}
use Rattle.mq_model.specs.Owners.{OwnersMirror}
use Rattle.mq_model.specs.OwnersNoted.{EntryQueue, noted, noted_open, noted_done, noted_attributes}
use Rattle.mq_model.specs.Callers.{CallersMirror}
use Rattle.mq_model.specs.CallersNoted.{noted_waits, with_answer_at}
use Rattle.mq_checker.specs.TakenTable.{marked}
use Rattle.mq_checker.specs.CheckerTables.{TablesMirror}
use Rattle.mq_checker.specs.declared.tables.Tables.{Tables}
use Rattle.mq_model.specs.declared.entries.Call.{Call}
use Rattle.mq_model.specs.declared.entries.Call.TheVariants.{MqClose, MqSend, MqReceive, NextNotice, Collect, MqTimedSend, MqTimedReceive, Withdraw}
use Rattle.mq_model.specs.declared.entries.Reply.{Reply}
use Rattle.mq_model.specs.declared.entries.Reply.TheVariants.{Opened, Waits}
use Rattle.mq_model.specs.declared.owners.Owner.{Owner}
use Rattle.mq_model.specs.declared.callers.Caller.{Caller}
use Rattle.mq_model.proofs.Cases.{Says}
use Rattle.mq_model.proofs.OwnerLines.{length-with_slot}
use Rattle.mq_model.proofs.CallerLines.{length-with_wait, length-with_answer}
use Rattle.mq_checker.proofs.TakenBits.{taken-keeps}

-- one more entry ----------------------------------------------------------------------------------

length-open : (owners : List Owner) (p : ℕ) (call : Call) (d q : ℕ) →
    length (noted_open owners p call d q) ≡ length owners
length-open owners p call d q = grind (arith, length-with_slot)

length-done : (owners : List Owner) (p : ℕ) (call : Call) →
    length (noted_done owners p call) ≡ length owners
length-done owners p call = grind (arith, length-with_slot)

length-attributes : (owners : List Owner) (p : ℕ) (call : Call) →
    length (noted_attributes owners p call) ≡ length owners
length-attributes owners p call = grind (arith, length-with_slot)

length-noted : (owners : List Owner) (p : ℕ) (call : Call) (reply : Reply) (q : ℕ) →
    length (noted owners p call reply q) ≡ length owners
length-noted owners p call reply q = grind (arith, length-open, length-done, length-attributes)

length-answer_at : (callers : List Caller) (o : Option ℕ) (here : ℕ) →
    length (with_answer_at callers o here) ≡ length callers
length-answer_at callers o here = grind (arith, length-with_answer)

length-noted_waits : (callers : List Caller) (here p : ℕ) (call : Call) (reply : Reply) (q : ℕ) →
    length (noted_waits callers here p call reply q) ≡ length callers
length-noted_waits callers here p call reply q = grind (arith, length-with_wait, length-answer_at)

-- a call that blocks is made on a queue
waits-on : (past : Past) (p : ℕ) (call : Call) → Says past p call Waits →
    (q : ℕ) × (called_queue past p call ≡ Some q)
waits-on past p (MqSend d prio len) says = (says.0.queue, rw says.1 refl)
waits-on past p (MqReceive d room) says = (says.0.queue, rw says.1 refl)
waits-on past p (MqTimedSend d prio len until now) says = (says.0.queue, rw says.1 refl)
waits-on past p (MqTimedReceive d room until now) says = (says.0.queue, rw says.1 refl)
waits-on past p (MqClose d) says = absurd says.0
waits-on past p NextNotice says = absurd (cc)
waits-on past p Collect says = absurd (cc)
waits-on past p (Withdraw now) says = absurd (cc)
waits-on past p call says = absurd says

pub queue-of : (past : Past) (p : ℕ) (call : Call) (payload : List ℕ) (reply : Reply) (q : ℕ) →
    Says past p call reply →
    ((d : ℕ) (created : Bool) → reply ≡ Opened d created → q ≡ opened_queue past payload created) →
    (reply ≡ Waits → q ≡ unwrap_or (called_queue past p call) 0) →
    EntryQueue past p call payload reply q
queue-of past p call payload reply q says opened waits = grind (arith, waits-on)

pub tables-keep : (past now : Past) (tables : Tables) (owners : List Owner) (callers : List Caller)
    (marks : List Bool) (r : Record) (k q : ℕ) → TablesMirror past tables → now ≡ r ∷ past →
    length past ≡ k →
    OwnersMirror now owners →
    owners ≡ noted tables.owners r.entry.process r.entry.call r.entry.reply q →
    CallersMirror now callers →
    callers ≡ noted_waits tables.callers k r.entry.process r.entry.call r.entry.reply q →
    marks ≡ marked tables.marks (taken_by k r.entry.reply) →
    TablesMirror now (record { owners = owners; callers = callers; marks = marks })
tables-keep past now tables owners callers marks r k q m is long held held_is waits waits_is
    marked_is = record {
      owners = held;
      callers = waits;
      processes = ap length held_is ∙ length-noted tables.owners r.entry.process r.entry.call
          r.entry.reply q ∙ m.processes;
      count = ap length waits_is ∙ length-noted_waits tables.callers k r.entry.process r.entry.call
          r.entry.reply q ∙ m.count;
      taken = grind (arith, taken-keeps);
    }
