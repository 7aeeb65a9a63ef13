-- What an entry says of the queue that it is made on.
use Rattle.std.proofs.Common.{◌≡◌, ℕ, ◌<◌, Bool, true, false, List, Option, Some, is_some, arith, rules}
use Rattle.mq_model.specs.Record.{Record, Past}
use Rattle.mq_model.specs.Names.{bound_queue}
use Rattle.mq_model.specs.Descriptors.{called_queue, opened_queue, alive}
use Rattle.mq_model.specs.Messages.{is_in, is_send, is_full, best, priority_given}
use Rattle.mq_model.specs.Notices.{registered_place, notified}
use Rattle.mq_model.specs.Legality.{Legal, IsLegalNext, reply_to}
use Rattle.mq_model.specs.OwnersNoted.{EntryQueue}
use Rattle.mq_model.specs.declared.entries.Attr.{Attr}
use Rattle.mq_model.specs.declared.entries.OpenFlags.{OpenFlags}
use Rattle.mq_model.specs.declared.entries.Call.{Call}
use Rattle.mq_model.specs.declared.entries.Call.TheVariants.{MqOpen, MqUnlink}
use Rattle.mq_model.specs.declared.entries.Reply.{Reply}
use Rattle.mq_model.specs.declared.entries.Reply.TheVariants.{Opened, Queued, Waits, Got, Done}
use Rattle.mq_model.proofs.Places.{find-in}
use Rattle.mq_model.proofs.Cases.{OpenReply}
use Rattle.mq_model.proofs.LegalReplies.{legal_says}
use Rattle.mq_model.proofs.OpenReplies.{OpenedFacts}
use Rattle.mq_model.proofs.HeldQueues.{called-alive}
use Rattle.mq_model.proofs.Presence.{GotFacts}
use Rattle.mq_state.specs.Tables.{entry_queue}

abbrev pub rec : ℕ → Call → Reply → List ℕ → Record
rec p call reply payload = record {
  entry = record { process = p; call = call; reply = reply };
  payload = payload;
}

-- a send queued its message
pub record QueuedOn (past : Past) (p : ℕ) (call : Call) (n : Option ℕ) (q : ℕ) : Type 0 where
  pub called : called_queue past p call ≡ Some q
  pub sends : is_send call ≡ true
  pub low : priority_given call < 32768
  pub free : is_full past q ≡ false
  pub notifies : (k : ℕ) → n ≡ Some k → registered_place past q ≡ Some k

-- a receive got a message, and admitted a send
pub record GotOn (past : Past) (p : ℕ) (call : Call) (m : ℕ) (a n : Option ℕ) (q : ℕ) : Type 0 where
  pub called : called_queue past p call ≡ Some q
  pub next : best past q ≡ Some m
  pub facts : GotFacts past q m a
  pub notifies : (k : ℕ) → n ≡ Some k → registered_place past q ≡ Some k

pub record OpenedOn (past : Past) (p : ℕ) (call : Call) (payload : List ℕ) (d : ℕ) (created : Bool)
    (q : ℕ) : Type 0 where
  pub flags : OpenFlags
  pub attr : Option Attr
  pub is : call ≡ MqOpen flags attr
  pub queue : q ≡ opened_queue past payload created
  pub facts : OpenedFacts past p payload d created

abbrev pub DoneOn : Past → ℕ → Call → List ℕ → ℕ → Type 0
DoneOn past p MqUnlink payload q = bound_queue past payload ≡ Some q
DoneOn past p call payload q = called_queue past p call ≡ Some q

-- q is the queue that an open opened, that an unlink named, or that another call was made on
abbrev pub EntryOn : Past → ℕ → Call → List ℕ → Reply → ℕ → Type 0
EntryOn past p call payload (Opened d created) q = OpenedOn past p call payload d created q
EntryOn past p call payload (Queued n) q = QueuedOn past p call n q
EntryOn past p call payload Waits q = called_queue past p call ≡ Some q
EntryOn past p call payload (Got m a n) q = GotOn past p call m a n q
EntryOn past p call payload Done q = DoneOn past p call payload q
EntryOn past p call payload reply q = Unit {0}

opened : (past : Past) (p : ℕ) (flags : OpenFlags) (attr : Option Attr) (payload : List ℕ)
    (reply : Reply) → reply ≡ reply_to past p (MqOpen flags attr) payload → OpenReply reply →
    EntryOn past p (MqOpen flags attr) payload reply
    (entry_queue past p (MqOpen flags attr) payload)
opened past p flags attr payload reply is says = search rules

pub entry-on : (past : Past) (p : ℕ) (call : Call) (reply : Reply) (payload : List ℕ) →
    IsLegalNext past (rec p call reply payload) →
    EntryOn past p call payload reply (entry_queue past p call payload)
entry-on past p call reply payload next =
    grind (arith, legal_says past (rec p call reply payload) next, opened, find-in)

pub entry-queue : (past : Past) (p : ℕ) (call : Call) (reply : Reply) (payload : List ℕ) (q : ℕ) →
    EntryOn past p call payload reply q → EntryQueue past p call payload reply q
entry-queue past p call reply payload q on = search rules

-- a reply that notifies was made on a queue that exists
pub notifies-alive : (past : Past) → Legal past →
    (p : ℕ) (call : Call) (reply : Reply) (payload : List ℕ) (q : ℕ) →
    EntryOn past p call payload reply q → is_some (notified reply) ≡ true →
    is_in (alive past) q ≡ true
notifies-alive past legal p call reply payload q on e =
    grind (arith, called-alive past legal p call q)

-- the registration that it notifies is on the queue
pub notifies-registered : (past : Past) (p : ℕ) (call : Call) (reply : Reply) (payload : List ℕ)
    (q : ℕ) → EntryOn past p call payload reply q → (k : ℕ) → notified reply ≡ Some k →
    registered_place past q ≡ Some k
notifies-registered past p call reply payload q on k e = search rules
