-- Equivalent journals: everything that replies depend on is the same, up to the numbers of queues
-- and the sequence numbers of entries.
use Rattle.std.specs.Prelude.{ℕ, ◌≡◌, ◌||◌, Bool, true, not, is_some, List, ◌∷◌, length}
use Rattle.mq_model.specs.Record.{Past, Process, Queue}
use Rattle.mq_model.specs.Descriptors.{alive}
use Rattle.mq_model.specs.Messages.{is_in, is_receive}
use Rattle.mq_model.specs.Notices.{notices}
use Rattle.mq_model.specs.Waits.{open_wait, wait_deadline}
use Rattle.mq_model.specs.Legality.{IsLegalNext, Legal, may_call, reply_to}
use Rattle.mq_model.specs.declared.entries.Call.{Call}
use Rattle.mq_state.specs.Buffers.{waiting_room}
use Rattle.mq_equivalence.specs.Steps.{message_collected, message_given, record_of}
use Rattle.mq_equivalence.specs.Views.{answer, contents, receivers, registered_as, seen, seen_senders, senders}
use Rattle.mq_equivalence.specs.Structure.{SameStructure, extended}
use Rattle.mq_equivalence.specs.Outline.{outline}

-- Two legal journals in which everything that replies depend on is the same, except that queue q of
-- x is queue `to q` of y. The names, the descriptors and the queues are the same. Each queue has
-- the same messages in the order of receipt, and the same waits and registration. Each process has
-- the same notices, and the same open wait: its buffer length (0 for a send), its deadline, and
-- what answered it. If `received` is false no receive is to come, and only the number of messages
-- counts.
pub record AgreeUnder (received : Bool) (to : Queue → Queue) (x y : Past) : Type 0 where
  pub legal : Legal x × Legal y
  pub structure : SameStructure to x y
  pub messages :
      (q : ℕ) → is_in (alive x) q ≡ true →
      seen received (contents y (to q)) ≡ seen received (contents x q)
  pub sending :
      (q : ℕ) → is_in (alive x) q ≡ true →
      seen_senders received (senders y (to q)) ≡ seen_senders received (senders x q)
  pub receiving : (q : ℕ) → is_in (alive x) q ≡ true → receivers y (to q) ≡ receivers x q
  pub registrations :
      (q : ℕ) → is_in (alive x) q ≡ true → registered_as y (to q) ≡ registered_as x q
  pub values : (p : ℕ) → notices y p ≡ notices x p
  pub waits : (p : ℕ) → is_some (open_wait y p) ≡ is_some (open_wait x p)
  pub rooms : (p : ℕ) → waiting_room y p ≡ waiting_room x p
  pub deadlines : (p : ℕ) → wait_deadline y p ≡ wait_deadline x p
  pub answered : (p : ℕ) → answer y p ≡ answer x p

-- the same under some renumbering of the queues
pub record Agree (received : Bool) (x y : Past) : Type 0 where
  pub to : Queue → Queue
  pub equivalent : AgreeUnder received to x y

-- Equivalent journals agree whatever is to come.
abbrev pub EquivalentUnder : (Queue → Queue) → Past → Past → Type 0
EquivalentUnder to x y = AgreeUnder true to x y

abbrev pub Equivalent : Past → Past → Type 0
Equivalent x y = Agree true x y

-- whether the call may be made if receives are to come, or if none is
abbrev pub may_come : Bool → Call → Bool
may_come received call = received || not (is_receive call)

-- One call after each of two journals. It may be made after both or after neither. Its replies
-- differ only in sequence numbers. It gives its caller the same message, as a receive or, if it may
-- be made, as a collect. If its entry may follow the first journal, it may follow the second, and
-- the journals agree again.
pub record StepsAgree (received : Bool) (to : Queue → Queue) (x y : Past) (p : Process)
    (call : Call) (given : List ℕ) : Type 0 where
  pub turn : may_call y p call ≡ may_call x p call
  pub reply : outline (reply_to y p call given) ≡ outline (reply_to x p call given)
  pub message :
      message_given (record_of y p call given ∷ y) (reply_to y p call given)
      ≡ message_given (record_of x p call given ∷ x) (reply_to x p call given)
  pub collected :
      may_call x p call ≡ true →
      message_collected (record_of y p call given ∷ y) (reply_to y p call given)
      ≡ message_collected (record_of x p call given ∷ x) (reply_to x p call given)
  pub legal : IsLegalNext x (record_of x p call given) → IsLegalNext y (record_of y p call given)
  pub next :
      IsLegalNext x (record_of x p call given) →
      AgreeUnder received (extended to (length x) (length y))
      (record_of x p call given ∷ x) (record_of y p call given ∷ y)

abbrev pub StepsEquivalent : (Queue → Queue) → Past → Past → Process → Call → List ℕ → Type 0
StepsEquivalent to x y p call given = StepsAgree true to x y p call given
