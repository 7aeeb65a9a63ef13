-- No reply says that memory was wanting, or that the journal is full: that is no matter of the
-- journal.
use Rattle.std.proofs.Common.{◌≡◌, ◌≢◌, ℕ, List, Option, arith}
use Rattle.mq_model.specs.Record.{Past}
use Rattle.mq_model.specs.ErrorOrder.{close_reply}
use Rattle.mq_model.specs.Legality.{reply_to, reply_to_open, reply_to_receive, reply_to_attributes, reply_to_notify}
use Rattle.mq_model.specs.declared.entries.Attr.{Attr}
use Rattle.mq_model.specs.declared.entries.OpenFlags.{OpenFlags}
use Rattle.mq_model.specs.declared.entries.Description.{Description}
use Rattle.mq_model.specs.declared.entries.Call.{Call}
use Rattle.mq_model.specs.declared.entries.Reply.{Reply}
use Rattle.mq_model.specs.declared.entries.Reply.TheVariants.{Refused}
use Rattle.mq_model.specs.declared.faults.Fault.TheVariants.{NoMemory, JournalFull}

abbrev Other : Reply → Type 0
Other (Refused NoMemory) = ⊥
Other (Refused JournalFull) = ⊥
Other reply = Unit {0}

receive-other : (past : Past) (o : Option Description) (room : ℕ) →
    Other (reply_to_receive past o room)
receive-other past o room = grind arith

open-other : (past : Past) (p : ℕ) (flags : OpenFlags) (attr : Option Attr) (name : List ℕ) →
    Other (reply_to_open past p flags attr name)
open-other past p flags attr name = grind arith

close-other : (o : Option Description) → Other (close_reply o)
close-other o = grind arith

attributes-other : (past : Past) (o : Option Description) → Other (reply_to_attributes past o)
attributes-other past o = grind arith

notify-other : (past : Past) (p : ℕ) (o : Option Description) (value : Option ℕ) →
    Other (reply_to_notify past p o value)
notify-other past p o value = grind arith

reply-other : (past : Past) (p : ℕ) (call : Call) (name : List ℕ) →
    Other (reply_to past p call name)
reply-other past p call name = grind (
  arith,
  open-other,
  close-other,
  receive-other,
  attributes-other,
  notify-other,
)

-- a definition's reply is never that memory was wanting
pub replies-other : (past : Past) (p : ℕ) (call : Call) (name : List ℕ) (reply : Reply) →
    reply ≡ reply_to past p call name → reply ≢ Refused NoMemory
replies-other past p call name reply is want = grind (arith, reply-other)

-- nor is it that the journal is full
pub replies-room : (past : Past) (p : ℕ) (call : Call) (name : List ℕ) (reply : Reply) →
    reply ≡ reply_to past p call name → reply ≢ Refused JournalFull
replies-room past p call name reply is full = grind (arith, reply-other)
