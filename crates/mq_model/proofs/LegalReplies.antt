-- What the reply of a legal record says.
use Rattle.std.proofs.Common.{◌≡◌, ℕ, true, Option, Some, sym, subst, arith}
use Rattle.mq_model.specs.Record.{Record, Past}
use Rattle.mq_model.specs.Descriptors.{held, descriptor_of}
use Rattle.mq_model.specs.Messages.{best, is_receive}
use Rattle.mq_model.specs.Legality.{IsLegalNext}
use Rattle.mq_model.proofs.Cases.{Says, reply_says, MayReceive}
use Rattle.mq_model.specs.declared.entries.Description.{Description}
use Rattle.mq_model.specs.declared.entries.Call.{Call}
use Rattle.mq_model.specs.declared.entries.Reply.{Reply}
use Rattle.mq_model.specs.declared.entries.Reply.TheVariants.{Got}

-- what the reply of a legal record says
pub legal_says : (past : Past) (r : Record) → IsLegalNext past r →
    Says past r.entry.process r.entry.call r.entry.reply
legal_says past r legal = let P = λ (y : Reply). Says past r.entry.process r.entry.call y in
    subst P (sym legal.reply) (reply_says past r.entry.process r.entry.call r.payload)

-- a call by which a process receives with descriptor d
abbrev pub Receives : Call → ℕ → Type 0
Receives call d = (is_receive call ≡ true) × (descriptor_of call ≡ Some d)

-- a Got is the reply of a receive, and the message is the best of its queue
pub got_says : (past : Past) (p : ℕ) (call : Call) (m : ℕ) (a n : Option ℕ) →
    Says past p call (Got m a n) →
    (d : ℕ) × (room : ℕ) × (h : Description) × Receives call d × (held past p d ≡ Some h) ×
    MayReceive past h room × (best past h.queue ≡ Some m)
got_says past p call m a n says = grind arith
