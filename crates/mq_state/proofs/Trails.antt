-- The record that a call appends is legal, and a legal record is one that a call appends.
use Rattle.std.proofs.Common.{◌≡◌, ℕ, true, List, ◌∷◌, Some, arith}
use Rattle.std.proofs.lemmas.Bool.{and_parts}
use Rattle.mq_model.specs.Record.{Record, Past, Process}
use Rattle.mq_model.specs.Legality.{IsLegalNext, payload_of, reply_to}
use Rattle.mq_model.specs.declared.entries.Call.{Call}
use Rattle.mq_model.specs.declared.entries.Reply.{Reply}
use Rattle.mq_state.specs.Trails.{with_call, can_call, record_of_call}

-- the value of with_call, if there is one
pub can-of : (past new : Past) (p : Process) (call : Call) (given : List ℕ) →
    with_call past p call given ≡ Some new → (can_call past p call given ≡ true) ×
    (new ≡ record_of_call past p call given ∷ past)
can-of past new p call given step = grind arith

-- the name of an open or an unlink is the payload, and other calls have none
pub reply-by-payload : (past : Past) (p : Process) (call : Call) (reply : Reply) (given : List ℕ) →
    reply_to past p call (payload_of call reply given) ≡ reply_to past p call given
reply-by-payload past p call reply given = grind arith

-- a call that can be made leaves a legal record
pub legal-of : (past : Past) (p : Process) (call : Call) (given : List ℕ) →
    can_call past p call given ≡ true → IsLegalNext past (record_of_call past p call given)
legal-of past p call given can = grind (arith, and_parts, reply-by-payload)

-- a legal record of a call that was given these bytes is that which the call leaves
pub call-of-legal : (past : Past) (r : Record) (call : Call) (given : List ℕ) → IsLegalNext past r →
    r.entry.call ≡ call → r.payload ≡ payload_of call r.entry.reply given →
    with_call past r.entry.process call given ≡ Some (r ∷ past)
call-of-legal past r call given legal is_call is_payload_of = grind (arith, reply-by-payload)
