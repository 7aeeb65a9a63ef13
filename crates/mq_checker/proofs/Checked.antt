-- Legal journals, record by record.
use Rattle.std.proofs.Common.{◌≡◌, Bool, ◌&&◌, ◌∷◌, IsTrue, arith, nat_le}
use Rattle.std.proofs.lemmas.Bool.{and_parts, and_from}
use Rattle.mq_model.specs.Record.{Record, Past}
use Rattle.mq_model.specs.Legality.{reply_to, is_payload, may_call, Legal}

-- the tests of a record, taken together
pub legal_by : (past : Past) (r : Record) (caller turn fits same : Bool) → Legal past →
    caller ≡ (nat_le 1 r.entry.process && nat_le r.entry.process 2048) →
    turn ≡ may_call past r.entry.process r.entry.call →
    fits ≡ is_payload r.entry.call r.entry.reply r.payload →
    (IsTrue same → r.entry.reply ≡ reply_to past r.entry.process r.entry.call r.payload) ×
    (r.entry.reply ≡ reply_to past r.entry.process r.entry.call r.payload → IsTrue same) →
    (IsTrue (caller && turn && fits && same) → Legal (r ∷ past)) ×
    (Legal (r ∷ past) → IsTrue (caller && turn && fits && same))
legal_by past r caller turn fits same before p t f s = grind (arith, and_parts, and_from)
