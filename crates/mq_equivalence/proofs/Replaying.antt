-- The calls of a legal journal, made again.
use Rattle.std.proofs.lemmas.Grind.{common_steps}
use Rattle.std.proofs.Common.{◌≡◌, ℕ, ◌+◌, ◌==◌, true, List, [], ◌∷◌, length, None, Some, arith, eqb-true}
use Rattle.mq_model.specs.Legality.{IsLegalNext, Legal}
use Rattle.mq_model.specs.Record.{Past, Record, first}
use Rattle.mq_model.proofs.Prefixes.{legal-first}
use Rattle.mq_state.specs.Trails.{with_call}

nil-of : (bytes : List ℕ) → (length bytes == 0) ≡ true → [] ≡ bytes
nil-of bytes h = grind (arith, common_steps, eqb-true)

-- the call of a legal record, made again, appends the same record
pub made-again : (past : Past) (r : Record) → IsLegalNext past r →
    with_call past r.entry.process r.entry.call r.payload ≡ Some (r ∷ past)
made-again past r legal = grind (arith, nil-of)

-- the call of a record of a legal journal, made again after those before it
pub goes-again : (past : Past) (k : ℕ) (r : Record) → Legal past →
    first (k + 1) past ≡ r ∷ first k past →
    with_call (first k past) r.entry.process r.entry.call r.payload ≡ Some (first (k + 1) past)
goes-again past k r legal is = grind (arith, legal-first, made-again)

-- the trail of the first calls continues, and cannot stop there
pub goes-on : (past trail new : Past) (k : ℕ) (r : Record) → Legal past → trail ≡ first k past →
    first (k + 1) past ≡ r ∷ first k past → with_call trail r.entry.process r.entry.call r.payload ≡
    Some new → new ≡ first (k + 1) past
goes-on past trail new k r legal here is step = grind (arith, goes-again)

pub never-stops : (past trail : Past) (k : ℕ) (r : Record) → Legal past → trail ≡ first k past →
    first (k + 1) past ≡ r ∷ first k past → with_call trail r.entry.process r.entry.call r.payload ≡
    None → ⊥
never-stops past trail k r legal here is stop = grind (arith, goes-again)
