-- The processes that have an entry in a legal journal.
use Rattle.std.proofs.Common.{◌≤◌, ℕ, [], ◌∷◌, All, arith}
use Rattle.std.proofs.lemmas.Grind.{common_steps}
use Rattle.std.proofs.lemmas.List.Elements.{All-nil, All-cons, All-head, All-tail}
use Rattle.mq.specs.Calls.{author}
use Rattle.mq_model.specs.Legality.{IsLegalNext, Legal}
use Rattle.mq_model.specs.Record.{Past, Record}

author-low : (past : Past) (r : Record) → IsLegalNext past r → 1 ≤ author r
author-low past r legal = let both = legal.process in grind (arith, common_steps)

-- all of them are from 1 to n, if none is above n
pub authors-within : (n : ℕ) (past : Past) → Legal past →
    All (λ (r : Record). r.entry.process ≤ n) past →
    All (λ (r : Record). (1 ≤ author r) × (author r ≤ n)) past
authors-within n [] legal most = All-nil (λ (r : Record). (1 ≤ author r) × (author r ≤ n))
authors-within n (r ∷ past) legal most =
    let Low : Record → Type 0 = λ r. r.entry.process ≤ n in
    All-cons (λ (r : Record). (1 ≤ author r) × (author r ≤ n)) r past
    (author-low past r legal.1, All-head Low r past most)
    (authors-within n past legal.0 (All-tail Low r past most))
