-- Independence is symmetric.
use Rattle.std.proofs.Common.{◌≡◌, ℕ, ◌==◌, Bool, ◌||◌, Option, eqb-true, eq-eqb, arith}
use Rattle.std.proofs.lemmas.Bool.{eqb-false}
use Rattle.mq_model.specs.Record.{Past}
use Rattle.mq_equivalence.specs.Runs.{Request}
use Rattle.mq_commutation.specs.Independence.{are_independent, differ}

same-number : (i j : ℕ) → (j == i) ≡ (i == j)
same-number i j = grind (arith, eq-eqb, eqb-true, eqb-false)

differ-back : (o u : Option ℕ) → differ u o ≡ differ o u
differ-back o u = grind (arith, same-number)

or-back : (b c : Bool) → (c || b) ≡ (b || c)
or-back b c = grind arith

last-back : (d r p q : Bool) → (d || r || q || p) ≡ (d || r || p || q)
last-back d r p q = grind arith

pub independent-back : (past : Past) (a b : Request) →
    are_independent past b a ≡ are_independent past a b
independent-back past a b = grind (arith, same-number, or-back, differ-back, last-back)
