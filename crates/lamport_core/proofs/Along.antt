-- For a crate that stores the words and the points in another form: the invariant depends only on
-- the values, and one process can be moved, or its flag set, in a function.
use Rattle.std.proofs.Common.{◌≡◌, ℕ, Bool, arith}
use Rattle.std.proofs.lemmas.Bool.{cases_eq, eq-eqb, ne_eqb}
use Rattle.lamport_core.specs.State.{IsInsidePoint}
use Rattle.lamport_core.specs.Safe.{Safe, Moves, Sets, moved_to, flag_set_to}
use Rattle.lamport_core.proofs.Keeps.{Own, Pair, own, pair, safe}
use Rattle.lamport_core.specs.declared.At.{At}

-- the condition holds of words and points of the same values
pub safe_along : (n x y x' y' : ℕ) (b b' : ℕ → Bool) (at at' : ℕ → At) → Safe n x y b at → x ≡ x' →
    y ≡ y' → ((j : ℕ) → b' j ≡ b j) → ((j : ℕ) → at' j ≡ at j) → Safe n x' y' b' at'
safe_along n x y x' y' b b' at at' s ex ey eb ep = grind (arith, safe, Own, own, Pair, pair)

pub moves_to : (at : ℕ → At) (i : ℕ) (P Q : At) → at i ≡ P → Moves i P Q at (moved_to at i Q)
moves_to at i P Q e = grind (arith, eq-eqb, ne_eqb)

pub sets_to : (b : ℕ → Bool) (i : ℕ) (v : Bool) → Sets i v b (flag_set_to b i v)
sets_to b i v = grind (arith, eq-eqb, ne_eqb)

-- at most one process is in its critical section
pub one_inside_at : (n x y : ℕ) (b : ℕ → Bool) (at : ℕ → At) → Safe n x y b at → (i j : ℕ) →
    IsInsidePoint (at i) → IsInsidePoint (at j) → i ≡ j
one_inside_at n x y b = grind arith

-- a process that a step takes into its critical section found no other there
pub admitted_alone : (n x y : ℕ) (b : ℕ → Bool) (at at' : ℕ → At) (i : ℕ) (P Q : At) →
    Safe n x y b at' → Moves i P Q at at' → (IsInsidePoint P → ⊥) → IsInsidePoint Q → (j : ℕ) →
    IsInsidePoint (at j) → ⊥
admitted_alone n x y b at at' i P Q s m out inside j h = grind (arith, cases_eq, one_inside_at)

-- a process that leaves its critical section leaves none there
pub left_empty : (n x y : ℕ) (b : ℕ → Bool) (at at' : ℕ → At) (i : ℕ) (P Q : At) → Safe n x y b at →
    Moves i P Q at at' → IsInsidePoint P → (IsInsidePoint Q → ⊥) → (j : ℕ) → IsInsidePoint (at' j) →
    ⊥
left_empty n x y b at at' i P Q s m inside out j h = grind (arith, cases_eq, one_inside_at)
