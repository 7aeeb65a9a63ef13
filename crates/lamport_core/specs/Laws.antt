-- What each line must keep: if the invariant holds before a step of process i, and the step changed
-- the words, the flags and the points as the line says, the invariant holds after it. Each law
-- names the words x and y before the step; `at'` and `b'` are the points and the flags after it.
use Rattle.std.specs.Prelude.{◌≡◌, ℕ, Bool}
use Rattle.lamport_core.specs.State.{IsProcess, IsInsidePoint, after_Scan}
use Rattle.lamport_core.specs.Safe.{Safe, Moves, Sets}
use Rattle.lamport_core.specs.declared.At.{At}
use Rattle.lamport_core.specs.declared.At.TheVariants.{Scan}

-- b[i] := v, from P to Q
abbrev pub StoreOfFlagKeeps : At → At → Bool → Type 0
StoreOfFlagKeeps P Q v = (n x y i : ℕ) (b b' : ℕ → Bool) (at at' : ℕ → At) → Safe n x y b at →
    IsProcess n i → Moves i P Q at at' → Sets i v b b' → Safe n x y b' at'

-- x := i, from P to Q
abbrev pub StoreOfXKeeps : At → At → Type 0
StoreOfXKeeps P Q = (n x y i : ℕ) (b : ℕ → Bool) (at at' : ℕ → At) → Safe n x y b at →
    Moves i P Q at at' → Safe n i y b at'

-- y := i, from P to Q
abbrev pub StoreOfYKeeps : At → At → Type 0
StoreOfYKeeps P Q = (n x y i : ℕ) (b : ℕ → Bool) (at at' : ℕ → At) → Safe n x y b at →
    Moves i P Q at at' → Safe n x i b at'

-- y := 0, from P to Q
abbrev pub ClearOfYKeeps : At → At → Type 0
ClearOfYKeeps P Q = (n x y i : ℕ) (b : ℕ → Bool) (at at' : ℕ → At) → Safe n x y b at →
    Moves i P Q at at' → Safe n x 0 b at'

-- a load of x by process i that finds v, from P to `after i v`
abbrev pub LoadOfXKeeps : At → (ℕ → ℕ → At) → Type 0
LoadOfXKeeps P after = (n x y i v : ℕ) (b : ℕ → Bool) (at at' : ℕ → At) → Safe n x y b at → x ≡ v →
    Moves i P (after i v) at at' → Safe n x y b at'

-- a load of y by process i that finds v, from P to `after i v`
abbrev pub LoadOfYKeeps : At → (ℕ → ℕ → At) → Type 0
LoadOfYKeeps P after = (n x y i v : ℕ) (b : ℕ → Bool) (at at' : ℕ → At) → Safe n x y b at → y ≡ v →
    Moves i P (after i v) at at' → Safe n x y b at'

-- a load of b[j] by process i that finds v, from Scan j
abbrev pub LoadOfFlagKeeps : Type 0
LoadOfFlagKeeps = (n x y i j : ℕ) (v : Bool) (b : ℕ → Bool) (at at' : ℕ → At) → Safe n x y b at →
    b j ≡ v → Moves i (Scan j) (after_Scan n j v) at at' → Safe n x y b at'

-- equal words, flags and points satisfy the same invariant
abbrev pub SameValuesKeep : Type 0
SameValuesKeep = (n x y x' y' : ℕ) (b b' : ℕ → Bool) (at at' : ℕ → At) → Safe n x y b at → x ≡ x' →
    y ≡ y' → ((j : ℕ) → b' j ≡ b j) → ((j : ℕ) → at' j ≡ at j) → Safe n x' y' b' at'

-- at most one process is in its critical section
abbrev pub OneInside : Type 0
OneInside = (n x y i j : ℕ) (b : ℕ → Bool) (at : ℕ → At) → Safe n x y b at → IsInsidePoint (at i) →
    IsInsidePoint (at j) → i ≡ j

-- a process that a step takes into its critical section found it empty
abbrev pub AdmittedAlone : Type 0
AdmittedAlone = (n x y i : ℕ) (b : ℕ → Bool) (at at' : ℕ → At) (P Q : At) → Safe n x y b at' →
    Moves i P Q at at' → ¬ IsInsidePoint P → IsInsidePoint Q → (j : ℕ) → ¬ IsInsidePoint (at j)

-- a process that a step takes out of its critical section leaves it empty
abbrev pub LeftEmpty : Type 0
LeftEmpty = (n x y i : ℕ) (b : ℕ → Bool) (at at' : ℕ → At) (P Q : At) → Safe n x y b at →
    Moves i P Q at at' → IsInsidePoint P → ¬ IsInsidePoint Q → (j : ℕ) → ¬ IsInsidePoint (at' j)
