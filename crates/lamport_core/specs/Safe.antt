-- The inductive invariant of Lamport's algorithm: it holds at the start, and each step keeps it. It
-- is stated over functions of the process number, so that it applies to a list of flags as well as
-- to a table of atomic words.
use Rattle.std.specs.Prelude.{◌≡◌, ◌≢◌, ◌==◌, if◌then◌else◌, ℕ, ◌<◌, Bool, true, false}
use Rattle.lamport_core.specs.State.{State, IsWorld, IsProcess, point_of, flag_of, process_count}
use Rattle.lamport_core.specs.declared.At.{At}
use Rattle.lamport_core.specs.declared.At.TheVariants.{Rest, Start, SetX, TestY, BackB, AwaitY, SetY, TestX, SlowB, Scan, SlowY, SlowAwait, Fast, Slow, Leaving}

-- the flag that a process has at this point; at Leaving it may be up or down
abbrev pub FlagFits : At → Bool → Type 0
FlagFits Rest b = b ≡ false
FlagFits Start b = b ≡ false
FlagFits SetX b = b ≡ true
FlagFits TestY b = b ≡ true
FlagFits BackB b = b ≡ true
FlagFits AwaitY b = b ≡ false
FlagFits SetY b = b ≡ true
FlagFits TestX b = b ≡ true
FlagFits SlowB b = b ≡ true
FlagFits (Scan j) b = b ≡ false
FlagFits SlowY b = b ≡ false
FlagFits SlowAwait b = b ≡ false
FlagFits Fast b = b ≡ true
FlagFits Slow b = b ≡ false
FlagFits Leaving b = Unit {0}

-- at SetY or TestX: the process found y = 0, and has not yet tested x
abbrev pub IsClaiming : At → Type 0
IsClaiming SetY = Unit {0}
IsClaiming TestX = Unit {0}
IsClaiming _ = ⊥

-- at SetY, TestX, SlowB or Fast: the process found y = 0, and its flag is still up
abbrev pub IsAhead : At → Type 0
IsAhead SetY = Unit {0}
IsAhead TestX = Unit {0}
IsAhead SlowB = Unit {0}
IsAhead Fast = Unit {0}
IsAhead _ = ⊥

-- at Scan k with k above i, at SlowY or at Slow: the process is past its test of b[i]
abbrev pub HasPassed : ℕ → At → Type 0
HasPassed i (Scan k) = i < k
HasPassed i SlowY = Unit {0}
HasPassed i Slow = Unit {0}
HasPassed i _ = ⊥

-- a scan is at the flag of one of the n processes
abbrev pub IsPoint : ℕ → At → Type 0
IsPoint n (Scan j) = IsProcess n j
IsPoint n _ = Unit {0}

-- The invariant, for n processes, the words x and y, the flags b and the points. A number that is
-- not that of a process is at Rest.
pub record Safe (n x y : ℕ) (b : ℕ → Bool) (at : ℕ → At) : Type 0 where
  pub process : (i : ℕ) → at i ≢ Rest → IsProcess n i
  pub point : (i : ℕ) → IsPoint n (at i)
  -- the flag of each process is as its point says
  pub flag : (i : ℕ) → FlagFits (at i) (b i)
  -- if a process is at Slow, y is its number
  pub slow : (i : ℕ) → at i ≡ Slow → y ≡ i
  -- If a process is at Fast, y is not 0, and x is not the number of another process at SetY or
  -- TestX.
  pub fast : (i : ℕ) → at i ≡ Fast → y ≢ 0
  pub unclaimed : (i j : ℕ) → i ≢ j → at i ≡ Fast → IsClaiming (at j) → x ≢ j
  -- if a process at TestX will find its own number in x, y is not 0
  pub claimed : (j : ℕ) → at j ≡ TestX → x ≡ j → y ≢ 0
  -- y is not the number of a process that is past its test of the flag of another, while that one
  -- is still ahead
  pub passed : (i j : ℕ) → i ≢ j → IsAhead (at i) → HasPassed i (at j) → y ≢ j
  -- at most one is at Fast
  pub one_fast : (i j : ℕ) → at i ≡ Fast → at j ≡ Fast → i ≡ j

-- a world that satisfies the invariant
pub record IsSafe (w : State) : Type 0 where
  pub same_count : IsWorld w
  pub safe : Safe (process_count w) w.x w.y (flag_of w) (point_of w)

-- process i moved from P to Q, and every other process stayed at its point
pub record Moves (i : ℕ) (P Q : At) (old new : ℕ → At) : Type 0 where
  pub from : old i ≡ P
  pub to : new i ≡ Q
  pub others : (j : ℕ) → j ≢ i → new j ≡ old j

-- the flag of process i is now v, and the others are unchanged
pub record Sets (i : ℕ) (v : Bool) (old new : ℕ → Bool) : Type 0 where
  pub to : new i ≡ v
  pub others : (j : ℕ) → j ≢ i → new j ≡ old j

-- the points after process i moved to Q, with the others unchanged
abbrev pub moved_to : (ℕ → At) → ℕ → At → ℕ → At
moved_to at i Q j = if j == i then Q else at j

-- the flags after that of process i became v, with the others unchanged
abbrev pub flag_set_to : (ℕ → Bool) → ℕ → Bool → ℕ → Bool
flag_set_to b i v j = if j == i then v else b j
