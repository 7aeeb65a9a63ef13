-- Lamport's Algorithm 2 for n processes, numbered from 1: its words, the point of each process, and
-- its steps.
use Rattle.std.specs.Prelude.{◌≡◌, ℕ, zero, suc, ◌+◌, ◌<◌, ◌≤◌, ◌==◌, ◌⊎◌, Bool, true, false, List, [], ◌∷◌, length, slice_index_or, slice_set, replicate, if◌then◌else◌}
use Rattle.lamport_core.specs.declared.At.{At}
use Rattle.lamport_core.specs.declared.At.TheVariants.{Rest, Start, SetX, TestY, BackB, AwaitY, SetY, TestX, SlowB, Scan, SlowY, SlowAwait, Fast, Slow, Leaving}

-- The item of process i in a list with one item for each process, that of process 1 first. A number
-- that is not that of a process has the default.
abbrev pub of_process : {A : Type 0} → A → List A → ℕ → A
of_process default items zero = default
of_process default items (suc k) = slice_index_or items k default

-- the list with this item for process i, and the others unchanged
abbrev pub with_process : {A : Type 0} → List A → ℕ → A → List A
with_process items zero item = items
with_process items (suc k) item = slice_set items k item

-- A world: the words x and y, the flag b[i] of each process i, and the point of each process.
pub record State : Type 0 where
  pub x : ℕ
  pub y : ℕ
  pub flags : List Bool
  pub points : List At

-- the number of processes
abbrev pub process_count : State → ℕ
process_count w = length w.flags

-- each process has a flag and a point
abbrev pub IsWorld : State → Type 0
IsWorld w = length w.points ≡ length w.flags

-- i is the number of one of n processes
abbrev pub IsProcess : ℕ → ℕ → Type 0
IsProcess n i = (0 < i) × (i ≤ n)

-- the point of process i
abbrev pub point_of : State → ℕ → At
point_of w i = of_process Rest w.points i

-- b[i]
abbrev pub flag_of : State → ℕ → Bool
flag_of w i = of_process false w.flags i

-- process i moves to a point
abbrev pub with_point : State → ℕ → At → State
with_point w i p = record { x = w.x; y = w.y; flags = w.flags; points = with_process w.points i p }

-- x := v
abbrev pub with_x : State → ℕ → State
with_x w v = record { x = v; y = w.y; flags = w.flags; points = w.points }

-- y := v
abbrev pub with_y : State → ℕ → State
with_y w v = record { x = w.x; y = v; flags = w.flags; points = w.points }

-- b[i] := v
abbrev pub with_flag : State → ℕ → Bool → State
with_flag w i v = record { x = w.x; y = w.y; flags = with_process w.flags i v; points = w.points }

-- The point after a load, given the value found: that of y, of x, or of the flag of process j of n.
abbrev pub after_TestY : ℕ → At
after_TestY y = if y == 0 then SetY else BackB

abbrev pub after_AwaitY : ℕ → At
after_AwaitY y = if y == 0 then Start else AwaitY

abbrev pub after_TestX : ℕ → ℕ → At
after_TestX i x = if x == i then Fast else SlowB

abbrev pub after_Scan : ℕ → ℕ → Bool → At
after_Scan n j b = if b then Scan j else (if j == n then SlowY else Scan (j + 1))

abbrev pub after_SlowY : ℕ → ℕ → At
after_SlowY i y = if y == i then Slow else SlowAwait

abbrev pub after_SlowAwait : ℕ → At
after_SlowAwait y = if y == 0 then Start else SlowAwait

-- The step of process i from this point: one load or one store, and the next point.
abbrev pub step_from : At → State → ℕ → State
step_from Rest w i = with_point (with_flag w i true) i SetX
step_from Start w i = with_point (with_flag w i true) i SetX
step_from SetX w i = with_point (with_x w i) i TestY
step_from TestY w i = with_point w i (after_TestY w.y)
step_from BackB w i = with_point (with_flag w i false) i AwaitY
step_from AwaitY w i = with_point w i (after_AwaitY w.y)
step_from SetY w i = with_point (with_y w i) i TestX
step_from TestX w i = with_point w i (after_TestX i w.x)
step_from SlowB w i = with_point (with_flag w i false) i (Scan 1)
step_from (Scan j) w i = with_point w i (after_Scan (process_count w) j (flag_of w j))
step_from SlowY w i = with_point w i (after_SlowY i w.y)
step_from SlowAwait w i = with_point w i (after_SlowAwait w.y)
step_from Fast w i = with_point (with_y w 0) i Leaving
step_from Slow w i = with_point (with_y w 0) i Leaving
step_from Leaving w i = with_point (with_flag w i false) i Rest

-- the world after the next step of process i
abbrev pub next : State → ℕ → State
next w i = step_from (point_of w i) w i

-- the world after each process of the schedule took its next step, in the order of the schedule
abbrev pub run : State → List ℕ → State
run w [] = w
run w (i ∷ is) = run (next w i) is

-- The start: n processes at rest. Lamport leaves x open there; here it is 0.
abbrev pub start : ℕ → State
start n = record { x = 0; y = 0; flags = replicate n false; points = replicate n Rest }

-- each number of a schedule is one of n processes
abbrev pub IsSchedule : ℕ → List ℕ → Type 0
IsSchedule n [] = Unit {0}
IsSchedule n (i ∷ is) = IsProcess n i × IsSchedule n is

-- a world that some schedule of n processes reaches from the start
pub record Reach (n : ℕ) (w : State) : Type 0 where
  pub schedule : List ℕ
  pub processes : IsSchedule n schedule
  pub ends : w ≡ run (start n) schedule

-- a point in the critical section
abbrev pub IsInsidePoint : At → Type 0
IsInsidePoint p = (p ≡ Fast) ⊎ (p ≡ Slow)

-- process i is in its critical section
abbrev pub IsInside : State → ℕ → Type 0
IsInside w i = IsInsidePoint (point_of w i)
