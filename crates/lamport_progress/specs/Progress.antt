-- What it means that the machine makes progress: definitions about schedules, from any world.
use Rattle.std.specs.Prelude.{◌≡◌, ◌≢◌, ℕ, zero, suc, ◌+◌, ◌*◌, ◌≤◌, ◌⊎◌, List, [], ◌∷◌, length}
use Rattle.std.specs.List.{All, Contains, concat}
use Rattle.lamport_core.specs.State.{State, Reach, IsInside, IsProcess, IsSchedule, point_of, process_count, next, run}
use Rattle.lamport_core.specs.declared.At.{At}
use Rattle.lamport_core.specs.declared.At.TheVariants.{Rest, AwaitY, SlowAwait, TestX, SlowB, Scan, SlowY, Fast, Slow, Leaving}

-- some process is in its critical section
abbrev pub IsOccupied : State → Type 0
IsOccupied w = (i : ℕ) × IsInside w i

-- some process is in its critical section at some time of the schedule: in w, or after one of the
-- steps
abbrev pub LeadsInside : State → List ℕ → Type 0
LeadsInside w [] = IsOccupied w
LeadsInside w (i ∷ is) = IsOccupied w ⊎ LeadsInside (next w i) is

-- the next step of process i takes it into its critical section
abbrev pub IsEntry : State → ℕ → Type 0
IsEntry w i = (IsInside w i → ⊥) × IsInside (next w i) i

-- some step of the schedule takes its process into its critical section
abbrev pub Enters : State → List ℕ → Type 0
Enters w [] = ⊥
Enters w (i ∷ is) = IsEntry w i ⊎ Enters (next w i) is

-- the next step of process i changes the world; else process i waits
abbrev pub IsEnabled : State → ℕ → Type 0
IsEnabled w i = next w i ≢ w

-- each step of the schedule changes the world
abbrev pub NeverWaits : State → List ℕ → Type 0
NeverWaits w [] = Unit {0}
NeverWaits w (i ∷ is) = IsEnabled w i × NeverWaits (next w i) is

-- a process that is not at rest, and whose next step changes the world
pub record EnabledProcess (w : State) : Type 0 where
  pub process : ℕ
  pub started : point_of w process ≢ Rest
  pub enabled : IsEnabled w process

-- the point of a process in its entry: it has begun, and is not yet in its critical section
abbrev pub IsEntering : At → Type 0
IsEntering Rest = ⊥
IsEntering Fast = ⊥
IsEntering Slow = ⊥
IsEntering Leaving = ⊥
IsEntering _ = Unit {0}

-- A fair round from w: each process that is neither at rest nor waits in w takes a step in it.
-- Other steps may come between.
abbrev pub IsFairRound : State → List ℕ → Type 0
IsFairRound w is = (i : ℕ) → point_of w i ≢ Rest → IsEnabled w i → Contains is i

-- fair rounds of n processes, one after another
abbrev pub AreFairRounds : ℕ → State → List (List ℕ) → Type 0
AreFairRounds n w [] = Unit {0}
AreFairRounds n w (is ∷ rounds) =
    IsSchedule n is × IsFairRound w is × AreFairRounds n (run w is) rounds

-- one step of each of n processes, process n first
abbrev pub round_robin : ℕ → List ℕ
round_robin zero = []
round_robin (suc k) = suc k ∷ round_robin k

-- process p is not in its critical section at any time of the schedule
abbrev pub StaysOut : ℕ → State → List ℕ → Type 0
StaysOut p w [] = IsInside w p → ⊥
StaysOut p w (i ∷ is) = (IsInside w p → ⊥) × StaysOut p (next w i) is

-- k fair rounds of n processes from a reachable world: process p is in its entry, takes a step in
-- each, and stays out
pub record Starves (n p k : ℕ) : Type 0 where
  pub world : State
  pub reach : Reach n world
  pub entering : IsEntering (point_of world p)
  pub rounds : List (List ℕ)
  pub count : length rounds ≡ k
  pub fair : AreFairRounds n world rounds
  pub steps : All (λ is. Contains is p) rounds
  pub outside : StaysOut p world (concat rounds)

-- k fair rounds of n processes from a reachable world, with some process in its entry, in which no
-- process enters its critical section
pub record Delays (n k : ℕ) : Type 0 where
  pub world : State
  pub reach : Reach n world
  pub process : ℕ
  pub entering : IsEntering (point_of world process)
  pub rounds : List (List ℕ)
  pub count : length rounds ≡ k
  pub fair : AreFairRounds n world rounds
  pub none : Enters world (concat rounds) → ⊥

-- while no process is in its critical section, n processes can take at most this many steps that
-- change the world
abbrev pub work_bound : ℕ → ℕ
work_bound n = n * (2 * n + 11)

-- in this many fair rounds of n processes some process enters its critical section
abbrev pub round_bound : ℕ → ℕ
round_bound n = 6 * n + 5

-- a point between the store of the own number to y and the exit
abbrev pub HasSetY : At → Type 0
HasSetY TestX = Unit {0}
HasSetY SlowB = Unit {0}
HasSetY (Scan j) = Unit {0}
HasSetY SlowY = Unit {0}
HasSetY Fast = Unit {0}
HasSetY Slow = Unit {0}
HasSetY _ = ⊥

-- if y is not 0, the process whose number is in y is at such a point
abbrev pub IsOwned : State → Type 0
IsOwned w = w.y ≢ 0 → HasSetY (point_of w w.y)

-- steps of n processes that lead from w to a world with some process in its critical section
pub record IsWayInside (n : ℕ) (w : State) (steps : List ℕ) : Type 0 where
  pub processes : IsSchedule n steps
  pub bounded : length steps ≤ work_bound n
  pub inside : IsOccupied (run w steps)

-- steps of n processes that take process i into its critical section
pub record CanEnter (n : ℕ) (w : State) (i : ℕ) : Type 0 where
  pub steps : List ℕ
  pub processes : IsSchedule n steps
  pub inside : IsInside (run w steps) i

-- a point at which a process does not wait for y to be 0
abbrev pub NeedsNoFreeY : ℕ → At → Type 0
NeedsNoFreeY y AwaitY = y ≡ 0
NeedsNoFreeY y SlowAwait = y ≡ 0
NeedsNoFreeY y _ = Unit {0}

-- a process that waits for nothing but a flag, if it waits
pub record IsLeader (w : State) (i : ℕ) : Type 0 where
  pub process : IsProcess (process_count w) i
  pub free : NeedsNoFreeY w.y (point_of w i)
