-- What contracts see of a `World`: the state of the algorithm, and the number of steps of each
-- process.
use Rattle.std.specs.Prelude.{◌≡◌, ℕ, ◌^◌, ◌<◌, Bool, List, [], ◌∷◌, length, replicate}
use Rattle.lamport_core.specs.State.{State, of_process, with_process, next, start, process_count}
use Rattle.lamport_core.specs.Safe.{IsSafe}
use Rattle.lamport_core.specs.Line.{one_more}
use Rattle.lamport_core.specs.declared.At.{At}

pub record Machine : Type 0 where
  pub state : State
  -- process 1 first
  pub steps : List ℕ

abbrev pub state_of : ℕ → ℕ → List Bool → List At → State
state_of x y flags points = record { x = x; y = y; flags = flags; points = points }

-- process i takes its next step, which is counted
abbrev pub stepped : Machine → ℕ → Machine
stepped m i = record {
  state = next m.state i;
  steps = with_process m.steps i
      (one_more (of_process 0 m.steps i));
}

-- each process of a schedule takes its next step, in the order of the schedule
abbrev pub run_through : Machine → List ℕ → Machine
run_through m [] = m
run_through m (i ∷ is) = run_through (stepped m i) is

-- n processes at rest, with no step taken
abbrev pub begun : ℕ → Machine
begun n = record { state = start n; steps = replicate n 0 }

-- the number of processes
abbrev pub count : Machine → ℕ
count m = process_count m.state

-- the invariant of a `World`
pub record IsSound (m : Machine) : Type 0 where
  pub safe : IsSafe m.state
  pub counts : length m.steps ≡ count m
  pub numbered : count m < 2 ^ 32
