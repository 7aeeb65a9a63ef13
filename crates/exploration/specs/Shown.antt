-- What runs showed of a program, as a test on choices and one more: it is true if a run showed that
-- this one is possible after those.
use Rattle.std.specs.Prelude.{◌≡◌, ℕ, ◌+◌, ◌*◌, ◌-◌, ◌^◌, ◌≤◌, suc, Bool, true, List, [], ◌∷◌, ◌++◌, length, take, All}
use Rattle.exploration.specs.Choices.{can_choose}
use Rattle.exploration.specs.declared.operation.Choice.{Choice}
use Rattle.exploration.specs.declared.operation.Step.{Step}
use Rattle.exploration.specs.declared.search.Node.{Node}

-- each of the choices is possible after those before it
pub data Possible (could : List Choice → Choice → Bool) : List Choice → Type 0 where
  none : Possible could []
  one : {before : List Choice} {choice : Choice} → Possible could before →
      could before choice ≡ true → Possible could (before ++ choice ∷ [])

-- these steps, after these choices, show which choices were possible before each of them
abbrev pub Shows : (List Choice → Choice → Bool) → List Choice → List Step → Type 0
Shows could before [] = Unit {0}
Shows could before (step ∷ steps) =
    ((choice : Choice) → can_choose step.parked.items choice ≡ true → could before choice ≡ true)
    × Shows could (before ++ step.choice ∷ []) steps

-- This many choices of the path lead to a node. They are possible, and so is each open one there.
pub record IsOpen (could : List Choice → Choice → Bool) (path : List Choice) (count : ℕ)
    (node : Node) : Type 0 where
  pub within : count ≤ length path
  pub leads : Possible could (take count path)
  pub goes_on : All (λ choice. could (take count path) choice ≡ true) node.open.items

-- the same of nodes that follow one another, with this many choices before the first
abbrev pub AreOpen : (List Choice → Choice → Bool) → List Choice → ℕ → List Node → Type 0
AreOpen could path count [] = Unit {0}
AreOpen could path count (node ∷ nodes) =
    IsOpen could path count node × AreOpen could path (suc count) nodes

-- how many runs a node after this many choices may still take, if a node has at most `most` open
-- choices, and a run at most `steps` steps
abbrev pub runs_of : ℕ → ℕ → ℕ → Node → ℕ
runs_of most steps count node = length node.open.items * suc most ^ (steps - count)

-- the same of nodes that follow one another
abbrev pub runs_left : ℕ → ℕ → ℕ → List Node → ℕ
runs_left most steps count [] = 0
runs_left most steps count (node ∷ nodes) =
    runs_of most steps count node + runs_left most steps (suc count) nodes
