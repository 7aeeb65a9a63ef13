-- Equivalent stages of one history, and their state keys.
use Rattle.std.specs.Prelude.{◌≡◌, ◌<◌, ℕ, zero, suc, ◌+◌, List, ◌∷◌, length}
use Rattle.mq_model.specs.Record.{Past}
use Rattle.mq_equivalence.specs.Key.{key_of}
use Rattle.mq_equivalence.specs.Equivalence.{Equivalent}
use Rattle.histories.specs.OwnCalls.{made}
use Rattle.histories.specs.Stage.{Stage, with_past}

-- each of the first n processes has begun the same number of operations
abbrev pub HaveBegunAlike : ℕ → Past → Past → Type 0
HaveBegunAlike n x y = (index : ℕ) → index < n → made y (index + 1) ≡ made x (index + 1)

-- The stages differ only in their journals, and these are equivalent and have the same number of
-- operations of each process.
pub record AreStagesAlike (x y : Stage) : Type 0 where
  pub differ : y ≡ with_past x y.past
  pub begun : HaveBegunAlike (length x.histories) x.past y.past
  pub journals : Equivalent x.past y.past

-- how many operations each of the first n processes has begun, and then these numbers
abbrev pub counts_then : Past → ℕ → List ℕ → List ℕ
counts_then past zero rest = rest
counts_then past (suc n) rest = counts_then past n (made past (n + 1) ∷ rest)

abbrev pub stage_code : Stage → List ℕ
stage_code s = counts_then s.past (length s.histories) (key_of s.past)

-- the list is the state key of a stage
abbrev pub IsStageKey : Stage → List ℕ → Type 0
IsStageKey s key = key ≡ stage_code s
