-- The prefixes that were found linearizable and not linearizable.
use Rattle.std.proofs.Common.{◌≡◌, ◌≤◌, ℕ, ◌+◌, List, length, Option, arith, sym, subst, Vec, Global}
use Rattle.std.proofs.lemmas.Option.{slice_get_past}
use Rattle.history_judge.specs.Fronts.{Return, front_or, front_part}
use Rattle.history_judge.specs.Verdicts.{IsAnswer, IsImpossible, IsPossible, UsesUp}
use Rattle.history_judge.specs.declared.line.Called.{Called}
use Rattle.history_judge.specs.declared.judgement.Answer.{Answer}
use Rattle.history_judge.specs.declared.judgement.Answer.TheVariants.{Possible, Impossible, OutOfBudget}

-- after a prefix that is linearizable
pub possible-before : (budget : ℕ) (calls : List Called) (returns : List Return) (middle : ℕ)
    (a : Answer) (journal : Vec ℕ Global) → a ≡ Possible journal →
    IsAnswer budget (front_part calls returns middle) a → (before : ℕ) → before + 1 ≡ middle + 1 →
    IsPossible (front_part calls returns before)
possible-before budget calls returns middle a journal is found before next = grind arith

-- a prefix that is not
pub impossible-part : (budget : ℕ) (calls : List Called) (returns : List Return) (middle bad : ℕ)
    (a : Answer) → a ≡ Impossible →
    IsAnswer budget (front_part calls returns middle) a → bad ≡ middle →
    IsImpossible (front_part calls returns bad)
impossible-part budget calls returns middle bad a is found same =
    let none : IsImpossible (front_part calls returns middle) =
    subst (λ (x : Answer). IsAnswer budget (front_part calls returns middle) x) is found in
    subst (λ n. IsImpossible (front_part calls returns n)) (sym same) none

-- after the last return the prefix is the whole history
pub impossible-whole : (calls : List Called) (returns : List Return) (n : ℕ) → length returns ≤ n →
    IsImpossible calls → IsImpossible (front_part calls returns n)
impossible-whole calls returns n past none =
    subst (λ (o : Option Return). IsImpossible (front_or calls o))
    (sym (slice_get_past returns n past)) none

-- a prefix at which the budget was used up, and which is shorter than the one to be found
pub used-up-at : (budget : ℕ) (calls : List Called) (returns : List Return) (middle : ℕ)
    (a : Answer) → a ≡ OutOfBudget →
    IsAnswer budget (front_part calls returns middle) a →
    UsesUp budget (front_part calls returns middle)
used-up-at budget calls returns middle a is found =
    subst (λ (x : Answer). IsAnswer budget (front_part calls returns middle) x) is found
