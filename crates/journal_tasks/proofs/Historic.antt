-- The calls of a script as those of a history, by induction on their number.
use Rattle.std.specs.Option.{option_map}
use Rattle.std.proofs.lemmas.Option.{slice_get_within}
use Rattle.std.proofs.Common.{true, false, Option, Some, None, is_some, ◌≤◌, slice_get, ◌≡◌, ◌<◌, ◌+◌, ◌++◌, ◌∙◌, ℕ, zero, suc, List, [], ◌∷◌, refl, ap, arith, sym, subst, length, get_or, append_assoc, append-nil, inl, inr, add-one}
use Rattle.std.proofs.lemmas.Bool.{cases_lt}
use Rattle.std.proofs.lemmas.List.{get_or_append_left}
use Rattle.std.proofs.Math.Seq.{get_or-append_seam}
use Rattle.script_text.specs.Script.{WrittenCall}
use Rattle.script_orders.specs.Plans.{Plan, program_of, programs_of}
use Rattle.script_orders.specs.declared.plan.Step.{Step}
use Rattle.journal_tasks.specs.Histories.{Asked, MakeFronts, Makes, MakesAll, MakesFront, completions_of}
use Rattle.script_runner.specs.declared.noted.Noted.{Noted}
use Rattle.script_text.specs.declared.reply.Completion.{Completion}
use Rattle.script_orders.proofs.Making.{programs-count}

pub makes-one_more : (p : ℕ) (came : ℕ → Option Completion) (plans : List Plan) (plan : Plan)
    (calls more : List Asked) → MakesAll p came plans calls →
    Makes p plan.given plan.step (came (length plans)) more →
    MakesAll p came (plans ++ plan ∷ []) (calls ++ more)
makes-one_more p came [] plan calls more none makes =
    (more, [], makes, refl, rw none (sym (append-nil more)))
makes-one_more p came (first ∷ plans) plan calls more all makes = (
  all.0,
  all.1 ++ more,
  all.2,
  makes-one_more p (λ k. came (suc k)) plans plan all.1 more all.3 makes,
  ap (λ cs. cs ++ more) all.4 ∙ append_assoc all.0 all.1 more,
)

-- a line of the same process with the same result
pub makes-as : (p q : ℕ) (given : List ℕ) (step : Step) (a b : Option Completion)
    (calls : List Asked) → p ≡ q → a ≡ b → Makes p given step a calls → Makes q given step b calls
makes-as p q given step a b calls same came makes =
    subst (λ o. Makes q given step o calls) came
    (subst (λ k. Makes k given step a calls) same makes)

-- the program of process i + 1 is at i
pub programs-at : (phases : List (List WrittenCall)) (n i : ℕ) (d : List Plan) → i < n →
    get_or (programs_of phases n) i d ≡ program_of 0 phases (i + 1)
programs-at phases zero i d low = absurd (omega arith)
programs-at phases (suc n) i d low =
    let programs = programs_of phases n in let last = program_of 0 phases (n + 1) in let count =
    programs-count phases n in
    elim (cases_lt i n) [
      | inl less ↦ get_or_append_left programs (last ∷ []) d i (rw count less) ∙
          programs-at phases n i d less
      | inr more ↦ (
          let same : i ≡ n = omega arith in
          rw same (subst (λ k. get_or (programs ++ last ∷ []) k d ≡ last) count
          (get_or-append_seam programs last [] d))
          )
    ]

pub fronts-one_more : (phases : List (List WrittenCall)) (noted : List Noted) (n : ℕ)
    (calls own all : List Asked) → MakeFronts phases noted n calls →
    MakesFront (n + 1) (program_of 0 phases (n + 1)) (completions_of (n + 1) noted) own →
    all ≡ calls ++ own → MakeFronts phases noted (n + 1) all
fronts-one_more phases noted n calls own all fronts front is =
    rw add-one (calls, own, fronts, front, is)

-- a call that returned is among those that were noted, and one that did not is after them
pub came-within : {B : Type 0} (f : B → Completion) (r : Option B) (xs : List Completion) (i : ℕ) →
    option_map f r ≡ slice_get xs i → is_some r ≡ true → i < length xs
came-within f None xs i is other = absurd (cc)
came-within f (Some b) xs i is other = slice_get_within xs i (f b) (sym is)

pub came-beyond : {B : Type 0} (f : B → Completion) (r : Option B) (xs : List Completion) (i : ℕ) →
    option_map f r ≡ slice_get xs i → is_some r ≡ false → length xs ≤ i
came-beyond f (Some b) xs i is other = absurd (cc)
came-beyond f None [] i is other = omega arith
came-beyond f None (x ∷ xs) zero is other = absurd (cc)
came-beyond f None (x ∷ xs) (suc i) is other = let h = came-beyond f None xs i is other in
    omega (arith, h)
