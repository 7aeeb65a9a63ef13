-- Goals of which nothing was found yet.
use Rattle.std.proofs.lemmas.Bool.Decides.{nat_tests}
use Rattle.std.proofs.Common.{◌≡◌, ◌⊎◌, ℕ, Bool, true, false, ◌&&◌, ◌||◌, not, List, [], ◌∷◌, ◌++◌, Option, refl, subst, eq-eqb, arith, rules}
use Rattle.std.proofs.lemmas.Bool.{and_parts, eqb-true, or_parts}
use Rattle.std.proofs.lemmas.List.Folds.{list_any-append}
use Rattle.std.proofs.lemmas.Slice.Eq.{bytes_eq-Decides}
use Rattle.schedules.specs.Observed.{Observed}
use Rattle.schedules.specs.Schedules.{HasNoGoal}
use Rattle.schedules.specs.Outcomes.{AreAll, AreDistinct, are_same, is_among, observed_in}
use Rattle.schedules.specs.declared.outcomes.Witnessed.{Witnessed}
use Rattle.schedules.proofs.Covering.{AreDoneBelow, Covered}
use Rattle.schedules.proofs.Persisting.{Persist}

-- the state is a goal, and nothing that was found tells the same
abbrev pub is_new_goal : {S : Type 0} → (S → Bool) → (S → Observed) → List Witnessed → S → Bool
is_new_goal is_goal outcome found s = is_goal s && not (is_among found (outcome s))

-- what is covered remains so if there are fewer goals
pub covered-fewer : {S : Type 0} (next : S → ℕ → Option S) (is_goal fewer : S → Bool)
    (IsPersistent : S → ℕ → Type 0) → ((s : S) → is_goal s ≡ false → fewer s ≡ false) →
    (path : List ℕ) (s : S) → Covered next is_goal IsPersistent path s →
    Covered next fewer IsPersistent path s
covered-fewer next is_goal fewer IsPersistent less [] s covered = tt
covered-fewer {S} next is_goal fewer IsPersistent less (c ∷ path) s covered =
    let here : AreDoneBelow next fewer s c ⊎ IsPersistent s c = grind (arith, nat_tests)
    in (
      less s covered.0,
      here,
      (λ t step. covered-fewer next is_goal fewer IsPersistent less path t
          (covered.2 t step)),
    )

-- if more was found, there are fewer new goals
pub new-fewer : {S : Type 0} (is_goal : S → Bool) (outcome : S → Observed)
    (old new : List Witnessed) →
    ((observed : Observed) → is_among new observed ≡ false → is_among old observed ≡ false) →
    (s : S) → is_new_goal is_goal outcome old s ≡ false → is_new_goal is_goal outcome new s ≡ false
new-fewer is_goal outcome old new kept s before = grind arith

-- a state of which the outcome was found is no new goal
pub noted-is_old : {S : Type 0} (is_goal : S → Bool) (outcome : S → Observed)
    (found : List Witnessed) (s : S) →
    (is_goal s ≡ true → is_among found (outcome s) ≡ true) → is_new_goal is_goal outcome found s ≡
    false
noted-is_old is_goal outcome found s noted = grind arith

-- if no schedule leads to a new goal, everything was found
pub all-found : {S : Type 0} (next : S → ℕ → Option S) (is_goal : S → Bool) (outcome : S → Observed)
    (from : S) (found : List Witnessed) →
    HasNoGoal next (is_new_goal is_goal outcome found) from → AreAll next is_goal outcome from found
all-found next is_goal outcome from found none schedule to leads =
    let goes : (a b : Bool) → a ≡ true → (a && not b) ≡ false → b ≡ true =
    grind (arith, nat_tests)
    in
    goes (is_goal to) (is_among found (outcome to)) leads.goal (none schedule to leads.runs)

-- what tells the same is the same
pub same-is : (a b : Observed) → are_same a b ≡ true → a ≡ b
same-is a b same = grind (arith, and_parts, eqb-true, bytes_eq-Decides)

pub same-self : (a : Observed) → are_same a a ≡ true
same-self a = grind (arith, eq-eqb, bytes_eq-Decides)

same-turned : (a b : Observed) → are_same a b ≡ false → are_same b a ≡ false
same-turned a b differ = search (rules, same-is, same-self)

-- an outcome that was not found before may be added
pub distinct-push : (found : List Witnessed) (w : Witnessed) → AreDistinct found →
    is_among found (observed_in w.outcome) ≡ false → AreDistinct (found ++ w ∷ [])
distinct-push [] w distinct new = (tt, refl)
distinct-push (x ∷ found) w distinct new =
    let parts = or_parts (are_same (observed_in x.outcome) (observed_in w.outcome))
    (is_among found (observed_in w.outcome)) new in
    let rest = distinct-push found w distinct.0 parts.1 in
    let last : are_same (observed_in w.outcome) (observed_in x.outcome) ≡ false =
    same-turned (observed_in x.outcome) (observed_in w.outcome) parts.0 in
    grind (arith, nat_tests, list_any-append)

or-true : (a : Bool) → (a || true) ≡ true
or-true a = grind arith

-- what was added is among those found
pub among-push : (found : List Witnessed) (w : Witnessed) (observed : Observed) →
    observed_in w.outcome ≡ observed → is_among (found ++ w ∷ []) observed ≡ true
among-push [] w observed is = let same : are_same (observed_in w.outcome) observed ≡ true =
    (let P : Observed → Type 0 = λ t. are_same (observed_in w.outcome) t ≡ true in
    subst P is (same-self (observed_in w.outcome))) in rw same refl
among-push (x ∷ found) w observed is = rw (among-push found w observed is)
    (or-true (are_same (observed_in x.outcome) observed))

-- of two states that tell the same neither or both are new goals
pub new-alike : {S : Type 0} (is_goal : S → Bool) (outcome : S → Observed) (IsAlike : S → S →
    Type 0) →
    ((x y : S) → IsAlike x y → is_goal x ≡ is_goal y) →
    ((x y : S) → IsAlike x y → outcome x ≡ outcome y) →
    (found : List Witnessed) (x y : S) → IsAlike x y → is_new_goal is_goal outcome found x ≡
    is_new_goal is_goal outcome found y
new-alike is_goal outcome IsAlike same_goal same_outcome found x y alike = grind arith

-- what persistent choices promise holds of the new goals too
pub persist-new : {S : Type 0} (next : S → ℕ → Option S) (is_goal : S → Bool) (outcome : S →
    Observed) (IsAlike : S → S → Type 0) (IsPersistent : S → ℕ → Type 0) (start : S) →
    Persist next is_goal IsAlike IsPersistent start →
    ((x y : S) → IsAlike x y → outcome x ≡ outcome y) →
    (found : List Witnessed) →
    Persist next (is_new_goal is_goal outcome found) IsAlike IsPersistent start
persist-new next is_goal outcome IsAlike IsPersistent start laws same_outcome found =
    grind (arith, new-alike)
