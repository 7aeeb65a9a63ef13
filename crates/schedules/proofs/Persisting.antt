-- What a persistent choice leads to no goal of, nothing does.
use Rattle.std.proofs.lemmas.Bool.Decides.{nat_tests}
use Rattle.std.proofs.Common.{◌≡◌, ℕ, ◌==◌, ◌++◌, Bool, true, false, List, [], ◌∷◌, Option, Some, None, IsSome, refl, ap, ◌∙◌, eqb-true, arith}
use Rattle.std.specs.Option.{option_and_then}
use Rattle.schedules.specs.Schedules.{IsReached, after, HasNoGoal}
use Rattle.schedules.specs.Likeness.{AreBothAlike}
use Rattle.schedules.specs.Persistence.{Commutes}
use Rattle.schedules.proofs.Alike.{no_goal_alike}
use Rattle.schedules.proofs.Covering.{Suffices, after-push}

-- what persistent choices promise, for goals that equivalent states share
pub record Persist {S : Type 0} (next : S → ℕ → Option S) (is_goal : S → Bool) (IsAlike : S → S →
    Type 0) (IsPersistent : S → ℕ → Type 0) (start : S) : Type 0 where
  pub same_goal : (x y : S) → IsAlike x y → is_goal x ≡ is_goal y
  pub same_next : (x y : S) (choice : ℕ) → IsAlike x y →
      AreBothAlike IsAlike (next x choice) (next y choice)
  pub can : (x : S) (choice : ℕ) → IsReached next start x → IsPersistent x choice →
      IsSome (next x choice)
  pub no_goal : (x : S) (choice : ℕ) → IsReached next start x → IsPersistent x choice →
      is_goal x ≡ false
  pub commutes :
      (x y z : S) (choice other : ℕ) → IsReached next start x → IsPersistent x choice →
      (choice == other) ≡ false →
      next x choice ≡ Some y → next x other ≡ Some z →
      Commutes next IsAlike IsPersistent choice other y z

-- a persistent choice of a state that is reached
abbrev pub IsReachedPersistent : {S : Type 0} → (S → ℕ → Option S) → (S → ℕ → Type 0) → S → S → ℕ →
    Type 0
IsReachedPersistent next IsPersistent start s choice = IsReached next start s ×
    IsPersistent s choice

-- one choice further
reached-push : {S : Type 0} (next : S → ℕ → Option S) (start s t : S) (choice : ℕ) →
    IsReached next start s → next s choice ≡ Some t → IsReached next start t
reached-push next start s t choice reached step =
    (reached.0 ++ choice ∷ [], after-push next reached.0 choice start s t reached.1 step)

-- if a persistent choice leads to no goal, no schedule does
no_goal-from : {S : Type 0} (next : S → ℕ → Option S) (is_goal : S → Bool) (IsAlike : S → S →
    Type 0) (IsPersistent : S → ℕ → Type 0) (start : S) →
    Persist next is_goal IsAlike IsPersistent start → (schedule : List ℕ) (s y : S) (choice : ℕ) →
    IsReached next start s → IsPersistent s choice →
    next s choice ≡ Some y → HasNoGoal next is_goal y → (to : S) → after next schedule s ≡ Some to →
    is_goal to ≡ false
no_goal-from next is_goal IsAlike IsPersistent start laws [] s y choice reached persistent step none
    to runs = grind arith
no_goal-from {S} next is_goal IsAlike IsPersistent start laws (other ∷ schedule) s y choice reached
    persistent step none to runs =
    let goes : (b : Bool) → (choice == other) ≡ b → (o : Option S) → next s other ≡ o →
    option_and_then (after next schedule) o ≡ Some to → is_goal to ≡ false =
    λ (b : Bool). elim b as (λ b. (choice == other) ≡ b → (o : Option S) → next s other ≡ o →
    option_and_then (after next schedule) o ≡ Some to → is_goal to ≡ false) [
      | true ↦ grind (arith, nat_tests, eqb-true)
      | false ↦ (λ e o. elim o as (λ o. next s other ≡ o → option_and_then (after next schedule) o ≡
          Some to → is_goal to ≡ false) [
            | None ↦ (λ is h. cc)
            | Some z ↦ (λ is h.
                let both = laws.commutes s y z choice other reached persistent e step is in
                let z_reached = reached-push next start s z other reached is in
                let after_both : (p q : Option S) → next y other ≡ p → next z choice ≡ q →
                IsSome q →
                AreBothAlike IsAlike p q → is_goal to ≡ false =
                λ (p q : Option S). elim q as (λ q. next y other ≡ p → next z choice ≡ q →
                IsSome q →
                AreBothAlike IsAlike p q → is_goal to ≡ false) [
                  | None ↦ (λ d f some alike. cc)
                  | Some u ↦ (elim p as (λ p. next y other ≡ p → next z choice ≡ Some u →
                      IsSome (Some u) → AreBothAlike IsAlike p (Some u) → is_goal to ≡ false) [
                        | None ↦ (λ d f some alike. absurd alike)
                        | Some v ↦ (λ d f some alike.
                            let none_v : HasNoGoal next is_goal v =
                            λ more end reaches. none (other ∷ more)
                            end (ap (λ (x : Option S). option_and_then (after next more) x) d ∙
                            reaches) in
                            let none_u : HasNoGoal next is_goal u =
                            λ more end reaches. no_goal_alike next
                            is_goal IsAlike laws.same_goal laws.same_next more v u alike
                            none_v end reaches in
                            no_goal-from next is_goal IsAlike IsPersistent start laws
                            schedule z u choice
                            z_reached both.stays f none_u to h)
                      ])
                ]
                in
                after_both (next y other) (next z choice) refl refl
                (laws.can z choice z_reached both.stays) both.alike)
          ])
    ]
    in
    goes (choice == other) refl (next s other) refl runs

pub suffices : {S : Type 0} (next : S → ℕ → Option S) (is_goal : S → Bool) (IsAlike : S → S →
    Type 0) (IsPersistent : S → ℕ → Type 0) (start : S) →
    Persist next is_goal IsAlike IsPersistent start →
    Suffices next is_goal (IsReachedPersistent next IsPersistent start)
suffices {S} next is_goal IsAlike IsPersistent start laws s choice persistent none schedule to runs =
    let goes : (o : Option S) → next s choice ≡ o → IsSome o → is_goal to ≡ false =
    λ (o : Option S). elim o as (λ o. next s choice ≡ o → IsSome o → is_goal to ≡ false) [
      | None ↦ (λ e some. cc)
      | Some y ↦ (λ e some. no_goal-from next is_goal IsAlike IsPersistent start laws schedule s y
          choice persistent.0 persistent.1 e (none y e) to runs)
    ]
    in
    goes (next s choice) refl (laws.can s choice persistent.0 persistent.1)
