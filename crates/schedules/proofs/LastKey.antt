-- The keys of the nodes to which the choices of a path lead.
use Rattle.std.proofs.lemmas.Bool.Decides.{nat_tests}
use Rattle.std.proofs.Common.{◌≡◌, ℕ, Bool, List, [], ◌∷◌, ◌++◌, Option, Some, None, Vec, if◌then◌else◌, subst, arith, Global}
use Rattle.schedules.specs.Schedules.{after}
use Rattle.schedules.specs.Likeness.{HasKey}
use Rattle.schedules.proofs.Along.{AreAlong, along-last, taken}
use Rattle.schedules.proofs.Covering.{after-append, front_runs}

-- it is a key of the state to which the choice leads
abbrev pub IsKeyOf : {S : Type 0} → (S → ℕ → Option S) → (S → List ℕ → Type 0) → S → ℕ →
    Option (Vec ℕ Global) → Type 0
IsKeyOf {S} next IsKey s choice key = (t : S) → next s choice ≡ Some t → HasKey IsKey t key

abbrev pub AreKeys : {S : Type 0} → (S → ℕ → Option S) → (S → List ℕ → Type 0) → List ℕ →
    List (Option (Vec ℕ Global)) → S → Type 0
AreKeys next IsKey path keys s = AreAlong next (IsKeyOf next IsKey) path keys s

-- the last of them is that of the node to which the path leads
pub record IsLastKey {S : Type 0} (next : S → ℕ → Option S) (IsKey : S → List ℕ → Type 0)
    (front : List ℕ) (keys : List (Option (Vec ℕ Global))) (start now : S) : Type 0 where
  pub others : List (Option (Vec ℕ Global))
  pub last : Option (Vec ℕ Global)
  pub are : keys ≡ others ++ last ∷ []
  pub front_are : AreKeys next IsKey front others start
  pub key : HasKey IsKey now last

pub keys-last : {S : Type 0} (next : S → ℕ → Option S) (IsKey : S → List ℕ → Type 0)
    (path front : List ℕ) (choice : ℕ) (keys : List (Option (Vec ℕ Global))) (start now : S) →
    path ≡ front ++ choice ∷ [] → after next path start ≡ Some now →
    AreKeys next IsKey path keys start → IsLastKey next IsKey front keys start now
keys-last {S} next IsKey path front choice keys start now parts runs_on are =
    let runs : after next (front ++ choice ∷ []) start ≡ Some now =
    (let P : List ℕ → Type 0 = λ xs. after next xs start ≡ Some now in subst P parts runs_on) in
    let known : AreKeys next IsKey (front ++ choice ∷ []) keys start =
    (let P : List ℕ → Type 0 = λ xs. AreKeys next IsKey xs keys start in subst P parts are) in
    let split = along-last next (IsKeyOf next IsKey) front choice keys start now runs known in
    grind (arith, nat_tests, after-append, taken, front_runs)

-- a key that is perhaps left out
pub has-kept : {S : Type 0} (IsKey : S → List ℕ → Type 0) (s : S) (key kept : Option (Vec ℕ Global))
    (b : Bool) → kept ≡ (if b then key else None) → HasKey IsKey s key → HasKey IsKey s kept
has-kept IsKey s key kept b is has = grind arith
