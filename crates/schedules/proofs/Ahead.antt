-- What remains for a search: the choices that are left at the nodes of its path.
use Rattle.std.proofs.lemmas.Bool.Decides.{nat_tests}
use Rattle.std.proofs.Common.{◌≡◌, ℕ, ◌+◌, ◌<◌, ◌≤◌, ◌⊎◌, inl, inr, Bool, true, false, List, [], ◌∷◌, ◌++◌, Option, Some, None, IsSome, refl, subst, sym, ap, ◌∙◌, arith, rules}
use Rattle.std.proofs.lemmas.Bool.{cases_lt}
use Rattle.std.specs.Option.{option_and_then}
use Rattle.schedules.specs.Schedules.{after, HasNoGoal}
use Rattle.schedules.specs.Choices.{IsFirstFrom}
use Rattle.schedules.specs.Persistence.{IsFirst, IsFollowing}
use Rattle.schedules.specs.Likeness.{HasKey}
use Rattle.schedules.specs.declared.outcomes.Level.{Level}
use Rattle.schedules.proofs.Covering.{AreDoneBelow, Covered, Suffices, after-append, after-push, covered-alone, covered-front, covered-next, covered-push, done_below, front_runs, no_goal_here}
use Rattle.schedules.proofs.Along.{AreAlong, along-last, along-push, taken}
use Rattle.schedules.proofs.Collecting.{covered-fewer}

-- what a search knows of a choice at a state
pub record IsLevel {S : Type 0} (next : S → ℕ → Option S) (IsPersistent : S → ℕ → Type 0)
    (IsKey : S → List ℕ → Type 0) (s : S) (choice : ℕ) (level : Level) : Type 0 where
  pub following : IsFollowing next IsPersistent s choice level.other
  pub key : (t : S) → next s choice ≡ Some t → HasKey IsKey t level.key

-- the same of each choice of the path, at its node
abbrev pub AreLevels : {S : Type 0} → (S → ℕ → Option S) → (S → ℕ → Type 0) →
    (S → List ℕ → Type 0) → List ℕ → List Level → S → Type 0
AreLevels next IsPersistent IsKey path levels s =
    AreAlong next (IsLevel next IsPersistent IsKey) path levels s

-- choices that cannot be taken are skipped
pub covered-skips : {S : Type 0} (next : S → ℕ → Option S) (is_goal : S → Bool) (IsPersistent : S →
    ℕ → Type 0) → Suffices next is_goal IsPersistent →
    (path : List ℕ) (low high : ℕ) (s now : S) → low ≤ high →
    after next path s ≡ Some now →
    ((choice : ℕ) → low ≤ choice → choice < high → next now choice ≡ None) →
    Covered next is_goal IsPersistent (path ++ low ∷ []) s →
    Covered next is_goal IsPersistent (path ++ high ∷ []) s
covered-skips {S} next is_goal IsPersistent enough [] low high s now le runs none covered =
    let same : now ≡ s = cc in
    let P : S → Type 0 = λ x. (choice : ℕ) → low ≤ choice → choice < high → next x choice ≡ None in
    let here : (choice : ℕ) → low ≤ choice → choice < high →
    next s choice ≡ None = subst P same none in
    let done : AreDoneBelow next is_goal s high ⊎ IsPersistent s high = elim covered.1 [
      | inl before ↦ grind (arith, nat_tests, cases_lt)
      | inr persistent ↦ elim (cases_lt low high) [
        | inl lt ↦
            inl (done_below next is_goal s high
            (enough s low persistent (λ t step. let e : next s low ≡ None = here low (omega arith)
            lt in let k : ⊥ = cc in absurd k)))
        | inr ge ↦ inr (let e : low ≡ high = omega (arith, le, ge) in let Q : ℕ →
            Type 0 = λ n. IsPersistent s n in subst Q e persistent)
      ]
    ]
    in
    (covered.0, done, (λ t step. tt))
covered-skips {S} next is_goal IsPersistent enough (c ∷ path) low high s now le runs none covered = (
  covered.0,
  covered.1,
  (λ t step. covered-skips next is_goal IsPersistent enough path low high t now le
      (let e : option_and_then (after next path) (next s c) ≡ Some now = runs in rw step at e) none
      (covered.2 t step)),
)

-- What is ahead of a path that leads to a node. With a choice it is to be taken at the node, and
-- the choices before it lead to no goal, or it is persistent. Without one the node leads to none.
abbrev pub IsAhead : {S : Type 0} → (S → ℕ → Option S) → (S → Bool) → (S → ℕ → Type 0) → List ℕ →
    S → S → Option ℕ → Type 0
IsAhead next is_goal IsPersistent path s now None = HasNoGoal next is_goal now
IsAhead next is_goal IsPersistent path s now (Some choice) = Covered next is_goal IsPersistent
    (path ++ choice ∷ []) s × IsSome (next now choice)

-- the choices before this one lead to no goal, and the next one is the first from it on that can be
-- taken
pub ahead-from : {S : Type 0} (next : S → ℕ → Option S) (is_goal : S → Bool) (IsPersistent : S → ℕ →
    Type 0) → Suffices next is_goal IsPersistent →
    (path : List ℕ) (from : ℕ) (first : Option ℕ) (s now : S) →
    after next path s ≡ Some now → IsFirstFrom next now from first →
    Covered next is_goal IsPersistent (path ++ from ∷ []) s →
    IsAhead next is_goal IsPersistent path s now first
ahead-from next is_goal IsPersistent enough path from None s now runs first covered =
    no_goal_here next is_goal IsPersistent enough path from s now runs first covered
ahead-from next is_goal IsPersistent enough path from (Some choice) s now runs first covered =
    search (rules, covered-skips)

-- persistent choices can be taken
abbrev pub CanBeTaken : {S : Type 0} → (S → ℕ → Option S) → (S → ℕ → Type 0) → Type 0
CanBeTaken {S} next IsPersistent = (s : S) (choice : ℕ) → IsPersistent s choice →
    IsSome (next s choice)

-- a node that is entered: its first choice comes next
pub ahead-first : {S : Type 0} (next : S → ℕ → Option S) (is_goal : S → Bool) (IsPersistent : S →
    ℕ → Type 0) → Suffices next is_goal IsPersistent → CanBeTaken next IsPersistent →
    (path : List ℕ) (first : Option ℕ) (s t : S) →
    after next path s ≡ Some t → is_goal t ≡ false → Covered next is_goal IsPersistent path s →
    IsFirst next IsPersistent t first → IsAhead next is_goal IsPersistent path s t first
ahead-first {S} next is_goal IsPersistent enough can path first s t runs no_goal covered is =
    grind (arith, ahead-from, covered-push, covered-alone)

-- the same, unless it leads to no goal
pub ahead-entered : {S : Type 0} (next : S → ℕ → Option S) (is_goal : S → Bool) (IsPersistent : S →
    ℕ → Type 0) → Suffices next is_goal IsPersistent → CanBeTaken next IsPersistent →
    (path : List ℕ) (first : Option ℕ) (s t : S) (done : Bool) →
    after next path s ≡ Some t → is_goal t ≡ false → Covered next is_goal IsPersistent path s →
    (done ≡ false → IsFirst next IsPersistent t first) → (done ≡ true → first ≡ None) →
    (done ≡ true → HasNoGoal next is_goal t) →
    IsAhead next is_goal IsPersistent path s t first
ahead-entered next is_goal IsPersistent enough can path first s t false runs no_goal covered new
    nothing none = grind (arith, ahead-first)
ahead-entered {S} next is_goal IsPersistent enough can path first s t true runs no_goal covered new
    nothing none = grind arith

-- the position of a search: its path leads to a node, which is the state of the machine if a choice
-- is to be taken there
pub record Stands {S : Type 0} (next : S → ℕ → Option S) (is_goal : S → Bool) (IsPersistent : S →
    ℕ → Type 0) (IsKey : S → List ℕ → Type 0) (path : List ℕ) (levels : List Level)
    (start machine : S) (choice : Option ℕ) : Type 0 where
  pub node : S
  pub runs : after next path start ≡ Some node
  pub here : IsSome choice → machine ≡ node
  pub covered : Covered next is_goal IsPersistent path start
  pub known : AreLevels next IsPersistent IsKey path levels start
  pub ahead : IsAhead next is_goal IsPersistent path start node choice

-- at the beginning
pub stands-first : {S : Type 0} (next : S → ℕ → Option S) (is_goal : S → Bool) (IsPersistent : S →
    ℕ → Type 0) (IsKey : S → List ℕ → Type 0) → Suffices next is_goal IsPersistent →
    CanBeTaken next IsPersistent →
    (start : S) (first : Option ℕ) →
    is_goal start ≡ false → IsFirst next IsPersistent start first →
    Stands next is_goal IsPersistent IsKey [] [] start start first
stands-first next is_goal IsPersistent IsKey enough can start first no_goal is = record {
  node = start;
  runs = refl;
  here = λ some. refl;
  covered = tt;
  known = tt;
  ahead = ahead-first next is_goal IsPersistent enough can [] first start start refl no_goal tt is;
}

-- if there are fewer goals
pub stands-fewer : {S : Type 0} (next : S → ℕ → Option S) (is_goal fewer : S → Bool)
    (IsPersistent : S → ℕ → Type 0) (IsKey : S → List ℕ → Type 0) →
    ((s : S) → is_goal s ≡ false → fewer s ≡ false) →
    (path : List ℕ) (levels : List Level) (start machine : S) (choice : Option ℕ) →
    Stands next is_goal IsPersistent IsKey path levels start machine choice →
    Stands next fewer IsPersistent IsKey path levels start machine choice
stands-fewer next is_goal fewer IsPersistent IsKey less path levels start machine choice stands =
    grind (arith, covered-fewer)

-- a choice was taken
pub stands-push : {S : Type 0} (next : S → ℕ → Option S) (is_goal : S → Bool) (IsPersistent : S →
    ℕ → Type 0) (IsKey : S → List ℕ → Type 0) → Suffices next is_goal IsPersistent →
    CanBeTaken next IsPersistent →
    (path : List ℕ) (levels : List Level) (start machine t : S) (choice : ℕ) (level : Level)
    (first : Option ℕ) (done : Bool) →
    Stands next is_goal IsPersistent IsKey path levels start machine (Some choice) →
    IsLevel next IsPersistent IsKey machine choice level → next machine choice ≡ Some t →
    is_goal t ≡ false →
    (done ≡ false → IsFirst next IsPersistent t first) → (done ≡ true → first ≡ None) →
    (done ≡ true → HasNoGoal next is_goal t) →
    Stands next is_goal IsPersistent IsKey (path ++ choice ∷ []) (levels ++ level ∷
    []) start t first
stands-push {S} next is_goal IsPersistent IsKey enough can path levels start machine t choice level
    first done stands is step no_goal new nothing none =
    let same : stands.node ≡ machine = sym (stands.here refl) in
    let runs : after next path start ≡ Some machine = stands.runs ∙ ap (λ (x : S). Some x) same in
    let further = after-push next path choice start machine t runs step in
    record {
      node = t;
      runs = further;
      here = λ some. refl;
      covered = stands.ahead.0;
      known = along-push next (IsLevel next IsPersistent IsKey) path levels choice level start
          machine runs is stands.known;
      ahead = ahead-entered next is_goal IsPersistent enough can (path ++ choice ∷ []) first start t
          done further no_goal stands.ahead.0 new nothing none;
    }

following-later : {S : Type 0} (next : S → ℕ → Option S) (IsPersistent : S → ℕ → Type 0) (s : S)
    (choice : ℕ) (other : Option ℕ) → IsFollowing next IsPersistent s choice other → (c : ℕ) →
    other ≡ Some c → choice + 1 ≤ c
following-later next IsPersistent s choice other is c e = grind arith

-- a choice was taken back
pub record Leaves {S : Type 0} (next : S → ℕ → Option S) (is_goal : S → Bool) (IsPersistent : S →
    ℕ → Type 0) (IsKey : S → List ℕ → Type 0) (front : List ℕ) (last : ℕ) (levels : List Level)
    (start left : S) : Type 0 where
  pub others : List Level
  pub level : Level
  pub are : levels ≡ others ++ level ∷ []
  pub key : HasKey IsKey left level.key
  pub later : (c : ℕ) → level.other ≡ Some c → last + 1 ≤ c
  pub back : (machine : S) → (IsSome level.other → after next front start ≡ Some machine) →
      Stands next is_goal IsPersistent IsKey front others start machine level.other

pub stands-back : {S : Type 0} (next : S → ℕ → Option S) (is_goal : S → Bool) (IsPersistent : S →
    ℕ → Type 0) (IsKey : S → List ℕ → Type 0) → Suffices next is_goal IsPersistent →
    (path front : List ℕ) (last : ℕ) (levels : List Level) (start machine : S) →
    (stands : Stands next is_goal IsPersistent IsKey path levels start machine None) →
    path ≡ front ++ last ∷ [] →
    Leaves next is_goal IsPersistent IsKey front last levels start stands.node
stands-back {S} next is_goal IsPersistent IsKey enough path front last levels start
    machine stands are =
    let runs : after next (front ++ last ∷ []) start ≡ Some stands.node =
    (let P : List ℕ → Type 0 = λ xs. after next xs start ≡ Some stands.node in
    subst P are stands.runs) in
    let known : AreLevels next IsPersistent IsKey (front ++ last ∷ []) levels start =
    (let P : List ℕ → Type 0 = λ xs. AreLevels next IsPersistent IsKey xs levels start in
    subst P are stands.known) in
    let covered : Covered next is_goal IsPersistent (front ++ last ∷ []) start =
    (let P : List ℕ → Type 0 = λ xs. Covered next is_goal IsPersistent xs start in
    subst P are stands.covered) in
    let split = along-last next (IsLevel next IsPersistent IsKey) front last levels start
    stands.node runs known in
    let none : (t : S) → after next (front ++ last ∷ []) start ≡ Some t → HasNoGoal next is_goal t =
    λ t there. let same : stands.node ≡ t = cc in let P : S →
    Type 0 = λ x. HasNoGoal next is_goal x in subst P same stands.ahead
    in
    let further : Covered next is_goal IsPersistent (front ++ (last + 1) ∷ []) start =
    covered-next next is_goal IsPersistent enough front last start none covered in
    let last_step : option_and_then (after next (last ∷ [])) (after next front start) ≡
    Some stands.node = sym (after-append next front (last ∷ []) start) ∙ runs in
    let goes : (o : Option S) → after next front start ≡ o → IsSome o →
    Leaves next is_goal IsPersistent IsKey front last levels start stands.node =
    λ (o : Option S). elim o as (λ o. after next front start ≡ o → IsSome o →
    Leaves next is_goal IsPersistent IsKey front last levels start stands.node) [
      | None ↦ (λ e h. cc)
      | Some node ↦ (λ e h.
          let level = split.here node e in
          grind (
            arith,
            nat_tests,
            taken,
            following-later,
            covered-front,
            after-push,
            Covered,
            IsAhead,
            ahead-from,
          ))
    ]
    in
    goes (after next front start) refl (front_runs next front (last ∷ []) start stands.node runs)

-- a choice that can be taken was
pub step-goes : {S : Type 0} (next : S → ℕ → Option S) (s t : S) (choice : ℕ) (went : Bool) →
    (went ≡ true → next s choice ≡ Some t) → (went ≡ false → next s choice ≡ None) →
    IsSome (next s choice) → next s choice ≡ Some t
step-goes next s t choice true goes none some = goes refl
step-goes {S} next s t choice false goes none some = grind arith
