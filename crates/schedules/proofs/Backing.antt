-- Going back to the state after a path.
use Rattle.std.proofs.Common.{All, length-append, ◌≡◌, ℕ, ◌+◌, ◌<◌, Bool, true, false, List, [], ◌∷◌, ◌++◌, length, take, drop, get_or, Option, Some, None, IsSome, refl, sym, ap, subst, ◌∙◌, arith, drop-cons, take-suc, add-one}
use Rattle.std.proofs.lemmas.List.{take-append-drop, get_or_append_left}
use Rattle.std.specs.Option.{option_and_then}
use Rattle.schedules.specs.Schedules.{after}
use Rattle.schedules.proofs.Covering.{after-append, after-push}
use Rattle.schedules.proofs.Ahead.{step-goes}

-- the rest of a path leads from the state after its first choices to where the path leads
rest-runs : {S : Type 0} (next : S → ℕ → Option S) (path : List ℕ) (depth : ℕ) (s x : S) →
    after next (take depth path) s ≡ Some x → after next (drop depth path) x ≡ after next path s
rest-runs {S} next path depth s x runs =
    sym (ap (λ (o : Option S). option_and_then (after next (drop depth path)) o) runs)
    ∙ sym (after-append next (take depth path) (drop depth path) s)
    ∙ ap (λ (xs : List ℕ). after next xs s) (take-append-drop depth path)

-- the first choice of a schedule that can be taken can be taken
first-goes : {S : Type 0} (next : S → ℕ → Option S) (s : S) (choice : ℕ) (rest : List ℕ) →
    IsSome (after next (choice ∷ rest) s) → IsSome (next s choice)
first-goes {S} next s choice rest some = grind arith

-- the next choice of a path that can be taken can be taken
pub path-goes : {S : Type 0} (next : S → ℕ → Option S) (path : List ℕ) (depth : ℕ) (s x t : S)
    (went : Bool) → depth < length path →
    IsSome (after next path s) → after next (take depth path) s ≡ Some x →
    (went ≡ true → next x (get_or path depth 0) ≡ Some t) →
    (went ≡ false → next x (get_or path depth 0) ≡ None) →
    next x (get_or path depth 0) ≡ Some t
path-goes {S} next path depth s x t went lt some runs goes none =
    let cut : drop depth path ≡ get_or path depth 0 ∷ drop (depth + 1) path =
    rw (add-one, drop-cons path depth 0) refl in
    let rest : after next (get_or path depth 0 ∷ drop (depth + 1) path) x ≡ after next path s =
    ap (λ (xs : List ℕ). after next xs x) (sym cut) ∙ rest-runs next path depth s x runs
    in
    step-goes next x t (get_or path depth 0) went goes none
    (first-goes next x (get_or path depth 0) (drop (depth + 1) path)
    (subst (λ (o : Option S). IsSome o) (sym rest) some))

-- and leads one choice further
pub path-further : {S : Type 0} (next : S → ℕ → Option S) (path : List ℕ) (depth : ℕ) (s x t : S) →
    depth < length path →
    after next (take depth path) s ≡ Some x → next x (get_or path depth 0) ≡ Some t →
    after next (take (depth + 1) path) s ≡ Some t
path-further {S} next path depth s x t lt runs step =
    let more : take (depth + 1) path ≡ take depth path ++ get_or path depth 0 ∷ [] =
    rw (add-one, take-suc path depth 0) refl in
    ap (λ (xs : List ℕ). after next xs s) more ∙ after-push next (take depth path)
    (get_or path depth 0) s x t runs step

-- what holds of all items holds of the first ones
pub all-front : {X : Type 0} (P : X → Type 0) (front xs rest : List X) → xs ≡ front ++ rest →
    All P xs → All P front
all-front {X} P front xs rest parts all = grind (arith, length-append, get_or_append_left)
