-- Marks that are removed from the end.
use Rattle.std.proofs.lemmas.Grind.{common_steps}
use Rattle.std.proofs.Common.{arith, ◌≡◌, ◌-◌, ◌∙◌, ℕ, suc, true, false, List, [], ◌∷◌, ◌++◌, length, Option, Some, None, ap, refl, slice_get}
use Rattle.std.specs.Option.{is_some, option_to_list}
use Rattle.std.specs.List.{All}
use Rattle.std.proofs.lemmas.List.Elements.{All-cons}
use Rattle.schedules.specs.Marks.{IsOn, last_of}
use Rattle.schedules.specs.declared.marks.Mark.{Mark}

get-pushed : {X : Type 0} (xs : List X) (x : X) → slice_get (xs ++ x ∷ []) (length xs) ≡ Some x
get-pushed [] x = refl
get-pushed (y ∷ xs) x = get-pushed xs x

pub length-pushed : {X : Type 0} (xs : List X) (x : X) → length (xs ++ x ∷ []) ≡ suc (length xs)
length-pushed [] x = refl
length-pushed (y ∷ xs) x = ap suc (length-pushed xs x)

last-pushed : {T : Type 0} (front : List (Mark T)) (mark : Mark T) →
    last_of (front ++ mark ∷ []) ≡ Some mark
last-pushed front mark =
    let at : length (front ++ mark ∷ []) - 1 ≡ length front =
    omega (arith, length-pushed front mark) in
    ap (λ k. slice_get (front ++ mark ∷ []) k) at ∙ get-pushed front mark

-- a mark that is removed stands before those that were removed
pub removed : {T : Type 0} (path : List ℕ) (old marks front others : List (Mark T))
    (popped : Option (Mark T)) →
    is_some popped ≡ true → old ≡ marks ++ others → All (λ mark. IsOn path mark → ⊥) others →
    marks ≡ front ++ option_to_list popped →
    ((mark : Mark T) → last_of marks ≡ Some mark → IsOn path mark → ⊥) →
    (x : List (Mark T)) × (old ≡ front ++ x) × All (λ mark. IsOn path mark → ⊥) x
removed path old marks front others popped some whole off parts none =
    grind (arith, common_steps, last-pushed, All-cons)

pub is-none : {A : Type 0} (o : Option A) → is_some o ≡ false → o ≡ None
is-none o not = grind arith

pub none-is : {A : Type 0} (o : Option A) (P : Type 0) → is_some o ≡ false → (o ≡ None → P) → P
none-is o P not then = then (is-none o not)
