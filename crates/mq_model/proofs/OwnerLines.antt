-- The table of processes, line by line.
use Rattle.std.proofs.Common.{◌≡◌, ℕ, zero, suc, ◌<◌, ◌≤◌, ◌==◌, List, [], ◌∷◌, length, Option, Some, None, if◌then◌else◌, set, refl, ◌∙◌, arith, eqb-true, ◌⊎◌, inl, inr, slice_get}
use Rattle.std.specs.Option.{option_and_then, unwrap_or}
use Rattle.std.proofs.lemmas.Bool.Decides.{nat_tests}
use Rattle.std.proofs.lemmas.Grind.{common_steps}
use Rattle.std.proofs.lemmas.Option.{slice_get_past}
use Rattle.mq_model.specs.declared.entries.Description.{Description}
use Rattle.mq_model.specs.Threads.{owner_of, shares}
use Rattle.mq_model.proofs.Places.{split}
use Rattle.mq_model.proofs.Rows.{slice_get-changed, length-changed, read-changed, row-exists}
use Rattle.mq_model.specs.declared.owners.Owner.{Owner}
use Rattle.mq_model.specs.Rows.{changed}
use Rattle.mq_model.specs.Owners.{held_in, slot_of, with_slot}

get-set : {X : Type 0} (xs : List (Option X)) (d e : ℕ) (v : Option X) → d < length xs →
    unwrap_or (slice_get (set xs d v) e) None ≡
    (if d == e then v else unwrap_or (slice_get xs e) None)
get-set [] d e v lt = absurd (omega arith)
get-set (x ∷ xs) zero zero v lt = refl
get-set (x ∷ xs) (suc d) (suc e) v lt = get-set xs d e v (omega arith) ∙ grind (arith, nat_tests)
get-set (x ∷ xs) _ _ v lt = grind (arith, nat_tests)

-- each process has sixteen slots
abbrev pub HasSlots : List Owner → Type 0
HasSlots owners = (p : ℕ) (o : Owner) → slice_get owners p ≡ Some o → length o.descriptors ≡ 16

pub held_in-with_slot : (owners : List Owner) (p d k e : ℕ) (v : Option Description) →
    HasSlots owners → owner_of p < length owners → d < 16 → held_in (with_slot owners p d v) k e ≡
    (if shares p k then (if d == e then v else held_in owners k e) else held_in owners k e)
unfolding held_in with_slot
held_in-with_slot owners p d k e v slots lt small =
    read-changed (slot_of e) _ owners (owner_of p) (owner_of k) ∙ split (shares p k)
    (λ t. let same : owner_of p ≡ owner_of k = eqb-true _ _ t in let line = row-exists owners
    (owner_of k) (omega (arith, same, lt)) in rw (t, line.1) (get-set line.0.descriptors d e v
    (let wide = slots (owner_of k) line.0 line.1 in omega arith)))
    (λ f. rw f refl)

-- a descriptor that is held is below sixteen
pub held_in-number : (owners : List Owner) (p d : ℕ) (h : Description) → HasSlots owners →
    held_in owners p d ≡ Some h → d < 16
unfolding held_in
held_in-number owners p d h slots e = by (slice_get owners (owner_of p)) refl e
  where
    below-or : (i : ℕ) → (d < i) ⊎ (i ≤ d)
    below-or i = grind arith

    at : (o : Owner) → length o.descriptors ≡ 16 → ((d < 16) ⊎ (16 ≤ d)) →
        unwrap_or (slice_get o.descriptors d) None ≡ Some h → d < 16
    at o wide (inl lt) is = lt
    at o wide (inr ge) is = absurd (let none : slice_get o.descriptors d ≡
        None = slice_get_past o.descriptors d (omega arith) in let bad : None ≡ Some h =
        rw none at is in cc)

    by : (x : Option Owner) → slice_get owners (owner_of p) ≡ x →
        option_and_then (slot_of d) x ≡ Some h → d < 16
    by None is g = absurd (cc)
    by (Some o) is g = at o (slots (owner_of p) o is) (below-or 16) g

length-set : {X : Type 0} (xs : List X) (d : ℕ) (v : X) → length (set xs d v) ≡ length xs
length-set xs d v = grind (arith, common_steps)

slots-changed : (f : Owner → Owner) (owners : List Owner) (p : ℕ) →
    ((o : Owner) → length (f o).descriptors ≡ length o.descriptors) → HasSlots owners →
    HasSlots (changed f owners p)
slots-changed f owners p same slots k o is = grind (arith, slice_get-changed)

pub slots-with_slot : (owners : List Owner) (p d : ℕ) (v : Option Description) → HasSlots owners →
    HasSlots (with_slot owners p d v)
unfolding with_slot
slots-with_slot owners p d v slots = slots-changed _ owners (owner_of p)
    (λ o. length-set o.descriptors d v) slots

pub length-with_slot : (owners : List Owner) (p d : ℕ) (v : Option Description) →
    length (with_slot owners p d v) ≡ length owners
unfolding with_slot
length-with_slot owners p d v = length-changed _ owners (owner_of p)
