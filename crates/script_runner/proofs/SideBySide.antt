-- Lists that are compared item by item.
use Rattle.std.proofs.Common.{List, [], ◌∷◌, All}
use Rattle.std.specs.List.{AllZip}
use Rattle.std.proofs.lemmas.List.Elements.{All-nil, All-cons, All-head, All-tail}

-- what follows from a relation
pub zip-weaker : {A B : Type 0} (R S : A → B → Type 0) → ((a : A) (b : B) → R a b → S a b) →
    (xs : List A) (ys : List B) → AllZip R xs ys → AllZip S xs ys
zip-weaker R S so [] [] each = tt
zip-weaker R S so (a ∷ xs) (b ∷ ys) each = (so a b each.0, zip-weaker R S so xs ys each.1)
zip-weaker R S so xs ys each = absurd each

-- one relation after another
pub zip-then : {A B C : Type 0} (R : A → B → Type 0) (S : B → C → Type 0) (T : A → C → Type 0) →
    ((a : A) (b : B) (c : C) → R a b → S b c → T a c) → (xs : List A) (ys : List B) (zs : List C) →
    AllZip R xs ys → AllZip S ys zs → AllZip T xs zs
zip-then R S T so [] [] [] first later = tt
zip-then R S T so (a ∷ xs) (b ∷ ys) (c ∷ zs) first later =
    (so a b c first.0 later.0, zip-then R S T so xs ys zs first.1 later.1)
zip-then R S T so [] (b ∷ ys) zs first later = absurd first
zip-then R S T so (a ∷ xs) [] zs first later = absurd first
zip-then R S T so xs ys zs first later = absurd later

-- what holds of the ones, carried over to the others
pub zip-all : {A B : Type 0} (R : A → B → Type 0) (P : A → Type 0) (Q : B → Type 0) →
    ((a : A) (b : B) → R a b → P a → Q b) → (xs : List A) (ys : List B) → AllZip R xs ys →
    All P xs → All Q ys
zip-all R P Q so [] [] each all = All-nil Q
zip-all R P Q so (a ∷ xs) (b ∷ ys) each all = All-cons Q b ys (so a b each.0 (All-head P a xs all))
    (zip-all R P Q so xs ys each.1 (All-tail P a xs all))
zip-all R P Q so xs ys each all = absurd each
