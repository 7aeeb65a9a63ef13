-- Lists that are written or filtered item by item.
use Rattle.std.proofs.lemmas.Grind.{common_steps}
use Rattle.std.proofs.Common.{◌≡◌, ℕ, suc, ◌+◌, ◌-◌, ◌<◌, Bool, List, [], ◌∷◌, ◌++◌, length, get_or, drop, map, take, if◌then◌else◌, refl, sym, ◌∙◌, ap, arith, append_assoc, add-one}
use Rattle.std.proofs.Math.Seq.{drop-cons}
use Rattle.std.proofs.lemmas.List.{append-nil, drop_all, length-map, length-take-le, map-append, take_more}
use Rattle.std.specs.List.{filter}
use Rattle.mq_model.specs.Descriptors.{numbers_from}
use Rattle.journal_views.specs.State.{between, joined}
use Rattle.journal_views.specs.declared.form.Form.{Form}
use Rattle.journal_views.specs.declared.form.Form.TheVariants.{Text, Json}

pub filter-drop : (t : ℕ → Bool) (xs : List ℕ) (i : ℕ) → i < length xs →
    filter t (drop i xs) ≡ (if t (get_or xs i 0) then get_or xs i 0 ∷ filter t (drop (i + 1) xs)
    else filter t (drop (i + 1) xs))
filter-drop t xs i lt = ap (filter t) (drop-cons xs i 0 lt) ∙
    ap (λ (j : ℕ). if t (get_or xs i 0) then get_or xs i 0 ∷ filter t (drop j xs) else filter t
    (drop j xs)) (sym (add-one i))

pub filter-numbers : (t : ℕ → Bool) (d n : ℕ) → d < n →
    filter t (numbers_from d (n - d)) ≡
    (if t d then d ∷ filter t (numbers_from (d + 1) (n - (d + 1))) else filter t
    (numbers_from (d + 1) (n - (d + 1))))
filter-numbers t d n lt = let less : n - d ≡ suc (n - (d + 1)) = omega arith in rw less refl

pub ruleset lists = (append_assoc, append-nil, drop_all, filter-drop, filter-numbers)

-- what is appended to what was written
pub behind : (old a rest now new : List ℕ) → now ≡ old ++ a → new ≡ now ++ rest →
    new ≡ old ++ (a ++ rest)
behind old a rest now new first last = last ∙ ap (λ t. t ++ rest) first ∙ append_assoc old a rest

-- the parts of a list, as they are written one after the other
joined-more : (form : Form) (parts : List (List ℕ)) (part : List ℕ) →
    joined form (parts ++ part ∷ []) ≡ joined form parts ++ (between form (length parts) ++ part)
joined-more Text [] part = append-nil part
joined-more Json [] part = refl
joined-more Text (x ∷ parts) part = grind (arith, common_steps, joined-more Text parts part)
joined-more Json (x ∷ []) part = refl
joined-more Json (x ∷ y ∷ parts) part =
    ap (λ t. x ++ (44 ∷ t)) (joined-more Json (y ∷ parts) part) ∙
    sym (append_assoc x (44 ∷ joined Json (y ∷ parts)) (44 ∷ part))

pub list-more : (form : Form) (f : ℕ → List ℕ) (xs old now next new : List ℕ) (i : ℕ) →
    i < length xs → now ≡ old ++ joined form (map f (take i xs)) → next ≡ now ++ between form i →
    new ≡ next ++ f (get_or xs i 0) →
    new ≡ old ++ joined form (map f (take (i + 1) xs))
list-more form f xs old now next new i lt before next_is new_is =
    grind (arith, common_steps, length-map, length-take-le, take_more, map-append, joined-more)
