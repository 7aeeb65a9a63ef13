-- A key that grows part by part, and what is to be said of the record at a place.
use Rattle.std.proofs.lemmas.Grind.{common_steps}
use Rattle.std.proofs.Common.{◌≡◌, ℕ, ◌+◌, ◌<◌, ◌≤◌, Bool, List, [], ◌∷◌, ◌++◌, length, Option, Some, None, refl, sym, ◌∙◌, ap, arith, append_assoc, ◌-◌, suc, drop, get_or, map, add-one}
use Rattle.std.proofs.Math.Seq.{drop-cons}
use Rattle.std.proofs.lemmas.List.{append-nil, drop_all, length-map}
use Rattle.std.specs.Option.{option_map}
use Rattle.mq_model.specs.Record.{Record, Past, first, record_at}
use Rattle.mq_model.proofs.Prefixes.{first-all, record_at-of_first}
use Rattle.mq_model.specs.Descriptors.{numbers_from}
use Rattle.mq_equivalence.proofs.Codes.{length-numbers}
use Rattle.mq_equivalence.proofs.Effects.{prio-is}
use Rattle.mq_equivalence.proofs.Falling.{map-lined}
use Rattle.mq_equivalence.specs.Key.{codes, listed, number}
use Rattle.mq_equivalence.specs.Kinds.{in_order, kind_code, place_code, standing}
use Rattle.mq_equivalence.specs.Views.{at, lined, prio_of, sent}
use Rattle.mq_equivalence.specs.declared.standing.Kind.{Kind}
use Rattle.mq_equivalence.specs.declared.standing.Kind.TheVariants.{Messages}
use Rattle.mq_model.proofs.Records.{record_at-past}

pub codes-drop : (code : ℕ → List ℕ) (xs : List ℕ) (i : ℕ) → i < length xs →
    codes code (drop i xs) ≡ code (get_or xs i 0) ++ codes code (drop (i + 1) xs)
codes-drop code xs i lt = ap (λ (ys : List ℕ). codes code ys) (drop-cons xs i 0 lt) ∙
    ap (λ (j : ℕ). code (get_or xs i 0) ++ codes code (drop j xs)) (sym (add-one i))

pub ruleset appends = (append_assoc, first-all, codes-drop)

codes-map : {X Y : Type 0} (code : Y → List ℕ) (f : X → Y) (xs : List X) →
    codes code (map f xs) ≡ codes (λ (x : X). code (f x)) xs
codes-map code f [] = refl
codes-map code f (x ∷ xs) = ap (λ (ns : List ℕ). code (f x) ++ ns) (codes-map code f xs)

pub listed-map : {X Y : Type 0} (code : Y → List ℕ) (f : X → Y) (xs : List X) →
    listed code (map f xs) ≡ length xs ∷ codes (λ (x : X). code (f x)) xs
listed-map code f xs = rw (length-map xs f, codes-map code f xs) refl

-- messages in line are the places in line
lined-places : (past : Past) (ks : List ℕ) → lined prio_of (map (at sent past) ks) ≡
    map (at sent past) (in_order Messages past ks)
lined-places past ks = sym (map-lined prio_of (at sent past) ks) ∙
    (λ i. map (at sent past) (lined (λ k. prio-is past k i) ks))

kind-places : (received : Bool) (kind : Kind) (past : Past) (q : ℕ) →
    kind_code received kind past q ≡ length (in_order kind past (standing kind past q)) ∷
    codes (place_code received kind past) (in_order kind past (standing kind past q))
kind-places received kind past q = grind (arith, lined-places, listed-map, length-map, codes-map)

pub kind-done : (received : Bool) (kind : Kind) (past : Past) (q : ℕ) (xs : List ℕ) →
    xs ≡ in_order kind past (standing kind past q) → listed (place_code received kind past) xs ≡
    kind_code received kind past q
kind-done received kind past q xs is = ap (λ (ks : List ℕ). listed (place_code received kind past)
    ks) is ∙ sym (kind-places received kind past q)

numbers-more : (d n : ℕ) → d < n → numbers_from d (n - d) ≡ d ∷ numbers_from (d + 1) (n - (d + 1))
numbers-more d n lt = let less : n - d ≡ suc (n - (d + 1)) = omega arith in rw less refl

pub codes-numbers : (code : ℕ → List ℕ) (d n : ℕ) → d < n → codes code (numbers_from d (n - d)) ≡
    code d ++ codes code (numbers_from (d + 1) (n - (d + 1)))
codes-numbers code d n lt = ap (λ (ks : List ℕ). codes code ks) (numbers-more d n lt)

-- one more part of a key
pub code-more : (key new part rest whole all : List ℕ) → key ++ whole ≡ all → whole ≡ part ++ rest →
    new ≡ key ++ part → new ++ rest ≡ all
code-more key new part rest whole all before is more = rw more (append_assoc key part rest ∙
    ap (λ (ns : List ℕ). key ++ ns) (sym is) ∙ before)

pub numbered-done : (code : ℕ → List ℕ) (key begun old : List ℕ) (n m : ℕ) →
    key ++ codes code (numbers_from m (n - m)) ≡ begun ++ codes code (numbers_from 0 n) → n ≤ m →
    begun ≡ old ++ number n →
    key ≡ old ++ listed code (numbers_from 0 n)
numbered-done code key begun old n m is le first =
    grind (arith, common_steps, append-nil, length-numbers)

pub items-done : (code : ℕ → List ℕ) (key begun old xs : List ℕ) (i n : ℕ) →
    key ++ codes code (drop i xs) ≡ begun ++ codes code xs → length xs ≤ i →
    begun ≡ old ++ number n → n ≡ length xs → key ≡ old ++ listed code xs
items-done code key begun old xs i n is le first count =
    grind (arith, common_steps, drop_all, append-nil)

-- a fact about the record at a place, if there is one and if there is none
pub at-beyond : {X : Type 0} (f : Record → X) (past : Past) (place : ℕ) → length past ≤ place →
    at f past place ≡ None
at-beyond f past place le = ap (λ (o : Option Record). option_map f o)
    (record_at-past past place le)

pub at-here : {X : Type 0} (f : Record → X) (past : Past) (place : ℕ) (r : Record) →
    first (place + 1) past ≡ r ∷ first place past → place < length past →
    at f past place ≡ Some (f r)
at-here f past place r is lt =
    let all : first (length past) past ≡ past = first-all past (length past) refl in
    let found : record_at (first (length past) past) place ≡ Some r = record_at-of_first past
    (length past) place r is lt (omega arith) in
    ap (λ (p : Past). option_map f (record_at p place)) (sym all) ∙
    ap (λ (o : Option Record). option_map f o) found
