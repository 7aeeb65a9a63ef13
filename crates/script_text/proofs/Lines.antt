-- The first line of a text.
use Rattle.std.proofs.Common.{◌≡◌, ◌+◌, ◌<◌, ◌≤◌, ℕ, Bool, ◌==◌, List, [], ◌∷◌, length, take, drop, refl, ap, inl, inr, arith, add-one, suc, Some, None, cond, ltb}
use Rattle.std.specs.List.{position, position_or_len}
use Rattle.std.proofs.lemmas.Bool.{cases_Bool, ltb-false}
use Rattle.std.proofs.lemmas.List.{take_all}
use Rattle.std.proofs.Math.ListN.{drop_of_length-le}
use Rattle.script_text.specs.Script.{lines_of, onto_first_line}

abbrev pub is_feed : ℕ → Bool
is_feed b = b == 10

-- a byte other than a line feed, before a text whose first line is known
onto : (b : ℕ) (xs : List ℕ) (n : ℕ) → lines_of xs ≡ take (suc n) xs ∷ lines_of (drop (suc n) xs) →
    onto_first_line b (lines_of xs) ≡ take (suc (1 + n)) (b ∷ xs) ∷
    lines_of (drop (suc (1 + n)) (b ∷ xs))
onto b xs n first = let more : 1 + n ≡ suc n = omega arith in rw more (ap (onto_first_line b) first)

-- the first line is the text up to its first line feed, which is included, or all of it
pub lines_of-first : (b : ℕ) (bs : List ℕ) →
    lines_of (b ∷ bs) ≡ take (suc (position_or_len is_feed (b ∷ bs))) (b ∷ bs) ∷
    lines_of (drop (suc (position_or_len is_feed (b ∷ bs))) (b ∷ bs))
lines_of-first b [] = elim (cases_Bool (is_feed b)) [ inl feed ↦ rw feed | inr other ↦ rw other ]
lines_of-first b (c ∷ cs) = grind (arith, cases_Bool, onto, lines_of-first c cs)

lines_of-at : (text : List ℕ) (n : ℕ) → 0 < length text → position_or_len is_feed text ≡ n →
    lines_of text ≡ take (suc n) text ∷ lines_of (drop (suc n) text)
lines_of-at text n some = grind (arith, lines_of-first)

place_none : (n m : ℕ) → cond (ltb n m) (Some n) None ≡ None → m ≤ n
place_none n m none = grind (arith, cases_Bool, ltb-false)

-- the first line, if a line feed is found, and if there is none
pub lines_of-found : (text : List ℕ) (at : ℕ) → position is_feed text ≡ Some at →
    lines_of text ≡ take (at + 1) text ∷ lines_of (drop (at + 1) text)
lines_of-found text at found = grind (arith, add-one, lines_of-at)

pub lines_of-none : (text : List ℕ) → 0 < length text → position is_feed text ≡ None →
    lines_of text ≡ text ∷ []
lines_of-none text some none =
    let past : length text ≤ suc (position_or_len is_feed text) =
    omega (arith, place_none (position_or_len is_feed text) (length text) none) in
    let all : take (suc (position_or_len is_feed text)) text ≡ text =
    take_all (suc (position_or_len is_feed text)) text past in
    let rest : drop (suc (position_or_len is_feed text)) text ≡ [] = drop_of_length-le text past in
    let first = lines_of-at text (position_or_len is_feed text) some refl in
    rw (all, rest) at first
