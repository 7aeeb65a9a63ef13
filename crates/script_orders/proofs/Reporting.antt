-- The text of a report can be read back.
use Rattle.std.proofs.lemmas.Bool.Decides.{nat_tests}
use Rattle.std.proofs.lemmas.Grind.{common_steps}
use Rattle.std.proofs.Common.{arith, ◌≡◌, ◌<◌, ◌≤◌, ◌+◌, ◌^◌, ◌⊎◌, ◌==◌, ℕ, zero, suc, Bool, true, List, [], ◌∷◌, ◌++◌, codes, length, inl, inr, refl, sym, ◌∙◌, ap, subst, append_assoc, append-nil, if◌then◌else◌, count_by}
use Rattle.std.specs.Fmt.{decimal}
use Rattle.std.specs.List.{All}
use Rattle.std.specs.Str.Parse.{AllDigits, digits_value}
use Rattle.std.proofs.lemmas.Bool.{cases_Bool, cases_lt}
use Rattle.std.proofs.lemmas.List.Sums.{count_by-le-length}
use Rattle.std.proofs.lemmas.Fmt.{decimal_is_IsNumeral_wide}
use Rattle.std.proofs.lemmas.Str.Parse.{digit_from_value}
use Rattle.schedules.specs.declared.outcomes.Witnessed.{Witnessed}
use Rattle.script_orders.specs.Readback.{ArePlain, CanBeReadBack, Reported, TellsTheSame, is_mark, is_plain, reported}
use Rattle.script_orders.specs.Report.{end_text, entries_text, head_text, is_deadlock_of, is_outcome_of, phase_text, phases_text, report_text}

-- ---- lines

abbrev NoFeed : List ℕ → Type 0
NoFeed [] = Unit {0}
NoFeed (b ∷ bytes) = ((b ≡ 10) → ⊥) × NoFeed bytes

no_feed-append : (a b : List ℕ) → NoFeed a → NoFeed b → NoFeed (a ++ b)
no_feed-append [] b first second = second
no_feed-append (x ∷ a) b first second = (first.0, no_feed-append a b first.1 second)

head-is : (x y : ℕ) (xs ys : List ℕ) → x ∷ xs ≡ y ∷ ys → x ≡ y
head-is x y xs ys same = cc

tail-is : (x y : ℕ) (xs ys : List ℕ) → x ∷ xs ≡ y ∷ ys → xs ≡ ys
tail-is x y xs ys same = cc

both-are : (x y : ℕ) (xs ys : List ℕ) → x ≡ y → xs ≡ ys → x ∷ xs ≡ y ∷ ys
both-are x y xs ys one other = cc

-- two texts that are the same have the same first line
cut : (a b x y : List ℕ) → NoFeed a → NoFeed b → a ++ 10 ∷ x ≡ b ++ 10 ∷ y → (a ≡ b) × (x ≡ y)
cut [] [] x y first second same = (refl, tail-is 10 10 x y same)
cut [] (d ∷ b) x y first second same = absurd (second.0 (sym (head-is 10 d x (b ++ 10 ∷ y) same)))
cut (c ∷ a) [] x y first second same = absurd (first.0 (head-is c 10 (a ++ 10 ∷ x) y same))
cut (c ∷ a) (d ∷ b) x y first second same = grind (
  arith,
  tail-is,
  both-are,
  head-is,
  cut a b x y first.1 second.1 (tail-is c d (a ++ 10 ∷ x) (b ++ 10 ∷ y) same),
)

-- ---- numbers

digits-no_feed : (w : List ℕ) → AllDigits 10 w → NoFeed w
digits-no_feed [] all = tt
digits-no_feed (c ∷ w) all = grind (arith, digit_from_value, digits-no_feed w all.1)

decimal-no_feed : (n : ℕ) → n < 10 ^ 64 → NoFeed (decimal n)
decimal-no_feed n low = digits-no_feed (decimal n) (decimal_is_IsNumeral_wide n low).0.1

decimal-one : (n m : ℕ) → n < 10 ^ 64 → m < 10 ^ 64 → decimal n ≡ decimal m → n ≡ m
decimal-one n m low below same =
    sym (decimal_is_IsNumeral_wide n low).1 ∙ ap (λ w. digits_value 10 w) same ∙
    (decimal_is_IsNumeral_wide m below).1

-- ---- texts

abbrev Marked : List ℕ → Type 0
Marked [] = ⊥
Marked (b ∷ bytes) = is_mark b ≡ true

plain-more : (s : Bool) (b : ℕ) (bytes : List ℕ) → is_plain s (b ∷ bytes) ≡ true →
    is_plain (b == 10) bytes ≡ true
plain-more s b bytes plain = grind (arith, cases_Bool)

-- a text ends where a line begins with a mark
ends-here : (s : Bool) (c : ℕ) (u x y : List ℕ) → is_plain s [] ≡ true → is_plain s (c ∷ u) ≡ true →
    Marked x → x ≡ c ∷ (u ++ y) → ⊥
ends-here s c u x y ended plain marked same = grind (arith, head-is)

texts : (s : Bool) (t u x y : List ℕ) → is_plain s t ≡ true → is_plain s u ≡ true → Marked x →
    Marked y → t ++ x ≡ u ++ y → (t ≡ u) × (x ≡ y)
texts s [] [] x y one other first second same = (refl, same)
texts s [] (d ∷ u) x y one other first second same =
    absurd (ends-here s d u x y one other first same)
texts s (c ∷ t) [] x y one other first second same =
    absurd (ends-here s c t y x other one second (sym same))
texts s (c ∷ t) (d ∷ u) x y one other first second same =
    let head = head-is c d (t ++ x) (u ++ y) same in
    let more : is_plain (c == 10) u ≡ true = subst (λ k. is_plain (k == 10) u ≡ true) (sym head)
    (plain-more s d u other) in
    let rest = texts (c == 10) t u x y (plain-more s c t one) more first second
    (tail-is c d (t ++ x) (u ++ y) same) in
    (both-are c d t u head rest.0, rest.1)

-- ---- the outcomes of a phase

abbrev word_of : Bool → List ℕ
word_of stuck = if stuck then codes "deadlock " else codes "outcome "

word-no_feed : (stuck : Bool) → NoFeed (word_of stuck)
word-no_feed stuck = grind arith

drop-same : (w a b : List ℕ) → w ++ a ≡ w ++ b → a ≡ b
drop-same [] a b same = same
drop-same (x ∷ w) a b same = drop-same w a b (tail-is x x (w ++ a) (w ++ b) same)

words : (one other : Bool) (a b : List ℕ) → word_of one ++ a ≡ word_of other ++ b →
    (one ≡ other) × (a ≡ b)
words one other a b same = grind (arith, drop-same)

abbrev entry_of : Reported → List ℕ
entry_of r = (word_of r.stuck ++ (decimal r.number ++ 10 ∷ [])) ++ r.text

abbrev entries_of : List Reported → List ℕ
entries_of [] = []
entries_of (r ∷ rs) = entry_of r ++ entries_of rs

entries-of : (phase before : ℕ) (found : List Witnessed) →
    entries_text phase before found ≡ entries_of (reported phase before found)
entries-of phase before [] = refl
entries-of phase before (one ∷ found) =
    grind (arith, cases_Bool, entries-of phase (before + 1) found)

abbrev Fits : List Reported → Type 0
Fits [] = Unit {0}
Fits (r ∷ rs) = (r.number < 10 ^ 64) × (is_plain true r.text ≡ true) × Fits rs

first-plain : (one : Witnessed) (found : List Witnessed) →
    All (λ one. is_plain true one.outcome.text.items ≡ true) (one ∷ found) →
    is_plain true one.outcome.text.items ≡ true
first-plain one found all = all 0 one (omega arith)

others-plain : (one : Witnessed) (found : List Witnessed) →
    All (λ one. is_plain true one.outcome.text.items ≡ true) (one ∷ found) →
    All (λ one. is_plain true one.outcome.text.items ≡ true) found
others-plain one found all = λ k d below. all (suc k) d (omega (arith, below))

fits : (phase before : ℕ) (found : List Witnessed) → before + length found < 2 ^ 64 →
    All (λ one. is_plain true one.outcome.text.items ≡ true) found →
    Fits (reported phase before found)
fits phase before [] low all = tt
fits phase before (one ∷ found) low all =
    let rest = fits phase (before + 1) found (omega (arith, low)) (others-plain one found all) in
    elim (cases_Bool (one.outcome.stage == phase)) [
      | inl here ↦ rw here (omega (arith, low), first-plain one found all, rest)
      | inr other ↦ rw other rest
    ]

-- what follows the outcomes of a phase: another phase or the last line
abbrev Ends : List ℕ → Type 0
Ends [] = ⊥
Ends (b ∷ bytes) = (b ≡ 112) ⊎ ((b ≡ 101) ⊎ (b ≡ 116))

ends-marked : (x : List ℕ) → Ends x → Marked x
ends-marked x end = grind arith

-- an entry with what follows it
after-entry : (r : Reported) (x : List ℕ) →
    entry_of r ++ x ≡ (word_of r.stuck ++ decimal r.number) ++ 10 ∷ (r.text ++ x)
after-entry r x = grind (arith, common_steps)

entries-marked : (rs : List Reported) (x : List ℕ) → Ends x → Marked (entries_of rs ++ x)
entries-marked [] x end = ends-marked x end
entries-marked (r ∷ rs) x end = grind (arith, after-entry)

same-reported : (one other : Reported) → one.number ≡ other.number → one.stuck ≡ other.stuck →
    one.text ≡ other.text → one ≡ other
same-reported one other number stuck text = grind arith

same-cons : (r s : Reported) (rs ss : List Reported) → r ≡ s → rs ≡ ss → r ∷ rs ≡ s ∷ ss
same-cons r s rs ss one other = cc

one-more : (r : Reported) (rs : List Reported) (x : List ℕ) →
    entries_of (r ∷ rs) ++ x ≡ (word_of r.stuck ++ decimal r.number) ++ 10 ∷
    (r.text ++ (entries_of rs ++ x))
one-more r rs x = append_assoc (entry_of r) (entries_of rs) x ∙ after-entry r (entries_of rs ++ x)

none-more : (r : Reported) (rs : List Reported) (x y : List ℕ) → Ends x →
    x ≡ entries_of (r ∷ rs) ++ y → ⊥
none-more r rs x y end same = grind (arith, one-more)

entries : (rs ss : List Reported) (x y : List ℕ) → Fits rs → Fits ss → Ends x → Ends y →
    entries_of rs ++ x ≡ entries_of ss ++ y → (rs ≡ ss) × (x ≡ y)
entries [] [] x y one other first second same = (refl, same)
entries [] (s ∷ ss) x y one other first second same = absurd (none-more s ss x y first same)
entries (r ∷ rs) [] x y one other first second same = absurd (none-more r rs y x second (sym same))
entries (r ∷ rs) (s ∷ ss) x y one other first second same =
    let line = cut (word_of r.stuck ++ decimal r.number) (word_of s.stuck ++ decimal s.number) _ _
    (no_feed-append (word_of r.stuck) (decimal r.number) (word-no_feed r.stuck)
    (decimal-no_feed r.number one.0))
    (no_feed-append (word_of s.stuck) (decimal s.number) (word-no_feed s.stuck)
    (decimal-no_feed s.number other.0))
    (sym (one-more r rs x) ∙ same ∙ one-more s ss y) in
    let head = words r.stuck s.stuck (decimal r.number) (decimal s.number) line.0 in
    let text = texts true r.text s.text (entries_of rs ++ x) (entries_of ss ++ y) one.1 other.1
    (entries-marked rs x first) (entries-marked ss y second) line.1 in
    let rest = entries rs ss x y one.2 other.2 first second text.1 in (
      same-cons r s rs ss (same-reported r s (decimal-one r.number s.number one.0 other.0 head.1)
          head.0 text.0) rest.0,
      rest.1,
    )

-- ---- phases

abbrev line_of : List Witnessed → ℕ → List ℕ
line_of found phase =
    codes "phase "
    ++ (decimal (phase + 1)
    ++ (codes ": outcomes "
    ++ (decimal (count_by (is_outcome_of phase) found)
    ++ (codes ", deadlocks " ++ decimal (count_by (is_deadlock_of phase) found)))))

line-no_feed : (found : List Witnessed) (phase : ℕ) → phase < 2 ^ 64 → length found < 2 ^ 63 →
    NoFeed (line_of found phase)
line-no_feed found phase low short = grind (
  arith,
  count_by-le-length,
  no_feed-append,
  decimal-no_feed,
)

after-line : (found : List Witnessed) (phase : ℕ) (x : List ℕ) →
    phase_text found phase ++ x ≡ line_of found phase ++ 10 ∷
    (entries_of (reported phase 0 found) ++ x)
after-line found phase x =
    let o = decimal (count_by (is_outcome_of phase) found) in
    let d = decimal (count_by (is_deadlock_of phase) found) in
    let n = decimal (phase + 1) in
    let es = entries_text phase 0 found in
    append_assoc (head_text found phase) es x
    ∙ append_assoc (codes "phase ")
    (n ++ (codes ": outcomes " ++ (o ++ (codes ", deadlocks " ++ (d ++ 10 ∷ []))))) (es ++ x)
    ∙ ap (λ t. codes "phase " ++ t)
    (append_assoc n (codes ": outcomes " ++ (o ++ (codes ", deadlocks " ++ (d ++ 10 ∷ []))))
    (es ++ x))
    ∙ ap (λ t. codes "phase " ++ (n ++ t)) (append_assoc (codes ": outcomes ")
    (o ++ (codes ", deadlocks " ++ (d ++ 10 ∷ []))) (es ++ x))
    ∙ ap (λ t. codes "phase " ++ (n ++ (codes ": outcomes " ++ t)))
    (append_assoc o (codes ", deadlocks " ++ (d ++ 10 ∷ [])) (es ++ x))
    ∙ ap (λ t. codes "phase " ++ (n ++ (codes ": outcomes " ++ (o ++ t))))
    (append_assoc (codes ", deadlocks ") (d ++ 10 ∷ []) (es ++ x))
    ∙ ap (λ t. codes "phase " ++ (n ++ (codes ": outcomes " ++ (o ++ (codes ", deadlocks " ++ t)))))
    (append_assoc d (10 ∷ []) (es ++ x))
    ∙ sym (ap (λ t. codes "phase " ++ (n ++ (codes ": outcomes " ++ (o ++ t))))
    (append_assoc (codes ", deadlocks ") d (10 ∷ (es ++ x))))
    ∙ sym (ap (λ t. codes "phase " ++ (n ++ (codes ": outcomes " ++ t)))
    (append_assoc o (codes ", deadlocks " ++ d) (10 ∷ (es ++ x))))
    ∙ sym (ap (λ t. codes "phase " ++ (n ++ t)) (append_assoc (codes ": outcomes ")
    (o ++ (codes ", deadlocks " ++ d)) (10 ∷ (es ++ x))))
    ∙ sym (ap (λ t. codes "phase " ++ t)
    (append_assoc n (codes ": outcomes " ++ (o ++ (codes ", deadlocks " ++ d)))
    (10 ∷ (es ++ x))))
    ∙ sym (append_assoc (codes "phase ")
    (n ++ (codes ": outcomes " ++ (o ++ (codes ", deadlocks " ++ d)))) (10 ∷ (es ++ x)))
    ∙ ap (λ t. line_of found phase ++ 10 ∷ (t ++ x)) (entries-of phase 0 found)

phase : (found others : List Witnessed) (n : ℕ) (x y : List ℕ) → n < 2 ^ 64 → ArePlain found →
    ArePlain others → Ends x → Ends y →
    phase_text found n ++ x ≡ phase_text others n ++ y →
    (reported n 0 others ≡ reported n 0 found) × (x ≡ y)
phase found others n x y low one other first second same =
    let line = cut (line_of found n) (line_of others n) _ _ (line-no_feed found n low one.0)
    (line-no_feed others n low other.0)
    (sym (after-line found n x) ∙ same ∙ after-line others n y) in
    let both = entries (reported n 0 found) (reported n 0 others) x y
    (fits n 0 found (omega (arith, one.0)) one.1) (fits n 0 others (omega (arith, other.0))
    other.1) first second line.1 in
    (sym both.0, both.1)

phase-ends : (found : List Witnessed) (n : ℕ) (x : List ℕ) → Ends (phase_text found n ++ x)
phase-ends found n x = inl refl

phases : (found others : List Witnessed) (n : ℕ) (x y : List ℕ) → n < 2 ^ 64 → ArePlain found →
    ArePlain others → Ends x → Ends y →
    phases_text found n ++ x ≡ phases_text others n ++ y →
    ((k : ℕ) → k < n → reported k 0 others ≡ reported k 0 found) × (x ≡ y)
phases found others zero x y low one other first second same =
    (λ k below. absurd (omega (arith, below)), same)
phases found others (suc n) x y low one other first second same =
    let less : n < 2 ^ 64 = omega (arith, low) in
    let whole = sym (append_assoc (phases_text found n) (phase_text found n) x) ∙ same ∙
    append_assoc (phases_text others n) (phase_text others n) y in
    let before = phases found others n (phase_text found n ++ x) (phase_text others n ++ y) less one
    other (phase-ends found n x) (phase-ends others n y) whole in
    let last = phase found others n x y less one other first second before.1 in
    grind (arith, nat_tests, cases_lt)

-- ---- how many phases

abbrev IsPhase : List ℕ → Type 0
IsPhase [] = ⊥
IsPhase (b ∷ bytes) = b ≡ 112

phase-on : (rest : List ℕ) (found : List Witnessed) (n : ℕ) → (rest ≡ []) ⊎ IsPhase rest →
    IsPhase (rest ++ phase_text found n)
phase-on rest found n is = grind arith

record More (found : List Witnessed) (m n : ℕ) : Type 0 where
  rest : List ℕ
  whole : phases_text found n ≡ phases_text found m ++ rest
  is : ((m ≡ n) × (rest ≡ [])) ⊎ IsPhase rest

-- more phases begin with their line
more-phases : (found : List Witnessed) (m n : ℕ) → m ≤ n → More found m n
more-phases found m zero le = let is : m ≡ zero = omega (arith, le) in record {
  rest = [];
  whole = subst (λ k. phases_text found zero ≡ phases_text found k ++ []) (sym is) refl;
  is = inl (is, refl);
}
more-phases found m (suc n) le = elim (cases_lt m (suc n)) [
  | inl h ↦
      let before = more-phases found m n (omega (arith, h)) in
      let rest = before.rest in
      let empty : (rest ≡ []) ⊎ IsPhase rest = elim before.is [
        | inl both ↦ inl both.1
        | inr is ↦
            inr is
      ] in
      record {
        rest = rest ++ phase_text found n;
        whole = ap (λ t. t ++ phase_text found n) before.whole ∙ append_assoc (phases_text found m)
            rest (phase_text found n);
        is = inr (phase-on rest found n empty);
      }
  | inr h ↦
      let is : m ≡ suc n = omega (arith, h, le) in
      record {
        rest = [];
        whole = subst (λ k. phases_text found (suc n) ≡ phases_text found k ++ [])
            (sym is) (sym (append-nil (phases_text found (suc n))));
        is = inl (is, refl);
      }
]

end-ends : (complete : Bool) (steps states : ℕ) → Ends (end_text complete steps states)
end-ends complete steps states = grind arith

phase-no_end : (complete : Bool) (steps states : ℕ) (rest y : List ℕ) → IsPhase rest →
    end_text complete steps states ≡ rest ++ y → ⊥
phase-no_end complete steps states rest y is same = grind arith

rest-ends : (rest y : List ℕ) → IsPhase rest → Ends (rest ++ y)
rest-ends rest y is = grind arith

fewer : (m n : ℕ) (found others : List Witnessed) (complete whole : Bool)
    (steps other states kept : ℕ) → m < n → n < 2 ^ 64 → ArePlain found → ArePlain others →
    report_text m found complete steps states ≡ report_text n others whole other kept → ⊥
fewer m n found others complete whole steps other states kept less low one two same =
    let more = more-phases others m n (omega (arith, less)) in
    let is : IsPhase more.rest = elim more.is [
      | inl both ↦ absurd (omega (arith, both.0, less))
      | inr is ↦ is
    ] in
    let text = same ∙ ap (λ t. t ++ end_text whole other kept) more.whole ∙ append_assoc
    (phases_text others m) more.rest (end_text whole other kept) in
    let end = phases found others m (end_text complete steps states)
    (more.rest ++ end_text whole other kept) (omega (arith, less, low)) one two
    (end-ends complete steps states) (rest-ends more.rest (end_text whole other kept) is) text
    in
    phase-no_end complete steps states more.rest (end_text whole other kept) is end.1

end-one : (complete whole : Bool) (steps other states kept : ℕ) →
    end_text complete steps states ≡ end_text whole other kept → whole ≡ complete
end-one complete whole steps other states kept same = grind arith

as-many : (m n : ℕ) (found others : List Witnessed) (complete whole : Bool)
    (steps other states kept : ℕ) → n ≡ m → m < 2 ^ 64 → ArePlain found → ArePlain others →
    report_text m found complete steps states ≡ report_text n others whole other kept →
    TellsTheSame m n found others complete whole
as-many m n found others complete whole steps other states kept is low one two same =
    let text = same ∙ ap (λ k. phases_text others k ++ end_text whole other kept) is in
    let both = phases found others m (end_text complete steps states) (end_text whole other kept)
    low one two (end-ends complete steps states) (end-ends whole other kept) text in
    record {
      phases = is;
      each = both.0;
      complete = end-one complete whole steps other
          states kept both.1;
    }

pub can-be-read-back : CanBeReadBack
can-be-read-back m n found others complete whole steps other states kept low below one two same =
    elim (cases_lt m n) [
      | inl less ↦ absurd (fewer m n found others complete whole steps other states kept less
          below one two same)
      | inr most ↦ elim (cases_lt n m) [
        | inl less ↦ absurd (fewer n m others found whole complete other steps kept states less low
            two one (sym same))
        | inr least ↦ as-many m n found others complete whole steps other states kept
            (omega (arith, most, least)) low one two same
      ]
    ]
