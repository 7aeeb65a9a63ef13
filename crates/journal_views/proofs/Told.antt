-- What entries add to the facts about queues and processes.
use Rattle.std.proofs.Common.{◌≡◌, ◌≤◌, ◌<◌, ◌+◌, ◌-◌, ◌++◌, ◌∙◌, ℕ, zero, suc, Bool, true, false, List, [], ◌∷◌, length, Option, Some, None, if◌then◌else◌, refl, sym, ap, arith, append_assoc, eq-eqb}
use Rattle.std.specs.List.{filter}
use Rattle.std.proofs.lemmas.List.{append-nil}
use Rattle.mq_model.specs.Record.{Record, Past, first}
use Rattle.mq_model.specs.Threads.{shares}
use Rattle.mq_model.specs.Descriptors.{numbers_from}
use Rattle.mq_model.specs.Notices.{value_notified, value_of_notify}
use Rattle.mq_model.proofs.Places.{split}
use Rattle.mq_model.proofs.Prefixes.{length-first, record_at-of_first}
use Rattle.mq_model.proofs.Records.{record_at-past}
use Rattle.journal_views.specs.State.{at}
use Rattle.journal_views.proofs.Follows.{record-here}

-- the values of notices ---------------------------------------------------------------------------

pub value-none : (past : Past) (k p m : ℕ) (place : Option ℕ) → place ≡ Some m → k ≤ m →
    k ≤ length past → None ≡ value_notified (first k past) p place
value-none past k p m place is le within = grind (arith, length-first, record_at-past)

pub value-mine : (past : Past) (k p m : ℕ) (r : Record) (place : Option ℕ) (v : Option ℕ) →
    place ≡ Some m → first (m + 1) past ≡ r ∷ first m past → m < k → k ≤ length past →
    shares r.entry.process p ≡ true →
    v ≡ value_of_notify r.entry.call → v ≡ value_notified (first k past) p place
value-mine past k p m r place v is here lt le mine value = grind (arith, record_at-of_first, eq-eqb)

pub value-other : (past : Past) (k p m : ℕ) (r : Record) (place : Option ℕ) → place ≡ Some m →
    first (m + 1) past ≡ r ∷ first m past → m < k → k ≤ length past →
    shares r.entry.process p ≡ false →
    None ≡ value_notified (first k past) p place
value-other past k p m r place is here lt le other = grind (arith, record_at-of_first)

-- numbers that pass a test ------------------------------------------------------------------------

pub filter-more : (t : ℕ → Bool) (p n : ℕ) (old new all : List ℕ) (b : Bool) → p < n →
    old ++ filter t (numbers_from p (n - p)) ≡ all → b ≡ t p →
    new ≡ old ++ (if b then p ∷ [] else []) →
    new ++ filter t (numbers_from (p + 1) (n - (p + 1))) ≡ all
filter-more t p n old new all b lt before is more =
    let less : n - p ≡ suc (n - (p + 1)) = omega arith in
    let rest = filter t (numbers_from (p + 1) (n - (p + 1))) in
    let step : filter t (numbers_from p (n - p)) ≡ (if b then p ∷ [] else []) ++ rest = split (t p)
    (λ y. let b_is : b ≡ true = is ∙ y in rw (less, b_is, y) refl)
    (λ z. let b_is : b ≡ false = is ∙ z in rw (less, b_is, z) refl) in
    ap (λ (xs : List ℕ). xs ++ rest) more ∙ append_assoc old (if b then p ∷ [] else []) rest ∙
    ap (λ (xs : List ℕ). old ++ xs) (sym step) ∙ before

pub filter-done : (t : ℕ → Bool) (p n : ℕ) (found all : List ℕ) →
    found ++ filter t (numbers_from p (n - p)) ≡ all → n ≤ p → found ≡ all
filter-done t p n found all before le = grind (arith, append-nil)

-- what is written of the record at a place --------------------------------------------------------

pub at-beyond : (written : ℕ → Record → List ℕ) (past : Past) (place : ℕ) → length past ≤ place →
    at written past place ≡ []
at-beyond written past place le = let none = record_at-past past place le in rw none refl

pub at-here : (written : ℕ → Record → List ℕ) (past : Past) (place : ℕ) (r : Record) →
    first (place + 1) past ≡ r ∷ first place past → place < length past →
    at written past place ≡ written place r
at-here written past place r is lt = let found = record-here past place r is lt in rw found refl

filter-none : (t : ℕ → Bool) (low n : ℕ) → ((p : ℕ) → low ≤ p → p < low + n → t p ≡ false) →
    filter t (numbers_from low n) ≡ []
filter-none t low zero none = refl
filter-none t low (suc n) none = rw (none low (omega arith) (omega arith))
    (filter-none t (low + 1) n (λ p le lt. none p (omega (arith, le)) (omega (arith, lt))))

filter-beyond : (t : ℕ → Bool) (low n more : ℕ) →
    ((p : ℕ) → low + n ≤ p → p < low + (n + more) → t p ≡ false) →
    filter t (numbers_from low n) ≡ filter t (numbers_from low (n + more))
filter-beyond t low zero more none =
    sym (filter-none t low more (λ p le lt. none p (omega (arith, le)) (omega (arith, lt)))) ∙
    ap (λ k. filter t (numbers_from low k)) (let e : more ≡ 0 + more = omega arith in e)
filter-beyond t low (suc n) more none =
    let rest = filter-beyond t (low + 1) n more (λ p le lt. none p (omega (arith, le))
    (omega (arith, lt))) in
    let step : filter t (numbers_from low (suc n)) ≡ filter t (numbers_from low (suc (n + more))) =
    split (t low) (λ y. rw (y, rest) refl) (λ z. rw (z, rest) refl) in
    step ∙ ap (λ k. filter t (numbers_from low k)) (let e : suc (n + more) ≡
    suc n + more = omega arith in e)

-- the numbers that pass are those up to the last that does
pub filter-upto : (t : ℕ → Bool) (last n : ℕ) → last ≤ n →
    ((p : ℕ) → last < p → p ≤ n → t p ≡ false) → filter t (numbers_from 1 (last + 1 - 1)) ≡
    filter t (numbers_from 1 n)
filter-upto t last n le none =
    let own : last + 1 - 1 ≡ last = omega arith in
    let all : last + (n - last) ≡ n = omega (arith, le) in
    ap (λ k. filter t (numbers_from 1 k)) own
    ∙ filter-beyond t 1 last (n - last) (λ p above below. none p (omega (arith, above))
    (omega (arith, below, le)))
    ∙ ap (λ k. filter t (numbers_from 1 k)) all
