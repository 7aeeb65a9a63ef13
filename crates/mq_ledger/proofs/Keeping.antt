-- Which places the slots have, and what they have there.
use Rattle.std.proofs.Common.{◌≡◌, ◌≢◌, ℕ, ◌<◌, ◌≤◌, ◌+◌, ◌-◌, cond, ◌==◌, ◌⊎◌, inl, inr, true, false, List, [], ◌∷◌, ◌++◌, length, Some, None, slice_index_or, slice_set, is_none, refl, sym, ap, ◌∙◌, arith}
use Rattle.std.proofs.Math.ListN.{get_or-map}
use Rattle.std.proofs.lemmas.List.{get_or-set_same, get_or-set_other, get_or_past, get_or_append_left, get_or-append_right, length-set}
use Rattle.std.proofs.lemmas.List.Sums.{sum_by-set, sum_by-append}
use Rattle.std.proofs.lemmas.Bool.{cases_eq, cases_lt}
use Rattle.std.proofs.lemmas.Bool.Decides.{nat_tests}
use Rattle.std.specs.Option.{option_map}
use Rattle.std.specs.declared.option.Option.{Option}
use Rattle.mq_model.specs.Record.{Record, Past, record_at}
use Rattle.mq_model.specs.Messages.{priority_given}
use Rattle.mq_laws.specs.Needed.{home, home_of}
use Rattle.mq_ledger.specs.Kept.{Kept}
use Rattle.mq_ledger.specs.Keeping.{Says, AreTrue, places_of, vacant_in, HasMoreVacant, Forgets}
use Rattle.mq_ledger.specs.Seen.{HasPlace}

-- the slots have the entry at a place
abbrev pub Holds : List (Option Kept) → ℕ → Type 0
Holds slots k = (key : ℕ) × (x : Kept) × (slice_index_or slots key None ≡ Some x) × (x.place ≡ k)

inverted : (o : Option Kept) (k : ℕ) → option_map (λ x. x.place) o ≡ Some k →
    (x : Kept) × (o ≡ Some x) × (x.place ≡ k)
inverted o k e = grind arith

pub held : (slots : List (Option Kept)) (k : ℕ) → HasPlace (places_of slots) k → Holds slots k
held slots k h =
    let found = inverted (slice_index_or slots h.0 None) k
    (sym (get_or-map (option_map (λ (x : Kept). x.place)) slots h.0 None) ∙ h.1) in
    (h.0, found.0, found.1, found.2)

pub has_place : (slots : List (Option Kept)) (key k : ℕ) (x : Kept) →
    slice_index_or slots key None ≡ Some x → x.place ≡ k → HasPlace (places_of slots) k
has_place slots key k x there at = (
  key,
  get_or-map (option_map (λ (y : Kept). y.place)) slots key None ∙
      ap (option_map (λ (y : Kept). y.place)) there ∙ ap Some at,
)

-- a place with a payload is below the number of records
below : (past : Past) (k : ℕ) (bytes : List ℕ) → option_map (λ r. r.payload) (record_at past k) ≡
    Some bytes → k < length past
below [] k bytes e = absurd (cc)
below (s ∷ past) k bytes e = by (cases_eq k (length past)) (λ older. below past k bytes older)
  where
    by : (k ≡ length past) ⊎ (k ≡ length past → ⊥) →
        (option_map (λ r. r.payload) (record_at past k) ≡ Some bytes → k < length past) →
        k < length (s ∷ past)
    by (inl same) under = omega (arith, same)
    by (inr ne) under = let other : (k == length past) ≡ false = grind (arith, nat_tests) in
        let lt = under (rw other at e) in omega (arith, lt)

-- what was true of a slot is true after one more record
says-more : (past : Past) (r : Record) (x : Kept) → Says past x → Says (r ∷ past) x
says-more past r x says = grind (arith, below)

pub true-more : (past : Past) (r : Record) (slots : List (Option Kept)) → AreTrue past slots →
    AreTrue (r ∷ past) slots
true-more past r slots t key x there = says-more past r x (t key x there)

-- a slot that was vacant has that record
pub true-put : (past : Past) (r : Record) (slots : List (Option Kept)) (key : ℕ) (x : Kept) →
    AreTrue past slots → key < length slots →
    x.place ≡ length past → x.prio ≡ priority_given r.entry.call →
    x.home ≡ home_of past r r.entry.reply → x.bytes ≡ r.payload →
    AreTrue (r ∷ past) (slice_set slots key (Some x))
true-put past r slots key x t lt at prio lost bytes k y found = by (cases_eq k key)
  where
    by : (k ≡ key) ⊎ (k ≡ key → ⊥) → Says (r ∷ past) y
    by (inl e) =
        let one : Some y ≡ Some x = sym found ∙
        ap (λ (i : ℕ). slice_index_or (slice_set slots key (Some x)) i None) e ∙
        get_or-set_same slots key (Some x) None lt in let y_is : y ≡ x = cc in
        let here : (y.place == length past) ≡ true =
        rw y_is (let p = at in grind (arith, nat_tests)) in (
          rw here (ap Some (sym bytes ∙ ap (λ (z : Kept). z.bytes) (sym y_is))),
          rw here (sym prio ∙ ap (λ (z : Kept). z.prio) (sym y_is)),
          rw here (sym lost ∙ ap (λ (z : Kept). z.home) (sym y_is)),
        )
    by (inr ne) = says-more past r y (t k y (sym (get_or-set_other slots key k (Some x) None ne) ∙
        found))

pub has-put : (slots : List (Option Kept)) (key : ℕ) (x : Kept) → key < length slots →
    HasPlace (places_of (slice_set slots key (Some x))) x.place
has-put slots key x lt = has_place (slice_set slots key (Some x)) key x.place x
    (get_or-set_same slots key (Some x) None lt) refl

-- a slot is vacant
pub true-less : (past : Past) (slots : List (Option Kept)) (key : ℕ) → AreTrue past slots →
    key < length slots → AreTrue past (slice_set slots key None)
true-less past slots key t lt k y found = by (cases_eq k key)
  where
    by : (k ≡ key) ⊎ (k ≡ key → ⊥) → Says past y
    by (inl e) = let bad : None ≡ Some y = sym (get_or-set_same slots key None None lt) ∙
        ap (λ (i : ℕ). slice_index_or (slice_set slots key None) i None) (sym e) ∙ found in
        absurd (cc)
    by (inr ne) = t k y (sym (get_or-set_other slots key k None None ne) ∙ found)

-- a slot changes that had another place or none
pub keeps-set : (slots : List (Option Kept)) (key k : ℕ) (o : Option Kept) →
    ((x : Kept) → slice_index_or slots key None ≡ Some x → x.place ≢ k) →
    HasPlace (places_of slots) k → HasPlace (places_of (slice_set slots key o)) k
keeps-set slots key k o other has = let h = held slots k has in by h (cases_eq h.0 key)
  where
    by : (h : Holds slots k) → (h.0 ≡ key) ⊎ (h.0 ≡ key → ⊥) →
        HasPlace (places_of (slice_set slots key o)) k
    by h (inl e) = absurd (other h.1 (ap (λ (i : ℕ). slice_index_or slots i None) (sym e) ∙
        h.2) h.3)
    by h (inr ne) = has_place (slice_set slots key o) h.0 k h.1
        (get_or-set_other slots key h.0 o None ne ∙ h.2) h.3

pub keeps-put : (slots : List (Option Kept)) (key k : ℕ) (x : Kept) →
    slice_index_or slots key None ≡ None → HasPlace (places_of slots) k →
    HasPlace (places_of (slice_set slots key (Some x))) k
keeps-put slots key k x vacant has = keeps-set slots key k (Some x)
    (λ y there same. let bad : Some y ≡ None = sym there ∙ vacant in absurd (cc)) has

-- counting those that are vacant ------------------------------------------------------------------

pub some-in : (o : Option Kept) → is_none o ≡ false → (x : Kept) × (o ≡ Some x)
some-in o e = grind arith

pub within : (slots : List (Option Kept)) (key : ℕ) (x : Kept) →
    slice_index_or slots key None ≡ Some x → key < length slots
within slots key x there = grind (arith, cases_lt, get_or_past)

pub count-less : (slots : List (Option Kept)) (key : ℕ) (x : Kept) →
    slice_index_or slots key None ≡ Some x → vacant_in (slice_set slots key None) ≡
    vacant_in slots + 1
count-less slots key x there = grind (arith, sum_by-set, within)

pub count-same : (slots : List (Option Kept)) (key : ℕ) (x y : Kept) →
    slice_index_or slots key None ≡ Some x → vacant_in (slice_set slots key (Some y)) ≡
    vacant_in slots
count-same slots key x y there = grind (arith, sum_by-set, within)

-- one vacant slot alone
abbrev alone : ℕ → Option Kept
alone i = slice_index_or (None ∷ []) i None

-- the slots keep what they kept when a vacant one is added
pub more-vacant : (slots : List (Option Kept)) (vacant : ℕ) → vacant ≡ vacant_in slots →
    HasMoreVacant slots (slots ++ None ∷ []) vacant (vacant + 1)
more-vacant slots vacant count = record {
  count = let more : vacant_in (slots ++ None ∷ []) ≡ vacant_in slots + 1 =
      sum_by-append (λ (o : Option Kept). cond (is_none o) 1 0) slots (None ∷ []) in
      omega (arith, count, more);
  more = omega arith;
  are_true = λ past t key x there. t key x (same key x there);
  keeps = λ k has. let h = held slots k has in has_place (slots ++ None ∷ []) h.0 k h.1
      (get_or_append_left slots (None ∷ []) None h.0 (within slots h.0 h.1 h.2) ∙ h.2) h.3;
}
  where
    same : (key : ℕ) (x : Kept) → slice_index_or (slots ++ None ∷ []) key None ≡ Some x →
        slice_index_or slots key None ≡ Some x
    same key x there = by (cases_lt key (length slots))
      where
        by : (key < length slots) ⊎ (length slots ≤ key) → slice_index_or slots key None ≡ Some x
        by (inl lt) = sym (get_or_append_left slots (None ∷ []) None key lt) ∙ there
        by (inr le) = grind (arith, nat_tests, get_or-append_right)

pub none-added : (slots : List (Option Kept)) (vacant : ℕ) → vacant ≡ vacant_in slots →
    HasMoreVacant slots slots vacant vacant
none-added slots vacant count = record {
  count = count;
  more = omega arith;
  are_true = λ past t. t;
  keeps = λ k has. has;
}

-- one that keeps what is lost with a queue is vacated
pub one-forgotten : (queue : ℕ) (slots : List (Option Kept)) (key : ℕ) (x : Kept) (vacant : ℕ) →
    vacant ≡ vacant_in slots → slice_index_or slots key None ≡ Some x → x.home ≡ Some queue →
    Forgets queue slots (slice_set slots key None) vacant (vacant + 1)
one-forgotten queue slots key x vacant count there lost = record {
  same_length = length-set slots key None;
  count = let more = count-less slots key x there in omega (arith, count, more);
  more = omega arith;
  are_true = λ past t. true-less past slots key t (within slots key x there);
  keeps = λ past k t apart has. keeps-set slots key k None
      (λ y at same. apart (ap (λ (i : ℕ). home past i) (sym same) ∙ (t key y at).2 ∙
      (let one : Some y ≡ Some x = sym at ∙ there in let is : y ≡ x = cc in
      ap (λ (z : Kept). z.home) is) ∙ lost)) has;
}

pub forgets-more : (queue : ℕ) (a b c : List (Option Kept)) (u v w : ℕ) → Forgets queue a b u v →
    Forgets queue b c v w → Forgets queue a c u w
forgets-more queue a b c u v w f g = record {
  same_length = g.same_length ∙ f.same_length;
  count = g.count;
  more = let x = f.more in let y = g.more in omega (arith, x, y);
  are_true = λ past t. g.are_true past (f.are_true past t);
  keeps = λ past k t apart has. g.keeps past k (f.are_true past t) apart
      (f.keeps past k t apart has);
}

pub more-again : (a b c : List (Option Kept)) (u v w : ℕ) → HasMoreVacant a b u v →
    HasMoreVacant b c v w → HasMoreVacant a c u w
more-again a b c u v w f g = record {
  count = g.count;
  more = let x = f.more in let y = g.more in omega (arith, x, y);
  are_true = λ past t. g.are_true past (f.are_true past t);
  keeps = λ k has. g.keeps k (f.keeps k has);
}
