-- The table of messages that were taken remains that of the journal.
use Rattle.std.proofs.Common.{◌≡◌, ℕ, zero, suc, ◌<◌, ◌≤◌, ◌==◌, Bool, true, false, not, List, [], ◌∷◌, length, Option, Some, None, if◌then◌else◌, refl, sym, ap, arith, ne_eqb, slice_get, set, replicate}
use Rattle.std.specs.List.{filter}
use Rattle.std.specs.Option.{option_map}
use Rattle.mq_model.specs.Record.{Record, Past, record_at, first}
use Rattle.mq_model.specs.Messages.{is_in, with_place, taken, taken_by}
use Rattle.mq_model.specs.OnePass.{best_of}
use Rattle.mq_checker.specs.TakenTable.{TakenMirror, marked, unless_in, with_best}
use Rattle.mq_model.proofs.Prefixes.{record_at-first}
use Rattle.mq_model.proofs.Records.{record_at-past}

slice_get-set : (table : List Bool) (k m : ℕ) → m < length table →
    slice_get (set table k true) m ≡ (if k == m then Some true else slice_get table m)
slice_get-set [] k m lt = absurd (omega arith)
slice_get-set (b ∷ table) zero zero lt = refl
slice_get-set (b ∷ table) zero (suc m) lt = rw (ne_eqb zero (suc m) (λ e. omega arith)) refl
slice_get-set (b ∷ table) (suc k) zero lt = rw (ne_eqb (suc k) zero (λ e. omega arith)) refl
slice_get-set (b ∷ table) (suc k) (suc m) lt = grind (arith, slice_get-set table k m (omega arith))

length-set_true : (table : List Bool) (k : ℕ) → length (set table k true) ≡ length table
length-set_true (b ∷ table) (suc k) = ap suc (length-set_true table k)
length-set_true _ _ = refl

marked-is : (table : List Bool) (o : Option ℕ) (xs : List ℕ) →
    ((m : ℕ) → m < length table → slice_get table m ≡ Some (is_in xs m)) → (m : ℕ) →
    m < length (marked table o) → slice_get (marked table o) m ≡ Some (is_in (with_place o xs) m)
marked-is table o xs is m lt = grind (arith, length-set_true, slice_get-set)

pub taken-keeps : (past : Past) (table : List Bool) → TakenMirror past table → (r : Record) →
    TakenMirror (r ∷ past) (marked table (taken_by (length past) r.entry.reply))
taken-keeps past table m r = record {
  bits = marked-is table (taken_by (length past) r.entry.reply)
      (taken past) m.bits;
}

none-taken_yet : (n m : ℕ) → m < n → slice_get (replicate n false) m ≡ Some false
none-taken_yet zero m lt = absurd (omega arith)
none-taken_yet (suc n) zero lt = refl
none-taken_yet (suc n) (suc m) lt = none-taken_yet n m (omega arith)

length-replicate_false : (n : ℕ) → length (replicate n false) ≡ n
length-replicate_false zero = refl
length-replicate_false (suc n) = ap suc (length-replicate_false n)

-- a table of unmarked places is that of the empty journal
pub taken-start : (n : ℕ) → TakenMirror [] (replicate n false)
taken-start n =
    record { bits = λ m lt. none-taken_yet n m (omega (arith, lt, length-replicate_false n)) }

-- what enters a queue -----------------------------------------------------------------------------

-- one more message that may have entered
pub filter-with : (xs : List ℕ) (o : Option ℕ) (ys : List ℕ) →
    filter (λ m. not (is_in xs m)) (with_place o ys) ≡ with_place (unless_in xs o)
    (filter (λ m. not (is_in xs m)) ys)
filter-with xs o ys = grind arith

pub best-with : (goes_first : ℕ → ℕ → Bool) (o : Option ℕ) (ys : List ℕ) →
    best_of goes_first (with_place o ys) ≡ with_best goes_first o (best_of goes_first ys)
best-with goes_first o ys = grind arith

-- the record at a place below the first k records
pub entry-before : (past : Past) (k m : ℕ) → m < k → k ≤ length past →
    option_map (λ (r : Record). r.entry) (record_at past m) ≡ option_map (λ (r : Record). r.entry)
    (record_at (first k past) m)
entry-before past k m lt le = ap (option_map (λ (r : Record). r.entry))
    (sym (record_at-first past k m lt le))

pub entry-beyond : (past : Past) (k m : ℕ) → length (first k past) ≡ k → k ≤ m →
    option_map (λ (r : Record). r.entry) (record_at (first k past) m) ≡ None
entry-beyond past k m is le = ap (option_map (λ (r : Record). r.entry))
    (record_at-past (first k past) m (omega arith))
