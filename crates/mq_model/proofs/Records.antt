-- What a journal shows, from what it stores.
use Rattle.std.proofs.Common.{◌≡◌, ℕ, zero, suc, ◌+◌, ◌<◌, ◌≤◌, ◌==◌, get_or, List, [], ◌∷◌, ◌++◌, length, length-append, map, reverse, refl, ◌∙◌, arith, Some, None, if◌then◌else◌, slice_get, slice_range}
use Rattle.std.proofs.lemmas.List.{reverse-append, reverse-reverse, map-append}
use Rattle.std.specs.List.{All}
use Rattle.std.specs.Option.{option_map}
use Rattle.std.proofs.lemmas.Option.{slice_get-map, slice_get_read}
use Rattle.std.proofs.lemmas.Bool.Decides.{nat_tests}
use Rattle.std.proofs.lemmas.Grind.{common_steps}
use Rattle.std.proofs.lemmas.List.Elements.{All-head, All-tail, All-weaker, All-push}
use Rattle.mq_model.specs.Record.{Past, record_at}
use Rattle.mq_model.specs.Stored.{needs, call_of, reply_of, record_of, records_of, LiesIn}
use Rattle.mq_model.specs.declared.entries.Call.{Call}
use Rattle.mq_model.specs.declared.entries.Entry.{Entry}
use Rattle.mq_model.specs.declared.stored.StoredCall.{StoredCall}
use Rattle.mq_model.specs.declared.stored.Stored.{Stored}

pub slice_get-push : {X : Type 0} (xs : List X) (x : X) (k : ℕ) →
    slice_get (xs ++ x ∷ []) k ≡ (if k == length xs then Some x else slice_get xs k)
slice_get-push [] x zero = refl
slice_get-push (y ∷ ys) x (suc k) = slice_get-push ys x k ∙ grind (arith, nat_tests)
slice_get-push _ x _ = grind (arith, nat_tests)

length-reverse : {X : Type 0} (xs : List X) → length (reverse xs) ≡ length xs
length-reverse xs = grind (arith, common_steps)

pub record_at-reverse : (past : Past) (k : ℕ) → record_at past k ≡ slice_get (reverse past) k
record_at-reverse [] k = refl
record_at-reverse (r ∷ past) k = grind (
  arith,
  common_steps,
  length-reverse,
  slice_get-push,
  reverse-append,
  record_at-reverse past k,
)

-- the record at a place of what a journal shows
pub record_at-records_of : (apart : List Call) (bytes : List ℕ) (stored : List Stored) (k : ℕ) →
    record_at (records_of apart bytes stored) k ≡ option_map (record_of apart bytes)
    (slice_get stored k)
record_at-records_of apart bytes stored k =
    grind (arith, record_at-reverse, reverse-reverse, slice_get-map)

slice_range-append : (bytes more : List ℕ) (start end : ℕ) → start ≤ end → end ≤ length bytes →
    slice_range (bytes ++ more) start end ≡ slice_range bytes start end
slice_range-append bytes more start end p q = grind (arith, common_steps)

slice_range-end : (bytes more : List ℕ) →
    slice_range (bytes ++ more) (length bytes) (length bytes + length more) ≡ more
slice_range-end bytes more = grind (arith, common_steps)

-- calls that are added to the separate list change no stored call
call_of-append : (apart more : List Call) (len : ℕ) (stored : StoredCall) →
    needs stored ≤ length apart → call_of (apart ++ more) len stored ≡ call_of apart len stored
call_of-append apart more len stored le = grind (arith, common_steps)

-- calls and bytes added at the end change no record
map-more : (apart calls : List Call) (bytes more : List ℕ) (stored : List Stored) →
    All (LiesIn apart bytes) stored →
    map (record_of (apart ++ calls) (bytes ++ more)) stored ≡ map (record_of apart bytes) stored
map-more apart calls bytes more [] lie = refl
map-more apart calls bytes more (s ∷ rest) lie = grind (
  arith,
  All-head,
  slice_range-append,
  call_of-append,
  All-tail,
  map-more apart calls bytes more rest
      (All-tail (LiesIn apart bytes) s rest lie),
)

-- one more stored entry, whose payload is what was added to the bytes
pub records_of-push : (apart calls : List Call) (bytes more : List ℕ) (stored : List Stored)
    (s : Stored) (entry : Entry) → All (LiesIn apart bytes) stored →
    s.start ≡ length bytes → s.end ≡ length bytes + length more →
    s.process ≡ entry.process → call_of (apart ++ calls) (length more) s.call ≡ entry.call →
    reply_of s.reply ≡ entry.reply →
    records_of (apart ++ calls) (bytes ++ more) (stored ++ s ∷ []) ≡ record {
      entry = entry;
      payload = more;
    } ∷ records_of apart bytes stored
records_of-push apart calls bytes more stored s entry lie start end process call reply =
    grind (arith, slice_range-end, map-append, reverse-append, map-more)

-- each stored entry is still there
pub lies-push : (apart calls : List Call) (bytes more : List ℕ) (stored : List Stored)
    (s : Stored) → All (LiesIn apart bytes) stored →
    s.start ≡ length bytes → s.end ≡ length bytes + length more →
    needs s.call ≤ length (apart ++ calls) →
    All (LiesIn (apart ++ calls) (bytes ++ more)) (stored ++ s ∷ [])
lies-push apart calls bytes more stored s lie start end there =
    grind (arith, common_steps, length-append, All-push, All-weaker)

-- the record at a place, read from what is stored there
pub record_at-read : (apart : List Call) (bytes : List ℕ) (stored : List Stored) (k : ℕ)
    (s : Stored) → k < length stored → s ≡ get_or stored k s →
    record_at (records_of apart bytes stored) k ≡ Some (record_of apart bytes s)
record_at-read apart bytes stored k s lt read = grind (arith, record_at-records_of, slice_get_read)

-- there is no record at a place past the last
pub record_at-past : (past : Past) (k : ℕ) → length past ≤ k → record_at past k ≡ None
record_at-past [] k le = refl
record_at-past (r ∷ past) k le = grind (arith, nat_tests, record_at-past past k)

pub length-records_of : (apart : List Call) (bytes : List ℕ) (stored : List Stored) →
    length (records_of apart bytes stored) ≡ length stored
length-records_of apart bytes stored = length-reverse (map (record_of apart bytes) stored) ∙
    grind (arith, common_steps)
