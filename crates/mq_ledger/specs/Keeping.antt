-- Which entries can be read.
use Rattle.std.specs.Prelude.{ℕ, ◌≡◌, ◌≢◌, ◌≤◌, ◌-◌, ◌^◌, List, Option, Some, None, length, map, min, is_none, slice_index_or, vec_capacity, vec_len}
use Rattle.std.specs.List.{count_by}
use Rattle.std.specs.Option.{option_map}
use Rattle.mq_model.specs.Record.{Past, record_at}
use Rattle.mq_model.specs.Messages.{priority}
use Rattle.mq_ledger.specs.Seen.{Seen, HasPlace}
use Rattle.mq_ledger.specs.Kept.{Kept}
use Rattle.mq_laws.specs.Needed.{ended_last, home}
use Rattle.mq_ledger.specs.declared.unstored.Unstored.TheInside.{Inside}

-- the limit on the number of records
abbrev pub limit : ℕ
limit = 2 ^ 62

abbrev pub places_of : List (Option Kept) → List (Option ℕ)
places_of slots = map (option_map (λ x. x.place)) slots

abbrev pub vacant_in : List (Option Kept) → ℕ
vacant_in slots = count_by is_none slots

abbrev pub shown : Inside → Seen
shown a = record {
  records = a.past.past;
  entry_room = min (limit - a.len) (vacant_in a.slots.items);
  byte_room = vec_capacity a.next;
  places = places_of a.slots.items;
}

-- what is kept equals what the history has for that entry
abbrev pub Says : Past → Kept → Type 0
Says past x = (option_map (λ r. r.payload) (record_at past x.place) ≡ Some x.bytes) ×
    (priority past x.place ≡ x.prio) × (home past x.place ≡ x.home)

abbrev pub AreTrue : Past → List (Option Kept) → Type 0
AreTrue past slots = (key : ℕ) (x : Kept) → slice_index_or slots key None ≡ Some x → Says past x

-- The slots keep what they kept. At least as many are vacant, and the count is right.
pub record HasMoreVacant (old new : List (Option Kept)) (vacant vacant' : ℕ) : Type 0 where
  pub count : vacant' ≡ vacant_in new
  pub more : vacant ≤ vacant'
  pub are_true : (past : Past) → AreTrue past old → AreTrue past new
  pub keeps : (k : ℕ) → HasPlace (places_of old) k → HasPlace (places_of new) k

-- the same, except what is lost with a queue
pub record Forgets (queue : ℕ) (old new : List (Option Kept)) (vacant vacant' : ℕ) : Type 0 where
  pub same_length : length new ≡ length old
  pub count : vacant' ≡ vacant_in new
  pub more : vacant ≤ vacant'
  pub are_true : (past : Past) → AreTrue past old → AreTrue past new
  pub keeps : (past : Past) (k : ℕ) → AreTrue past old → home past k ≢ Some queue →
      HasPlace (places_of old) k → HasPlace (places_of new) k

pub record IsSound (a : Inside) : Type 0 where
  pub count : a.len ≡ length a.past.past
  pub few : a.len ≤ limit
  pub kept : AreTrue a.past.past a.slots.items
  pub vacant : a.vacant ≡ vacant_in a.slots.items
  pub ended : a.ended ≡ ended_last a.past.past
  pub empty : vec_len a.next ≡ 0
