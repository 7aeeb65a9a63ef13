-- What a table of processes says of the descriptors of each process. Process p has the row at index
-- p. Nothing here is a new definition of the queues: if a table matches a journal, each word here
-- equals the definition of the same name over the journal.
use Rattle.std.specs.Prelude.{ℕ, ◌≡◌, ◌≤◌, ◌+◌, Bool, List, length, Option, Some, None, is_some, is_none, slice_get, replicate, set}
use Rattle.std.specs.List.{list_any, find}
use Rattle.std.specs.Option.{option_map, option_and_then, unwrap_or}
use Rattle.mq_model.specs.Limits.{most_descriptors, most_processes}
use Rattle.mq_model.specs.Record.{Past}
use Rattle.mq_model.specs.Rows.{changed}
use Rattle.mq_model.specs.Threads.{owner_of}
use Rattle.mq_model.specs.Descriptors.{held, is_place, with_nonblock, descriptor_numbers}
use Rattle.mq_model.specs.declared.entries.Description.{Description}
use Rattle.mq_model.specs.declared.owners.Owner.{Owner}

abbrev pub slot_of : ℕ → Owner → Option Description
slot_of d o = unwrap_or (slice_get o.descriptors d) None

-- what the process of caller p holds under descriptor d
unfoldable pub held_in : List Owner → ℕ → ℕ → Option Description
held_in owners p d = option_and_then (slot_of d) (slice_get owners (owner_of p))

-- the lowest descriptor that the process of caller p does not hold
abbrev pub free_number_in : List Owner → ℕ → Option ℕ
free_number_in owners p = find (λ d. is_none (held_in owners p d)) descriptor_numbers

-- the lowest descriptor that the process of caller p holds
abbrev pub lowest_held_in : List Owner → ℕ → Option ℕ
lowest_held_in owners p = find (λ d. is_some (held_in owners p d)) descriptor_numbers

-- the table with this under descriptor d of the process of caller p
unfoldable pub with_slot : List Owner → ℕ → ℕ → Option Description → List Owner
with_slot owners p d slot = changed (λ o. record { descriptors = set o.descriptors d slot })
    owners (owner_of p)

-- the table with this nonblocking flag for the same descriptor
abbrev pub with_flag : List Owner → ℕ → ℕ → Bool → List Owner
with_flag owners p d nonblock = with_slot owners p d (option_map (with_nonblock nonblock)
    (held_in owners p d))

-- one of the descriptors is of queue q
abbrev pub holds : ℕ → Owner → Bool
holds q o = list_any (λ slot. is_place q (option_map (λ h. h.queue) slot)) o.descriptors

-- some process holds a descriptor of queue q
abbrev pub is_held_in : List Owner → ℕ → Bool
is_held_in owners q = list_any (holds q) owners

abbrev pub free_owner : Owner
free_owner = record { descriptors = replicate most_descriptors None }

-- the table has a row for each process at most, and says what the definitions say about the journal
pub record OwnersMirror (past : Past) (owners : List Owner) : Type 0 where
  pub few : length owners ≤ most_processes + 1
  pub slots : (p : ℕ) (o : Owner) → slice_get owners p ≡ Some o →
      length o.descriptors ≡ most_descriptors
  pub held : (p d : ℕ) → held_in owners p d ≡ held past p d
