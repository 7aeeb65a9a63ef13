-- What a table of places says about the messages that were taken. It is no new definition: if a
-- table matches a journal, each bit is what `taken` says.
use Rattle.std.specs.Prelude.{ℕ, ◌≡◌, ◌<◌, Bool, true, List, length, Option, Some, None, slice_get, set, if◌then◌else◌}
use Rattle.mq_model.specs.Record.{Past}
use Rattle.mq_model.specs.Messages.{is_in, taken, queues, admits}
use Rattle.mq_model.specs.OnePass.{better}
use Rattle.mq_model.specs.declared.entries.Entry.{Entry}

-- the table says for each of its places whether the message there was taken
pub record TakenMirror (past : Past) (table : List Bool) : Type 0 where
  pub bits : (m : ℕ) → m < length table → slice_get table m ≡ Some (is_in (taken past) m)

abbrev pub marked : List Bool → Option ℕ → List Bool
marked table None = table
marked table (Some m) = set table m true

-- the message that enters some queue by an entry at a place
abbrev pub enters : ℕ → Entry → Option ℕ
enters here e = if queues e.call e.reply then Some here else admits e.reply

-- the message, if it is none of these
abbrev pub unless_in : List ℕ → Option ℕ → Option ℕ
unless_in places None = None
unless_in places (Some m) = if is_in places m then None else Some m

-- the better one of the best found so far and one more
abbrev pub with_best : (ℕ → ℕ → Bool) → Option ℕ → Option ℕ → Option ℕ
with_best goes_first None found = found
with_best goes_first (Some m) found = Some (better goes_first m found)
