-- The output after a write that may have failed.
use Rattle.std.specs.Prelude.{ℕ, ◌<◌, ◌≤◌, List, length, take, Option}
use Rattle.std.specs.Io.KnownBytes.{Appends}

-- a prefix of bs is appended to known bytes
abbrev pub AppendsPart : Option (List ℕ) → Option (List ℕ) → List ℕ → Type 0
AppendsPart old new bs = (n : ℕ) × (n ≤ length bs) × Appends old new (take n bs)

-- a proper prefix of bs is appended to known bytes
abbrev pub AppendsTooLittle : Option (List ℕ) → Option (List ℕ) → List ℕ → Type 0
AppendsTooLittle old new bs = (n : ℕ) × (n < length bs) × Appends old new (take n bs)
