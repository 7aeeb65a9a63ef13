-- How much memory a system with bounds takes, on a machine with 64-bit addresses.
use Rattle.std.specs.Prelude.{ℕ, ◌+◌, ◌*◌}

-- An entry takes 64 bytes, and 56 more for a call that does not fit in them. Each process, and one
-- more, has its descriptors and its notices, of which there may be as many as entries and 64 more.
-- Each of 64 queues has its row and the slots of 4,096 messages.
abbrev pub memory_of : ℕ → ℕ → ℕ → ℕ
memory_of n entries bytes = bytes + 120 * entries + (n + 1) * (8 * entries + 1064) + 5256272
