-- Which callers are threads of one process. A journal has the number of the caller of each call.
-- The callers 1 to 32 are the first threads of the processes 1 to 32, and caller o + 32 * t is
-- another thread of process o. A thread has its own open wait. Descriptors, registrations and
-- notices are those of its process.
use Rattle.std.specs.Prelude.{ℕ, ◌+◌, ◌-◌, ◌%◌, Bool, ◌==◌, nat_le, if◌then◌else◌}
use Rattle.mq_model.specs.Limits.{most_processes}

-- the process of a caller, named by its first thread
unfoldable pub owner_of : ℕ → ℕ
owner_of p = if nat_le p most_processes then p else (p - 1) % most_processes + 1

-- two callers are threads of one process
abbrev pub shares : ℕ → ℕ → Bool
shares a b = owner_of a == owner_of b
