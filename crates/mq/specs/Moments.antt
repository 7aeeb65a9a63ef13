-- The times of a clock that counts from its start.
use Rattle.std.specs.Prelude.{ℕ, pos, nat_lt, if◌then◌else◌, ◌/◌, ◌%◌, ◌-◌, ◌^◌}
use Rattle.std.specs.Duration.{as_nanos}
use Rattle.std.specs.declared.time.Duration.{Duration}
use Rattle.mq_model.specs.Limits.{nanoseconds_of_a_second}
use Rattle.mq_model.specs.declared.entries.Deadline.{Deadline}

-- the last time that a deadline can represent
abbrev pub last_moment : Deadline
last_moment = record { sec = pos (2 ^ 63 - 1); nsec = pos (nanoseconds_of_a_second - 1) }

-- this number of nanoseconds after the start, or the last time
abbrev pub moment_at : ℕ → Deadline
moment_at nanoseconds = if nat_lt (nanoseconds / nanoseconds_of_a_second) (2 ^ 63)
    then record {
      sec = pos (nanoseconds / nanoseconds_of_a_second);
      nsec = pos (nanoseconds % nanoseconds_of_a_second);
    }
    else last_moment

-- this duration after the start, or the last time
abbrev pub moment_past : Duration → Deadline
moment_past time = moment_at (as_nanos time)
