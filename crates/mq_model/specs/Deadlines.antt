-- Times, and when the deadline of a timed call has passed (mq_timedsend, mq_timedreceive).
use Rattle.std.specs.Prelude.{pos, Bool, false, ◌&&◌, ◌||◌, Option, Some, None, int_lt, int_le}
use Rattle.std.specs.Ordering.{int_eq}
use Rattle.mq_model.specs.Limits.{nanoseconds_of_a_second}
use Rattle.mq_model.specs.declared.entries.Deadline.{Deadline}
use Rattle.mq_model.specs.declared.entries.Call.{Call}
use Rattle.mq_model.specs.declared.entries.Call.TheVariants.{MqTimedSend, MqTimedReceive}

-- the nanoseconds of a time are fewer than those of a second
abbrev pub is_moment : Deadline → Bool
is_moment moment = int_le (pos 0) moment.nsec && int_lt moment.nsec (pos nanoseconds_of_a_second)

-- the deadline has passed at the time `now`: it is that time or an earlier one
abbrev pub has_passed : Deadline → Deadline → Bool
has_passed until now = int_lt until.sec now.sec ||
    (int_eq until.sec now.sec && int_le until.nsec now.nsec)

-- the same for a wait, which may have no deadline
abbrev pub is_over : Option Deadline → Deadline → Bool
is_over None now = false
is_over (Some until) now = has_passed until now

-- the deadline of a timed call
abbrev pub deadline_of : Call → Option Deadline
deadline_of (MqTimedSend d prio len until now) = Some until
deadline_of (MqTimedReceive d room until now) = Some until
deadline_of _ = None
