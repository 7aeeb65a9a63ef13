-- Where and why a journal is not legal.
use Rattle.std.specs.Prelude.{ℕ, ◌≡◌, ◌≢◌, ◌<◌, ◌+◌, ◌&&◌, Bool, true, false, nat_le, length, IfSome, Option}
use Rattle.mq_model.specs.Limits.{most_callers}
use Rattle.mq_model.specs.Record.{Record, Past, record_at, first, payload_bytes}
use Rattle.mq_model.specs.Bounds.{exceeds, open_waits}
use Rattle.mq_model.specs.declared.bounds.Bounds.{Bounds}
use Rattle.mq_model.specs.Legality.{reply_to, may_call, is_payload, IsFirstIllegal}
use Rattle.mq_state.specs.declared.replay.Cause.{Cause}
use Rattle.mq_state.specs.declared.replay.Cause.TheVariants.{Process, Turn, Payload, Reply}
use Rattle.mq_state.specs.declared.replay.Departure.{Departure}
use Rattle.mq_state.specs.declared.replay.Misfit.{Misfit}
use Rattle.mq_state.specs.declared.replay.Misfit.TheVariants.{NoMemory, Illegal, Foreign, TooLong}

abbrev pub has_process : Record → Bool
has_process r = nat_le 1 r.entry.process && nat_le r.entry.process most_callers

abbrev pub is_in_turn : Past → Record → Bool
is_in_turn past r = may_call past r.entry.process r.entry.call

abbrev pub has_payload : Record → Bool
has_payload r = is_payload r.entry.call r.entry.reply r.payload

-- Why the record may not follow these: the first of the four that holds. A wrong reply comes with
-- the right one.
abbrev pub IsCause : Past → Record → Cause → Type 0
IsCause past r Process = has_process r ≡ false
IsCause past r Turn = (has_process r ≡ true) × (is_in_turn past r ≡ false)
IsCause past r Payload = (has_process r ≡ true) × (is_in_turn past r ≡ true) ×
    (has_payload r ≡ false)
IsCause past r (Reply expected) = (has_process r ≡ true) × (is_in_turn past r ≡ true) ×
    (has_payload r ≡ true) × (expected ≡ reply_to past r.entry.process r.entry.call r.payload) ×
    (r.entry.reply ≢ expected)

-- The records before this place are legal, the record there may not follow them, and this is why.
pub record IsDeparture (past : Past) (d : Departure) : Type 0 where
  pub first_illegal : IsFirstIllegal past d.place
  pub cause : IfSome (record_at past d.place) (λ r. IsCause (first d.place past) r d.cause)

-- the records, with the entries that end their open waits, exceed the bounds
abbrev pub is_too_long : Option Bounds → Past → Bool
is_too_long bounds past = exceeds bounds (length past + open_waits past) (payload_bytes past)

-- why queues of n processes with these bounds cannot continue from these records
abbrev pub IsMisfit : Past → ℕ → Option Bounds → Misfit → Type 0
IsMisfit past n bounds NoMemory = Unit {0}
IsMisfit past n bounds (Illegal d) = IsDeparture past d
IsMisfit past n bounds (Foreign k) = (k < length past) × IfSome (record_at past k)
    (λ r. n < r.entry.process)
IsMisfit past n bounds TooLong = is_too_long bounds past ≡ true
