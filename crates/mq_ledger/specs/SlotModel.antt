-- What a slot shows.
use Rattle.std.specs.Prelude.{◌==◌, Option, None, Some, if◌then◌else◌}
use Rattle.mq_ledger.specs.Kept.{Kept}
use Rattle.mq_ledger.specs.declared.slots.Slot.TheInside.{Inside}

abbrev pub kept_in : Inside → Option Kept
kept_in s = if s.place == 18446744073709551615 then None
    else Some (record { place = s.place; prio = s.prio; home = s.home; bytes = s.bytes.items })
