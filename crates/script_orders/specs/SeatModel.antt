use Rattle.script_orders.specs.Progress.{Progress}
use Rattle.script_orders.specs.declared.turn.Seat.TheInside.{Inside}

abbrev pub shown : Inside → Progress
shown x = record { begun = x.begun; text = x.text.items }
