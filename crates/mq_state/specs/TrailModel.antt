use Rattle.std.specs.Prelude.{◌≡◌, None}
use Rattle.mq_model.specs.Record.{Past}
use Rattle.mq_state.specs.Kept.{AreThoseOf}
use Rattle.mq_state.specs.declared.tables.Tables.{Tables}
use Rattle.mq_state.specs.declared.trail.Trail.TheInside.{Inside}

abbrev pub shown : Inside → Past
shown x = x.journal.records

-- the tables are those of the records, without bounds
abbrev pub AreTrackedBy : Past → Tables → Type 0
AreTrackedBy past t = AreThoseOf past t × (t.bounds ≡ None)

abbrev pub IsTracked : Inside → Type 0
IsTracked x = AreTrackedBy x.journal.records x.tables
