-- An entry and its payload, as a read returns them.
use Rattle.std.specs.Prelude.{ℕ}
use Rattle.std.specs.declared.vec.Vec.{Vec}
use Rattle.std.specs.declared.alloc.Global.{Global}
use Rattle.mq_model.specs.declared.entries.Entry.{Entry}
use Rattle.mq_model.specs.Record.{Record}

abbrev pub record_of : Entry × Vec ℕ Global → Record
record_of read = record { entry = read.0; payload = read.1.items }
