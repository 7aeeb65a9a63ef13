-- What a prefix of a journal shows: its records, and the room that the journal has.
use Rattle.std.specs.Prelude.{◌≤◌, true, [], length}
use Rattle.mq_model.specs.Record.{first}
use Rattle.mq_ledger.specs.Ledgers.{Shown}
use Rattle.mq_state.specs.declared.prefixes.Source.{Source}
use Rattle.mq_state.specs.declared.prefixes.Prefix.TheInside.{Inside}

abbrev pub seen : Source → Shown
seen (Source.Journal j) = record {
  records = j.now.records;
  entry_room = j.now.entry_room;
  byte_room = j.now.byte_room;
  stored = true;
  places = [];
}
seen (Source.Ledger l) = l.now

abbrev pub shown : Inside → Shown
shown x = record (seen x.source) { records = first x.len (seen x.source).records }

abbrev pub IsWithin : Inside → Type 0
IsWithin x = (x.len ≤ length (seen x.source).records)
