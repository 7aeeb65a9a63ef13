use Rattle.std.specs.Prelude.{true, false, []}
use Rattle.mq_ledger.specs.Ledgers.{Shown}
use Rattle.mq_ledger.specs.declared.ledger.Kind.{Kind}
use Rattle.mq_ledger.specs.declared.ledger.Ledger.TheInside.{Inside}

abbrev pub kind_shown : Kind → Shown
kind_shown (Kind.Stored j) = record {
  records = j.records;
  entry_room = j.entry_room;
  byte_room = j.byte_room;
  stored = true;
  places = [];
}
kind_shown (Kind.Unstored r) = record {
  records = r.records;
  entry_room = r.entry_room;
  byte_room = r.byte_room;
  stored = false;
  places = r.places;
}

abbrev pub shown : Inside → Shown
shown a = kind_shown a.kind
