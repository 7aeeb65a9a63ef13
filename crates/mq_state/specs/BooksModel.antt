use Rattle.mq_state.specs.Kept.{Kept, IsWhole}
use Rattle.mq_state.specs.declared.books.Books.TheInside.{Inside}

abbrev pub kept : Inside → Kept
kept b = record {
  records = b.inner.value.journal.records;
  n = b.inner.value.tables.n;
  bounds = b.inner.value.tables.bounds;
  byte_room = b.inner.value.journal.byte_room;
  stored = b.inner.value.journal.stored;
}

abbrev pub IsKept : Inside → Type 0
IsKept b = IsWhole b.inner.value.journal b.inner.value.tables
