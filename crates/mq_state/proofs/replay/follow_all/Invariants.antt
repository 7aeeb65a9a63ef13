use Rattle.std.proofs.Common.{◌≡◌, None}
use Rattle.mq_model.specs.Record.{first}
use Rattle.mq_state.specs.Kept.{AreThoseOf, HasNotices}
use Rattle.mq_state.specs.Pool.{IsPooled}
use Rattle.mq_state.specs.Tables.{AreAtMost}
use Rattle.mq_state.proofs.replay.follow_all.Given as goal

abbrev pub invariant-loop-place : goal.invariant-loop-place
invariant-loop-place l = record {
  tables : AreThoseOf (first l.place l.journal.records) l.tables;
  processes : AreAtMost l.tables.n (first l.place l.journal.records);
  n : l.tables.n ≡ l.initial.tables.n;
  bounds : l.tables.bounds ≡ l.initial.tables.bounds;
  pool : IsPooled None l.tables;
  notices : HasNotices l.initial.tables.bounds l.place l.initial.tables.n l.tables.inboxes.items;
}
