use Rattle.std.proofs.Common.{◌≡◌, ℕ, ◌+◌, ◌<◌, length, vec_len, vec_capacity}
use Rattle.mq_slots.specs.Cells.{cell_at}
use Rattle.mq_slots.proofs.cells.fresh.Given as goal

abbrev pub invariant-loop-depth : goal.invariant-loop-depth
invariant-loop-depth l = record {
  len : vec_len l.cells ≡ l.depth + 1;
  slots : length l.cells.items ≡ l.depth + 1;
  room : vec_capacity l.cells ≡ l.spare + 1;
  head : cell_at l.cells.items 0 ≡ record { prio = 32768; place = 0; next = 0 };
  spares : (i : ℕ) → i < l.depth → cell_at l.cells.items (i + 1) ≡ record {
    prio = 32769;
    place = i + 1;
    next = i;
  };
}
