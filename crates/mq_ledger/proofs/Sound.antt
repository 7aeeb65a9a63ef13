-- What a change leaves sound.
use Rattle.std.proofs.Common.{◌≡◌, vec_len}
use Rattle.mq_model.specs.Record.{Past}
use Rattle.mq_ledger.specs.Keeping.{IsSound, AreTrue, vacant_in}
use Rattle.mq_ledger.specs.declared.unstored.Unstored.TheInside.{Inside}

-- the same history, and slots of which what was true is true
pub sound-same : (a b : Inside) → IsSound a → b.past.past ≡ a.past.past → b.len ≡ a.len →
    ((past : Past) → AreTrue past a.slots.items → AreTrue past b.slots.items) →
    b.vacant ≡ vacant_in b.slots.items → b.ended ≡ a.ended → vec_len b.next ≡ 0 → IsSound b
sound-same a b s past len are_true vacant ended empty = record {
  count = rw (past, len) s.count;
  few = rw len s.few;
  kept = rw past (are_true a.past.past s.kept);
  vacant = vacant;
  ended = rw (past, ended) s.ended;
  empty = empty;
}
