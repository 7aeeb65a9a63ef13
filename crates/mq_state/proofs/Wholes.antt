-- The whole journal, as the first entries of it that tables are those of.
use Rattle.std.proofs.Common.{◌≡◌, ℕ, ◌≤◌, length, sym, subst, arith, None}
use Rattle.mq_model.specs.Record.{Past, record_at, first}
use Rattle.mq_ledger.specs.Ledgers.{Shown}
use Rattle.mq_model.proofs.Prefixes.{length-first}
use Rattle.mq_model.proofs.Records.{record_at-past}
use Rattle.mq_state.specs.Kept.{AreThoseOf, IsKeptBy}
use Rattle.mq_state.specs.declared.tables.Tables.{Tables}

pub those-of_whole : (j whole : Shown) (t : Tables) → whole ≡ j → IsKeptBy j t →
    AreThoseOf whole.records t
those-of_whole j whole t is kept = subst (λ (x : Shown). AreThoseOf x.records t)
    (sym is) kept.tables

-- the record at a place of the first records
pub none-beyond : (past : Past) (k q : ℕ) → k ≤ length past → k ≤ q →
    record_at (first k past) q ≡ None
none-beyond past k q le beyond = grind (arith, record_at-past, length-first)
