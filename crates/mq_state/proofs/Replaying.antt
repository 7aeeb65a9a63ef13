-- Where and why a journal is not legal.
use Rattle.std.proofs.Common.{◌≡◌, ℕ, ◌+◌, ◌<◌, ◌∷◌, length, arith}
use Rattle.mq_model.specs.Record.{Record, Past, first}
use Rattle.mq_model.specs.Legality.{Legal}
use Rattle.mq_model.proofs.Prefixes.{first-all, record_at-of_first, legal-first}
use Rattle.mq_state.specs.declared.replay.Cause.{Cause}
use Rattle.mq_state.specs.declared.replay.Departure.{Departure}
use Rattle.mq_state.specs.Replays.{IsCause, IsDeparture}

pub departs : (past : Past) (k : ℕ) (r : Record) (cause : Cause) → k < length past →
    first (k + 1) past ≡ r ∷ first k past → Legal (first k past) → IsCause (first k past) r cause →
    IsDeparture past (record { place = k; cause = cause })
departs past k r cause lt is legal why = grind (
  arith,
  first-all past (length past),
  record_at-of_first past (length past) k r,
)

-- a journal that departs from the definitions is not legal
pub not-legal : (past : Past) (d : Departure) → IsDeparture past d → Legal past → ⊥
not-legal past d departs legal = grind (arith, legal-first)
