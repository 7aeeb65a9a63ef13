-- The message that a collect returns fits its buffer.
use Rattle.std.proofs.Common.{◌≡◌, ℕ, ◌≤◌, Some, arith}
use Rattle.mq_model.specs.Record.{Past}
use Rattle.mq_model.specs.Waits.{answered_by}
use Rattle.mq_model.specs.Legality.{Legal}
use Rattle.mq_state.specs.Buffers.{waiting_call, room_of, FitsOutcome}
use Rattle.mq_state.proofs.Fitting.{handed-fits}

pub collect-fits : (past : Past) → Legal past → (p b len : ℕ) → answered_by past p ≡ Some b →
    room_of (waiting_call past p) ≤ len → FitsOutcome past (waiting_call past p) b len
collect-fits past legal p b len answered roomy receives = grind (arith, handed-fits)
