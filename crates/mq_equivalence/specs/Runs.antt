-- Runs: sequences of calls, each with the reply that the definitions give.
use Rattle.std.specs.Prelude.{ℕ, List, [], ◌∷◌}
use Rattle.mq_model.specs.Record.{Past, Process}
use Rattle.mq_model.specs.declared.entries.Call.{Call}
use Rattle.mq_equivalence.specs.Steps.{record_of}

-- a call of a process, with its name or its message
pub record Request : Type 0 where
  pub process : Process
  pub call : Call
  pub given : List ℕ

-- the journal after these calls, of which the latest is first
abbrev pub after_calls : Past → List Request → Past
after_calls past [] = past
after_calls past (c ∷ calls) =
    record_of (after_calls past calls) c.process c.call c.given ∷ after_calls past calls
