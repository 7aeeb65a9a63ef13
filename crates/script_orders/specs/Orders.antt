-- The processes of a script.
use Rattle.std.specs.Prelude.{◌≡◌, ◌<◌, ℕ, List, [], Some, Vec, length, map, slice_get}
use Rattle.std.specs.declared.alloc.Global.{Global}
use Rattle.mq_model.specs.Legality.{Legal}
use Rattle.mq_model.specs.Record.{Past}
use Rattle.script_text.specs.Script.{Whole}
use Rattle.script_orders.specs.Plans.{plan_of, programs_of}
use Rattle.script_orders.specs.Progress.{Progress}
use Rattle.script_orders.specs.declared.plan.Planned.{Planned}
use Rattle.script_orders.specs.Stage.{Stage, first_stage, next_stage}
use Rattle.schedules.specs.Schedules.{after}

-- the processes of a script, before their first lines, after the calls of a journal
pub record BeginsAfter (past : Past) (script : Whole) (s : Stage) : Type 0 where
  pub programs : map (λ program. map plan_of program.items) s.programs ≡
      programs_of script.phases script.processes
  pub phases : s.phases ≡ length script.phases
  pub start : s.start ≡ past
  pub first : first_stage s ≡ s

-- the same with the empty journal
abbrev pub Begins : Whole → Stage → Type 0
Begins script s = BeginsAfter [] script s

-- the journal after each schedule from this stage is legal
abbrev pub AreLegal : Stage → Type 0
AreLegal from = (schedule : List ℕ) (to : Stage) → after next_stage schedule from ≡ Some to →
    Legal to.past

-- The process at an index has made all its lines up to those of the phase: its next line, if there
-- is one, is in a later phase.
abbrev pub HasMade : Stage → ℕ → Type 0
HasMade s index =
    (program : Vec Planned Global) (seat : Progress) (next : Planned) →
    slice_get s.programs index ≡ Some program →
    slice_get s.seats index ≡ Some seat → slice_get program.items seat.begun ≡ Some next →
    s.phase < next.phase
