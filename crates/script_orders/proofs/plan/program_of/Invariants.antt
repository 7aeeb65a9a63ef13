use Rattle.std.proofs.Common.{◌≡◌, ◌++◌, map, drop}
use Rattle.script_text.specs.Script.{said_phases}
use Rattle.script_orders.specs.Plans.{plan_of, program_of}
use Rattle.script_orders.proofs.plan.program_of.Given as goal

abbrev pub invariant-loop-phase : goal.invariant-loop-phase
invariant-loop-phase l = map plan_of l.program.items ++ program_of l.phase
    (said_phases (drop l.phase l.phases)) l.p ≡ program_of 0 (said_phases l.phases) l.p
