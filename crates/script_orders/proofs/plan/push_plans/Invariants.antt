use Rattle.std.proofs.Common.{◌≡◌, ◌++◌, map, take}
use Rattle.script_text.specs.Script.{said_calls}
use Rattle.script_orders.specs.Plans.{plan_of, plans_of}
use Rattle.script_orders.proofs.plan.push_plans.Given as goal

abbrev pub invariant-loop-call : goal.invariant-loop-call
invariant-loop-call l =
    map plan_of l.program.items ≡ map plan_of l.initial.program.items ++ plans_of l.phase
    (said_calls (take l.call-index l.calls)) l.p
