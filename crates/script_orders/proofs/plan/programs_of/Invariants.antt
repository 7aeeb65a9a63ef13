use Rattle.std.proofs.Common.{◌≡◌, map, vec_len}
use Rattle.script_text.specs.Script.{said_phases}
use Rattle.script_orders.specs.Plans.{plan_of, programs_of}
use Rattle.script_orders.proofs.plan.programs_of.Given as goal

abbrev pub invariant-loop-index : goal.invariant-loop-index
invariant-loop-index l = record {
  programs : map (λ program. map plan_of program.items) l.programs.items ≡
      programs_of (said_phases l.script.phases.items) l.index;
  count : vec_len l.programs ≡ l.index;
}
