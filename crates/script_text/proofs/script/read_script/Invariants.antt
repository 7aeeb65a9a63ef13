use Rattle.std.proofs.Common.{◌≡◌, ◌≤◌, length, true, IfSome}
use Rattle.mq_model.specs.Deadlines.{is_moment}
use Rattle.script_text.specs.Phases.{whole_behind}
use Rattle.script_text.specs.Script.{lines_of, result_map, script_read, script_written}
use Rattle.script_text.proofs.script.read_script.Given as goal

-- the script that the lines left write, after what was read, is the whole
abbrev pub invariant-loop-rest : goal.invariant-loop-rest
invariant-loop-rest l = record {
  whole : result_map (whole_behind l.phases) (script_read l.processes l.at (lines_of l.rest)) ≡
      script_written l.text;
  lines : l.at.lines ≤ l.at.bytes;
  bytes : l.at.bytes ≤ 1048576;
  moment : is_moment l.at.time.moment ≡ true;
  count : IfSome l.processes (λ n. (1 ≤ n) × (n ≤ 32));
}

abbrev pub decreases-loop-rest : goal.decreases-loop-rest
decreases-loop-rest l = length l.rest
