use Rattle.std.proofs.Common.{◌≡◌, ◌-◌, [], length, slice_get, unwrap_or}
use Rattle.script_text.specs.Script.{lines_of}
use Rattle.script_orders.specs.Waiting.{line_numbered}
use Rattle.script_orders.proofs.waiting.line_numbered.Given as goal

-- the line is the one with the number `left` among the lines that are left, counted from 0
abbrev pub invariant-loop-rest : goal.invariant-loop-rest
invariant-loop-rest l = unwrap_or (slice_get (lines_of l.rest) l.left) [] ≡
    line_numbered l.fn.script l.fn.number

abbrev pub decreases-loop-rest : goal.decreases-loop-rest
decreases-loop-rest l = length l.rest
