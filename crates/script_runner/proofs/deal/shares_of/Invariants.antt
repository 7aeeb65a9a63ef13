use Rattle.std.proofs.Common.{◌≡◌, ◌++◌, map, length, All}
use Rattle.std.specs.Vec.Iter.{into_iter_items, into_iter_len}
use Rattle.script_runner.specs.Phase.{calls_in}
use Rattle.script_runner.specs.Runs.{calls_of}
use Rattle.script_text.specs.Script.{said_calls}
use Rattle.script_runner.proofs.deal.shares_of.Given as goal

abbrev pub invariant-loop-process : goal.invariant-loop-process
invariant-loop-process g l = record {
  all : l.yielded ++ into_iter_items l.process-iterator ≡ l.fn.processes.items;
  left : into_iter_len l.process-iterator ≡ length (into_iter_items l.process-iterator);
  processes : map (λ share. share.process) l.shares.items ≡ l.yielded;
  calls : All (λ share. calls_in share.turns.items ≡ calls_of share.process.number
      (said_calls l.calls)) l.shares.items;
}
