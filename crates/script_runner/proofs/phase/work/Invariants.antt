use Rattle.std.proofs.Common.{◌≡◌, ◌≤◌, ◌+◌, ◌++◌, length, vec_len, vec_capacity}
use Rattle.std.specs.Vec.Iter.{into_iter_items, into_iter_len}
use Rattle.script_runner.specs.Phase.{calls_in}
use Rattle.script_runner.specs.Runs.{IsReady, IsSameProcess, RunsCalls}
use Rattle.script_runner.proofs.phase.work.Given as goal

abbrev pub invariant-loop-turn : goal.invariant-loop-turn
invariant-loop-turn g l = record {
  all : l.yielded ++ into_iter_items l.turn-iterator ≡ l.fn.share.turns.items;
  left : into_iter_len l.turn-iterator ≡ length (into_iter_items l.turn-iterator);
  room : vec_len l.completions + into_iter_len l.turn-iterator ≤ vec_capacity l.completions;
  ready : IsReady l.mq l.process;
  same : IsSameProcess l.fn.share.process l.process;
  calls : RunsCalls (calls_in l.yielded) l.completions.items l.fn.share.process l.process;
}
