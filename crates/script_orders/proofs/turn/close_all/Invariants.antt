use Rattle.std.proofs.Common.{◌≡◌, None}
use Rattle.mq_model.specs.Waits.{open_wait}
use Rattle.script_orders.specs.Scenes.{close_first}
use Rattle.script_orders.proofs.turn.close_all.Given as goal

abbrev pub invariant-loop-d : goal.invariant-loop-d
invariant-loop-d l = record {
  closed : l.trail ≡ close_first l.fn.trail l.p l.d;
  free : open_wait l.trail l.p ≡ None;
}
