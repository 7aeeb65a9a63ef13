use Rattle.std.proofs.Common.{◌≡◌, ◌+◌, ◌<◌, length, ap, arith}
use Rattle.script_orders.specs.Stage.{Stage, turn_of}
use Rattle.script_orders.specs.Turns.{after_turn}
use Rattle.script_orders.specs.PlayModel.{shown}
use Rattle.script_orders.proofs.Turning.{element-is, none-of, turn_of-is, went-of}
use Rattle.script_orders.proofs.play.Play.turn.Goals as goal

is : (c : goal.After-self-1) → turn_of (shown c.self.inside) c.args.index ≡
    after_turn c.self.inside.trail c.self.inside.phase (c.args.index + 1) c.index_mut.result.now
    c.index.result.now
is c =
    let s = shown c.self.inside in
    let count = ap (λ (t : Stage). length t.programs) c.self.view_is in
    let below : c.args.index < length s.programs = omega (arith, count, c.requires) in
    let seated : c.args.index < length s.seats = omega (arith, below, c.self.invariant.count) in
    turn_of-is s c.args.index c.index.result.now c.index_mut.result.now
    (element-is s.programs c.args.index c.index.result.now below c.index.ensures)
    (element-is s.seats c.args.index c.index_mut.result.now seated c.index_mut.ensures.value)

pub returns-clause-went : goal.returns-clause-went
returns-clause-went c =
    rw (← c.self.view_is)
    (went-of (shown c.self.inside) c.args.index c.index.result.now c.index_mut.result.now
    (record { past = c.turn.new.trail; progress = c.turn.new.seat }) c.turn.result
    (is c) c.turn.ensures.went)

pub returns-clause-none : goal.returns-clause-none
returns-clause-none c =
    rw (← c.self.view_is)
    (none-of (shown c.self.inside) c.args.index c.index.result.now c.index_mut.result.now
    c.turn.result (is c) c.turn.ensures.none)
