use Rattle.std.proofs.Common.{◌≡◌, ◌<◌, length, is_some, true, false, refl, sym, arith, ap}
use Rattle.script_orders.specs.Stage.{Stage, none_can_turn, turn_of}
use Rattle.script_orders.proofs.Counting.{none_can_turn-false}
use Rattle.script_orders.proofs.play.Play.none_can_turn.Goals as goal

pub returns-then-can_turn : goal.returns-then-can_turn
returns-then-can_turn c =
    let s = c.args.self.now in
    let goes : is_some (turn_of s c.loop-index.index) ≡ true = sym c.if-can_turn.ensures in
    let count = ap (λ (t : Stage). length t.programs) c.self.view_is in
    let below : c.loop-index.index < length s.programs = omega (arith, count) in
    let none : none_can_turn s (length s.programs) ≡ false = none_can_turn-false s
    (length s.programs) c.loop-index.index below goes in
    rw none refl
