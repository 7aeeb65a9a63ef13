use Rattle.std.proofs.Common.{◌∙◌}
use Rattle.exploration.proofs.Locking.{locks-may-race}
use Rattle.exploration.proofs.dependence.may_race_if_made.Goals as goal

pub returns-then-not-is_cause-clause-locks : goal.returns-then-not-is_cause-clause-locks
returns-then-not-is_cause-clause-locks c = λ lock x y in_a in_b same changes on unlocks
    locks order cause.
    c.any_race_if_made.ensures ∙ locks-may-race lock c.args.a.now.effects.items
    c.args.b.now.effects.items x y
    in_a in_b same changes on unlocks locks
