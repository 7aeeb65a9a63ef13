use Rattle.std.proofs.Common.{◌+◌, ◌++◌, ◌∷◌, [], List, subst, sym, ap, ◌∙◌}
use Rattle.std.specs.declared.option.Option.{Option}
use Rattle.mq_ledger.specs.Kept.{Kept}
use Rattle.mq_ledger.specs.Keeping.{HasMoreVacant}
use Rattle.mq_ledger.proofs.Keeping.{none-added, more-vacant}
use Rattle.mq_ledger.proofs.slots.add_vacant.Goals as goal

pub returns-in_err-push-clause-added : goal.returns-in_err-push-clause-added
returns-in_err-push-clause-added c =
    subst (λ (xs : List (Option Kept)). HasMoreVacant c.args.slots.now.items xs c.args.vacant.now
    c.args.vacant.now) (sym c.in_err-push.ensures.items)
    (none-added c.args.slots.now.items c.args.vacant.now c.requires)

pub returns-clause-added : goal.returns-clause-added
returns-clause-added c =
    subst (λ (xs : List (Option Kept)). HasMoreVacant c.args.slots.now.items xs c.args.vacant.now
    (c.args.vacant.now + 1))
    (sym (c.in_ok-push.ensures.items ∙ ap (λ (o : Option Kept). c.args.slots.now.items ++ o ∷ [])
    c.in_ok-slot.ensures))
    (more-vacant c.args.slots.now.items c.args.vacant.now c.requires)
