use Rattle.std.proofs.Common.{◌∙◌, ap}
use Rattle.mq_model.specs.Owners.{is_held_in}
use Rattle.journal_views.proofs.Follows.{held-by}
use Rattle.journal_views.proofs.followed.Followed.is_held.Goals as goal

pub returns : goal.returns
returns c = c.is_held.ensures ∙ ap (λ owners. is_held_in owners c.args.q) c.deref.ensures.value ∙
    held-by c.args.journal.now.records c.args.self.now.owners.items c.args.q c.requires.owners
