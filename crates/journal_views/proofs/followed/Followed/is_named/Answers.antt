use Rattle.std.proofs.Common.{sym, ◌∙◌, ap}
use Rattle.journal_views.specs.Followed.{bound_in}
use Rattle.journal_views.proofs.Follows.{named-by}
use Rattle.journal_views.proofs.followed.Followed.is_named.Goals as goal

pub returns-in-None : goal.returns-in-None
returns-in-None c = named-by c.args.journal.now.records c.args.q c.args.self.now.bound.items _
    c.requires.bound
    (sym c.in-None.is ∙ c.bound.ensures ∙ ap (λ qs. bound_in c.args.journal.now.records qs
    c.name_of-name.result.now) c.deref.ensures.value ∙
    ap (bound_in c.args.journal.now.records c.args.self.now.bound.items) c.name_of-name.ensures)

pub returns-in-Some : goal.returns-in-Some
returns-in-Some c = named-by c.args.journal.now.records c.args.q c.args.self.now.bound.items _
    c.requires.bound
    (sym c.in-Some.is ∙ c.bound.ensures ∙ ap (λ qs. bound_in c.args.journal.now.records qs
    c.name_of-name.result.now) c.deref.ensures.value ∙
    ap (bound_in c.args.journal.now.records c.args.self.now.bound.items) c.name_of-name.ensures)
