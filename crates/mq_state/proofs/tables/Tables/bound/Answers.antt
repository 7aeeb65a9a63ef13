use Rattle.std.proofs.Common.{◌∙◌, ap, get_or}
use Rattle.mq_laws.proofs.Needs.{alive-needed}
use Rattle.mq_state.proofs.Finding.{line-exists}
use Rattle.mq_state.specs.Queues.{bound_in}
use Rattle.mq_state.proofs.Reading.{bound-read}
use Rattle.mq_state.proofs.tables.Tables.bound.Goals as goal

pub returns : goal.returns
returns c = c.bound.ensures ∙ ap (λ xs. bound_in c.args.journal.now.records xs c.args.name.now)
    c.deref.ensures.value ∙ bound-read c.args.journal.now.records c.args.self.now.queues.items
    c.requires.mirror.existing c.args.name.now

pub bound-requires : goal.bound-requires
bound-requires c k d lt =
    let past = c.args.journal.now.records in
    let qs = c.deref.result.now in
    let legal = c.requires.legal in
    c.requires.readable (get_or qs k d).place (alive-needed past legal (get_or qs k d).place
    (line-exists past qs (rw c.deref.ensures.value c.requires.mirror.existing) k d lt))
