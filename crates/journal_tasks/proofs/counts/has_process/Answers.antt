use Rattle.std.proofs.Common.{◌≡◌, sym, ◌∙◌}
use Rattle.journal_tasks.proofs.Counting.{process_at}
use Rattle.journal_tasks.proofs.counts.has_process.Goals as goal

pub returns-then-owner_of-p : goal.returns-then-owner_of-p
returns-then-owner_of-p c =
    process_at c.args.p c.loop-place.place c.args.journal.now.records
    (record { entry = c.record.result.0; payload = c.record.result.1.now }) c.record.ensures
    (sym c.owner_of.ensures ∙ c.if-owner_of-p.true)
