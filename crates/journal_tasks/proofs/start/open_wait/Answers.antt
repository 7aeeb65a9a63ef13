use Rattle.std.proofs.Common.{◌≡◌, refl}
use Rattle.mq_model.specs.Record.{first}
use Rattle.mq_model.proofs.Prefixes.{first-all}
use Rattle.journal_tasks.proofs.start.open_wait.Goals as goal

pub loop-place-init : goal.loop-place-init
loop-place-init c = let all : first c.len-place.result c.args.journal.now.records ≡
    c.args.journal.now.records = first-all c.args.journal.now.records c.len-place.result
    c.len-place.ensures.count in rw all refl
