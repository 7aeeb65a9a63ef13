use Rattle.std.proofs.Common.{◌∙◌, ap, arith, length}
use Rattle.std.proofs.lemmas.List.{length-replicate}
use Rattle.mq_model.specs.Callers.{free_caller}
use Rattle.mq_model.specs.Owners.{free_owner}
use Rattle.journal_views.proofs.Follows.{follows-none}
use Rattle.journal_views.proofs.followed.start.Goals as goal

pub returns : goal.returns
returns c =
    follows-none c.args.journal.now.records _ 33 2049 (omega arith) c.in_ok-owners.ensures
    (ap length c.in_ok-owners.ensures ∙ length-replicate 33 free_owner)
    c.in_ok-callers.ensures (ap length c.in_ok-callers.ensures ∙ length-replicate 2049 free_caller)
    c.new.ensures.items c.new-2.ensures.items
