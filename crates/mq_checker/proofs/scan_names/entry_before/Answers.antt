use Rattle.std.proofs.Common.{◌∙◌, sym, arith}
use Rattle.mq_model.proofs.Prefixes.{length-first}
use Rattle.mq_checker.proofs.TakenBits.{entry-before, entry-beyond}
use Rattle.mq_checker.proofs.scan_names.entry_before.Goals as goal

pub returns-then-m-k : goal.returns-then-m-k
returns-then-m-k c = c.entry.ensures ∙ entry-before c.args.journal.now.records c.args.k c.args.m
    (omega arith) c.requires

pub returns-else-m-k : goal.returns-else-m-k
returns-else-m-k c = sym (entry-beyond c.args.journal.now.records c.args.k c.args.m
    (length-first c.args.k c.args.journal.now.records c.requires) (omega arith))
