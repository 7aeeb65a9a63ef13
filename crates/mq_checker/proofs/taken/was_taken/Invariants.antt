use Rattle.std.proofs.Common.{◌≡◌}
use Rattle.mq_model.specs.Record.{first}
use Rattle.mq_model.specs.Messages.{is_in, taken}
use Rattle.mq_checker.proofs.taken.was_taken.Given as goal

abbrev pub invariant-loop-i : goal.invariant-loop-i
invariant-loop-i l = l.found ≡ is_in (taken (first l.i l.journal.records)) l.m
