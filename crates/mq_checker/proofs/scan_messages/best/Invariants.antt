use Rattle.std.proofs.Common.{◌≡◌, not}
use Rattle.std.specs.List.{filter}
use Rattle.mq_model.specs.Record.{first}
use Rattle.mq_model.specs.Messages.{goes_first, is_in, taken, admitted}
use Rattle.mq_model.specs.OnePass.{best_of}
use Rattle.mq_checker.proofs.scan_messages.best.Given as goal

abbrev pub invariant-loop-i : goal.invariant-loop-i
invariant-loop-i l = l.found ≡ best_of (goes_first (first l.k l.journal.records))
    (filter (λ m. not (is_in (taken (first l.k l.journal.records)) m))
    (admitted (first l.i l.journal.records) l.q))
