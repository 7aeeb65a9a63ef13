use Rattle.std.proofs.Common.{◌≡◌, ◌≤◌, length, not}
use Rattle.std.specs.List.{filter}
use Rattle.mq_model.specs.Record.{first}
use Rattle.mq_model.specs.Messages.{is_in, taken, admitted}
use Rattle.mq_checker.proofs.scan_messages.present_count.Given as goal

abbrev pub invariant-loop-i : goal.invariant-loop-i
invariant-loop-i l =
    (l.count ≡ length (filter (λ m. not (is_in (taken (first l.k l.journal.records)) m))
    (admitted (first l.i l.journal.records) l.q))) × (l.count ≤ l.i)
