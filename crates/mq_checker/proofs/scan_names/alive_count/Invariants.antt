use Rattle.std.proofs.Common.{◌≡◌, ◌≤◌, length}
use Rattle.std.specs.List.{filter}
use Rattle.mq_model.specs.Record.{first}
use Rattle.std.proofs.Common.{◌||◌}
use Rattle.mq_model.specs.Descriptors.{is_named, is_held, created}
use Rattle.mq_checker.proofs.scan_names.alive_count.Given as goal

abbrev pub invariant-loop-i : goal.invariant-loop-i
invariant-loop-i l =
    (l.count ≡ length (filter (λ q. is_named (first l.k l.journal.records) q || is_held
    (first l.k l.journal.records) q) (created (first l.i l.journal.records)))) × (l.count ≤ l.i)
