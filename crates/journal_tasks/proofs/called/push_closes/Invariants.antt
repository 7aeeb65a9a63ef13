use Rattle.std.proofs.Common.{◌≡◌, ◌++◌, map, take}
use Rattle.journal_tasks.specs.Histories.{asked, close_by}
use Rattle.journal_tasks.proofs.called.push_closes.Given as goal

abbrev pub invariant-loop-d : goal.invariant-loop-d
invariant-loop-d l = map asked l.calls.items ≡ map asked l.initial.calls.items ++
    map (close_by l.span.process) (take l.d-index l.held)
