use Rattle.std.proofs.Common.{◌≡◌, drop, slice_get}
use Rattle.journal_tasks.specs.Histories.{completions_of}
use Rattle.journal_tasks.proofs.called.completion_of.Given as goal

abbrev pub invariant-loop-one : goal.invariant-loop-one
invariant-loop-one l = slice_get (completions_of l.process (drop l.one-index l.noted)) l.left ≡
    slice_get (completions_of l.process l.noted) l.index
