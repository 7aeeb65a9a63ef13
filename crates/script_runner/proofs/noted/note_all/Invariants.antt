use Rattle.std.proofs.Common.{◌≡◌, ◌++◌, take}
use Rattle.script_runner.specs.Notes.{lines_of}
use Rattle.script_runner.specs.Phase.{text_in}
use Rattle.script_runner.proofs.noted.note_all.Given as goal

abbrev pub invariant-loop-worked : goal.invariant-loop-worked
invariant-loop-worked g l = lines_of l.noted.items ≡ lines_of l.initial.noted.items ++
    text_in (take l.worked-index l.workers)
