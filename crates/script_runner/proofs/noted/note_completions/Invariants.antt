use Rattle.std.proofs.Common.{◌≡◌, ◌++◌, take}
use Rattle.script_text.specs.ReplyLines.{reply_lines}
use Rattle.script_runner.specs.Notes.{lines_of}
use Rattle.script_runner.proofs.noted.note_completions.Given as goal

abbrev pub invariant-loop-completion : goal.invariant-loop-completion
invariant-loop-completion l = lines_of l.noted.items ≡ lines_of l.initial.noted.items ++
    reply_lines l.process (take l.completion-index l.completions)
