use Rattle.std.proofs.Common.{◌≡◌, ◌++◌, take}
use Rattle.script_text.specs.ReplyLines.{reply_lines}
use Rattle.script_text.proofs.text.push_completions.Given as goal

abbrev pub invariant-loop-completion : goal.invariant-loop-completion
invariant-loop-completion l = l.text.items ≡ l.initial.text.items ++ reply_lines l.process
    (take l.completion-index l.completions)
