-- The text of the replies of one process.
use Rattle.std.specs.Prelude.{ℕ, List, [], ◌∷◌, ◌++◌}
use Rattle.script_text.specs.Replies.{reply_line}
use Rattle.script_text.specs.declared.reply.Completion.{Completion}

-- the lines of a process's replies
abbrev pub reply_lines : ℕ → List Completion → List ℕ
reply_lines p [] = []
reply_lines p (completion ∷ completions) = reply_line p completion.outcome completion.buffer.items
    ++ reply_lines p completions
