-- The lines of replies, by induction on their number.
use Rattle.std.proofs.lemmas.Grind.{common_steps}
use Rattle.std.proofs.Common.{◌≡◌, ◌<◌, ◌+◌, ◌++◌, ℕ, List, [], ◌∷◌, length, get_or, take, ap, ◌∙◌, append-nil, arith}
use Rattle.std.proofs.lemmas.List.{take_more}
use Rattle.script_text.specs.Replies.{reply_line}
use Rattle.script_text.specs.ReplyLines.{reply_lines}
use Rattle.script_text.specs.declared.reply.Completion.{Completion}

reply_lines-push : (p : ℕ) (completions : List Completion) (completion : Completion) →
    reply_lines p (completions ++ completion ∷ []) ≡ reply_lines p completions ++
    reply_line p completion.outcome completion.buffer.items
reply_lines-push p [] completion =
    append-nil (reply_line p completion.outcome completion.buffer.items)
reply_lines-push p (first ∷ completions) completion =
    grind (arith, common_steps, reply_lines-push p completions completion)

-- the lines of the first i completions, and those of one more
pub reply_lines-more : (p : ℕ) (completions : List Completion) (i : ℕ) (d : Completion) →
    i < length completions → reply_lines p (take (i + 1) completions) ≡
    reply_lines p (take i completions) ++ reply_line p (get_or completions i d).outcome
    (get_or completions i d).buffer.items
reply_lines-more p completions i d low = ap (reply_lines p) (take_more completions i d low) ∙
    reply_lines-push p (take i completions) (get_or completions i d)
