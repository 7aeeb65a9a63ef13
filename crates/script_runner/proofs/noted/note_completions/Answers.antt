use Rattle.std.proofs.Common.{◌≡◌, ◌++◌, ◌∷◌, [], ◌∙◌, ap, sym, append_assoc, get_or, take}
use Rattle.std.proofs.lemmas.List.{flat_map_more}
use Rattle.script_text.specs.Replies.{reply_line}
use Rattle.script_text.specs.ReplyLines.{reply_lines}
use Rattle.script_text.proofs.ReplyLines.{reply_lines-more}
use Rattle.script_runner.specs.Notes.{line_of, lines_of}
use Rattle.script_runner.proofs.noted.note_completions.Goals as goal

pub loop-completion-preserved : goal.loop-completion-preserved
loop-completion-preserved c =
    let completions = c.args.completions.now in let i = c.loop-completion.completion-index in
    let p = c.args.process in
    let completion = c.completion-item.result in let before = lines_of c.args.noted.now.items in
    let lines = reply_lines p (take i completions) in
    let more = reply_lines-more p completions i completion c.loop-completion-test.true in
    let same : completion ≡ get_or completions i completion = c.completion-item.is in
    let pushed : c.push.new.self.items ≡ c.loop-completion.noted.items ++ c.in_ok-noted_of.field-0 ∷
    [] = c.in_ok-push.ensures.items in
    ap lines_of pushed
    ∙ sym (flat_map_more line_of [] c.loop-completion.noted.items c.in_ok-noted_of.field-0)
    ∙ ap (λ line. lines_of c.loop-completion.noted.items ++ line) c.in_ok-noted_of.ensures
    ∙ ap (λ t. t ++ reply_line p completion.outcome completion.buffer.items)
    c.loop-completion.invariant
    ∙ append_assoc before lines (reply_line p completion.outcome completion.buffer.items)
    ∙ ap (λ a. before ++ (lines ++ reply_line p a.outcome a.buffer.items)) same
    ∙ ap (λ t. before ++ t) (sym more)
