use Rattle.std.proofs.Common.{◌≡◌, ◌++◌, ◌∙◌, ap, sym, append_assoc, get_or, take}
use Rattle.script_text.specs.Replies.{reply_line}
use Rattle.script_text.specs.ReplyLines.{reply_lines}
use Rattle.script_text.proofs.ReplyLines.{reply_lines-more}
use Rattle.script_text.proofs.text.push_completions.Goals as goal

pub loop-completion-preserved : goal.loop-completion-preserved
loop-completion-preserved c =
    let completions = c.args.completions.now in let i = c.loop-completion.completion-index in
    let p = c.args.process in
    let lines = reply_lines p (take i completions) in
    let more = reply_lines-more p completions i c.completion-item.result c.loop-completion-test.true
    in
    let same : c.completion-item.result ≡ get_or completions i c.completion-item.result =
    c.completion-item.is in
    let line : c.push_reply.new.text.items ≡ c.loop-completion.text.items ++
    reply_line p c.completion-item.result.outcome c.completion-item.result.buffer.items =
    rw (sym c.as_slice.ensures.value) c.in_ok-push_reply.ensures in
    line
    ∙ ap (λ t. t ++ reply_line p c.completion-item.result.outcome
    c.completion-item.result.buffer.items) c.loop-completion.invariant
    ∙ append_assoc c.args.text.now.items lines (reply_line p c.completion-item.result.outcome
    c.completion-item.result.buffer.items)
    ∙ ap (λ a. c.args.text.now.items ++ (lines ++ reply_line p a.outcome a.buffer.items)) same
    ∙ ap (λ t. c.args.text.now.items ++ t) (sym more)
