use Rattle.std.proofs.Common.{◌≡◌, ◌++◌, ◌∙◌, ap, sym, append_assoc, get_or, take}
use Rattle.script_text.specs.ReplyLines.{reply_lines}
use Rattle.script_runner.specs.Notes.{lines_of}
use Rattle.script_runner.specs.Phase.{text_in}
use Rattle.script_runner.proofs.Lists.{text_in-more}
use Rattle.script_runner.proofs.noted.note_all.Goals as goal

pub loop-worked-preserved : goal.loop-worked-preserved
loop-worked-preserved g c =
    let workers = c.args.workers.now in let i = c.loop-worked.worked-index in let worked =
    c.worked-item.result in
    let before = lines_of c.args.noted.now.items in let text = text_in (take i workers) in
    let more = text_in-more workers i worked c.loop-worked-test.true in
    let same : worked ≡ get_or workers i worked = c.worked-item.is in
    let lines : lines_of c.note_completions.new.noted.items ≡ lines_of c.loop-worked.noted.items ++
    reply_lines worked.process.number worked.completions.items =
    rw (sym c.as_slice.ensures.value, sym c.number.ensures) c.in_ok-note_completions.ensures in
    lines
    ∙ ap (λ t. t ++ reply_lines worked.process.number worked.completions.items)
    c.loop-worked.invariant
    ∙ append_assoc before text (reply_lines worked.process.number worked.completions.items)
    ∙ ap (λ w. before ++ (text ++ reply_lines w.process.number w.completions.items)) same
    ∙ ap (λ t. before ++ t) (sym more)
