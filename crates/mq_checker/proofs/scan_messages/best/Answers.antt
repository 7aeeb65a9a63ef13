use Rattle.std.proofs.Common.{◌≡◌, ◌∙◌, ap, sym, arith, not}
use Rattle.std.specs.List.{filter}
use Rattle.mq_model.specs.Record.{Past, first}
use Rattle.mq_model.specs.Messages.{is_in, taken, admitted, entered, goes_first, present}
use Rattle.mq_model.specs.OnePass.{best_of}
use Rattle.mq_model.proofs.Best.{best_of-best, messages-ranking}
use Rattle.mq_checker.specs.TakenTable.{unless_in, with_best}
use Rattle.mq_checker.proofs.TakenBits.{filter-with, best-with}
use Rattle.mq_checker.proofs.scan_messages.best.Goals as goal

pub loop-i-preserved : goal.loop-i-preserved
loop-i-preserved c =
    let all = first c.args.k c.args.journal.now.records in
    let before = first c.loop-i.i c.args.journal.now.records in
    let gone = taken all in
    let new = unless_in gone (entered before c.record.result.0 c.args.q) in
    let better = goes_first all in
    c.best_with-found.ensures
    ∙ ap (with_best better new) c.loop-i.invariant
    ∙ sym (best-with better new (filter (λ m. not (is_in gone m)) (admitted before c.args.q)))
    ∙ ap (best_of better) (sym (filter-with gone (entered before c.record.result.0 c.args.q)
    (admitted before c.args.q)))
    ∙ ap (λ (b : Past). best_of better (filter (λ m. not (is_in gone m)) (admitted b c.args.q)))
    (sym c.record.ensures)

pub returns : goal.returns
returns c =
    let at_end : c.loop-i.i ≡ c.args.k = omega arith in
    let past = first c.args.k c.args.journal.now.records in
    let found : c.loop-i.found ≡ best_of (goes_first past) (present past c.args.q) =
    rw at_end at c.loop-i.invariant in
    found ∙ best_of-best (goes_first past) (messages-ranking past) (present past c.args.q)
