use Rattle.history_judge.specs.Fronts.{front_part}
use Rattle.history_judge.proofs.Transport.{answer-alike}
use Rattle.history_judge.proofs.Strangers.{of-processes-alike, part-of-processes}
use Rattle.history_judge.proofs.judgement.judge_front.Goals as goal

pub returns : goal.returns
returns c =
    answer-alike c.args.budget c.in_ok-front.front.items
    (front_part c.args.calls.now c.args.returns.now.items c.args.number) c.in_ok-front.ensures
    c.in_ok-answer.answer c.in_ok-answer.ensures.answer

pub find_order-requires : goal.find_order-requires
find_order-requires c =
    of-processes-alike c.in_ok-front.front.items
    (front_part c.args.calls.now c.args.returns.now.items c.args.number) c.in_ok-front.ensures
    (part-of-processes c.args.calls.now c.args.returns.now.items c.args.number c.requires)
