use Rattle.std.proofs.Common.{Bool, List, ap, is_none, sym, ◌∙◌}
use Rattle.std.specs.List.{list_all}
use Rattle.history_judge.specs.Seen.{SeenCall}
use Rattle.history_judge.proofs.Transport.{explained-alike, impossible-alike, uses-up-alike}
use Rattle.history_judge.proofs.Strangers.{of-processes-alike}
use Rattle.history_judge.proofs.judgement.judge_calls.Goals as goal

pub returns-in-Possible : goal.returns-in-Possible
returns-in-Possible c =
    explained-alike c.in_ok-whole.whole.items c.args.calls.now c.in-Possible.journal.items
    c.in_ok-whole.ensures
    (rw c.in-Possible.is at c.in_ok-answer.ensures.answer)

pub find_order-requires : goal.find_order-requires
find_order-requires c = of-processes-alike c.in_ok-whole.whole.items c.args.calls.now
    c.in_ok-whole.ensures c.requires

pub shortest-requires-clause-impossible : goal.shortest-requires-clause-impossible
shortest-requires-clause-impossible c =
    impossible-alike c.in_ok-whole.whole.items c.args.calls.now c.in_ok-whole.ensures
    (rw c.in-Impossible.is at c.in_ok-answer.ensures.answer)

pub returns-in-OutOfBudget : goal.returns-in-OutOfBudget
returns-in-OutOfBudget c = uses-up-alike c.args.budget c.in_ok-whole.whole.items c.args.calls.now
    c.in_ok-whole.ensures (rw c.in-OutOfBudget.is at c.in_ok-answer.ensures.answer)

pub shortest-requires-clause-returned : goal.shortest-requires-clause-returned
shortest-requires-clause-returned c =
    let all : List SeenCall → Bool = λ cs. list_all (λ x. is_none x.operation.reply) cs in
    sym (ap all c.in_ok-whole.ensures) ∙ c.find_order.ensures.returned
    (rw c.in-Impossible.is at c.in_ok-answer.was)
