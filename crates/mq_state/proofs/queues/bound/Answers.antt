use Rattle.std.proofs.Common.{◌≡◌, true, get_or, arith, sym, ap, ◌∙◌, Some}
use Rattle.std.specs.Option.{option_map}
use Rattle.mq_state.specs.QueueShown.{QueueShown}
use Rattle.mq_state.specs.Queues.{bound_in, is_bound_to}
use Rattle.mq_state.proofs.Finding.{first-true, none-true}
use Rattle.mq_state.proofs.queues.bound.Goals as goal

pub is_bound-requires : goal.is_bound-requires
is_bound-requires c =
    let x = c.index-queues-i.result in
    let lt = c.loop-i-test.true in
    rw c.index-queues-i.is (c.requires c.loop-i.i x lt)

pub returns-then-is_bound : goal.returns-then-is_bound
unfolding bound_in
returns-then-is_bound c =
    let x = c.index-queues-i.result in
    let qs = c.args.queues.now in
    let t = is_bound_to c.args.journal.now.records c.args.name.now in
    let here : t (get_or qs c.loop-i.i x) ≡ true = ap t (sym c.index-queues-i.is) ∙
    sym c.is_bound.ensures ∙ c.if-is_bound.true in
    ap Some (c.place.ensures ∙ ap (λ (y : QueueShown). y.place) c.index-queues-i.is) ∙
    sym (ap (option_map (λ (y : QueueShown). y.place))
    (first-true t qs c.loop-i.i x c.loop-i-test.true c.loop-i.invariant here))

pub returns : goal.returns
unfolding bound_in
returns c =
    let t = is_bound_to c.args.journal.now.records c.args.name.now in
    sym (ap (option_map (λ (y : QueueShown). y.place)) (none-true t c.args.queues.now
    (λ k d lt. c.loop-i.invariant k d (let end = c.loop-i-test.false in
    omega (arith, lt, end)))))
