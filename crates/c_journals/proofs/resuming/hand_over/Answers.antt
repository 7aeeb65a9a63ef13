use Rattle.std.proofs.Common.{◌≡◌, ◌∙◌, ap, length, arith}
use Rattle.std.proofs.lemmas.List.Elements.{All-same}
use Rattle.c_handles.specs.Systems.{IsDeadlineOf}
use Rattle.c_handles.proofs.Systems.{deadlines_fit, tickets_length, tickets_lock}
use Rattle.c_journals.proofs.resuming.hand_over.Goals as goal

pub hand_out-requires-clause-count : goal.hand_out-requires-clause-count
hand_out-requires-clause-count c = ap length c.in-Ok.ensures.processes ∙ tickets_length c.in-Ok.mq
    c.args.books.records 1 c.args.books.n ∙ c.requires.count

pub hand_out-requires-clause-made : goal.hand_out-requires-clause-made
hand_out-requires-clause-made c = All-same (λ p. p.lock ≡ c.in-Ok.mq) _ _ c.in-Ok.ensures.processes
    (tickets_lock c.in-Ok.mq c.args.books.records 1 c.args.books.n)

pub hand_out-requires-clause-deadlines : goal.hand_out-requires-clause-deadlines
hand_out-requires-clause-deadlines c =
    let deadlines = c.deadlines_of-deadlines.result in
    All-same (IsDeadlineOf deadlines) _ _ c.in-Ok.ensures.processes
    (deadlines_fit deadlines c.in-Ok.mq c.args.books.records c.deadlines_of-deadlines.ensures 1
    c.args.books.n (omega arith))
