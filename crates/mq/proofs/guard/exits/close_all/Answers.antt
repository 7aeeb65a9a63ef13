use Rattle.mq_model.proofs.Places.{split}
use Rattle.std.proofs.lemmas.Bool.{eqb-false}
use Rattle.std.proofs.Common.{arith}
use Rattle.mq.proofs.Closings.{from-closed, from-end, closing-more, lowest-is, lowest-is_not}
use Rattle.mq.proofs.guard.exits.close_all.Goals as goal
use Rattle.mq.proofs.guard.exits.close_all.Goals.{then-eq+in_ok-close_lowest}

pub close_lowest-requires-clause-lowest : goal.close_lowest-requires-clause-lowest
close_lowest-requires-clause-lowest c = lowest-is c.descriptors.books.records c.args.p
    c.descriptors.d c.lowest_open.result c.lowest_open.ensures c.if-eq.ensures

pub descriptors-preserved : goal.descriptors-preserved
descriptors-preserved c = grind (
  arith,
  closing-more,
  from-closed,
  lowest-is_not,
  then-eq+in_ok-close_lowest,
  eqb-false,
  split,
)

pub returns-clause-ok : goal.returns-clause-ok
returns-clause-ok c = from-end c.descriptors.books.records c.args.p
    (λ e is. let le = c.descriptors.invariant.from e is in
    omega (arith, le, c.descriptors-test.false))
