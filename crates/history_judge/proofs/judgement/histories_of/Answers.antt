use Rattle.std.proofs.Common.{arith, ◌≡◌, ◌++◌, ◌∷◌, ap, sym, map, subst}
use Rattle.std.proofs.lemmas.Grind.{common_steps}
use Rattle.std.specs.Vec.Iter.{into_iter_items}
use Rattle.histories.specs.Histories.{Histories}
use Rattle.history_judge.specs.Seen.{seen}
use Rattle.history_judge.proofs.Grouping.{AreOwn, own-more}
use Rattle.history_judge.proofs.judgement.histories_of.Goals as goal

pub loop-operations-preserved : goal.loop-operations-preserved
loop-operations-preserved c =
    let was = c.loop-operations.invariant in
    let grouped = c.in_ok-by_process.by_process.items in let rest =
    into_iter_items c.next.new.self in
    let is : grouped ≡ c.loop-operations.yielded ++ c.in-Some.operations ∷ rest =
    grind (arith, common_steps) in
    let own = own-more c.args.calls.items grouped c.loop-operations.histories.items
    c.loop-operations.yielded rest c.in-Some.operations c.in_ok-own.own
    c.in_ok-by_process.ensures.each is was.count c.in_ok-own.ensures was.own in
    record {
      all = grind (arith, common_steps);
      left = grind (arith, common_steps);
      count = grind (arith, common_steps);
      own = subst (λ (xs : Histories). AreOwn c.args.calls.items xs)
          (sym c.in_ok-push.ensures.items) own;
    }

pub returns-clause-are : goal.returns-clause-are
returns-clause-are c = record {
  count = grind (arith, common_steps);
  each = λ index operations is. ap (map seen) (c.loop-operations.invariant.own index operations is);
}
