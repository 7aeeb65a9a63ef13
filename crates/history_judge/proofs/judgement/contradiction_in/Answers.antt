use Rattle.std.proofs.Common.{IfOk, IfSome, Err, List, Ok, Option, Result}
use Rattle.std.specs.declared.alloc.AllocError.{AllocError}
use Rattle.histories.specs.Histories.{Histories}
use Rattle.histories.specs.Contradiction.{IsContradiction}
use Rattle.histories.specs.declared.contradiction.Contradiction.{Contradiction}
use Rattle.history_judge.specs.Fronts.{front_part}
use Rattle.history_judge.specs.Seen.{AreSameCalls}
use Rattle.history_judge.specs.Verdicts.{AreHistoriesOf, HasContradiction}
use Rattle.history_judge.specs.declared.line.Called.{Called}
use Rattle.history_judge.proofs.Transport.{contradiction-alike}
use Rattle.history_judge.proofs.judgement.contradiction_in.Goals as goal

found-alike : (xs ys : List Called) → AreSameCalls xs ys → (histories : Histories) →
    AreHistoriesOf xs histories → (result : Result (Option Contradiction) AllocError) →
    IfOk result (λ found. IfSome found (IsContradiction histories)) →
    IfOk result (λ found. IfSome found (HasContradiction ys))
found-alike xs ys same histories are (Ok found) is =
    contradiction-alike xs ys same histories are found is
found-alike xs ys same histories are (Err e) is = tt

pub returns : goal.returns
returns c =
    found-alike c.in_ok-front.front.items (front_part c.args.calls.now c.args.returns.now.items
    c.args.number) c.in_ok-front.ensures
    c.in_ok-histories.histories.items c.in_ok-histories.ensures.are c.find_contradiction.result
    c.find_contradiction.ensures.is
