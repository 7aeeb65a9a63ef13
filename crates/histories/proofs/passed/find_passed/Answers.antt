use Rattle.std.proofs.Common.{IfSome, IsSome, None, Option, Some}
use Rattle.histories.specs.Histories.{Histories}
use Rattle.histories.specs.Excess.{HasNoOrder}
use Rattle.histories.specs.Passed.{IsPassed}
use Rattle.histories.specs.declared.passed.Passed.{Passed}
use Rattle.histories.proofs.Passing.{passed-refutes}
use Rattle.histories.proofs.passed.find_passed.Goals as goal

none-of : (histories : Histories) (found : Option Passed) → IfSome found (IsPassed histories) →
    IsSome found → HasNoOrder histories
none-of histories None is some = absurd (cc)
none-of histories (Some e) is some = passed-refutes histories e is

pub returns-in-Some-clause-none : goal.returns-in-Some-clause-none
returns-in-Some-clause-none c = none-of c.args.histories.now.items c.checked.result
    c.checked.ensures
