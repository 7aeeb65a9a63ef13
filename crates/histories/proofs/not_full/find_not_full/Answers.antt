use Rattle.std.proofs.Common.{IfSome, IsSome, None, Option, Some}
use Rattle.histories.specs.Histories.{Histories}
use Rattle.histories.specs.Excess.{HasNoOrder}
use Rattle.histories.specs.NotFull.{IsNotFull}
use Rattle.histories.specs.declared.not_full.NotFull.{NotFull}
use Rattle.histories.proofs.Filling.{not-full-refutes}
use Rattle.histories.proofs.not_full.find_not_full.Goals as goal

none-of : (histories : Histories) (found : Option NotFull) → IfSome found (IsNotFull histories) →
    IsSome found → HasNoOrder histories
none-of histories None is some = absurd (cc)
none-of histories (Some e) is some = not-full-refutes histories e is

pub returns-in-Some-clause-none : goal.returns-in-Some-clause-none
returns-in-Some-clause-none c = none-of c.args.histories.now.items c.checked.result
    c.checked.ensures
