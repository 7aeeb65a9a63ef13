use Rattle.std.proofs.Common.{IfOk, IfSome, IsSome, None, Option, Result, Ok, Err, Some}
use Rattle.std.specs.declared.alloc.AllocError.{AllocError}
use Rattle.histories.specs.Histories.{Histories}
use Rattle.histories.specs.Excess.{HasNoOrder, IsExcess}
use Rattle.histories.specs.declared.excess.Excess.{Excess}
use Rattle.histories.proofs.Refuting.{excess-refutes}
use Rattle.histories.proofs.excess.find_excess.Goals as goal

none-of : (histories : Histories) (found : Option Excess) → IfSome found (IsExcess histories) →
    IsSome found → HasNoOrder histories
none-of histories None is some = absurd (cc)
none-of histories (Some e) is some = excess-refutes histories e is

refutes : (histories : Histories) (result : Result (Option Excess) AllocError) →
    IfOk result (λ found. IfSome found (IsExcess histories)) →
    IfOk result (λ found. IsSome found → HasNoOrder histories)
refutes histories (Ok found) is = none-of histories found is
refutes histories (Err e) is = tt

pub returns-clause-none : goal.returns-clause-none
returns-clause-none c = refutes c.args.histories.now.items c.excess_of.result c.excess_of.ensures
