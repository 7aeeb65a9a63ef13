use Rattle.std.proofs.Common.{arith}
use Rattle.schedules.proofs.Working.{work-bound}
use Rattle.schedules.proofs.work.few_schedules_take_few_steps.Goals as goal

pub returns-clause-taken : goal.returns-clause-taken
returns-clause-taken g c from most long budget short few enough takes =
    let h = work-bound g.M.Machine.next g.M.Machine.choices (λ depth. 1) 1 most long
    (λ depth within. omega arith) long budget 0 from (omega arith) short few in
    omega (arith, h, enough, takes)

pub returns-clause-taken_again : goal.returns-clause-taken_again
returns-clause-taken_again g c from most long budget short few enough takes =
    let h = work-bound g.M.Machine.next g.M.Machine.choices (λ depth. depth) long most long
    (λ depth within. within) long budget 0 from (omega arith) short few in
    omega (arith, h, enough, takes)
