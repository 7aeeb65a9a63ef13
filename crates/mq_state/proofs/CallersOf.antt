-- Which rows the processes of callers have.
use Rattle.std.proofs.Common.{ℕ, ◌+◌, ◌<◌, ◌≤◌, arith}
use Rattle.std.proofs.lemmas.Bool.Decides.{nat_tests}
use Rattle.mq_model.specs.Threads.{owner_of}
use Rattle.mq_model.proofs.Mates.{owner_few, owner_below}
use Rattle.mq_state.specs.Tables.{last_process}

pub last-few : (n : ℕ) → last_process n ≤ 32
last-few n = grind (arith, nat_tests)

-- the process of a caller has a row
pub owner-inside : (p n : ℕ) → p ≤ n → owner_of p < last_process n + 1
owner-inside p n le = grind (arith, nat_tests, owner_few p, owner_below p)
