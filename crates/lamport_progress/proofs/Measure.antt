-- The measure that each step that changes the world lowers while no process is in its critical
-- section. It is a sum over the processes of how many steps each can still take, while y is 0 and
-- then while y is not 0.
use Rattle.std.proofs.Common.{◌≡◌, ◌==◌, ◌<◌, ◌≤◌, ◌+◌, ◌-◌, ◌*◌, ℕ, Bool, true, false, length, subst, arith}
use Rattle.std.specs.List.{sum_by}
use Rattle.lamport_core.specs.State.{State, process_count}
use Rattle.lamport_progress.specs.Progress.{work_bound}
use Rattle.lamport_progress.proofs.Sums.{total_le}
use Rattle.lamport_core.specs.declared.At.{At}
use Rattle.lamport_core.specs.declared.At.TheVariants.{Rest, Start, SetX, TestY, BackB, AwaitY, SetY, TestX, SlowB, Scan, SlowY, SlowAwait, Fast, Slow, Leaving}

-- while y is 0: an upper bound of the steps of a process until it has stored to y
abbrev pub free_rank : ℕ → At → ℕ
free_rank n Rest = 4
free_rank n Start = 4
free_rank n SetX = 3
free_rank n TestY = 2
free_rank n BackB = 6
free_rank n AwaitY = 5
free_rank n SetY = 1
free_rank n TestX = n + 8
free_rank n SlowB = n + 7
free_rank n (Scan j) = n + 7 - j
free_rank n SlowY = 6
free_rank n SlowAwait = 5
free_rank n Fast = 0
free_rank n Slow = 0
free_rank n Leaving = 5

-- while y is not 0: an upper bound of the steps of a process until it waits for y to be 0
abbrev pub taken_rank : ℕ → At → ℕ
taken_rank n Rest = 4
taken_rank n Start = 4
taken_rank n SetX = 3
taken_rank n TestY = 2
taken_rank n BackB = 1
taken_rank n AwaitY = 0
taken_rank n SetY = n + 4
taken_rank n TestX = n + 3
taken_rank n SlowB = n + 2
taken_rank n (Scan j) = n + 2 - j
taken_rank n SlowY = 1
taken_rank n SlowAwait = 0
taken_rank n Fast = 0
taken_rank n Slow = 0
taken_rank n Leaving = 5

-- depending on whether y is 0
abbrev pub rank : Bool → ℕ → At → ℕ
rank true n p = n + 3 + free_rank n p
rank false n p = taken_rank n p

abbrev pub measure : State → ℕ
measure w = sum_by (rank (w.y == 0) (process_count w)) w.points

pub lower : (t : Bool) (n : ℕ) (P Q : At) → free_rank n Q < free_rank n P →
    taken_rank n Q < taken_rank n P → rank t n Q < rank t n P
lower t n P Q f g = grind arith

pub taken-le-rank : (t : Bool) (n : ℕ) (p : At) → taken_rank n p ≤ rank t n p
taken-le-rank t n p = grind arith

rank-le : (t : Bool) (n : ℕ) (p : At) → rank t n p ≤ 2 * n + 11
rank-le t n p = grind arith

-- the measure is at most the bound
pub measure-le : (w : State) → length w.points ≡ process_count w →
    measure w ≤ work_bound (process_count w)
measure-le w e = subst (λ k. measure w ≤ k * (2 * process_count w + 11)) e
    (total_le (rank (w.y == 0) (process_count w)) (2 * process_count w + 11) w.points
    (rank-le (w.y == 0) (process_count w)))
