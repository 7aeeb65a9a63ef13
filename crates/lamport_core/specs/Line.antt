-- The lines of the algorithm as pairs of points, and the steps of an attempt.
use Rattle.std.specs.Prelude.{◌≡◌, ℕ, ◌+◌, ◌-◌, ◌^◌, ◌<◌, ◌≤◌, ◌⊎◌, min}
use Rattle.lamport_core.specs.State.{IsProcess}
use Rattle.lamport_core.specs.declared.At.{At}
use Rattle.lamport_core.specs.declared.At.TheVariants.{Rest, Start, SetX, TestY, BackB, AwaitY, SetY, TestX, SlowB, Scan, SlowY, SlowAwait, Fast, Slow, Leaving}

-- one of n processes can step from the first point to the second
abbrev pub IsLine : ℕ → At → At → Type 0
IsLine n Rest q = q ≡ SetX
IsLine n Start q = q ≡ SetX
IsLine n SetX q = q ≡ TestY
IsLine n TestY q = (q ≡ SetY) ⊎ (q ≡ BackB)
IsLine n BackB q = q ≡ AwaitY
IsLine n AwaitY q = (q ≡ Start) ⊎ (q ≡ AwaitY)
IsLine n SetY q = q ≡ TestX
IsLine n TestX q = (q ≡ Fast) ⊎ (q ≡ SlowB)
IsLine n SlowB q = q ≡ Scan 1
IsLine n (Scan j) q = (q ≡ Scan j) ⊎ (((j ≡ n) × (q ≡ SlowY)) ⊎ ((j < n) × (q ≡ Scan (j + 1))))
IsLine n SlowY q = (q ≡ Slow) ⊎ (q ≡ SlowAwait)
IsLine n SlowAwait q = (q ≡ Start) ⊎ (q ≡ SlowAwait)
IsLine n Fast q = q ≡ Leaving
IsLine n Slow q = q ≡ Leaving
IsLine n Leaving q = q ≡ Rest

-- one step more; the count stops at the greatest u64
abbrev pub one_more : ℕ → ℕ
one_more k = min (k + 1) (2 ^ 64 - 1)

-- The number of steps of an attempt after a step from this point, if it was k before. An attempt
-- begins with b[i] := true, its first step. An acquisition that starts again begins a new attempt.
-- At rest there is none.
abbrev pub pass_steps : At → ℕ → ℕ
pass_steps Rest k = 1
pass_steps Start k = 1
pass_steps Leaving k = 0
pass_steps _ k = one_more k

-- the number of steps of an attempt of one of n processes, as far as its point determines it
abbrev pub IsCounted : ℕ → At → ℕ → Type 0
IsCounted n Rest k = k ≡ 0
IsCounted n Start k = 5 ≤ k
IsCounted n SetX k = k ≡ 1
IsCounted n TestY k = k ≡ 2
IsCounted n BackB k = k ≡ 3
IsCounted n AwaitY k = 4 ≤ k
IsCounted n SetY k = k ≡ 3
IsCounted n TestX k = k ≡ 4
IsCounted n SlowB k = k ≡ 5
IsCounted n (Scan j) k = IsProcess n j × (j + 5 ≤ k)
IsCounted n SlowY k = n + 6 ≤ k
IsCounted n SlowAwait k = n + 7 ≤ k
IsCounted n Fast k = k ≡ 5
IsCounted n Slow k = n + 7 ≤ k
IsCounted n Leaving k = 6 ≤ k
