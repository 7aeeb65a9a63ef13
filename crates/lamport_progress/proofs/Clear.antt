-- The measure of fair rounds while y is not 0. For each process it adds the steps until its flag is
-- down for good, and for the process that y names the flags that its scan has not yet passed.
use Rattle.std.proofs.Common.{◌≡◌, ◌<◌, ◌≤◌, ◌+◌, ◌-◌, ◌⊎◌, ℕ, zero, suc, List, [], ◌∷◌, get_or, refl, inl, inr, arith}
use Rattle.std.specs.List.{sum_by}
use Rattle.std.proofs.lemmas.List.Sums.{sum_by-cons}
use Rattle.lamport_core.specs.State.{State, process_count, point_of}
use Rattle.lamport_core.specs.declared.At.{At}
use Rattle.lamport_core.specs.declared.At.TheVariants.{Rest, Start, SetX, TestY, BackB, AwaitY, SetY, TestX, SlowB, Scan, SlowY, SlowAwait, Fast, Slow, Leaving}

abbrev pub clear : At → ℕ
clear Rest = 4
clear Start = 4
clear SetX = 3
clear TestY = 2
clear BackB = 1
clear AwaitY = 0
clear SetY = 3
clear TestX = 2
clear SlowB = 1
clear (Scan j) = 0
clear SlowY = 0
clear SlowAwait = 0
clear Fast = 0
clear Slow = 0
clear Leaving = 5

-- about to store to y
abbrev pub storing : At → ℕ
storing SetY = 1
storing _ = 0

abbrev pub storing_count : List At → ℕ
storing_count ps = sum_by storing ps

abbrev pub scan_rank : ℕ → At → ℕ
scan_rank n TestX = n
scan_rank n SlowB = n
scan_rank n (Scan j) = n - (j - 1)
scan_rank n _ = 0

-- while a process is about to store to y: as if it were about to scan
abbrev pub owner_part : ℕ → ℕ → At → ℕ
owner_part zero n Q = scan_rank n Q
owner_part (suc c) n Q = n

abbrev pub fair_measure_at : ℕ → ℕ → (ℕ → At) → List At → ℕ
fair_measure_at n y at ps = sum_by clear ps + owner_part (storing_count ps) n (at y)

abbrev pub fair_measure : State → ℕ
fair_measure w = fair_measure_at (process_count w) w.y (point_of w) w.points

pub owner-le : (c n : ℕ) (Q : At) → owner_part c n Q ≤ n
owner-le c n Q = grind arith

pub owner_falls : (c c' n : ℕ) (Q Q' : At) → c' ≤ c → scan_rank n Q' ≤ scan_rank n Q →
    owner_part c' n Q' ≤ owner_part c n Q
owner_falls c c' n Q Q' h l = grind arith

pub owner_lower : (c c' n : ℕ) (Q Q' : At) → c ≡ 0 → c' ≤ c → scan_rank n Q' < scan_rank n Q →
    owner_part c' n Q' < owner_part c n Q
owner_lower c c' n Q Q' e h l = grind arith

pub owner_full : (c n : ℕ) (Q : At) → 0 < c → owner_part c n Q ≡ n
owner_full c n Q h = grind arith

pub clear-le : (p : At) → clear p ≤ 5
clear-le p = grind arith

is_storing : (p : At) → (storing p ≡ 0) ⊎ (p ≡ SetY)
is_storing p = grind arith

-- no process is at SetY, or some process is
pub find_storing : (ps : List At) → (storing_count ps ≡ 0) ⊎ ((k : ℕ) × (get_or ps k Rest ≡ SetY))
find_storing [] = inl refl
find_storing (p ∷ ps) = elim (is_storing p) [
  | inr e ↦ inr (0, e)
  | inl e ↦ elim (find_storing ps) [
    | inl h ↦ inl (omega (arith, sum_by-cons storing p ps))
    | inr h ↦ inr (suc h.0, h.1)
  ]
]
