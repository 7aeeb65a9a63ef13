-- The number of steps to try all schedules.
use Rattle.std.specs.Prelude.{◌≡◌, ℕ, ◌+◌, ◌≤◌, zero, suc, List, length, Option, Some, unwrap_or}
use Rattle.std.specs.Option.{option_map}
use Rattle.schedules.specs.Schedules.{IsReached, after}

abbrev pub sum_below : (ℕ → ℕ) → ℕ → ℕ
sum_below f zero = 0
sum_below f (suc n) = sum_below f n + f n

-- The number of steps in which a search tries all schedules of fewer than n choices from a state at
-- this depth. For each choice at the state, whether it can be taken or not, it counts one step and
-- those of the schedules after it, and then the steps to go back to the state.
abbrev pub work : {S : Type 0} → (S → ℕ → Option S) → (S → ℕ) → (ℕ → ℕ) → ℕ → ℕ → S → ℕ
work next choices back zero depth s = 0
work next choices back (suc n) depth s =
    sum_below (λ choice. 1 + unwrap_or (option_map (work next choices back n (depth + 1))
    (next s choice)) 0) (choices s) + back depth

-- trying all schedules from a state takes at least this number of steps
abbrev pub TakesAll : {S : Type 0} → (S → ℕ → Option S) → (S → ℕ) → (ℕ → ℕ) → ℕ → S → Type 0
TakesAll next choices back budget from = budget ≤ work next choices back budget 0 from

-- no schedule from a state is longer than d, and each state that one reaches has at most c choices
abbrev pub AreShort : {S : Type 0} → (S → ℕ → Option S) → ℕ → S → Type 0
AreShort {S} next d from = (schedule : List ℕ) (to : S) → after next schedule from ≡ Some to →
    length schedule ≤ d

abbrev pub HaveFew : {S : Type 0} → (S → ℕ → Option S) → (S → ℕ) → ℕ → S → Type 0
HaveFew {S} next choices c from = (to : S) → IsReached next from to → choices to ≤ c
