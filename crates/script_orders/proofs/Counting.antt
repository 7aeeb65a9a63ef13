-- Which processes of a script can go on.
use Rattle.std.proofs.lemmas.Bool.Decides.{nat_tests}
use Rattle.std.proofs.Common.{◌≡◌, ℕ, ◌<◌, true, false, is_some, refl, arith, inl, inr, zero, suc}
use Rattle.std.proofs.lemmas.Bool.{cases_lt}
use Rattle.script_orders.specs.Stage.{Stage, none_can_turn, turn_of}

-- one process that can go on
pub none_can_turn-false : (s : Stage) (n index : ℕ) → index < n → is_some (turn_of s index) ≡ true →
    none_can_turn s n ≡ false
none_can_turn-false s zero index below goes = let k : ⊥ = omega arith in absurd k
none_can_turn-false s (suc n) index below goes =
    elim (cases_lt index n) [
      | inl h ↦ rw (none_can_turn-false s n index h goes) refl
      | inr h ↦
          grind (arith, nat_tests)
    ]
