-- Histories of a process whose descriptors already have this library's numbers.
use Rattle.std.specs.Prelude.{ℕ, ◌≡◌, ◌<◌, ◌⊎◌, ◌==◌, true, false, not, List, [], ◌∷◌, Some}
use Rattle.std.specs.List.{filter}
use Rattle.mq_model.specs.Descriptors.{descriptor_of}
use Rattle.mq_model.specs.Messages.{is_in}
use Rattle.mq_model.specs.declared.entries.Call.{Call}
use Rattle.mq_model.specs.declared.entries.Call.TheVariants.{MqClose}
use Rattle.histories.specs.declared.operation.Operation.{Operation}
use Rattle.histories.specs.declared.operation.Outcome.{Outcome}
use Rattle.histories.specs.declared.operation.Outcome.TheVariants.{Done, Opened}

-- The descriptors that a process holds after a call: an open that returned adds one, and a close
-- that succeeded removes one.
abbrev pub held_then : List ℕ → Call → Outcome → List ℕ
held_then held call (Opened d) = d ∷ held
held_then held (MqClose d) Done = filter (λ k. not (k == d)) held
held_then held call outcome = held

-- d is the lowest of the numbers 0 to 15 that is not held
pub record IsLowestFree (held : List ℕ) (d : ℕ) : Type 0 where
  pub few : d < 16
  pub free : is_in held d ≡ false
  pub below : (k : ℕ) → k < d → is_in held k ≡ true

-- a call names a descriptor that is held, or 16, which stands for any that is not held
abbrev pub NamesOwn : List ℕ → Call → Type 0
NamesOwn held call = (d : ℕ) → descriptor_of call ≡ Some d → (is_in held d ≡ true) ⊎ (d ≡ 16)

-- The operations have this library's numbers, if the process holds these at the start: each call
-- names its descriptor in this way, and each open that returned gave the lowest free number.
abbrev pub HaveOwnNumbers : List ℕ → List Operation → Type 0
HaveOwnNumbers held [] = Unit {0}
HaveOwnNumbers held (o ∷ operations) =
    NamesOwn held o.call
    × ((d : ℕ) → o.outcome ≡ Opened d → IsLowestFree held d)
    × HaveOwnNumbers (held_then held o.call o.outcome) operations
