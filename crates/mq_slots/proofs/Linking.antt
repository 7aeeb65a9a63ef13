-- A message that is put into a spare slot keeps the chains.
use Rattle.std.proofs.Common.{◌≡◌, ◌≢◌, ℕ, ◌+◌, ◌*◌, ◌<◌, ◌≤◌, arith}
use Rattle.std.proofs.lemmas.Bool.{cases_eq, cases_lt}
use Rattle.mq_slots.specs.Chains.{span, IsNext, IsChained}

-- what p, t and nx become: the message of priority q and place s is put into `new`, after `before`
pub record Linked (p t nx p' t' nx' : ℕ → ℕ) (before new q s : ℕ) : Type 0 where
  pub new_p : p' new ≡ q
  pub new_t : t' new ≡ s
  pub new_nx : nx' new ≡ nx before
  pub before_nx : nx' before ≡ new
  pub kept_p : (i : ℕ) → i ≢ new → p' i ≡ p i
  pub kept_t : (i : ℕ) → i ≢ new → t' i ≡ t i
  pub kept_nx : (i : ℕ) → i ≢ new → i ≢ before → nx' i ≡ nx i

-- the slot `before` is the last one that goes before the message
pub record IsBefore (n : ℕ) (p t : ℕ → ℕ) (before q s : ℕ) : Type 0 where
  pub within : before < n
  pub chained : p before ≤ 32768
  pub under : t before + span * q < s + span * p before
  pub nearest : (j : ℕ) → j < n → p j < 32768 → t j + span * q < s + span * p j →
      t j + span * p before ≤ t before + span * p j

-- the slot and its message: one that is spare, and a message that is the newest
pub record IsNew (n : ℕ) (p t : ℕ → ℕ) (new q s : ℕ) : Type 0 where
  pub within : new < n
  pub spare : 32768 < p new
  pub low : q < 32768
  pub place : s < span
  pub newest : (j : ℕ) → j < n → p j < 32768 → t j < s

-- `before` links to the new slot
next_to_new : (n : ℕ) (p t nx p' t' nx' : ℕ → ℕ) (before new q s : ℕ) → IsChained n p t nx →
    Linked p t nx p' t' nx' before new q s → IsBefore n p t before q s → IsNew n p t new q s
    → (j : ℕ) → j < n → p' j < 32768 → t' before + span * p' j < t' j + span * p' before →
    IsNext n p' t' before j (nx' before)
next_to_new n p t nx p' t' nx' before new q s old step place fresh j jl jp order =
    grind (arith, cases_eq, cases_lt)

-- the link of another slot does not change
next_as_before : (n : ℕ) (p t nx p' t' nx' : ℕ → ℕ) (before new q s : ℕ) → IsChained n p t nx →
    Linked p t nx p' t' nx' before new q s → IsBefore n p t before q s → IsNew n p t new q s
    → (i j : ℕ) → i < n → j < n → i ≢ new → i ≢ before → p' i ≤ 32768 → p' j < 32768 →
    t' i + span * p' j < t' j + span * p' i → IsNext n p' t' i j (nx' i)
next_as_before n p t nx p' t' nx' before new q s old step place fresh i j il jl apart_new apart ip
    jp order = grind (arith, cases_eq)

-- a message that is put into a spare slot, after the last one that goes before it, keeps the chain
pub linked-chained : (n : ℕ) (p t nx p' t' nx' : ℕ → ℕ) (before new q s : ℕ) → IsChained n p t nx →
    Linked p t nx p' t' nx' before new q s → IsBefore n p t before q s → IsNew n p t new q s →
    IsChained n p' t' nx'
linked-chained n p t nx p' t' nx' before new q s old step place fresh =
    grind (arith, cases_eq, next_to_new, next_as_before)
