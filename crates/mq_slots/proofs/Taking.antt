-- The chain of spare slots, as its first slot leaves and as one comes back.
use Rattle.std.proofs.Common.{◌≡◌, ◌≢◌, ℕ, ◌-◌, ◌<◌, ◌≤◌, arith}
use Rattle.mq_slots.specs.Chains.{IsFreed}
use Rattle.mq_slots.proofs.Linking.{Linked, IsNew}

-- a slot is spare after the first one has left: it was spare, and is another one
record StaysSpare (n : ℕ) (p t p' t' : ℕ → ℕ) (nx nx' : ℕ → ℕ) (new i : ℕ) : Type 0 where
  pub other : i ≢ new
  pub spare : 32768 < p i
  pub same_t : t' i ≡ t i
  pub same_nx : nx' i ≡ nx i
  pub less : t i < t new

pub linked-freed : (n : ℕ) (p t nx p' t' nx' : ℕ → ℕ) (before new q s count : ℕ) →
    IsFreed n p t nx new count → Linked p t nx p' t' nx' before new q s → IsNew n p t new q s →
    p before ≤ 32768 → 0 < count → IsFreed n p' t' nx' (nx new) (count - 1)
linked-freed n p t nx p' t' nx' before new q s count old step fresh chained some = grind arith
