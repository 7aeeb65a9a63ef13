-- The first message leaves its slot, which becomes a spare one.
use Rattle.std.proofs.Common.{◌≡◌, ◌≢◌, ℕ, ◌+◌, ◌*◌, ◌<◌, ◌≤◌, arith}
use Rattle.std.proofs.lemmas.Bool.{cases_eq, cases_lt}
use Rattle.mq_slots.specs.Chains.{span, IsChained, IsFreed}

-- what p, t and nx become: the slot `first` leaves the chain, and is the first of count + 1 spare
-- ones
pub record Unlinked (p t nx p' t' nx' : ℕ → ℕ) (first free count : ℕ) : Type 0 where
  pub gone_p : p' first ≡ 32769
  pub gone_t : t' first ≡ count + 1
  pub gone_nx : nx' first ≡ free
  pub head_nx : nx' 0 ≡ nx first
  pub kept_p : (i : ℕ) → i ≢ first → p' i ≡ p i
  pub kept_t : (i : ℕ) → i ≢ first → t' i ≡ t i
  pub kept_nx : (i : ℕ) → i ≢ first → i ≢ 0 → nx' i ≡ nx i

-- the slot has the message that is received next
pub record IsFirst (n : ℕ) (p t : ℕ → ℕ) (first : ℕ) : Type 0 where
  pub within : first < n
  pub used : p first < 32768
  pub nearest : (j : ℕ) → j < n → p j < 32768 → t first + span * p j ≤ t j + span * p first

-- if there is a message, the head is linked to the first one
pub head-first : (n : ℕ) (p t nx : ℕ → ℕ) → IsChained n p t nx → (i : ℕ) → i < n → p i < 32768 →
    IsFirst n p t (nx 0)
head-first n p t nx old i il ip = grind arith

-- each other message goes after the first one
pub first-before : (n : ℕ) (p t nx : ℕ → ℕ) (first : ℕ) → IsChained n p t nx → IsFirst n p t first →
    (j : ℕ) → j < n → p j < 32768 → j ≢ first → t first + span * p j < t j + span * p first
first-before n p t nx first old best j jl jp other = grind (arith, cases_lt)

pub unlinked-chained : (n : ℕ) (p t nx p' t' nx' : ℕ → ℕ) (first free count : ℕ) →
    IsChained n p t nx → IsFirst n p t first → Unlinked p t nx p' t' nx' first free count →
    count < 4096 → IsChained n p' t' nx'
unlinked-chained n p t nx p' t' nx' first free count old best step few =
    grind (arith, cases_eq, first-before, cases_lt)

pub unlinked-freed : (n : ℕ) (p t nx p' t' nx' : ℕ → ℕ) (first free count : ℕ) →
    IsFreed n p t nx free count → IsFirst n p t first → p 0 ≡ 32768 →
    Unlinked p t nx p' t' nx' first free count → IsFreed n p' t' nx' first (count + 1)
unlinked-freed n p t nx p' t' nx' first free count old best head step = grind (arith, cases_eq)
