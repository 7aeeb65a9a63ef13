-- How the slots, the linked lists and the levels of a queue relate: facts about the priority p i,
-- the sequence number t i and the next slot nx i of the slot i, among n slots.
use Rattle.std.specs.Prelude.{◌≡◌, ℕ, ◌+◌, ◌*◌, ◌<◌, ◌≤◌}

-- Every sequence number is below this. So of the slots i and j, the message of i is received first
-- if and only if t i + span * p j < t j + span * p i: its priority is higher, or equal and its
-- sequence number is lower.
abbrev pub span : ℕ
span = 18446744073709551616

-- the slot k has a message that is received after that of slot i, and not after that of slot j
pub record IsNext (n : ℕ) (p t : ℕ → ℕ) (i j k : ℕ) : Type 0 where
  pub within : k < n
  pub used : p k < 32768
  pub after : t i + span * p k < t k + span * p i
  pub nearest : t k + span * p j ≤ t j + span * p k

-- The slots with a message, and the head 0, form one list in the order in which messages are
-- received: the higher priority first, and then the lower sequence number.
pub record IsChained (n : ℕ) (p t nx : ℕ → ℕ) : Type 0 where
  pub there : 0 < n
  pub head : p 0 ≡ 32768
  pub head_place : t 0 ≡ 0
  pub only : (i : ℕ) → i < n → p i ≡ 32768 → i ≡ 0
  pub places : (i : ℕ) → i < n → t i < span
  pub distinct : (i j : ℕ) → i < n → j < n → p i < 32768 → p j < 32768 → t i ≡ t j → i ≡ j
  pub next : (i j : ℕ) → i < n → j < n → p i ≤ 32768 → p j < 32768 →
      t i + span * p j < t j + span * p i → IsNext n p t i j (nx i)

-- The spare slots form a list of `count` slots from `free` on. Each has the number of spare slots
-- from it on.
pub record IsFreed (n : ℕ) (p t nx : ℕ → ℕ) (free count : ℕ) : Type 0 where
  pub within : 0 < count → free < n
  pub spare : 0 < count → 32768 < p free
  pub top : 0 < count → t free ≡ count
  pub some : (i : ℕ) → i < n → 32768 < p i → 0 < t i
  pub depth : (i : ℕ) → i < n → 32768 < p i → t i ≤ count
  pub next_within : (i : ℕ) → i < n → 32768 < p i → 1 < t i → nx i < n
  pub next_spare : (i : ℕ) → i < n → 32768 < p i → 1 < t i → 32768 < p (nx i)
  pub next_depth : (i : ℕ) → i < n → 32768 < p i → 1 < t i → t (nx i) + 1 ≡ t i
  pub apart : (i j : ℕ) → i < n → j < n → 32768 < p i → 32768 < p j → t i ≡ t j → i ≡ j

-- one of the m levels has this priority
pub record IsCovered (m : ℕ) (lp : ℕ → ℕ) (prio : ℕ) : Type 0 where
  pub at : ℕ
  pub below : at < m
  pub is : lp at ≡ prio

-- m levels: the priorities in use, rising, each with the slot of its highest sequence number
pub record IsLevelled (n : ℕ) (p t : ℕ → ℕ) (m : ℕ) (lp ll : ℕ → ℕ) : Type 0 where
  pub rising : (a b : ℕ) → a < b → b < m → lp a < lp b
  pub within : (k : ℕ) → k < m → ll k < n
  pub level : (k : ℕ) → k < m → p (ll k) ≡ lp k
  pub low : (k : ℕ) → k < m → lp k < 32768
  pub greatest : (k j : ℕ) → k < m → j < n → p j ≡ lp k → t j ≤ t (ll k)
  pub covers : (j : ℕ) → j < n → p j < 32768 → IsCovered m lp (p j)
