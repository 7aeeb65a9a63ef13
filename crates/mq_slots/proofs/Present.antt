-- The messages in a list of slots: which they are, and how many.
use Rattle.std.proofs.Common.{◌≡◌, ℕ, zero, suc, ◌+◌, ◌<◌, ◌≤◌, inl, inr, List, [], ◌∷◌, length, refl, sym, subst, arith, nat_lt, slice_set}
use Rattle.std.specs.List.{Contains}
use Rattle.std.proofs.lemmas.Bool.{cases_Bool, cases_lt, ltb-true, lt-ltb, le-ltb}
use Rattle.mq_slots.specs.declared.cells.Cell.{Cell}
use Rattle.mq_slots.specs.Cells.{cell_at}
use Rattle.mq_slots.specs.Messages.{messages}
use Rattle.mq_slots.specs.Sound.{prio_at, place_at}
use Rattle.mq_slots.proofs.Placing.{placed-here, placed-still, placed-cases, length-placed}

-- a slot has the message
pub record HasMessage (cells : List Cell) (m : ℕ × ℕ) : Type 0 where
  pub at : ℕ
  pub within : at < length cells
  pub used : prio_at cells at < 32768
  pub is : m ≡ (prio_at cells at, place_at cells at)

-- a message of the rest is one of all
later : (c : Cell) (cells : List Cell) (m : ℕ × ℕ) → Contains (messages cells) m →
    Contains (messages (c ∷ cells)) m
later c cells m there = elim (cases_Bool (nat_lt c.prio 32768)) [
  | inl e ↦ rw e (placed-still (c.prio, c.place) (messages cells) m there)
  | inr e ↦ rw e there
]

-- what a slot has is a message
pub cell-present : (cells : List Cell) (i : ℕ) → i < length cells → prio_at cells i < 32768 →
    Contains (messages cells) (prio_at cells i, place_at cells i)
cell-present [] i within used = absurd (omega arith)
cell-present (c ∷ cells) zero within used = rw (lt-ltb c.prio 32768 used)
    (placed-here (c.prio, c.place) (messages cells))
cell-present (c ∷ cells) (suc i) within used =
    later c cells _ (cell-present cells i (omega arith) used)

-- a slot of the rest is one of all
next_slot : (c : Cell) (cells : List Cell) (m : ℕ × ℕ) → HasMessage cells m →
    HasMessage (c ∷ cells) m
next_slot c cells m h = let within = h.within in record {
  at = suc h.at;
  within = omega arith;
  used = h.used;
  is = h.is;
}

-- each message is what a slot has
pub present-cell : (cells : List Cell) (m : ℕ × ℕ) → Contains (messages cells) m →
    HasMessage cells m
present-cell [] m (k, within, is) = absurd (omega arith)
present-cell (c ∷ cells) m there = elim (cases_Bool (nat_lt c.prio 32768)) [
  | inl e ↦ elim (placed-cases (c.prio, c.place) (messages cells) m (rw e at there)) [
    | inl is ↦ record { at = zero; within = omega arith; used = ltb-true _ _ e; is = is }
    | inr rest ↦ next_slot c cells m (present-cell cells m rest)
  ]
  | inr e ↦ next_slot c cells m (present-cell cells m (rw e at there))
]

pub has-present : (cells : List Cell) (m : ℕ × ℕ) → HasMessage cells m → Contains (messages cells) m
has-present cells m h = subst (λ x. Contains (messages cells) x) (sym h.is)
    (cell-present cells h.at h.within h.used)

-- a message that comes into a slot is one more
pub length-filled : (cells : List Cell) (i : ℕ) (c : Cell) → i < length cells →
    32768 ≤ prio_at cells i → c.prio < 32768 → length (messages (slice_set cells i c)) ≡
    length (messages cells) + 1
length-filled [] i c within spare used = absurd (omega arith)
length-filled (d ∷ cells) zero c within spare used =
    rw (lt-ltb c.prio 32768 used, le-ltb d.prio 32768 spare) (length-placed (c.prio, c.place)
    (messages cells))
length-filled (d ∷ cells) (suc i) c within spare used = grind (
  arith,
  length-placed,
  cases_Bool,
  length-filled cells i c (omega arith) spare used,
)

-- a message that leaves its slot is one less
pub length-emptied : (cells : List Cell) (i : ℕ) (c : Cell) → i < length cells →
    prio_at cells i < 32768 → 32768 ≤ c.prio → length (messages (slice_set cells i c)) + 1 ≡
    length (messages cells)
length-emptied [] i c within used spare = absurd (omega arith)
length-emptied (d ∷ cells) zero c within used spare =
    rw (lt-ltb d.prio 32768 used, le-ltb c.prio 32768 spare)
    (sym (length-placed (d.prio, d.place) (messages cells)))
length-emptied (d ∷ cells) (suc i) c within used spare = grind (
  arith,
  length-placed,
  cases_Bool,
  length-emptied cells i c (omega arith) used spare,
)

-- a slot that keeps its message leaves the messages as they are
pub messages-relinked : (cells : List Cell) (i next : ℕ) →
    messages (slice_set cells i (record (cell_at cells i) { next = next })) ≡ messages cells
messages-relinked (d ∷ cells) (suc i) next =
    grind (arith, cases_Bool, messages-relinked cells i next)
messages-relinked _ _ next = refl

-- if there are messages, some slot has one
pub some-used : (cells : List Cell) → 0 < length (messages cells) →
    (i : ℕ) × (i < length cells) × (prio_at cells i < 32768)
some-used [] some = absurd (omega arith)
some-used (c ∷ cells) some = elim (cases_lt c.prio 32768) [
  | inl used ↦ (zero, omega arith, used)
  | inr spare ↦ (let rest = some-used cells (rw (le-ltb c.prio 32768 spare) at some) in
      let within = rest.1 in (suc rest.0, omega arith, rest.2))
]
