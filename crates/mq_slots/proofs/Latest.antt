-- The messages in the slots are sorted, the latest first: a push puts its message before them, and
-- a pop leaves the order of the others.
use Rattle.std.proofs.Common.{◌≡◌, ◌≢◌, ℕ, zero, suc, ◌+◌, ◌<◌, ◌≤◌, inl, inr, List, [], ◌∷◌, length, refl, sym, ◌∙◌, ap, subst, arith, get_or-set_other, get_or-set_same, slice_set}
use Rattle.std.proofs.lemmas.List.{length-set}
use Rattle.std.proofs.lemmas.Bool.{cases_lt, cases_eq, lt-ltb, le-ltb}
use Rattle.mq_slots.specs.declared.cells.Cell.{Cell}
use Rattle.mq_slots.specs.declared.levels.Level.{Level}
use Rattle.mq_slots.specs.Cells.{blank, cell_at, linked, unlinked}
use Rattle.mq_slots.specs.Levels.{last_from}
use Rattle.mq_slots.specs.Messages.{placed, messages, without}
use Rattle.mq_slots.specs.Sound.{prio_at, place_at, next_at}
use Rattle.mq_slots.proofs.Placing.{Below, Descending, contains-below, below-placed, placed-descending, placed-top, placed-under, contains-none_at, without-none, without-placed, without-other}
use Rattle.mq_slots.proofs.Present.{present-cell, messages-relinked}
use Rattle.mq_slots.proofs.Pushing.{IsPush, push-new, push-apart}
use Rattle.mq_slots.proofs.Popping.{IsPop, pop-first, pop-apart}

messages-descending : (cells : List Cell) → Descending (messages cells)
messages-descending [] = tt
messages-descending (c ∷ cells) = grind (
  arith,
  cases_lt,
  lt-ltb,
  placed-descending,
  le-ltb,
  messages-descending cells,
)

-- the latest message comes into a spare slot
messages-filled : (cells : List Cell) (i : ℕ) (c : Cell) → i < length cells →
    32768 ≤ prio_at cells i → c.prio < 32768 → Below c.place (messages cells) →
    messages (slice_set cells i c) ≡ (c.prio, c.place) ∷ messages cells
messages-filled [] i c within spare used below = absurd (omega arith)
messages-filled (d ∷ cells) zero c within spare used below =
    grind (arith, Below, le-ltb, lt-ltb, placed-top)
messages-filled (d ∷ cells) (suc i) c within spare used below = elim (cases_lt d.prio 32768) [
  | inl h ↦ (let all : Below c.place (placed (d.prio, d.place) (messages cells)) = rw
      (lt-ltb d.prio 32768 h) at below in
      let parts = below-placed c.place (d.prio, d.place) (messages cells) all in
      rw (lt-ltb d.prio 32768 h) (ap (placed (d.prio, d.place)) (messages-filled cells i c
      (omega arith) spare used parts.1) ∙ placed-under (d.prio, d.place) (c.prio, c.place)
      (messages cells) parts.0))
  | inr h ↦ (let rest : Below c.place (messages cells) = rw (le-ltb d.prio 32768 h) at below in
      rw (le-ltb d.prio 32768 h) (messages-filled cells i c (omega arith) spare used rest))
]

-- a message leaves its slot, and no other has its place
messages-emptied : (cells : List Cell) (i : ℕ) (c : Cell) → i < length cells →
    prio_at cells i < 32768 → 32768 ≤ c.prio
    → ((j : ℕ) → j < length cells → prio_at cells j < 32768 → place_at cells j ≡ place_at cells i →
    j ≡ i) → messages (slice_set cells i c) ≡ without (place_at cells i) (messages cells)
messages-emptied [] i c within used spare alone = absurd (omega arith)
messages-emptied (d ∷ cells) zero c within used spare alone =
    let none = contains-none_at d.place (messages cells) (λ m there e. (
    let h = present-cell cells m there in
    let inside = h.within in
    let at : m.1 ≡ place_at cells h.at = ap (λ (x : ℕ × ℕ). x.1) h.is in
    let same : suc h.at ≡ 0 = alone (suc h.at) (omega arith) h.used (sym at ∙ e) in
    omega arith)) in
    rw (lt-ltb d.prio 32768 used, le-ltb c.prio 32768 spare)
    (sym (without-placed d.place (d.prio, d.place) (messages cells) refl ∙ without-none d.place
    (messages cells) none))
messages-emptied (d ∷ cells) (suc i) c within used spare alone =
    let rest = messages-emptied cells i c (omega arith) used spare
    (λ j jl jp e. (let same : suc j ≡ suc i = alone (suc j) (omega arith) jp e in omega arith))
    in
    elim (cases_lt d.prio 32768) [
      | inl h ↦ (let other : d.place ≢ place_at cells i = λ e. (let same : 0 ≡ suc i = alone 0
          (omega arith) h e in omega arith) in
          rw (lt-ltb d.prio 32768 h) (ap (placed (d.prio, d.place)) rest ∙
          sym (without-other (place_at cells i) (d.prio, d.place) (messages cells) other
          (messages-descending cells))))
      | inr h ↦ rw (le-ltb d.prio 32768 h) rest
    ]

-- a push puts its message before all others
pub pushed-latest : (cells : List Cell) (levels : List Level) (free count room at prio place : ℕ) →
    IsPush cells levels free count room at prio place
    → messages (linked cells (last_from levels at) free prio place) ≡ (prio, place) ∷ messages cells
pushed-latest cells levels free count room at prio place push =
    let before = last_from levels at in
    let new = push-new cells levels free count room at prio place push in
    let relinked = slice_set cells before (record (cell_at cells before) { next = free }) in
    let apart : free ≢ before = λ e. push-apart cells levels free count room at prio
    place push (sym e) in
    let kept_p : prio_at relinked free ≡ prio_at cells free = ap (λ (c : Cell). c.prio)
    (get_or-set_other cells before free _ _ apart) in
    let spare = new.spare in
    let within : free < length relinked = subst (λ x. free < x)
    (sym (length-set cells before _)) new.within in
    let same : messages relinked ≡ messages cells = messages-relinked cells before free in
    let below : Below place (messages relinked) = subst (Below place) (sym same)
    (contains-below place (messages cells) push.newest) in
    messages-filled relinked free (record {
      prio = prio;
      place = place;
      next = next_at cells before;
    }) within (omega arith) push.low below
    ∙ ap (λ (ms : List (ℕ × ℕ)). (prio, place) ∷ ms) same

-- a pop does not change the others
pub popped-without : (cells : List Cell) (levels : List Level) (free count room : ℕ) →
    IsPop cells levels free count room
    → messages (unlinked cells (next_at cells 0) free count) ≡
    without (place_at cells (next_at cells 0)) (messages cells)
popped-without cells levels free count room pop =
    let first = next_at cells 0 in
    let best = pop-first cells levels free count room pop in
    let chained = pop.sound.chained in
    let there = chained.there in
    let head = chained.head in
    let relinked = slice_set cells 0 (record (cell_at cells 0) { next = next_at cells first }) in
    let long : length relinked ≡ length cells = length-set cells 0 _ in
    let apart : first ≢ 0 = λ e. pop-apart cells levels free count room pop (sym e) in
    let kept : (j : ℕ) → j ≢ 0 → cell_at relinked j ≡ cell_at cells j =
    λ j other. get_or-set_other cells 0 j _ _ other in
    let first_p : prio_at relinked first ≡ prio_at cells first = ap (λ (c : Cell). c.prio)
    (kept first apart) in
    let first_t : place_at relinked first ≡ place_at cells first = ap (λ (c : Cell). c.place)
    (kept first apart) in
    let head_p : prio_at relinked 0 ≡ prio_at cells 0 = ap (λ (c : Cell). c.prio)
    (get_or-set_same cells 0 _ blank there) in
    let used = best.used in
    let within : first < length relinked = subst (λ x. first < x) (sym long) best.within in
    let alone : (j : ℕ) → j < length relinked → prio_at relinked j < 32768 →
    place_at relinked j ≡ place_at relinked first →
    j ≡ first = λ j jl jp e. elim (cases_eq j 0) [
      | inl zero_is ↦ absurd (let same : prio_at relinked j ≡ prio_at relinked 0 = ap
          (prio_at relinked) zero_is in omega arith)
      | inr other ↦ (
          let p : prio_at relinked j ≡ prio_at cells j = ap (λ (c : Cell). c.prio) (kept j other) in
          let t : place_at relinked j ≡ place_at cells j = ap (λ (c : Cell). c.place)
          (kept j other) in
          chained.distinct j first (omega arith) best.within (omega arith) used
          (sym t ∙ e ∙ first_t))
    ] in
    messages-emptied relinked first (record { prio = 32769; place = count + 1; next = free }) within
    (omega arith) (omega arith) alone
    ∙ ap (λ (place : ℕ). without place (messages relinked)) first_t
    ∙ ap (without (place_at cells first)) (messages-relinked cells 0 (next_at cells first))
