-- Fresh slots are sound, and have no message.
use Rattle.std.proofs.Common.{◌≡◌, ◌≢◌, ℕ, suc, zero, ◌+◌, ◌-◌, ◌<◌, ◌≤◌, inl, inr, List, [], ◌∷◌, length, refl, sym, ◌∙◌, ap, arith}
use Rattle.std.proofs.lemmas.Bool.{cases_eq, le-ltb}
use Rattle.mq_slots.specs.declared.cells.Cell.{Cell}
use Rattle.mq_slots.specs.declared.levels.Level.{Level}
use Rattle.mq_slots.specs.Cells.{cell_at, IsFresh}
use Rattle.mq_slots.specs.Messages.{messages}
use Rattle.mq_slots.specs.Sound.{prio_at, place_at, next_at, IsSound}

-- a spare slot among new ones
record IsSpare (cells : List Cell) (i : ℕ) : Type 0 where
  pub prio : prio_at cells i ≡ 32769
  pub place : place_at cells i ≡ i
  pub next : next_at cells i + 1 ≡ i

spare_at : (cells : List Cell) (spare : ℕ) → IsFresh cells spare → (i : ℕ) → i < length cells →
    i ≢ 0 → IsSpare cells i
spare_at cells spare fresh i within other =
    let slots = fresh.slots in
    let e : i ≡ (i - 1) + 1 = omega arith in
    let is : cell_at cells i ≡ record { prio = 32769; place = (i - 1) + 1; next = i - 1 } =
    ap (cell_at cells) e ∙ fresh.spares (i - 1) (omega arith) in
    let next : next_at cells i ≡ i - 1 = ap (λ (c : Cell). c.next) is in
    record {
      prio = ap (λ (c : Cell). c.prio) is;
      place = ap (λ (c : Cell). c.place) is ∙ sym e;
      next = omega arith;
    }

none_present : (cells : List Cell) → ((i : ℕ) → i < length cells → 32768 ≤ prio_at cells i) →
    messages cells ≡ []
none_present [] spare = refl
none_present (c ∷ cells) spare = rw (le-ltb c.prio 32768 (spare zero (omega arith)))
    (none_present cells (λ i within. spare (suc i) (omega arith)))

pub fresh-messages : (cells : List Cell) (spare : ℕ) → IsFresh cells spare → messages cells ≡ []
fresh-messages cells spare fresh = none_present cells (λ i within. elim (cases_eq i 0) [
  | inl e ↦ (let head : prio_at cells 0 ≡ 32768 = ap (λ (c : Cell). c.prio) fresh.head in
      let same : prio_at cells i ≡ prio_at cells 0 = ap (prio_at cells) e in omega arith)
  | inr other ↦ (let is = spare_at cells spare fresh i within other in let prio = is.prio in
      omega arith)
])

pub fresh-sound : (cells : List Cell) (levels : List Level) (spare room : ℕ) → IsFresh cells spare →
    levels ≡ [] → spare ≤ 4096 → spare ≤ room → IsSound cells levels spare spare room
fresh-sound cells levels spare room fresh none few roomy =
    let slots = fresh.slots in
    let head : prio_at cells 0 ≡ 32768 = ap (λ (c : Cell). c.prio) fresh.head in
    let head_place : place_at cells 0 ≡ 0 = ap (λ (c : Cell). c.place) fresh.head in
    let empty : length levels ≡ 0 = ap length none in
    let counted : length (messages cells) ≡ 0 = ap length (fresh-messages cells spare fresh) in
    let is = spare_at cells spare fresh in
    let high : (i : ℕ) → i < length cells →
    32768 ≤ prio_at cells i = λ i within. elim (cases_eq i 0) [
      | inl e ↦ (let same : prio_at cells i ≡ prio_at cells 0 = ap (prio_at cells) e in omega arith)
      | inr other ↦ (let prio = (is i within other).prio in omega arith)
    ] in
    let not_head : (i : ℕ) → 32768 < prio_at cells i →
    i ≢ 0 = λ i h e. (let same : prio_at cells i ≡ prio_at cells 0 = ap (prio_at cells) e in
    omega arith) in
    record {
      chained = record {
        there = omega arith;
        head = head;
        head_place = head_place;
        only = λ i within e. elim (cases_eq i 0) [
          | inl same ↦ same
          | inr other ↦
              absurd (let prio = (is i within other).prio in omega arith)
        ];
        places = λ i within. elim (cases_eq i 0) [
          | inl e ↦ (let same : place_at cells i ≡ place_at cells 0 = ap (place_at cells) e in
              omega arith)
          | inr other ↦ (let place = (is i within other).place in omega arith)
        ];
        distinct = λ i j il jl ip jp e. absurd (let no = high i il in omega arith);
        next = λ i j il jl ip jp order. absurd (let no = high j jl in omega arith);
      };
      freed = record {
        within = λ some. omega arith;
        spare = λ some. (let prio = (is spare (omega arith) (omega arith)).prio in omega arith);
        top = λ some. (is spare (omega arith) (omega arith)).place;
        some = λ i within h. (let other = not_head i h in let place = (is i within other).place in
            omega arith);
        depth = λ i within h. (let place = (is i within (not_head i h)).place in omega arith);
        next_within = λ i within h deep. (let next = (is i within (not_head i h)).next in
            omega arith);
        next_spare = λ i within h deep. (let at = is i within (not_head i h) in
            let place = at.place in let next = at.next in
            let prio = (is (next_at cells i) (omega arith) (omega arith)).prio in omega arith);
        next_depth = λ i within h deep. (let at = is i within (not_head i h) in
            let place = at.place in let next = at.next in
            let below = (is (next_at cells i) (omega arith) (omega arith)).place in omega arith);
        apart = λ i j il jl ip jp e. (let place_i = (is i il (not_head i ip)).place in let place_j =
            (is j jl (not_head j jp)).place in omega arith);
      };
      levelled = record {
        rising = λ a b less bl. absurd (omega arith);
        within = λ k kl. absurd (omega arith);
        level = λ k kl. absurd (omega arith);
        low = λ k kl. absurd (omega arith);
        greatest = λ k j kl jl e. absurd (omega arith);
        covers = λ j jl jp. absurd (let no = high j jl in omega arith);
      };
      counted = omega arith;
      few = omega arith;
      roomy = omega arith;
    }
