-- A pop takes the best message out, and keeps the slots sound.
use Rattle.std.proofs.Common.{◌≡◌, ◌≢◌, ◌↔◌, ℕ, ◌+◌, ◌-◌, ◌<◌, ◌≤◌, inl, inr, ◌==◌, List, length, sym, ◌∙◌, ap, subst, arith, eqb-true, get_or-set_other, slice_set}
use Rattle.std.specs.List.{Contains}
use Rattle.std.proofs.lemmas.List.{length-set, length-take-le, get_or-take}
use Rattle.std.proofs.lemmas.Bool.{cases_Bool, cases_lt, lt-ltb, le-ltb, eqb-false}
use Rattle.mq_slots.specs.declared.cells.Cell.{Cell}
use Rattle.mq_slots.specs.declared.levels.Level.{Level}
use Rattle.mq_slots.specs.Cells.{cell_at, unlinked}
use Rattle.mq_slots.specs.Levels.{no_level, level_at, dropped}
use Rattle.mq_slots.specs.Chains.{IsLevelled}
use Rattle.mq_slots.specs.Messages.{messages, GoesFirst, IsBest}
use Rattle.mq_slots.specs.Sound.{prio_at, place_at, next_at, level_prio, level_last, IsSound}
use Rattle.mq_slots.proofs.Unlinking.{Unlinked, IsFirst, head-first, first-before, unlinked-chained, unlinked-freed}
use Rattle.mq_slots.proofs.Dropping.{dropped-not, dropped-top}
use Rattle.mq_slots.proofs.Present.{cell-present, present-cell, has-present, length-emptied, messages-relinked, some-used}
use Rattle.mq_slots.proofs.Writing.{unlinked-cells}
use Rattle.mq_slots.proofs.Pushing.{chained_at, freed_at, levelled_at, same_pair}

-- what a pop is given: sound slots with a message
pub record IsPop (cells : List Cell) (levels : List Level) (free count room : ℕ) : Type 0 where
  pub sound : IsSound cells levels free count room
  pub some : count + 1 ≢ length cells

pub pop-first : (cells : List Cell) (levels : List Level) (free count room : ℕ) →
    IsPop cells levels free count room →
    IsFirst (length cells) (prio_at cells) (place_at cells) (next_at cells 0)
pop-first cells levels free count room pop = grind (arith, some-used, head-first)

pub pop-apart : (cells : List Cell) (levels : List Level) (free count room : ℕ) →
    IsPop cells levels free count room → 0 ≢ next_at cells 0
pop-apart cells levels free count room pop e =
    let first = pop-first cells levels free count room pop in
    let used = first.used in
    let chained = pop.sound.chained in
    let head = chained.head in
    let same : prio_at cells 0 ≡ prio_at cells (next_at cells 0) = ap (prio_at cells) e in
    omega arith

pop-unlinked : (cells : List Cell) (levels : List Level) (free count room : ℕ) →
    IsPop cells levels free count room
    → (let cells' = unlinked cells (next_at cells 0) free count in Unlinked (prio_at cells)
    (place_at cells) (next_at cells) (prio_at cells') (place_at cells') (next_at cells')
    (next_at cells 0) free count)
pop-unlinked cells levels free count room pop =
    unlinked-cells cells (next_at cells 0) free count pop.sound.chained.there
    (pop-first cells levels free count room pop).within
    (pop-apart cells levels free count room pop)

pop-slots : (cells : List Cell) (first free count : ℕ) → length (unlinked cells first free count) ≡
    length cells
pop-slots cells first free count = length-set _ first _ ∙ length-set cells 0 _

pop-levelled : (cells : List Cell) (levels : List Level) (free count room : ℕ) →
    IsPop cells levels free count room
    → (p' t' nx' : ℕ → ℕ) → Unlinked (prio_at cells) (place_at cells) (next_at cells) p' t' nx'
    (next_at cells 0) free count
    → IsLevelled (length cells) p' t' (length (dropped levels (next_at cells 0)))
    (level_prio (dropped levels (next_at cells 0)))
    (level_last (dropped levels (next_at cells 0)))
pop-levelled cells levels free count room pop p' t' nx' step =
    let sound = pop.sound in
    let best = pop-first cells levels free count room pop in
    let top = length levels - 1 in
    let stay : (0 < length levels → level_last levels (length levels - 1) ≢ next_at cells 0) →
    IsLevelled (length cells) p' t' (length levels) (level_prio levels) (level_last levels) =
    λ other.
    dropped-not (length cells) _ _ _ _ _ _ (length levels) _ _ (next_at cells 0) free count
    sound.chained sound.levelled best step other in
    elim (cases_lt 0 (length levels)) [
      | inl h ↦ elim (cases_Bool ((level_at levels top).last == next_at cells 0)) [
        | inl e ↦ (
            let is : level_last levels top ≡ next_at cells 0 = eqb-true _ _ e in
            rw (lt-ltb 0 (length levels) h, e, length-take-le top levels (omega arith))
            (dropped-top (length cells) _ _ _ _ _ _ (length levels) _ _ _ _ (next_at cells 0) free
            count sound.chained sound.levelled best step h is
            (λ k kl. ap (λ (l : Level). l.prio) (get_or-take top levels k no_level kl))
            (λ k kl. ap (λ (l : Level). l.last) (get_or-take top levels k no_level kl))))
        | inr e ↦ rw (lt-ltb 0 (length levels) h, e) (stay (λ _ same. eqb-false _ _ e same))
      ]
      | inr h ↦ rw (le-ltb 0 (length levels) h) (stay (λ some same. omega arith))
    ]

pub popped-count : (cells : List Cell) (levels : List Level) (free count room : ℕ) →
    IsPop cells levels free count room →
    length (messages (unlinked cells (next_at cells 0) free count)) + 1 ≡ length (messages cells)
popped-count cells levels free count room pop =
    let first = next_at cells 0 in
    let best = pop-first cells levels free count room pop in
    let relinked = slice_set cells 0 (record (cell_at cells 0) { next = next_at cells first }) in
    let apart : first ≢ 0 = λ e. pop-apart cells levels free count room pop (sym e) in
    let kept_p : prio_at relinked first ≡ prio_at cells first = ap (λ (c : Cell). c.prio)
    (get_or-set_other cells 0 first _ _ apart) in
    let used = best.used in
    let within : first < length relinked = subst (λ x. first < x)
    (sym (length-set cells 0 _)) best.within in
    length-emptied relinked first (record { prio = 32769; place = count + 1; next = free }) within
    (omega arith) (omega arith)
    ∙ ap (λ (ms : List (ℕ × ℕ)). length ms) (messages-relinked cells 0 (next_at cells first))

pub popped-sound : (cells : List Cell) (levels : List Level) (free count room room' : ℕ) →
    IsPop cells levels free count room → room ≤ room'
    → IsSound (unlinked cells (next_at cells 0) free count) (dropped levels (next_at cells 0))
    (next_at cells 0) (count + 1) room'
popped-sound cells levels free count room room' pop more =
    let sound = pop.sound in
    let best = pop-first cells levels free count room pop in
    let step = pop-unlinked cells levels free count room pop in
    let slots = pop-slots cells (next_at cells 0) free count in
    let counted = sound.counted in
    let some = pop.some in
    let count_new = popped-count cells levels free count room pop in
    let few = sound.few in
    let roomy = sound.roomy in
    record {
      chained = chained_at _ _ slots _ _ _ (unlinked-chained (length cells) _ _ _ _ _ _
          (next_at cells 0) free count sound.chained best step (omega arith));
      freed = freed_at _ _ slots _ _ _ _ _ (unlinked-freed (length cells) _ _ _ _ _ _
          (next_at cells 0) free count sound.freed best sound.chained.head step);
      levelled = levelled_at _ _ slots _ _ _ _ _ (pop-levelled cells levels free count room
          pop _ _ _ step);
      counted = omega arith;
      few = omega arith;
      roomy = omega arith;
    }

-- the first slot's message is the best
pub popped-best : (cells : List Cell) (levels : List Level) (free count room : ℕ) →
    IsPop cells levels free count room →
    IsBest (messages cells) (prio_at cells (next_at cells 0), place_at cells (next_at cells 0))
popped-best cells levels free count room pop =
    let first = next_at cells 0 in
    let sound = pop.sound in
    let chained = sound.chained in
    let best = pop-first cells levels free count room pop in
    record {
      there = cell-present cells first best.within best.used;
      first = λ other there unlike. (
          let h = present-cell cells other there in
          let apart : h.at ≢ first = λ e. unlike (h.is ∙ same_pair _ _ _ _ (ap (prio_at cells) e)
          (ap (place_at cells) e)) in
          let order = first-before (length cells) _ _ _ first chained best h.at
          h.within h.used apart in
          let bound = chained.places h.at h.within in
          let bound_first = chained.places first best.within in
          let goes : GoesFirst (prio_at cells first, place_at cells first) (
            prio_at cells h.at,
            place_at cells h.at,
          ) =
          elim (cases_lt (prio_at cells h.at) (prio_at cells first)) [
            | inl less ↦ inl less
            | inr more ↦ inr (omega arith, omega arith)
          ] in
          subst (λ m. GoesFirst (prio_at cells first, place_at cells first) m) (sym h.is) goes);
    }

-- a message is there still exactly if it was there and is another one
pub popped-messages : (cells : List Cell) (levels : List Level) (free count room : ℕ) →
    IsPop cells levels free count room
    → (m : ℕ × ℕ) → Contains (messages (unlinked cells (next_at cells 0) free count)) m ↔
    (Contains (messages cells) m ×
    (m ≢ (prio_at cells (next_at cells 0), place_at cells (next_at cells 0))))
popped-messages cells levels free count room pop m =
    let first = next_at cells 0 in
    let cells' = unlinked cells first free count in
    let chained = pop.sound.chained in
    let best = pop-first cells levels free count room pop in
    let step = pop-unlinked cells levels free count room pop in
    let slots = pop-slots cells first free count in
    let gone = step.gone_p in (
      λ there. (
          let h = present-cell cells' m there in
          let within = h.within in
          let used = h.used in
          let apart : h.at ≢ first = λ e. (let same : prio_at cells' h.at ≡ prio_at cells' first =
          ap (prio_at cells') e in omega arith) in
          let kept_p : prio_at cells' h.at ≡ prio_at cells h.at = step.kept_p h.at apart in
          let kept_t : place_at cells' h.at ≡ place_at cells h.at = step.kept_t h.at apart in
          let is : m ≡ (prio_at cells h.at, place_at cells h.at) =
          h.is ∙ same_pair _ _ _ _ kept_p kept_t in (
            has-present cells m (record {
              at = h.at;
              within = omega arith;
              used = omega arith;
              is = is;
            }),
            λ e. apart (chained.distinct h.at first (omega arith) best.within (omega arith)
                best.used (ap (λ (x : ℕ × ℕ). x.1) (sym is ∙ e))),
          )),
      λ both. (
          let h = present-cell cells m both.0 in
          let within = h.within in
          let used = h.used in
          let apart : h.at ≢ first = λ e. both.1 (h.is ∙ same_pair _ _ _ _ (ap (prio_at cells) e)
          (ap (place_at cells) e)) in
          let kept_p : prio_at cells' h.at ≡ prio_at cells h.at = step.kept_p h.at apart in
          let kept_t : place_at cells' h.at ≡ place_at cells h.at = step.kept_t h.at apart in
          has-present cells' m (record {
            at = h.at;
            within = omega arith;
            used = omega arith;
            is = h.is ∙ sym (same_pair _ _ _ _ kept_p kept_t);
          })),
    )
