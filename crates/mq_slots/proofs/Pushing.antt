-- A push keeps the slots sound, and adds one message.
use Rattle.std.proofs.lemmas.Grind.{common_steps}
use Rattle.std.proofs.Common.{◌≡◌, ◌≢◌, ◌↔◌, ℕ, ◌+◌, ◌-◌, ◌<◌, ◌≤◌, ◌⊎◌, inl, inr, ◌==◌, List, length, sym, ◌∙◌, ap, subst, arith, eqb-true, get_or-set_other, get_or-set_same, insert, slice_set}
use Rattle.std.specs.List.{Contains}
use Rattle.std.proofs.lemmas.List.{length-set}
use Rattle.std.proofs.lemmas.List.Edits.{length-insert}
use Rattle.std.proofs.lemmas.Bool.{cases_Bool, cases_eq, cases_lt, lt-ltb, le-ltb, eqb-false}
use Rattle.mq_slots.specs.declared.cells.Cell.{Cell}
use Rattle.mq_slots.specs.declared.levels.Level.{Level}
use Rattle.mq_slots.specs.Cells.{linked}
use Rattle.mq_slots.specs.Levels.{no_level, level_at, last_from, noted}
use Rattle.mq_slots.specs.Chains.{span, IsChained, IsFreed, IsLevelled}
use Rattle.mq_slots.specs.Messages.{messages}
use Rattle.mq_slots.specs.Held.{Held}
use Rattle.mq_slots.specs.Sound.{prio_at, place_at, next_at, level_prio, level_last, IsSound}
use Rattle.mq_slots.proofs.Linking.{Linked, IsBefore, IsNew, linked-chained}
use Rattle.mq_slots.proofs.Taking.{linked-freed}
use Rattle.mq_slots.proofs.Noting.{IsPlaced, level-before, head-before, noted-there, noted-new}
use Rattle.mq_slots.proofs.Crowding.{levels-few}
use Rattle.mq_slots.proofs.Present.{cell-present, present-cell, has-present, length-filled, messages-relinked}
use Rattle.mq_slots.proofs.Writing.{linked-cells, inserted-prio, inserted-last}

pub chained_at : (m n : ℕ) → m ≡ n → (p t nx : ℕ → ℕ) → IsChained n p t nx → IsChained m p t nx
chained_at m n e p t nx is = subst (λ x. IsChained x p t nx) (sym e) is

pub freed_at : (m n : ℕ) → m ≡ n → (p t nx : ℕ → ℕ) (free count : ℕ) → IsFreed n p t nx free count →
    IsFreed m p t nx free count
freed_at m n e p t nx free count is = subst (λ x. IsFreed x p t nx free count) (sym e) is

pub levelled_at : (m n : ℕ) → m ≡ n → (p t : ℕ → ℕ) (levels : ℕ) (lp ll : ℕ → ℕ) →
    IsLevelled n p t levels lp ll → IsLevelled m p t levels lp ll
levelled_at m n e p t levels lp ll is = subst (λ x. IsLevelled x p t levels lp ll) (sym e) is

-- a message is its two numbers
pub same_pair : (a b c d : ℕ) → a ≡ c → b ≡ d → ◌≡◌ {A = ℕ × ℕ} (a, b) (c, d)
same_pair a b c d e f = ap (λ (x : ℕ). let m : ℕ × ℕ = (x, b) in m) e ∙ ap (λ (y : ℕ). let m : ℕ ×
    ℕ = (c, y) in m) f

-- what a push requires: sound slots with a spare one, a message that is the newest, and the index
-- of its level
pub record IsPush (cells : List Cell) (levels : List Level)
    (free count room at prio place : ℕ) : Type 0 where
  pub sound : IsSound cells levels free count room
  pub some : 0 < count
  pub low : prio < 32768
  pub bound : place < span
  pub newest : (m : ℕ × ℕ) → Contains (messages cells) m → m.1 < place
  pub within : at ≤ length levels
  pub below : (k : ℕ) → k < at → (level_at levels k).prio < prio
  pub rest : (k : ℕ) → at ≤ k → k < length levels → prio ≤ (level_at levels k).prio

pub push-new : (cells : List Cell) (levels : List Level) (free count room at prio place : ℕ) →
    IsPush cells levels free count room at prio place →
    IsNew (length cells) (prio_at cells) (place_at cells) free prio place
push-new cells levels free count room at prio place push =
    let freed = push.sound.freed in
    record {
      within = freed.within push.some;
      spare = freed.spare push.some;
      low = push.low;
      place = push.bound;
      newest = λ j jl jp. push.newest (prio_at cells j, place_at cells j)
          (cell-present cells j jl jp);
    }

push-placed : (cells : List Cell) (levels : List Level) (free count room at prio place : ℕ) →
    IsPush cells levels free count room at prio place →
    IsPlaced (length levels) (level_prio levels) at prio
push-placed cells levels free count room at prio place push = record {
  within = push.within;
  below = push.below;
  rest = push.rest;
}

push-before : (cells : List Cell) (levels : List Level) (free count room at prio place : ℕ) →
    IsPush cells levels free count room at prio place →
    IsBefore (length cells) (prio_at cells) (place_at cells) (last_from levels at) prio place
push-before cells levels free count room at prio place push =
    let sound = push.sound in
    let new = push-new cells levels free count room at prio place push in
    let placed = push-placed cells levels free count room at prio place push in
    elim (cases_lt at (length levels)) [
      | inl h ↦ rw (lt-ltb at (length levels) h) (level-before _ _ _ (next_at cells) _ _
          (level_last levels) at free prio place sound.chained sound.levelled placed new h)
      | inr h ↦ rw (le-ltb at (length levels) h) (head-before _ _ _ (next_at cells) _ _
          (level_last levels) at free prio place sound.chained sound.levelled placed new h)
    ]

-- the slot before the message is another than the spare one
pub push-apart : (cells : List Cell) (levels : List Level) (free count room at prio place : ℕ) →
    IsPush cells levels free count room at prio place → last_from levels at ≢ free
push-apart cells levels free count room at prio place push e = grind (arith, push-before, push-new)

push-linked : (cells : List Cell) (levels : List Level) (free count room at prio place : ℕ) →
    IsPush cells levels free count room at prio place
    → (let cells' = linked cells (last_from levels at) free prio place in Linked (prio_at cells)
    (place_at cells) (next_at cells) (prio_at cells') (place_at cells') (next_at cells')
    (last_from levels at) free prio place)
push-linked cells levels free count room at prio place push =
    grind (arith, common_steps, linked-cells, push-before, push-new, push-apart)

push-slots : (cells : List Cell) (before new prio place : ℕ) →
    length (linked cells before new prio place) ≡ length cells
push-slots cells before new prio place = length-set _ new _ ∙ length-set cells before _

push-levelled : (cells : List Cell) (levels : List Level) (free count room at prio place : ℕ) →
    IsPush cells levels free count room at prio place
    → (p' t' nx' : ℕ → ℕ) (before : ℕ) →
    Linked (prio_at cells) (place_at cells) (next_at cells) p' t' nx' before free prio place
    → IsLevelled (length cells) p' t' (length (noted levels at prio free))
    (level_prio (noted levels at prio free)) (level_last (noted levels at prio free))
push-levelled cells levels free count room at prio place push p' t' nx' before step =
    let sound = push.sound in
    let new = push-new cells levels free count room at prio place push in
    let placed = push-placed cells levels free count room at prio place push in
    let within = push.within in
    let put : (at < length levels → level_prio levels at ≢ prio) →
    IsLevelled (length cells) p' t'
    (length (insert levels at (record { prio = prio; last = free })))
    (level_prio (insert levels at (record { prio = prio; last = free })))
    (level_last (insert levels at (record { prio = prio; last = free }))) = λ unlike.
    rw (length-insert levels at (record { prio = prio; last = free }) within)
    (noted-new (length cells) _ _ _ _ _ _ (length levels) _ _ _ _ _ at free prio place
    sound.levelled step new placed unlike (inserted-prio levels at _ within)
    (inserted-last levels at _ within)) in
    elim (cases_lt at (length levels)) [
      | inl h ↦ elim (cases_Bool ((level_at levels at).prio == prio)) [
        | inl e ↦ (
            let is : level_prio levels at ≡ prio = eqb-true _ _ e in
            let x : Level = record { prio = prio; last = free } in
            rw (lt-ltb at (length levels) h, e, length-set levels at x)
            (noted-there (length cells) _ _ _ _ _ _ (length levels) _ _ _ _ _ at free prio place
            sound.levelled step new h is
            (λ k. elim (cases_eq k at) [
              | inl same ↦ ap (level_prio (slice_set levels at x)) same ∙ ap (λ (l : Level). l.prio)
                  (get_or-set_same levels at x no_level h) ∙ sym is ∙
                  sym (ap (level_prio levels) same)
              | inr far ↦ ap (λ (l : Level). l.prio) (get_or-set_other levels at k x no_level far)
            ])
            (ap (λ (l : Level). l.last) (get_or-set_same levels at x no_level h))
            (λ k far. ap (λ (l : Level). l.last) (get_or-set_other levels at k x no_level far))))
        | inr e ↦ rw (lt-ltb at (length levels) h, e) (put (λ _ same. eqb-false _ _ e same))
      ]
      | inr h ↦ rw (le-ltb at (length levels) h) (put (λ lt same. omega arith))
    ]

pub pushed-count : (cells : List Cell) (levels : List Level) (free count room at prio place : ℕ) →
    IsPush cells levels free count room at prio place →
    length (messages (linked cells (last_from levels at) free prio place)) ≡
    length (messages cells) + 1
pushed-count cells levels free count room at prio place push = grind (
  arith,
  push-new,
  push-apart,
  get_or-set_other,
  length-set,
  length-filled,
  messages-relinked,
)

-- there is room for another level
pub push-room : (cells : List Cell) (levels : List Level) (free count room at prio place : ℕ) →
    IsPush cells levels free count room at prio place → length levels < room
push-room cells levels free count room at prio place push =
    let sound = push.sound in
    let freed = sound.freed in
    let few = levels-few (length cells) (prio_at cells) (place_at cells) (next_at cells)
    (length levels) (level_prio levels) (level_last levels) free sound.chained sound.levelled
    (freed.within push.some) (freed.spare push.some) in
    let roomy = sound.roomy in
    omega arith

pub pushed-sound : (cells : List Cell) (levels : List Level)
    (free count room at prio place room' : ℕ) → IsPush cells levels free count room at prio place →
    room ≤ room'
    → IsSound (linked cells (last_from levels at) free prio place) (noted levels at prio free)
    (next_at cells free) (count - 1) room'
pushed-sound cells levels free count room at prio place room' push more =
    let sound = push.sound in
    let new = push-new cells levels free count room at prio place push in
    let step = push-linked cells levels free count room at prio place push in
    let before = push-before cells levels free count room at prio place push in
    let slots = push-slots cells (last_from levels at) free prio place in
    let counted = sound.counted in
    let some = push.some in
    let count_new = pushed-count cells levels free count room at prio place push in
    let few = sound.few in
    let roomy = sound.roomy in
    record {
      chained = chained_at _ _ slots _ _ _ (linked-chained (length cells) _ _ _ _ _ _
          (last_from levels at) free prio place sound.chained step before new);
      freed = freed_at _ _ slots _ _ _ _ _ (linked-freed (length cells) _ _ _ _ _ _
          (last_from levels at) free prio place count sound.freed step new before.chained some);
      levelled = levelled_at _ _ slots _ _ _ _ _ (push-levelled cells levels free count room at prio
          place push _ _ _ (last_from levels at) step);
      counted = omega arith;
      few = omega arith;
      roomy = omega arith;
    }

-- a message is there exactly if it is the one pushed or was there
pub pushed-messages : (cells : List Cell) (levels : List Level)
    (free count room at prio place : ℕ) → IsPush cells levels free count room at prio place
    → (m : ℕ × ℕ) → Contains (messages (linked cells (last_from levels at) free prio place)) m ↔
    ((m ≡ (prio, place)) ⊎ Contains (messages cells) m)
pushed-messages cells levels free count room at prio place push m =
    let cells' = linked cells (last_from levels at) free prio place in
    let new = push-new cells levels free count room at prio place push in
    let step = push-linked cells levels free count room at prio place push in
    let slots = push-slots cells (last_from levels at) free prio place in
    let spare = new.spare in
    let low = push.low in
    let pn = step.new_p in (
      λ there. (
          let h = present-cell cells' m there in
          let within = h.within in
          let used = h.used in
          elim (cases_eq h.at free) [
            | inl e ↦ inl (h.is ∙ same_pair _ _ _ _ (ap (prio_at cells') e ∙ step.new_p)
                (ap (place_at cells') e ∙ step.new_t))
            | inr other ↦ (
                let kept_p : prio_at cells' h.at ≡ prio_at cells h.at = step.kept_p h.at other in
                inr (has-present cells m (record {
                  at = h.at;
                  within = omega arith;
                  used = omega arith;
                  is = h.is ∙ same_pair _ _ _ _ kept_p
                      (step.kept_t h.at other);
                })))
          ]),
      λ either. elim either [
        | inl e ↦ has-present cells' m
            (record {
              at = free;
              within = (let within = new.within in omega arith);
              used = omega arith;
              is = e ∙ sym (same_pair _ _ _ _ step.new_p step.new_t);
            })
        | inr there ↦ (
            let h = present-cell cells m there in
            let within = h.within in
            let used = h.used in
            let other : h.at ≢ free = λ e. (let same : prio_at cells h.at ≡ prio_at cells free = ap
            (prio_at cells) e in omega arith) in
            let kept_p : prio_at cells' h.at ≡ prio_at cells h.at = step.kept_p h.at other in
            has-present cells' m (record {
              at = h.at;
              within = omega arith;
              used = omega arith;
              is = h.is ∙ sym (same_pair _ _ _ _ kept_p (step.kept_t h.at other));
            }))
      ],
    )

-- the message that was pushed is the newest
pub pushed-newest : (cells : List Cell) (levels : List Level) (free count room at prio place : ℕ) →
    IsPush cells levels free count room at prio place
    → (m : ℕ × ℕ) → Contains (messages (linked cells (last_from levels at) free prio place)) m →
    m.1 ≤ place
pushed-newest cells levels free count room at prio place push m there =
    elim ((pushed-messages cells levels free count room at prio place push m).0 there) [
      | inl e ↦ (let is : m.1 ≡ place = ap (λ (x : ℕ × ℕ). x.1) e in omega arith)
      | inr h ↦ (let less = push.newest m h in omega arith)
    ]

-- what the code knows, as what a push is given
pub push-given : (cells : List Cell) (levels found : List Level) (free count room at prio place : ℕ)
    (held : Held) → IsSound cells levels free count room →
    record { messages = messages cells; cap = length cells - 1 } ≡ held
    → length held.messages < held.cap → prio < 32768 → place < span →
    ((m : ℕ × ℕ) → Contains held.messages m → m.1 < place) → found ≡ levels
    → at ≤ length found → ((k : ℕ) → k < at → (level_at found k).prio < prio) →
    ((k : ℕ) → at ≤ k → k < length found → prio ≤ (level_at found k).prio)
    → IsPush cells levels free count room at prio place
push-given cells levels found free count room at prio place held sound shows space low bound newest
    same within below rest =
    let ms : messages cells ≡ held.messages = ap (λ (h : Held). h.messages) shows in
    let cap : length cells - 1 ≡ held.cap = ap (λ (h : Held). h.cap) shows in
    let len : length (messages cells) ≡ length held.messages = ap length ms in
    let counted = sound.counted in
    record {
      sound = sound;
      some = omega arith;
      low = low;
      bound = bound;
      newest = λ m there. newest m (subst (λ xs. Contains xs m) ms there);
      within = subst (λ xs. at ≤ length xs) same within;
      below = λ k h. subst (λ xs. (level_at xs k).prio < prio) same (below k h);
      rest = λ k h l. subst (λ xs. prio ≤ (level_at xs k).prio) same
          (rest k h (subst (λ xs. k < length xs) (sym same) l));
    }
