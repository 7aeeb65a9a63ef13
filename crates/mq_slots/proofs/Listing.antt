-- The messages in slots, as a loop over the slots lists them.
use Rattle.std.proofs.Common.{◌≡◌, ℕ, zero, suc, ◌+◌, ◌<◌, ◌≤◌, List, [], ◌∷◌, length, drop, get_or, refl, sym, ◌∙◌, ap, arith, insert, add-one}
use Rattle.std.proofs.Math.Seq.{drop-cons}
use Rattle.std.proofs.lemmas.Bool.{lt-ltb, le-ltb}
use Rattle.std.proofs.lemmas.List.{drop_all}
use Rattle.mq_slots.specs.Messages.{messages, placed}
use Rattle.mq_slots.specs.declared.cells.Cell.{Cell}

-- a message joins others behind those that are later
joins : (xs : List (ℕ × ℕ)) (m d : ℕ × ℕ) (i : ℕ) → i ≤ length xs →
    ((k : ℕ) → k < i → m.1 ≤ (get_or xs k d).1) → (i < length xs → (get_or xs i d).1 < m.1) →
    insert xs i m ≡ placed m xs
joins [] m d zero le behind before = refl
joins [] m d (suc i) le behind before = absurd (omega (arith, le))
joins (x ∷ xs) m d zero le behind before = rw (lt-ltb x.1 m.1 (before (omega arith))) refl
joins (x ∷ xs) m d (suc i) le behind before =
    rw (le-ltb x.1 m.1 (behind 0 (omega arith)))
    (ap (λ rest. x ∷ rest) (joins xs m d i (omega (arith, le))
    (λ k lt. behind (suc k) (omega (arith, lt))) (λ lt. before (omega (arith, lt)))))

-- one more slot, with a message
pub listed-more : (cells : List Cell) (c d : Cell) (i t : ℕ) (found new : List (ℕ × ℕ)) →
    found ≡ messages (drop (i + 1) cells) → i < length cells → c ≡ get_or cells i d →
    c.prio < 32768 → t ≤ length found →
    ((k : ℕ) → k < t → c.place ≤ (get_or found k (0, 0)).1) →
    (t < length found → (get_or found t (0, 0)).1 < c.place) →
    new ≡ insert found t (c.prio, c.place) → new ≡ messages (drop i cells)
listed-more cells c d i t found new is lt here low inside behind before put =
    let split : drop i cells ≡ c ∷ drop (i + 1) cells = drop-cons cells i d lt ∙
    ap (λ x. x ∷ drop (suc i) cells) (sym here) ∙ ap (λ j. c ∷ drop j cells)
    (sym (add-one i)) in
    put ∙ joins found (c.prio, c.place) (0, 0) t inside behind before ∙
    ap (placed (c.prio, c.place)) is ∙
    sym (ap messages split ∙ rw (lt-ltb c.prio 32768 low) refl)

-- one more slot without one
pub listed-same : (cells : List Cell) (c d : Cell) (i : ℕ) (found : List (ℕ × ℕ)) →
    found ≡ messages (drop (i + 1) cells) → i < length cells → c ≡ get_or cells i d →
    32768 ≤ c.prio → found ≡ messages (drop i cells)
listed-same cells c d i found is lt here high =
    let split : drop i cells ≡ c ∷ drop (i + 1) cells = drop-cons cells i d lt ∙
    ap (λ x. x ∷ drop (suc i) cells) (sym here) ∙ ap (λ j. c ∷ drop j cells)
    (sym (add-one i)) in
    is ∙ sym (ap messages split ∙ rw (le-ltb c.prio 32768 high) refl)

pub none-listed : (cells : List Cell) (i : ℕ) → length cells ≤ i → [] ≡ messages (drop i cells)
none-listed cells i all = ap messages (sym (drop_all i cells all))

pub ruleset listing = (none-listed, listed-same, listed-more)
