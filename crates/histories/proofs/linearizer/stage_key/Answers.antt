use Rattle.std.proofs.Common.{◌≡◌, ◌≤◌, ◌<◌, ◌+◌, ℕ, zero, suc, List, [], ◌∷◌, ◌++◌, length, take, get_or, append_assoc, refl, ap, sym, ◌∙◌, arith}
use Rattle.std.proofs.Math.Seq.{take-length, take-suc}
use Rattle.mq_model.specs.Record.{Past}
use Rattle.histories.specs.OwnCalls.{made}
use Rattle.mq_equivalence.specs.Key.{key_of}
use Rattle.histories.specs.Likeness.{counts_then}
use Rattle.histories.proofs.linearizer.stage_key.Goals as goal

-- the first n counts
counts-are : (past : Past) (xs : List ℕ) (n : ℕ) (rest : List ℕ) → n ≤ length xs →
    ((index : ℕ) → index < length xs → get_or xs index 0 ≡ made past (index + 1)) →
    counts_then past n rest ≡ take n xs ++ rest
counts-are past xs zero rest within counts = refl
counts-are past xs (suc n) rest within counts =
    let below : n < length xs = omega (arith, within) in
    counts-are past xs n (made past (n + 1) ∷ rest) (omega (arith, within)) counts
    ∙ ap (λ (k : ℕ). take n xs ++ k ∷ rest) (sym (counts n below))
    ∙ sym (append_assoc (take n xs) (get_or xs n 0 ∷ []) rest)
    ∙ ap (λ (ys : List ℕ). ys ++ rest) (sym (take-suc xs n 0 below))

pub returns : goal.returns
returns c =
    let xs = c.args.made.now.items in
    let past = c.args.trail.now in
    let all = counts-are past xs (length xs) (key_of past) (omega arith) c.requires in
    let whole : counts_then past (length xs) (key_of past) ≡ xs ++ key_of past =
    all ∙ ap (λ (ys : List ℕ). ys ++ key_of past) (take-length xs) in
    let counts : c.push_counts.new.key.items ≡ xs =
    rw (c.new-key.ensures.items, c.deref.ensures.value) at c.in_ok-push_counts.ensures in
    let tail : c.deref-2.result.now ≡ key_of past = c.deref-2.ensures.value ∙
    c.in_ok-past.ensures in
    c.in_ok-extend_from_slice.ensures.items ∙ ap (λ (ys : List ℕ). ys ++ c.deref-2.result.now)
    counts ∙ ap (λ (ys : List ℕ). xs ++ ys) tail ∙ sym whole
