use Rattle.std.proofs.Common.{◌≡◌, ◌∙◌, ◌++◌, ℕ, ◌≤◌, ◌<◌, true, false, List, length, take, drop, ap, sym, refl, arith, min, nat_le, if◌then◌else◌}
use Rattle.std.proofs.lemmas.Bool.Decides.{nat_tests}
use Rattle.std.proofs.lemmas.List.{length-take, take_min}
use Rattle.mq_state.specs.Buffers.{with_front}
use Rattle.c_journals.proofs.reading.write_line.Goals as goal

-- as much of the line as fits into the buffer is a prefix of it
front-written : (line before front : List ℕ) (count : ℕ) →
    count ≡ min (length line) (length before) → front ≡ take count line →
    front ++ drop count before ≡ with_front (take (length before) line) before
unfolding with_front
front-written line before front count least is =
    let other : count ≡ min (length before) (length line) = omega arith in
    let same : front ≡ take (length before) line = is ∙ (ap (λ (n : ℕ). take n line) other ∙
    take_min (length before) line) in
    let long : count ≡ length (take (length before) line) =
    other ∙ sym (length-take (length before) line) in
    λ i. same i ++ drop (long i) before

done : (n m : ℕ) → n ≤ m → ◌≡◌ {A = ℕ} 0 (if nat_le n m then 0 else 21)
done n m le = let yes : nat_le n m ≡ true = grind (arith, nat_tests) in rw yes refl

cut : (n m : ℕ) → m < n → ◌≡◌ {A = ℕ} 21 (if nat_le n m then 0 else 21)
cut n m lt = let no : nat_le n m ≡ false = grind (arith, nat_tests) in rw no refl

pub returns-then-count-line : goal.returns-then-count-line
returns-then-count-line c = grind (arith, done, front-written)

pub returns-else-count-line : goal.returns-else-count-line
returns-else-count-line c = grind (arith, cut, front-written)
