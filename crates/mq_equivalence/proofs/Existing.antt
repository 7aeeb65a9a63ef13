-- The queues of a key exist.
use Rattle.std.proofs.Common.{◌≡◌, ℕ, zero, suc, ◌<◌, ◌==◌, true, List, [], ◌∷◌, length, get_or, refl, ◌∙◌, sym, ap, eq-eqb, arith}
use Rattle.mq_model.specs.Record.{Past}
use Rattle.mq_model.specs.Descriptors.{alive}
use Rattle.mq_model.specs.Messages.{is_in}
use Rattle.mq_model.proofs.Places.{split}
use Rattle.mq_equivalence.specs.Key.{queues_by_name}
use Rattle.mq_equivalence.proofs.SameKeys.{existing}

is_in-at : (xs : List ℕ) (i d : ℕ) → i < length xs → is_in xs (get_or xs i d) ≡ true
is_in-at [] i d lt = absurd (omega arith)
is_in-at (x ∷ xs) zero d lt = rw (eq-eqb x x refl) refl
is_in-at (x ∷ xs) (suc i) d lt = split (x == get_or xs i d) (λ e. rw e refl)
    (λ n. rw n (is_in-at xs i d (omega (arith, lt))))

pub keyed-exist : (past : Past) (xs : List ℕ) (i d : ℕ) → xs ≡ queues_by_name past → i < length xs →
    is_in (alive past) (get_or xs i d) ≡ true
keyed-exist past xs i d is lt = existing past (get_or xs i d) (ap (λ ys. is_in ys (get_or xs i d))
    (sym is) ∙ is_in-at xs i d lt)

pub ruleset existing_queues = (keyed-exist)
