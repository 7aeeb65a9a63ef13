-- The result of a search from the start.
use Rattle.std.proofs.Common.{◌≡◌, ℕ, zero, suc, ◌<◌, Bool, true, false, List, [], ◌∷◌, length, map, ◌==◌, eq-eqb, get_or, Some, None, refl, arith, sym, ap, ◌∙◌}
use Rattle.std.specs.List.{find}
use Rattle.mq_model.specs.Record.{Past}
use Rattle.mq_model.specs.Descriptors.{alive}
use Rattle.mq_model.specs.Messages.{is_in}
use Rattle.mq_model.proofs.Places.{split}
use Rattle.mq_state.specs.QueueShown.{QueueShown}
use Rattle.mq_state.specs.Queues.{QueuesMirror}
use Rattle.mq_state.proofs.QueuesKeep.{in-reverse}

pub first-true : {X : Type 0} (t : X → Bool) (xs : List X) (i : ℕ) (d : X) → i < length xs →
    ((k : ℕ) (e : X) → k < i → t (get_or xs k e) ≡ false) → t (get_or xs i d) ≡ true →
    find t xs ≡ Some (get_or xs i d)
first-true t [] i d lt before here = absurd (omega (arith, lt))
first-true t (x ∷ xs) zero d lt before here = rw here refl
first-true t (x ∷ xs) (suc i) d lt before here =
    let off : t x ≡ false = before 0 d (omega arith) in
    rw off (first-true t xs i d (omega (arith, lt)) (λ k e less. before (suc k) e
    (omega (arith, less))) here)

pub none-true : {X : Type 0} (t : X → Bool) (xs : List X) →
    ((k : ℕ) (e : X) → k < length xs → t (get_or xs k e) ≡ false) → find t xs ≡ None
none-true t [] each = refl
none-true t (x ∷ xs) each =
    let here : t x ≡ false = each 0 x (omega arith) in
    rw here (none-true t xs (λ k e less. each (suc k) e (omega (arith, less))))

pub in-places : (queues : List QueueShown) (k : ℕ) (d : QueueShown) → k < length queues →
    is_in (map (λ x. x.place) queues) (get_or queues k d).place ≡ true
in-places [] k d lt = absurd (omega (arith, lt))
in-places (x ∷ queues) zero d lt = rw (eq-eqb x.place x.place refl) refl
in-places (x ∷ queues) (suc k) d lt = split (x.place == (get_or queues k d).place) (λ t. rw t refl)
    (λ f. rw f (in-places queues k d (omega (arith, lt))))

-- each queue of the table exists
pub line-exists : (past : Past) (queues : List QueueShown) → QueuesMirror past queues →
    (k : ℕ) (d : QueueShown) → k < length queues → is_in (alive past) (get_or queues k d).place ≡
    true
line-exists past queues m k d lt = sym (in-reverse (alive past) (get_or queues k d).place) ∙
    ap (λ xs. is_in xs (get_or queues k d).place) (sym m.places) ∙ in-places queues k d lt
