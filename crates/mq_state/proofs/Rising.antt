-- The places of the rows rise, so that a queue is found by binary search, and has only one index.
use Rattle.std.proofs.Common.{◌≡◌, ℕ, suc, ◌+◌, ◌<◌, ◌≤◌, ◌==◌, Bool, true, false, List, [], ◌∷◌, ◌++◌, length, reverse, Some, None, get_or, refl, arith}
use Rattle.std.specs.List.{filter, position, position_from}
use Rattle.std.proofs.lemmas.Iterator.Adapters.{position_from-zero}
use Rattle.mq_model.specs.Record.{Past}
use Rattle.mq_model.specs.Descriptors.{created}
use Rattle.mq_model.specs.Messages.{is_in}
use Rattle.mq_model.proofs.Places.{clash, is_in-filter}
use Rattle.mq_model.proofs.Frames.{created-below}
use Rattle.mq_state.specs.QueueShown.{QueueShown}
use Rattle.mq_state.specs.Queues.{Rises, HaveRisingPlaces, QueuesMirror}
use Rattle.mq_state.proofs.QueuesKeep.{in-append, in-reverse, reverse-cons}
use Rattle.std.proofs.lemmas.List.{get_or_default}
use Rattle.mq_state.proofs.Finding.{in-places}

rises-push : (ks : List ℕ) (k : ℕ) → Rises ks → ((j : ℕ) → is_in ks j ≡ true → j < k) →
    Rises (ks ++ k ∷ [])
rises-push [] k rises below = grind arith
rises-push (i ∷ ks) k rises below = grind (arith, in-append ks (k ∷ []), below i, rises-push ks k)

-- queues are created one after another
rises-created : (t : ℕ → Bool) (past : Past) → Rises (reverse (filter t (created past)))
rises-created t [] = tt
rises-created t (r ∷ past) = grind (
  arith,
  reverse-cons,
  rises-push,
  in-reverse,
  is_in-filter,
  created-below,
  rises-created t past,
)

pub rising-places : (past : Past) (queues : List QueueShown) → QueuesMirror past queues →
    HaveRisingPlaces queues
rising-places past queues m = rw m.places (rises-created _ past)

-- by index ----------------------------------------------------------------------------------------

rising-at : (queues : List QueueShown) → HaveRisingPlaces queues → (i j : ℕ) (d e : QueueShown) →
    i < j → j < length queues → (get_or queues i d).place < (get_or queues j e).place
rising-at (x ∷ queues) rises i (suc j) d e lt within = grind (
  arith,
  rises.0,
  in-places queues j e,
  rising-at queues rises.1,
)
rising-at queues rises i j d e lt within = absurd (omega arith)

at-index : (queues : List QueueShown) (q i n : ℕ) (d : QueueShown) → i < length queues →
    (get_or queues i d).place ≡ q →
    ((k : ℕ) (e : QueueShown) → k < i → (get_or queues k e).place < q) →
    position_from (λ x. x.place == q) n queues ≡ Some (n + i)
at-index (x ∷ queues) q (suc i) n d within here below =
    grind (
      arith,
      below 0 x,
      at-index queues q i (n + 1) d (omega arith) here
          (λ k e lt. below (suc k) e (omega arith)),
    )
at-index queues q i n d within here below = grind arith

nowhere : (queues : List QueueShown) (q n : ℕ) →
    ((k : ℕ) (e : QueueShown) → k < length queues → ((get_or queues k e).place == q) ≡ false) →
    position_from (λ x. x.place == q) n queues ≡ None
nowhere [] q n other = refl
nowhere (x ∷ queues) q n other = grind (
  arith,
  other 0 x,
  nowhere queues q (n + 1)
      (λ k e lt. other (suc k) e (omega arith)),
)

-- a line with place q is the only one
pub here-alone : (queues : List QueueShown) → HaveRisingPlaces queues → (q i : ℕ) (d : QueueShown) →
    i < length queues → (get_or queues i d).place ≡ q → position (λ x. x.place == q) queues ≡ Some i
here-alone queues rises q i d within here =
    grind (arith, position_from-zero (λ x. x.place == q) queues, at-index queues q i 0 d, rising-at)

-- the places up to an index are no higher
pub up-to : (queues : List QueueShown) → HaveRisingPlaces queues → (i k : ℕ) (d e : QueueShown) →
    k ≤ i → i < length queues → (get_or queues k e).place ≤ (get_or queues i d).place
up-to queues rises i k d e le within = grind (arith, rising-at, get_or_default)

-- there is none, if the rows before an index are below q, those from it on are not, and the one
-- there is another
pub not-there : (queues : List QueueShown) → HaveRisingPlaces queues → (q i : ℕ) →
    ((k : ℕ) (e : QueueShown) → k < i → (get_or queues k e).place < q) →
    ((k : ℕ) (e : QueueShown) → i ≤ k → k < length queues → q ≤ (get_or queues k e).place) →
    (i < length queues → (d : QueueShown) × (((get_or queues i d).place == q) ≡ false)) →
    position (λ x. x.place == q) queues ≡ None
not-there queues rises q i below rest other = grind (
  arith,
  clash,
  nowhere queues q 0,
  position_from-zero (λ x. x.place == q) queues,
  rising-at,
  get_or_default,
)
