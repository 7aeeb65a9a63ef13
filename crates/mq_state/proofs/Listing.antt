-- Lists that a loop over the rows of a table makes.
use Rattle.std.proofs.Common.{◌≡◌, ℕ, true, ◌+◌, ◌<◌, ◌≤◌, ◌++◌, List, [], ◌∷◌, length, drop, map, reverse, get_or, refl, sym, ◌∙◌, ap, arith, add-one}
use Rattle.std.proofs.Math.Seq.{drop-cons}
use Rattle.std.proofs.lemmas.Grind.{common_steps}
use Rattle.std.proofs.lemmas.List.{drop_all}
use Rattle.mq_model.specs.Record.{Past}
use Rattle.mq_model.specs.Descriptors.{alive}
use Rattle.mq_model.specs.Messages.{is_in, present}
use Rattle.mq_state.specs.QueueShown.{QueueShown}
use Rattle.mq_state.specs.Queues.{QueuesMirror, slots_in, slots_of}
use Rattle.mq_state.proofs.Reading.{slots-read}
use Rattle.mq_state.proofs.QueuesKeep.{reverse-cons}

abbrev pub place : QueueShown → ℕ
place x = x.place

pub places-none : (queues : List QueueShown) (i : ℕ) → length queues ≤ i →
    [] ≡ reverse (map place (drop i queues))
places-none queues i all = ap (λ xs. reverse (map place xs)) (sym (drop_all i queues all))

pub places-more : (queues : List QueueShown) (d : QueueShown) (found : List ℕ) (i : ℕ) →
    found ≡ reverse (map place (drop (i + 1) queues)) → i < length queues →
    found ++ (get_or queues i d).place ∷ [] ≡ reverse (map place (drop i queues))
places-more queues d found i is lt = grind (arith, common_steps, add-one, drop-cons, reverse-cons)

places-slots : (past : Past) (xs : List ℕ) → map (λ m. m.1) (slots_of past xs) ≡ xs
places-slots past [] = refl
places-slots past (x ∷ xs) = ap (λ rest. x ∷ rest) (places-slots past xs)

pub messages-read : (past : Past) (queues : List QueueShown) → QueuesMirror past queues → (q : ℕ) →
    is_in (alive past) q ≡ true → map (λ m. m.1) (slots_in queues q) ≡ present past q
messages-read past queues m q h = ap (λ xs. map (λ m. m.1) xs) (slots-read past queues m q h) ∙
    places-slots past (present past q)

pub ruleset listing = (places-none, places-more)
