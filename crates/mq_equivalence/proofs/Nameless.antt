-- No queue has a number that no place has.
use Rattle.std.proofs.Common.{◌≡◌, ℕ, ◌<◌, ◌≤◌, ◌==◌, [], ◌∷◌, length, Option, Some, None, ◌⊎◌, inl, inr, refl, sym, ◌∙◌, ap, arith}
use Rattle.std.specs.Option.{option_map}
use Rattle.std.proofs.lemmas.Bool.{cases_lt, eqb-false}
use Rattle.mq_model.specs.Record.{Record, Past, record_at}
use Rattle.mq_model.specs.Names.{name_of}
use Rattle.mq_model.specs.Descriptors.{is_named}
use Rattle.mq_model.proofs.Alive.{named-bound}
use Rattle.mq_model.proofs.Frames.{created-below}
use Rattle.mq_model.proofs.HeldQueues.{bound-created}
use Rattle.mq_model.proofs.Places.{split}
use Rattle.mq_equivalence.specs.Views.{bound_name}

pub nameless-beyond : (past : Past) (q : ℕ) → length past ≤ q → bound_name past q ≡ None
nameless-beyond past q le = split (is_named past q)
    (λ t. let lt = created-below past q (bound-created past (name_of past q) q
    (named-bound past q t)) in absurd (omega arith))
    (λ f. rw f refl)

exists : (past : Past) (k : ℕ) → k < length past → (r : Record) × (record_at past k ≡ Some r)
exists [] k lt = absurd (omega arith)
exists (s ∷ past) k lt =
    split (k == length past)
    (λ here. (s, rw here refl))
    (λ there. let ne : k ≡ length past → ⊥ = eqb-false _ _ there in let old = exists past k
    (omega arith) in (old.0, rw there old.1))

pub nameless-none : (past : Past) (q : ℕ) →
    option_map (λ (r : Record). r.payload) (record_at past q) ≡ None → bound_name past q ≡ None
nameless-none past q none = elim (cases_lt q (length past)) [
  | inl lt ↦ absurd (let found = exists past q lt in let is = sym
      (ap (option_map (λ (r : Record). r.payload)) found.1) ∙ none in cc)
  | inr le ↦ nameless-beyond past q le
]
