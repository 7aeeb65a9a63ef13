-- Equivalence is an equivalence relation.
use Rattle.std.proofs.lemmas.Bool.Decides.{nat_tests}
use Rattle.std.proofs.Common.{◌≡◌, ℕ, ◌==◌, true, false, List, [], ◌∷◌, Option, Some, None, if◌then◌else◌, refl, sym, ◌∙◌, ap, subst, eqb-true, eq-eqb, ne_eqb, arith}
use Rattle.std.specs.Option.{option_map}
use Rattle.std.proofs.lemmas.Bool.{eqb-false}
use Rattle.mq_model.specs.Record.{Past}
use Rattle.mq_model.specs.Names.{attributes, bound_queue}
use Rattle.mq_model.specs.Descriptors.{alive, held}
use Rattle.mq_model.specs.Messages.{is_in}
use Rattle.mq_model.specs.Legality.{Legal}
use Rattle.mq_model.specs.declared.entries.Description.{Description}
use Rattle.mq_model.proofs.Places.{split}
use Rattle.mq_model.proofs.HeldQueues.{held-alive}
use Rattle.mq_equivalence.specs.Views.{contents, receivers, registered_as, senders}
use Rattle.mq_equivalence.specs.Structure.{renumbered}
use Rattle.mq_equivalence.specs.Equivalence.{Equivalent}
use Rattle.mq_equivalence.proofs.Correspondence.{corresponds-on, corresponds-self}
use Rattle.mq_equivalence.proofs.Structure.{named-by, needed-in}

-- renumberings ------------------------------------------------------------------------------------

-- of the queues, the one whose number is k
origin : (ℕ → ℕ) → List ℕ → ℕ → ℕ
origin to [] k = 0
origin to (j ∷ qs) k = if to j == k then j else origin to qs k

origin-is : (to : ℕ → ℕ) (qs : List ℕ) →
    ((i j : ℕ) → is_in qs i ≡ true → is_in qs j ≡ true → to i ≡ to j → i ≡ j) → (q : ℕ) →
    is_in qs q ≡ true → origin to qs (to q) ≡ q
unfolding origin
origin-is to [] once q h = absurd (cc)
origin-is to (j ∷ qs) once q h = split (to j == to q)
    (λ t. rw t (once j q (rw (eq-eqb j j refl) refl) h (eqb-true _ _ t)))
    (λ f. let ne : (j == q) ≡ false = ne_eqb j q (λ e. eqb-false _ _ f (ap to e)) in
    let rest : is_in qs q ≡ true = rw ne at h in
    rw f (origin-is to qs (λ i k hi hk e. once i k (older i hi) (older k hk) e) q rest))
  where
    older : (i : ℕ) → is_in qs i ≡ true → is_in (j ∷ qs) i ≡ true
    older i hi = split (j == i) (λ t. rw t refl) (λ f. rw (f, hi) refl)

-- the relation ------------------------------------------------------------------------------------

pub equivalent-self : (x : Past) → Legal x → Equivalent x x
equivalent-self x legal = record {
  to = λ q. q;
  equivalent = grind (arith, nat_tests, corresponds-self);
}

pub equivalent-both : (x y z : Past) → Equivalent x y → Equivalent y z → Equivalent x z
equivalent-both x y z f g = record {
  to = λ q. g.to (f.to q);
  equivalent = grind (arith, nat_tests, corresponds-on);
}
  where
    there : (q : ℕ) → is_in (alive x) q ≡ true → is_in (alive y) (f.to q) ≡ true
    there = f.equivalent.structure.queues.each

module _ (x y : Past) (f : Equivalent x y) where
  back : ℕ → ℕ
  back = origin f.to (alive x)

  back-is : (q : ℕ) → is_in (alive x) q ≡ true → back (f.to q) ≡ q
  unfolding back
  back-is q inside = origin-is f.to (alive x) f.equivalent.structure.queues.once q inside

  -- queue k of y is queue `back k` of x, and has its number there
  from : (k : ℕ) → is_in (alive y) k ≡ true →
      (is_in (alive x) (back k) ≡ true) × (f.to (back k) ≡ k)
  from k inside =
      let n = f.equivalent.structure.queues.every k inside in
      let is : back k ≡ n.0 = ap back (sym n.2) ∙ back-is n.0 n.1 in
      (subst (λ (q : ℕ). is_in (alive x) q ≡ true) (sym is) n.1, ap f.to is ∙ n.2)

  back-fact : {X : Type 0} (of_x of_y : ℕ → X) →
      ((q : ℕ) → is_in (alive x) q ≡ true → of_y (f.to q) ≡ of_x q) → (k : ℕ) →
      is_in (alive y) k ≡ true → of_x (back k) ≡ of_y k
  back-fact of_x of_y same k inside = let n = from k inside in sym (same (back k) n.0) ∙ ap of_y n.1

  name-back : (name : List ℕ) → bound_queue x name ≡ option_map back (bound_queue y name)
  name-back name = by (bound_queue x name) refl ∙
      sym (ap (option_map back) (f.equivalent.structure.names name))
    where
      by : (o : Option ℕ) → bound_queue x name ≡ o → o ≡ option_map back (option_map f.to o)
      by None is = refl
      by (Some q) is = ap (λ (k : ℕ). Some k)
          (sym (back-is q (needed-in x f.equivalent.legal.0 q (named-by x name q is))))

  held-back : (p d : ℕ) → held x p d ≡ option_map (renumbered back) (held y p d)
  held-back p d = by (held x p d) refl ∙ sym (ap (option_map (renumbered back))
      (f.equivalent.structure.descriptors p d))
    where
      by : (o : Option Description) → held x p d ≡ o →
          o ≡ option_map (renumbered back) (option_map (renumbered f.to) o)
      by None is = refl
      by (Some h) is =
          λ i. Some
          (record {
            queue = sym (back-is h.queue (held-alive x f.equivalent.legal.0 p d h is)) i;
            access = h.access;
            nonblock = h.nonblock;
          })

  pub equivalent-back : Equivalent y x
  equivalent-back = record {
    to = back;
    equivalent = record {
      legal = (f.equivalent.legal.1, f.equivalent.legal.0);
      structure = record {
        names = name-back;
        descriptors = held-back;
        queues = record {
          each = λ k h. (from k h).0;
          every = λ q h. (f.to q, f.equivalent.structure.queues.each q h, back-is q h);
          once = λ j k hj hk e. sym (from j hj).1 ∙ ap f.to e ∙ (from k hk).1;
        };
        limits = back-fact (attributes x) (attributes y) f.equivalent.structure.limits;
      };
      messages = back-fact (contents x) (contents y) f.equivalent.messages;
      sending = back-fact (senders x) (senders y) f.equivalent.sending;
      receiving = back-fact (receivers x) (receivers y) f.equivalent.receiving;
      registrations = back-fact (registered_as x) (registered_as y) f.equivalent.registrations;
      values = λ p. sym (f.equivalent.values p);
      waits = λ p. sym (f.equivalent.waits p);
      rooms = λ p. sym (f.equivalent.rooms p);
      deadlines = λ p. sym (f.equivalent.deadlines p);
      answered = λ p. sym (f.equivalent.answered p);
    };
  }
