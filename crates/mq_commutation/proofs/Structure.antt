-- The names and descriptors after a call that neither opens nor unlinks anything.
use Rattle.std.proofs.Common.{◌≡◌, ◌⊎◌, inl, inr, ℕ, ◌==◌, true, false, List, ◌∷◌, Option, None, if◌then◌else◌, refl, sym, ◌∙◌, ap, ne_eqb, eq-eqb, arith}
use Rattle.std.proofs.lemmas.Bool.{eqb-false}
use Rattle.std.specs.Option.{option_map}
use Rattle.mq_model.specs.Record.{Past}
use Rattle.mq_model.specs.Threads.{owner_of, shares}
use Rattle.mq_model.specs.Names.{bound_queue, creates, unlinks}
use Rattle.mq_model.specs.Descriptors.{created, held, held_after, with_nonblock}
use Rattle.mq_model.specs.declared.entries.Description.{Description}
use Rattle.mq_model.specs.declared.entries.Call.{Call}
use Rattle.mq_model.specs.declared.entries.Call.TheVariants.{MqClose, MqSetattr, Collect}
use Rattle.mq_model.specs.declared.entries.Reply.{Reply}
use Rattle.mq_model.specs.declared.entries.Reply.TheVariants.{Attrs, Done}
use Rattle.mq_model.proofs.Places.{split}
use Rattle.mq_model.proofs.Alive.{rec}
use Rattle.mq_equivalence.specs.Steps.{shape}
use Rattle.mq_equivalence.specs.Runs.{Request}
use Rattle.mq_commutation.specs.Commuting.{is_covered}

pub not-created : (call : Call) (reply : Reply) → is_covered call ≡ true →
    creates call reply ≡ false
not-created call reply on = grind arith

pub not-unlinked : (call : Call) (reply : Reply) → is_covered call ≡ true →
    unlinks call reply ≡ false
not-unlinked call reply on = grind arith

-- a descriptor after such a call
abbrev pub flagged : Call → Reply → ℕ → Option Description → Option Description
flagged (MqSetattr e nonblock) (Attrs s) d before = if e == d
    then option_map (with_nonblock nonblock) before else before
flagged (MqClose e) Done d before = if e == d then None else before
flagged call reply d before = before

pub held-by : (past : Past) (call : Call) (name : List ℕ) (reply : Reply) (d : ℕ)
    (before : Option Description) → is_covered call ≡ true →
    held_after past call name reply d before ≡ flagged call reply d before
held-by past call name reply d before on = grind arith

pub flagged-shape : (call : Call) (reply : Reply) (d : ℕ) (before : Option Description) →
    flagged call (shape reply) d before ≡ flagged call reply d before
flagged-shape call reply d before = grind arith

pub created-stay : (past : Past) (p : ℕ) (call : Call) (reply : Reply) (payload : List ℕ) →
    is_covered call ≡ true → created (rec p call reply payload ∷ past) ≡ created past
created-stay past p call reply payload on = rw (not-created call reply on) refl

pub names-stay : (past : Past) (p : ℕ) (call : Call) (reply : Reply) (payload : List ℕ) →
    is_covered call ≡ true → (name : List ℕ) → bound_queue (rec p call reply payload ∷ past) name ≡
    bound_queue past name
names-stay past p call reply payload on name =
    rw (not-created call reply on, not-unlinked call reply on) refl

pub held-other : (past : Past) (p : ℕ) (call : Call) (reply : Reply) (payload : List ℕ) (k : ℕ) →
    shares p k ≡ false → (d : ℕ) → held (rec p call reply payload ∷ past) k d ≡ held past k d
held-other past p call reply payload k far d = rw far refl

pub flagged-collect : (call : Call) (reply : Reply) (d : ℕ) (before : Option Description) →
    call ≡ Collect → flagged call reply d before ≡ before
flagged-collect call reply d before is = grind arith

pub held-collect : (past : Past) (p : ℕ) (call : Call) (reply : Reply) (payload : List ℕ) (k : ℕ) →
    is_covered call ≡ true → call ≡ Collect → (d : ℕ) → held (rec p call reply payload ∷ past) k d ≡
    held past k d
held-collect past p call reply payload k on is d = split (shares p k)
    (λ t. rw t (held-by past call payload reply d (held past k d) on ∙ flagged-collect call reply d
    (held past k d) is))
    (λ f. rw f refl)

-- calls of two processes --------------------------------------------------------------------------

pub other-callers : (p q : ℕ) → shares p q ≡ false → p ≡ q → ⊥
other-callers p q far e =
    let same : shares p q ≡ true = eq-eqb (owner_of p) (owner_of q) (ap owner_of e) in
    let bad : false ≡ true = sym far ∙ same in cc

pub others-differ : (p q : ℕ) → shares p q ≡ false → (p == q) ≡ false
others-differ p q far = ne_eqb p q (other-callers p q far)

pub shares-back : (p q : ℕ) → shares p q ≡ false → shares q p ≡ false
shares-back p q far = ne_eqb (owner_of q) (owner_of p) (λ e. eqb-false (owner_of p)
    (owner_of q) far (sym e))

-- No descriptor that one call uses is changed by the other: they are calls of different processes,
-- or one is a collect, which uses none.
abbrev pub HoldApart : Request → Request → Type 0
HoldApart a b = (shares a.process b.process ≡ false) ⊎ ((a.call ≡ Collect) ⊎ (b.call ≡ Collect))

pub apart-holders-back : (a b : Request) → HoldApart a b → HoldApart b a
apart-holders-back a b (inl far) = inl (shares-back a.process b.process far)
apart-holders-back a b (inr (inl is)) = inr (inr is)
apart-holders-back a b (inr (inr is)) = inr (inl is)
