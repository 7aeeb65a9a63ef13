-- Names, descriptors and the queues that exist remain the same up to their numbers, under each call
-- whose replies differ only in sequence numbers.
use Rattle.std.proofs.lemmas.Bool.Decides.{nat_tests}
use Rattle.std.proofs.Common.{◌≡◌, ℕ, ◌<◌, ◌==◌, Bool, true, false, ◌&&◌, ◌||◌, List, [], ◌∷◌, length, map, Option, Some, None, if◌then◌else◌, refl, sym, ◌∙◌, ap, subst, arith, eqb-true, eq-eqb, ne_eqb}
use Rattle.std.specs.List.{filter}
use Rattle.std.specs.Str.{bytes_eq}
use Rattle.std.specs.Option.{option_map, unwrap_or}
use Rattle.std.proofs.lemmas.Bool.{eqb-false}
use Rattle.mq_model.specs.Record.{Record, Past}
use Rattle.mq_model.specs.Threads.{shares}
use Rattle.mq_model.specs.Names.{attributes, bound_queue, creates, name_of, unlinks}
use Rattle.mq_model.specs.Descriptors.{after_close, after_open, after_setattr, alive, created, description, held, held_after, is_held, is_named, opened_queue, with_nonblock}
use Rattle.mq_model.specs.Messages.{is_in}
use Rattle.mq_model.specs.Legality.{Legal}
use Rattle.mq_model.specs.declared.entries.Attr.{Attr}
use Rattle.mq_model.specs.declared.entries.OpenFlags.{OpenFlags}
use Rattle.mq_model.specs.declared.entries.Description.{Description}
use Rattle.mq_model.specs.declared.entries.Call.{Call}
use Rattle.mq_model.specs.declared.entries.Call.TheVariants.{MqOpen, MqClose, MqSetattr}
use Rattle.mq_model.specs.declared.entries.Reply.{Reply}
use Rattle.mq_model.specs.declared.entries.Reply.TheVariants.{Opened, Attrs, Done}
use Rattle.mq_model.proofs.Mates.{held-mates}
use Rattle.mq_model.proofs.Places.{split, is_in-filter}
use Rattle.mq_model.proofs.Frames.{attributes-older, created-below}
use Rattle.mq_model.proofs.HeldQueues.{after-cases, bound-created, created-held, in-filter}
use Rattle.mq_model.proofs.Alive.{bound-named, held-is_held, is_held-holder, is_needed, named-bound, named-newest, needed-alive, rec, same-tests}
use Rattle.mq_model.proofs.OpenReplies.{opened-says}
use Rattle.mq_equivalence.specs.Steps.{shape}
use Rattle.mq_equivalence.proofs.Falling.{Falls, falls-filter, in-first}
use Rattle.mq_equivalence.specs.Structure.{SameStructure, extended, renumbered}
use Rattle.mq_state.proofs.QueuesKeep.{alive-below}

-- options and lists -------------------------------------------------------------------------------

pub option-same : {X Y : Type 0} (f g : X → Y) (o : Option X) → ((v : X) → o ≡ Some v → f v ≡ g v) →
    option_map f o ≡ option_map g o
option-same f g o same = grind arith

pub in-map : (f : ℕ → ℕ) (ks : List ℕ) (j : ℕ) → is_in ks j ≡ true → is_in (map f ks) (f j) ≡ true
in-map f [] j h = absurd (cc)
in-map f (k ∷ ks) j h = split (k == j)
    (λ e. let same : k ≡ j = eqb-true _ _ e in rw (eq-eqb (f k) (f j) (ap f same)) refl)
    (λ n. let rest : is_in ks j ≡ true = rw n at h in split (f k == f j) (λ y. rw y refl)
    (λ z. rw (z, in-map f ks j rest) refl))

pub map-same : (f g : ℕ → ℕ) (ks : List ℕ) → ((k : ℕ) → is_in ks k ≡ true → f k ≡ g k) →
    map f ks ≡ map g ks
map-same f g [] same = refl
map-same f g (k ∷ ks) same = (λ i. same k (rw (eq-eqb k k refl) refl) i ∷ map-same f g ks
    (λ j h. same j (split (k == j) (λ y. rw y refl) (λ z. rw (z, h) refl))) i)

-- what passes the second test passes the first
filter-twice : (s t : ℕ → Bool) (xs : List ℕ) →
    ((k : ℕ) → is_in xs k ≡ true → t k ≡ true → s k ≡ true) → filter t xs ≡ filter t (filter s xs)
filter-twice s t [] both = refl
filter-twice s t (x ∷ xs) both =
    let rest : filter t xs ≡ filter t (filter s xs) =
    filter-twice s t xs (λ k h. both k (split (x == k) (λ y. rw y refl) (λ z. rw (z, h) refl)))
    in
    split (t x)
    (λ y. let pass : s x ≡ true = both x (rw (eq-eqb x x refl) refl) y in
    rw (y, pass, y, rest) refl)
    (λ n. split (s x) (λ y. rw (n, y, n, rest) refl) (λ z. rw (n, z, rest) refl))

falls-created : (past : Past) → Falls (created past)
falls-created [] = tt
falls-created (r ∷ past) = grind (arith, created-below, falls-created past)

pub falls-alive : (past : Past) → Falls (alive past)
falls-alive past = falls-filter _ (created past) (falls-created past)

-- numbers of queues -------------------------------------------------------------------------------

pub old-number : (to : ℕ → ℕ) (here there q : ℕ) → q < here → extended to here there q ≡ to q
old-number to here there q lt = rw (ne_eqb q here (λ e. omega arith)) refl

pub new-number : (to : ℕ → ℕ) (here there : ℕ) → extended to here there here ≡ there
new-number to here there = rw (eq-eqb here here refl) refl

pub bound-below : (past : Past) (name : List ℕ) (q : ℕ) → bound_queue past name ≡ Some q →
    q < length past
bound-below past name q e = created-below past q (bound-created past name q e)

held-below : (past : Past) → Legal past → (p d : ℕ) (h : Description) → held past p d ≡ Some h →
    h.queue < length past
held-below past legal p d h e = created-below past h.queue (created-held past legal p d h e)

-- what is needed was created
needed-created : (past : Past) → Legal past → (q : ℕ) → is_needed past q ≡ true →
    is_in (created past) q ≡ true
needed-created past legal q e = split (is_named past q)
    (λ t. bound-created past (name_of past q) q (named-bound past q t))
    (λ f. let holds : is_held past q ≡ true = rw f at e in
    let x = is_held-holder past q holds in
    subst (λ (k : ℕ). is_in (created past) k ≡ true) x.on (created-held past legal x.process x.d
    x.description x.held))

pub needed-in : (past : Past) → Legal past → (q : ℕ) → is_needed past q ≡ true →
    is_in (alive past) q ≡ true
needed-in past legal q e = in-filter (is_needed past) (created past) q
    (needed-created past legal q e) e

-- needed queues -----------------------------------------------------------------------------------

pub named-by : (past : Past) (name : List ℕ) (k : ℕ) → bound_queue past name ≡ Some k →
    is_needed past k ≡ true
named-by past name k e = rw (bound-named past name k e) refl

held-by : (past : Past) (p d q : ℕ) (h : Description) → held past p d ≡ Some h → h.queue ≡ q →
    is_needed past q ≡ true
held-by past p d q h e on = split (is_named past q) (λ t. rw t refl)
    (λ f. rw (f, held-is_held past p d q h e on) refl)

opened-old : (past : Past) (r : Record) → Legal (r ∷ past) →
    (flags : OpenFlags) (attr : Option Attr) (e : ℕ) → r.entry.call ≡ MqOpen flags attr →
    r.entry.reply ≡ Opened e false → (k : ℕ) × (bound_queue past r.payload ≡ Some k)
opened-old past r legal flags attr e call reply = grind (arith, opened-says)

-- what is needed after a record, and is not the queue that it creates, was needed before it
pub fewer-needed : (past : Past) (r : Record) → Legal (r ∷ past) → (k : ℕ) → k < length past →
    is_needed (r ∷ past) k ≡ true → is_needed past k ≡ true
fewer-needed past r legal k lt e = split (is_named (r ∷ past) k)
    (λ t. was-named (name_of (r ∷ past) k) (named-bound (r ∷ past) k t))
    (λ f. let holds : is_held (r ∷ past) k ≡ true = rw f at e in
    let x = is_held-holder (r ∷ past) k holds in
    was-held x.process x.d x.description x.held x.on)
  where
    was-named : (name : List ℕ) → bound_queue (r ∷ past) name ≡ Some k → is_needed past k ≡ true
    was-named name b = split (creates r.entry.call r.entry.reply && bytes_eq r.payload name)
        (λ t. let here : Some (length past) ≡ Some k = rw t at b in let same : length past ≡
        k = cc in absurd (omega arith))
        (λ f. split (unlinks r.entry.call r.entry.reply && bytes_eq r.payload name)
        (λ t. let none : None ≡ Some k = rw (f, t) at b in absurd (cc))
        (λ g. let old : bound_queue past name ≡ Some k = rw (f, g) at b in
        named-by past name k old))

    opened : (new : Bool) (flags : OpenFlags) (attr : Option Attr) (d : ℕ) →
        r.entry.call ≡ MqOpen flags attr → r.entry.reply ≡ Opened d new →
        opened_queue past r.payload new ≡ k → is_needed past k ≡ true
    opened true flags attr d call reply q = let same : length past ≡ k = q in absurd (omega arith)
    opened false flags attr d call reply q =
        let old = opened-old past r legal flags attr d call reply in
        let same : old.0 ≡ k = ap (λ (o : Option ℕ). unwrap_or o 0) (sym old.1) ∙ q in
        named-by past r.payload k (old.1 ∙ ap Some same)

    was-held : (p d : ℕ) (h : Description) → held (r ∷ past) p d ≡ Some h → h.queue ≡ k →
        is_needed past k ≡ true
    was-held p d h is on = split (shares r.entry.process p)
        (λ own. let after : held_after past r.entry.call r.payload r.entry.reply d (held past p d) ≡
        Some h = rw own at is in
        after-cases _ past r.entry.call r.payload r.entry.reply d (held past p d) h after
        (λ j was same. held-by past p d k j was (same ∙ on))
        (λ flags attr new call reply q. opened new flags attr d call reply (q ∙ on)))
        (λ other. let was : held past p d ≡ Some h = rw other at is in held-by past p d k h was on)

-- the queues that exist after a record: of those before it the ones that are still needed, and the
-- one that it creates
pub alive-after : (past : Past) (r : Record) → Legal (r ∷ past) →
    alive (r ∷ past) ≡ (if creates r.entry.call r.entry.reply then length past ∷
    filter (is_needed (r ∷ past)) (alive past) else filter (is_needed (r ∷ past)) (alive past))
alive-after past r legal = grind (
  arith,
  is_needed,
  filter-twice,
  fewer-needed,
  created-below,
  named-newest,
)

-- a queue is needed in one journal if it is in the other, provided that no two needed ones have one
-- number there
named-both : (x y : Past) (to : ℕ → ℕ) →
    ((name : List ℕ) → bound_queue y name ≡ option_map to (bound_queue x name)) → (q : ℕ) →
    ((k : ℕ) → is_needed x k ≡ true → to k ≡ to q → k ≡ q) → is_named y (to q) ≡ is_named x q
named-both x y to names q one = grind (arith, same-tests, named-bound, bound-named, named-by)

held-both : (x y : Past) (to : ℕ → ℕ) →
    ((p d : ℕ) → held y p d ≡ option_map (renumbered to) (held x p d)) → (q : ℕ) →
    ((k : ℕ) → is_needed x k ≡ true → to k ≡ to q → k ≡ q) → is_held y (to q) ≡ is_held x q
held-both x y to descriptors q one = same-tests _ _
    (λ t. let o = is_held-holder y (to q) t in back o.process o.d o.description o.on
    (held x o.process o.d) refl (sym (descriptors o.process o.d) ∙ o.held))
    (λ t. let o = is_held-holder x q t in held-is_held y o.process o.d (to q)
    (renumbered to o.description) (descriptors o.process o.d ∙ ap (option_map (renumbered to))
    o.held) (ap to o.on))
  where
    back : (p d : ℕ) (h : Description) → h.queue ≡ to q → (o : Option Description) →
        held x p d ≡ o → option_map (renumbered to) (held x p d) ≡ Some h → is_held x q ≡ true
    back p d h on None is e = absurd (let bad : None ≡ Some h = rw is at e in cc)
    back p d h on (Some k) is e = grind (arith, nat_tests, held-is_held, held-by)

needed-both : (x y : Past) (to : ℕ → ℕ) →
    ((name : List ℕ) → bound_queue y name ≡ option_map to (bound_queue x name)) →
    ((p d : ℕ) → held y p d ≡ option_map (renumbered to) (held x p d)) → (q : ℕ) →
    ((k : ℕ) → is_needed x k ≡ true → to k ≡ to q → k ≡ q) → is_needed y (to q) ≡ is_needed x q
needed-both x y to names descriptors q one = λ i. named-both x y to names q one i ||
    held-both x y to descriptors q one i

-- replies of one shape ----------------------------------------------------------------------------

creates-shape : (call : Call) (reply : Reply) → creates call (shape reply) ≡ creates call reply
creates-shape call reply = grind arith

unlinks-shape : (call : Call) (reply : Reply) → unlinks call (shape reply) ≡ unlinks call reply
unlinks-shape call reply = grind arith

held-shape : (past : Past) (call : Call) (name : List ℕ) (reply : Reply) (d : ℕ)
    (before : Option Description) → held_after past call name (shape reply) d before ≡
    held_after past call name reply d before
held-shape past call name reply d before = grind arith

opened-only : (reply : Reply) (e : ℕ) (new : Bool) → shape reply ≡ Opened e new →
    reply ≡ Opened e new
opened-only reply e new same = grind arith

-- the step ----------------------------------------------------------------------------------------

-- two records after journals with the same structure: of one call, with replies of one shape
pub record Step (to : ℕ → ℕ) (x y : Past) (p : ℕ) (call : Call) (payload : List ℕ)
    (a b : Reply) : Type 0 where
  pub equivalent : SameStructure to x y
  pub same : shape b ≡ shape a
  pub legal_x : Legal (rec p call a payload ∷ x)
  pub legal_y : Legal (rec p call b payload ∷ y)

module _ (to : ℕ → ℕ) (x y : Past) (p : ℕ) (call : Call) (payload : List ℕ) (a b : Reply)
    (s : Step to x y p call payload a b) where
  abbrev onto : ℕ → ℕ
  onto = extended to (length x) (length y)

  abbrev rx : Record
  rx = rec p call a payload

  abbrev ry : Record
  ry = rec p call b payload

  both-create : creates call b ≡ creates call a
  both-create = sym (creates-shape call b) ∙ ap (creates call) s.same ∙ creates-shape call a

  both-unlink : unlinks call b ≡ unlinks call a
  both-unlink = sym (unlinks-shape call b) ∙ ap (unlinks call) s.same ∙ unlinks-shape call a

  names-stay : (name : List ℕ) →
      bound_queue (ry ∷ y) name ≡ option_map onto (bound_queue (rx ∷ x) name)
  names-stay name = split (creates call a && bytes_eq payload name)
      (λ t. let t' : (creates call b && bytes_eq payload name) ≡
      true = ap (λ c. c && bytes_eq payload name) both-create ∙ t in
      rw (t, t') (ap Some (sym (new-number to (length x) (length y)))))
      (λ f. let f' : (creates call b && bytes_eq payload name) ≡
      false = ap (λ c. c && bytes_eq payload name) both-create ∙ f in
      split (unlinks call a && bytes_eq payload name)
      (λ u. let u' : (unlinks call b && bytes_eq payload name) ≡
      true = ap (λ c. c && bytes_eq payload name) both-unlink ∙ u in rw (f, f', u, u') refl)
      (λ v. let v' : (unlinks call b && bytes_eq payload name) ≡
      false = ap (λ c. c && bytes_eq payload name) both-unlink ∙ v in
      rw (f, f', v, v') (s.equivalent.names name ∙ option-same to onto (bound_queue x name)
      (λ q e. sym (old-number to (length x) (length y) q (bound-below x name q e))))))

  held-before : (k d : ℕ) → held y k d ≡ option_map (renumbered onto) (held x k d)
  held-before k d = s.equivalent.descriptors k d ∙ option-same (renumbered to)
      (renumbered onto) (held x k d)
      (λ h e. ap (λ (q : ℕ). renumbered (λ _. q) h)
      (sym (old-number to (length x) (length y) h.queue (held-below x s.legal_x.0 k d h e))))

  open-queue : (flags : OpenFlags) (attr : Option Attr) (e : ℕ) (new : Bool) →
      call ≡ MqOpen flags attr → a ≡ Opened e new →
      opened_queue y payload new ≡ onto (opened_queue x payload new)
  open-queue flags attr e true c is = sym (new-number to (length x) (length y))
  open-queue flags attr e false c is =
      let old = opened-old x rx s.legal_x flags attr e c is in
      ap (λ (o : Option ℕ). unwrap_or o 0) (s.equivalent.names payload ∙ ap (option_map to) old.1)
      ∙ sym (old-number to (length x) (length y) old.0 (bound-below x payload old.0 old.1))
      ∙ ap (λ (o : Option ℕ). onto (unwrap_or o 0)) (sym old.1)

  open-step : (c : Call) → call ≡ c → (e : ℕ) (new : Bool) → a ≡ Opened e new → (d : ℕ) →
      after_open y c payload e new d (held y p d) ≡ option_map (renumbered onto)
      (after_open x c payload e new d (held x p d))
  open-step (MqOpen flags attr) c e new is d = split (e == d)
      (λ t. rw t (ap (λ (q : ℕ). Some (description q flags)) (open-queue flags attr e new c is)))
      (λ f. rw f (held-before p d))
  open-step c' c e new is d = held-before p d

  close-step : (c : Call) (d : ℕ) → after_close c d (held y p d) ≡ option_map (renumbered onto)
      (after_close c d (held x p d))
  close-step (MqClose e) d = split (e == d) (λ t. rw t refl) (λ f. rw f (held-before p d))
  close-step c d = held-before p d

  flag-moved : (nonblock : Bool) (o : Option Description) →
      option_map (with_nonblock nonblock) (option_map (renumbered onto) o) ≡
      option_map (renumbered onto) (option_map (with_nonblock nonblock) o)
  flag-moved nonblock None = refl
  flag-moved nonblock (Some h) = refl

  flag-step : (c : Call) (d : ℕ) → after_setattr c d (held y p d) ≡ option_map (renumbered onto)
      (after_setattr c d (held x p d))
  flag-step (MqSetattr e nonblock) d = split (e == d)
      (λ t. rw t (ap (option_map (with_nonblock nonblock)) (held-before p d) ∙
      flag-moved nonblock (held x p d)))
      (λ f. rw f (held-before p d))
  flag-step c d = held-before p d

  own-step : (reply : Reply) → shape a ≡ reply → (d : ℕ) →
      held_after y call payload reply d (held y p d) ≡ option_map (renumbered onto)
      (held_after x call payload reply d (held x p d))
  own-step (Opened e new) is d = open-step call refl e new (opened-only a e new is) d
  own-step Done is d = close-step call d
  own-step (Attrs status) is d = flag-step call d
  own-step reply is d = held-before p d

  own-held : (d : ℕ) → held_after y call payload b d (held y p d) ≡ option_map (renumbered onto)
      (held_after x call payload a d (held x p d))
  own-held d = sym (held-shape y call payload b d (held y p d))
      ∙ ap (λ (z : Reply). held_after y call payload z d (held y p d)) s.same
      ∙ own-step (shape a) refl d
      ∙ ap (option_map (renumbered onto)) (held-shape x call payload a d (held x p d))

  descriptors-stay : (k d : ℕ) →
      held (ry ∷ y) k d ≡ option_map (renumbered onto) (held (rx ∷ x) k d)
  descriptors-stay k d = split (shares p k)
      (λ t. let mates = eqb-true _ _ t in rw (
        t,
        ← held-mates y p k mates d,
        ← held-mates x p k mates d,
      ) (own-held d))
      (λ f. rw f (held-before k d))

  -- the queues
  number-below : (q : ℕ) → is_in (alive x) q ≡ true → to q < length y
  number-below q h = alive-below y (to q) (s.equivalent.queues.each q h)

  was-alive : (q : ℕ) → (q == length x) ≡ false → is_needed (rx ∷ x) q ≡ true →
      is_in (alive x) q ≡ true
  was-alive q f needs =
      let more : q < length (rx ∷ x) = created-below (rx ∷ x) q
      (needed-created (rx ∷ x) s.legal_x q needs) in
      let ne : q ≡ length x → ⊥ = eqb-false _ _ f in
      needed-in x s.legal_x.0 q (fewer-needed x rx s.legal_x q (omega (arith, more, ne)) needs)

  once : (k q : ℕ) → is_needed (rx ∷ x) k ≡ true → is_in (alive x) q ≡ true → onto k ≡ onto q →
      k ≡ q
  once k q needs h e =
      let q_is : onto q ≡ to q = old-number to (length x) (length y) q (alive-below x q h) in
      let q_less : to q < length y = number-below q h in
      split (k == length x)
      (λ t. let k_is : onto k ≡ length y = ap onto (eqb-true _ _ t) ∙ new-number to
      (length x) (length y) in
      absurd (omega arith))
      (λ f. let inside = was-alive k f needs in
      let k_is : onto k ≡ to k = old-number to (length x) (length y) k (alive-below x k inside) in
      s.equivalent.queues.once k q inside h (sym k_is ∙ e ∙ q_is))

  needed-onto : (q : ℕ) → is_in (alive x) q ≡ true →
      is_needed (ry ∷ y) (onto q) ≡ is_needed (rx ∷ x) q
  needed-onto q h = needed-both (rx ∷ x) (ry ∷ y) onto names-stay descriptors-stay q
      (λ k needs e. once k q needs h e)

  -- the queue that the entry creates
  new-x : (q : ℕ) → (q == length x) ≡ true → is_in (alive (rx ∷ x)) q ≡ true → creates call a ≡ true
  new-x q t h = by (creates call a) refl
    where
      by : (b : Bool) → creates call a ≡ b → creates call a ≡ true
      by true e = e
      by false e =
          let old : is_in (created x) q ≡ true = subst (λ (qs : List ℕ). is_in qs q ≡ true)
          (rw e refl) (is_in-filter (is_needed (rx ∷ x)) (created (rx ∷ x)) q h).0 in
          let lt = created-below x q old in
          let here : q ≡ length x = eqb-true _ _ t in
          absurd (omega (arith, lt, here))

  new-y : creates call a ≡ true → is_in (alive (ry ∷ y)) (length y) ≡ true
  new-y t =
      let t' : creates call b ≡ true = both-create ∙ t in
      let in_y : alive (ry ∷ y) ≡ length y ∷ filter (is_needed (ry ∷ y)) (alive y) =
      alive-after y ry s.legal_y ∙ rw t' refl in
      subst (λ (qs : List ℕ). is_in qs (length y) ≡ true) (sym in_y)
      (in-first (length y) (filter (is_needed (ry ∷ y)) (alive y)))

  new-here : creates call a ≡ true → is_in (alive (rx ∷ x)) (length x) ≡ true
  new-here t =
      let in_x : alive (rx ∷ x) ≡ length x ∷ filter (is_needed (rx ∷ x)) (alive x) =
      alive-after x rx s.legal_x ∙ rw t refl in
      subst (λ (qs : List ℕ). is_in qs (length x) ≡ true) (sym in_x)
      (in-first (length x) (filter (is_needed (rx ∷ x)) (alive x)))

  each-stays : (q : ℕ) → is_in (alive (rx ∷ x)) q ≡ true → is_in (alive (ry ∷ y)) (onto q) ≡ true
  each-stays q h = split (q == length x)
      (λ t. let is : onto q ≡ length y = ap onto (eqb-true _ _ t) ∙ new-number to
      (length x) (length y) in
      subst (λ (k : ℕ). is_in (alive (ry ∷ y)) k ≡ true) (sym is) (new-y (new-x q t h)))
      (λ f. let needs = needed-alive (rx ∷ x) q h in
      let inside = was-alive q f needs in
      needed-in (ry ∷ y) s.legal_y (onto q) (needed-onto q inside ∙ needs))

  every-stays : (k : ℕ) → is_in (alive (ry ∷ y)) k ≡ true →
      (q : ℕ) × (is_in (alive (rx ∷ x)) q ≡ true) × (onto q ≡ k)
  every-stays k h = split (is_in (alive y) k)
      (λ old. let found = s.equivalent.queues.every k old in
      let is : onto found.0 ≡ k = old-number to (length x) (length y) found.0
      (alive-below x found.0 found.1) ∙ found.2 in
      let needs : is_needed (rx ∷ x) found.0 ≡ true =
      sym (needed-onto found.0 found.1) ∙ ap (is_needed (ry ∷ y)) is ∙ needed-alive (ry ∷ y) k h in
      (found.0, needed-in (rx ∷ x) s.legal_x found.0 needs, is))
      (λ new. by (creates call b) refl new)
    where
      by : (c : Bool) → creates call b ≡ c → is_in (alive y) k ≡ false →
          (q : ℕ) × (is_in (alive (rx ∷ x)) q ≡ true) × (onto q ≡ k)
      by true t new =
          let in_y : alive (ry ∷ y) ≡ length y ∷ filter (is_needed (ry ∷ y)) (alive y) =
          alive-after y ry s.legal_y ∙ rw t refl in
          let first : is_in (length y ∷ filter (is_needed (ry ∷ y)) (alive y)) k ≡ true =
          subst (λ (qs : List ℕ). is_in qs k ≡ true) in_y h in
          let here : length y ≡ k = split (length y == k)
          (λ e. eqb-true _ _ e)
          (λ f. let later : is_in (filter (is_needed (ry ∷ y)) (alive y)) k ≡
          true = rw f at first in
          let bad : false ≡ true = sym new ∙
          (is_in-filter (is_needed (ry ∷ y)) (alive y) k later).0 in absurd (cc)) in
          (length x, new-here (sym both-create ∙ t), new-number to (length x) (length y) ∙ here)
      by false t new =
          let in_y : alive (ry ∷ y) ≡ filter (is_needed (ry ∷ y)) (alive y) =
          alive-after y ry s.legal_y ∙ rw t refl in
          let later : is_in (filter (is_needed (ry ∷ y)) (alive y)) k ≡ true =
          subst (λ (qs : List ℕ). is_in qs k ≡ true) in_y h in
          let bad : false ≡ true = sym new ∙ (is_in-filter (is_needed (ry ∷ y)) (alive y) k later).0
          in
          absurd (cc)

  once-stays : (p q : ℕ) → is_in (alive (rx ∷ x)) p ≡ true → is_in (alive (rx ∷ x)) q ≡ true →
      onto p ≡ onto q → p ≡ q
  once-stays p q hp hq e = split (q == length x)
      (λ t. split (p == length x)
      (λ s. eqb-true _ _ s ∙ sym (eqb-true _ _ t))
      (λ f. sym (once q p (needed-alive (rx ∷ x) q hq) (was-alive p f (needed-alive (rx ∷ x) p hp))
      (sym e))))
      (λ f. once p q (needed-alive (rx ∷ x) p hp) (was-alive q f (needed-alive (rx ∷ x) q hq)) e)

  limits-stay : (q : ℕ) → is_in (alive (rx ∷ x)) q ≡ true →
      attributes (ry ∷ y) (onto q) ≡ attributes (rx ∷ x) q
  limits-stay q h = split (q == length x)
      (λ t. let here : q ≡ length x = eqb-true _ _ t in
      ap (attributes (ry ∷ y)) (ap onto here ∙ new-number to (length x) (length y)) ∙ newest y ry ∙
      sym (newest x rx) ∙ ap (attributes (rx ∷ x)) (sym here))
      (λ f. let inside : is_in (alive x) q ≡ true = was-alive q f (needed-alive (rx ∷ x) q h) in
      let low : q < length x = alive-below x q inside in
      ap (attributes (ry ∷ y)) (old-number to (length x) (length y) q low)
      ∙ attributes-older y ry (to q) (number-below q inside)
      ∙ s.equivalent.limits q inside
      ∙ sym (attributes-older x rx q low))
    where
      newest : (past : Past) (r : Record) → attributes (r ∷ past) (length past) ≡
          Rattle.mq_model.specs.Names.attributes_given r.entry.call
      newest past r = rw (eq-eqb (length past) (length past) refl) refl

  pub structure-stays : SameStructure onto (rx ∷ x) (ry ∷ y)
  structure-stays = record {
    names = names-stay;
    descriptors = descriptors-stay;
    queues = record { each = each-stays; every = every-stays; once = once-stays };
    limits =
        limits-stay;
  }
