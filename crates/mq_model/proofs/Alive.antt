-- Which queues exist after one more record.
use Rattle.std.proofs.Common.{◌≡◌, ◌≢◌, ℕ, suc, ◌<◌, ◌==◌, Bool, true, false, ◌&&◌, ◌||◌, not, List, [], ◌∷◌, length, Option, Some, None, is_some, is_none, if◌then◌else◌, refl, sym, ◌∙◌, ap, arith, eqb-true, eq-eqb, ne_eqb, zero, rules, slice_get}
use Rattle.std.specs.List.{filter, list_any}
use Rattle.std.specs.Str.{bytes_eq}
use Rattle.std.specs.Option.{option_map, option_and_then, unwrap_or}
use Rattle.std.proofs.lemmas.Bool.{eqb-false, and_parts}
use Rattle.std.proofs.lemmas.Slice.Eq.{bytes_eq-Decides}
use Rattle.mq_model.specs.Record.{Record, Past}
use Rattle.mq_model.specs.Names.{creates, unlinks, bound_queue, name_of}
use Rattle.mq_model.specs.Descriptors.{held, description, held_after, opened_queue, openers, created, is_held, is_named, is_place, alive, Holder}
use Rattle.mq_model.specs.Messages.{is_in}
use Rattle.mq_model.specs.Owners.{held_in, is_held_in, holds, slot_of, OwnersMirror}
use Rattle.mq_model.specs.Legality.{Legal}
use Rattle.mq_model.specs.declared.entries.Attr.{Attr}
use Rattle.mq_model.specs.declared.entries.OpenFlags.{OpenFlags}
use Rattle.mq_model.specs.declared.entries.Description.{Description}
use Rattle.mq_model.specs.declared.entries.Call.{Call}
use Rattle.mq_model.specs.declared.entries.Call.TheVariants.{MqOpen, MqClose, MqUnlink}
use Rattle.mq_model.specs.declared.entries.Reply.{Reply}
use Rattle.mq_model.specs.declared.entries.Reply.TheVariants.{Opened, Done}
use Rattle.mq_model.specs.declared.owners.Owner.{Owner}
use Rattle.mq_model.proofs.Places.{split, clash, is_in-filter}
use Rattle.mq_model.proofs.Frames.{filter-same, created-below, record_at-older}
use Rattle.mq_model.proofs.HeldQueues.{is_held-by, bound-created, held-alive}
use Rattle.mq_model.proofs.Mates.{held-mates, owner_own}
use Rattle.mq_model.specs.Threads.{owner_of, shares}
use Rattle.mq_model.proofs.OpenReplies.{lowest_free-is, OpenedFacts}

-- two tests that hold together are one
pub same-tests : (a b : Bool) → (a ≡ true → b ≡ true) → (b ≡ true → a ≡ true) → a ≡ b
same-tests a b to from = grind arith

-- a held descriptor makes its queue held
pub held-is_held : (past : Past) (p d q : ℕ) (h : Description) → held past p d ≡ Some h →
    h.queue ≡ q → is_held past q ≡ true
held-is_held past p d q h e on = rw on at (is_held-by past p d h e)

-- a process with a descriptor of queue q
pub none-of : {X : Type 0} (o : Option X) → is_none o ≡ true → o ≡ None
none-of o e = grind arith

in-filter_passes : (t : ℕ → Bool) (xs : List ℕ) (m : ℕ) → is_in (filter t xs) m ≡ true → t m ≡ true
in-filter_passes t xs m h = (is_in-filter t xs m h).1

-- what exists is needed
pub needed-alive : (past : Past) (q : ℕ) → is_in (alive past) q ≡ true →
    (is_named past q || is_held past q) ≡ true
needed-alive past q h = in-filter_passes (λ q. is_named past q || is_held past q) (created past) q h

pub record IsHolder (past : Past) (q : ℕ) : Type 0 where
  pub process : ℕ
  pub d : ℕ
  pub description : Description
  pub held : held past process d ≡ Some description
  pub on : description.queue ≡ q

any-holder : (past : Past) (q : ℕ) (xs : List Holder) →
    list_any (λ x. is_place q (option_map (λ h. h.queue) (held past x.process x.d))) xs ≡ true →
    IsHolder past q
any-holder past q [] e = absurd (cc)
any-holder past q (x ∷ xs) e = by (held past x.process x.d) refl
    (λ rest. any-holder past q xs rest) e
  where
    by : (o : Option Description) → held past x.process x.d ≡ o →
        (list_any (λ x. is_place q (option_map (λ h. h.queue) (held past x.process x.d))) xs ≡
        true → IsHolder past q) →
        (is_place q (option_map (λ h. h.queue) (held past x.process x.d)) || list_any
        (λ x. is_place q (option_map (λ h. h.queue) (held past x.process x.d))) xs) ≡ true →
        IsHolder past q
    by None is rest e =
        let e' : list_any (λ x. is_place q (option_map (λ h. h.queue) (held past x.process x.d)))
        xs ≡ true = rw is at e in rest e'
    by (Some h) is rest e = split (h.queue == q)
        (λ t. record {
          process = x.process;
          d = x.d;
          description = h;
          held = is;
          on = eqb-true _ _ t;
        })
        (λ f. let e' : ((h.queue == q) || list_any
        (λ x. is_place q (option_map (λ h. h.queue) (held past x.process x.d))) xs) ≡
        true = rw is at e in
        let e'' : list_any (λ x. is_place q (option_map (λ h. h.queue) (held past x.process x.d)))
        xs ≡ true = rw f at e' in rest e'')

-- a held queue has a holder
pub is_held-holder : (past : Past) (q : ℕ) → is_held past q ≡ true → IsHolder past q
is_held-holder past q e = any-holder past q (openers past) e

-- the table knows which queues are held
any-slot : (q : ℕ) (xs : List (Option Description)) →
    list_any (λ slot. is_place q (option_map (λ h. h.queue) slot)) xs ≡ true →
    (d : ℕ) × (h : Description) × (unwrap_or (slice_get xs d) None ≡ Some h) × (h.queue ≡ q)
any-slot q [] e = absurd (cc)
any-slot q (None ∷ xs) e = let x = any-slot q xs e in (suc x.0, x.1, x.2, x.3)
any-slot q (Some h ∷ xs) e = split (h.queue == q)
    (λ t. (0, h, refl, eqb-true _ _ t))
    (λ f. let rest : list_any (λ slot. is_place q (option_map (λ h. h.queue) slot)) xs ≡
    true = rw f at e in let x = any-slot q xs rest in (suc x.0, x.1, x.2, x.3))

any-line : (q : ℕ) (owners : List Owner) → list_any (holds q) owners ≡ true →
    (p : ℕ) × (o : Owner) × (slice_get owners p ≡ Some o) × (holds q o ≡ true)
any-line q [] e = absurd (cc)
any-line q (o ∷ owners) e = split (holds q o)
    (λ t. (0, o, refl, t))
    (λ f. let rest : list_any (holds q) owners ≡ true = rw f at e in let x = any-line q owners
    rest in (suc x.0, x.1, x.2, x.3))

slot-any : (q : ℕ) (xs : List (Option Description)) (d : ℕ) (h : Description) →
    unwrap_or (slice_get xs d) None ≡ Some h → h.queue ≡ q →
    list_any (λ slot. is_place q (option_map (λ h. h.queue) slot)) xs ≡ true
slot-any q [] d h e on = absurd (cc)
slot-any q (x ∷ xs) zero h e on = rw (e, eq-eqb h.queue q on) refl
slot-any q (x ∷ xs) (suc d) h e on = split (is_place q (option_map (λ h. h.queue) x))
    (λ t. rw t refl) (λ f. rw f (slot-any q xs d h e on))

line-any : (q : ℕ) (owners : List Owner) (p : ℕ) (o : Owner) → slice_get owners p ≡ Some o →
    holds q o ≡ true → list_any (holds q) owners ≡ true
line-any q [] p o e h = absurd (cc)
line-any q (x ∷ owners) zero o e h = let same : x ≡ o = cc in rw (same, h) refl
line-any q (x ∷ owners) (suc p) o e h = split (holds q x) (λ t. rw t refl)
    (λ f. rw f (line-any q owners p o e h))

line-below : (owners : List Owner) (p : ℕ) (o : Owner) → slice_get owners p ≡ Some o →
    p < length owners
line-below [] p o e = absurd (cc)
line-below (x ∷ owners) zero o e = omega arith
line-below (x ∷ owners) (suc p) o e = omega (arith, line-below owners p o e)

pub is_held-table : (past : Past) (owners : List Owner) → OwnersMirror past owners → (q : ℕ) →
    is_held past q ≡ is_held_in owners q
unfolding held_in
is_held-table past owners m q = same-tests _ _
    (λ t. let x = is_held-holder past q t in found x.process x.d x.description
    (m.held x.process x.d ∙ x.held) x.on)
    (λ t. let x = any-line q owners t in let y = any-slot q x.1.descriptors x.3 in
    let first : owner_of x.0 ≡ x.0 = owner_own x.0 (let lt = line-below owners x.0 x.1 x.2 in
    omega (arith, lt, m.few)) in
    let there : held_in owners x.0 y.0 ≡ Some y.1 = rw (first, x.2) y.2 in
    held-is_held past x.0 y.0 q y.1 (sym (m.held x.0 y.0) ∙ there) y.3)
  where
    found : (p d : ℕ) (h : Description) → held_in owners p d ≡ Some h → h.queue ≡ q →
        is_held_in owners q ≡ true
    found p d h e on = by (slice_get owners (owner_of p)) refl e
      where
        by : (o : Option Owner) → slice_get owners (owner_of p) ≡ o →
            option_and_then (slot_of d) o ≡ Some h → is_held_in owners q ≡ true
        by None is e = absurd (cc)
        by (Some o) is e = line-any q owners (owner_of p) o is (slot-any q o.descriptors d h e on)

-- names -------------------------------------------------------------------------------------------

same-name : (a b : List ℕ) → bytes_eq a b ≡ true → a ≡ b
same-name a b e = (bytes_eq-Decides a b).0 e

name-itself : (a : List ℕ) → bytes_eq a a ≡ true
name-itself a = (bytes_eq-Decides a a).1 refl

pub name_of-older : (past : Past) (r : Record) (q : ℕ) → q < length past →
    name_of (r ∷ past) q ≡ name_of past q
name_of-older past r q lt = ap (λ o. unwrap_or (option_map (λ (x : Record). x.payload) o) [])
    (record_at-older past r q lt)

pub name_of-newest : (past : Past) (r : Record) → name_of (r ∷ past) (length past) ≡ r.payload
name_of-newest past r = rw (eq-eqb (length past) (length past) refl) refl

-- a bound name is the name of its queue
pub bound-name : (past : Past) (name : List ℕ) (q : ℕ) → bound_queue past name ≡ Some q →
    name_of past q ≡ name
bound-name [] name q e = absurd (cc)
bound-name (r ∷ past) name q e =
    split (creates r.entry.call r.entry.reply && bytes_eq r.payload name)
    (λ t. let here : Some (length past) ≡ Some q = rw t at e in let same : length past ≡ q = cc in
    rw (← same) (name_of-newest past r ∙ same-name r.payload name
    (and_parts (creates r.entry.call r.entry.reply) (bytes_eq r.payload name) t).1))
    (λ f. split (unlinks r.entry.call r.entry.reply && bytes_eq r.payload name)
    (λ t. let none : None ≡ Some q = rw (f, t) at e in absurd (cc))
    (λ g. let old : bound_queue past name ≡ Some q = rw (f, g) at e in
    name_of-older past r q (created-below past q (bound-created past name q old)) ∙
    bound-name past name q old))

-- a queue that is named is the one that its name is bound to
pub named-bound : (past : Past) (q : ℕ) → is_named past q ≡ true →
    bound_queue past (name_of past q) ≡ Some q
named-bound past q e = grind (arith, eqb-true)

pub bound-named : (past : Past) (name : List ℕ) (q : ℕ) → bound_queue past name ≡ Some q →
    is_named past q ≡ true
bound-named past name q e = let named : bound_queue past (name_of past q) ≡ Some q =
    ap (bound_queue past) (bound-name past name q e) ∙ e in rw named (eq-eqb q q refl)

-- a record that creates and unlinks nothing
pub named-same : (past : Past) (r : Record) (q : ℕ) → creates r.entry.call r.entry.reply ≡ false →
    unlinks r.entry.call r.entry.reply ≡ false → q < length past →
    is_named (r ∷ past) q ≡ is_named past q
named-same past r q c u lt = rw (c, u) (ap (λ name. is_place q (bound_queue past name))
    (name_of-older past r q lt))

-- a record that creates a queue under a name that was not bound
pub named-created : (past : Past) (r : Record) (q : ℕ) → creates r.entry.call r.entry.reply ≡ true →
    bound_queue past r.payload ≡ None → q < length past → is_named (r ∷ past) q ≡ is_named past q
named-created past r q c none lt = search (rules, name_of-older, same-name)

pub named-newest : (past : Past) (r : Record) → creates r.entry.call r.entry.reply ≡ true →
    is_named (r ∷ past) (length past) ≡ true
named-newest past r c = rw (name_of-newest past r, c, name-itself r.payload)
    (eq-eqb (length past) (length past) refl)

-- a record that unlinks the name of queue k
pub named-unlinked : (past : Past) (r : Record) (q k : ℕ) →
    unlinks r.entry.call r.entry.reply ≡ true → bound_queue past r.payload ≡ Some k →
    q < length past → is_named (r ∷ past) q ≡ (if q == k then false else is_named past q)
named-unlinked past r q k u bound lt = search (
  rules,
  name_of-older,
  same-name,
  eqb-false,
  eqb-true,
  bound-name,
  clash,
  name-itself,
)

-- what lives on -----------------------------------------------------------------------------------

abbrev pub is_needed : Past → ℕ → Bool
is_needed past q = is_named past q || is_held past q

filter-filter : (s t : ℕ → Bool) (xs : List ℕ) →
    filter (λ k. t k && s k) xs ≡ filter s (filter t xs)
filter-filter s t [] = refl
filter-filter s t (x ∷ xs) = grind (arith, filter-filter s t xs)

-- a record that creates no queue and needs the same
pub alive-quiet : (past : Past) (r : Record) → creates r.entry.call r.entry.reply ≡ false →
    ((q : ℕ) → q < length past → is_needed (r ∷ past) q ≡ is_needed past q) →
    alive (r ∷ past) ≡ alive past
alive-quiet past r c same = grind (arith, filter-same, created-below)

-- a record that creates one, and needs the same of the others
pub alive-created : (past : Past) (r : Record) → creates r.entry.call r.entry.reply ≡ true →
    ((q : ℕ) → q < length past → is_needed (r ∷ past) q ≡ is_needed past q) →
    alive (r ∷ past) ≡ length past ∷ alive past
alive-created past r c same = grind (arith, filter-same, created-below, named-newest)

-- a record that creates none, and needs the same but for one queue, which was needed
pub alive-one : (past : Past) (r : Record) (x : ℕ) → creates r.entry.call r.entry.reply ≡ false →
    is_needed past x ≡ true →
    ((q : ℕ) → q < length past → q ≢ x → is_needed (r ∷ past) q ≡ is_needed past q) →
    alive (r ∷ past) ≡ (if is_needed (r ∷ past) x then alive past else filter
    (λ q. not (q == x)) (alive past))
alive-one past r x c was same = split (is_needed (r ∷ past) x)
    (λ t. rw t
    (alive-quiet past r c (λ q lt. split (q == x) (λ e. let is : q ≡ x = eqb-true _ _ e in
    rw (is, t) (sym was)) (λ n. same q lt (eqb-false _ _ n)))))
    (λ f. rw f (ap (filter (is_needed (r ∷ past))) newest
    ∙ filter-same (is_needed (r ∷ past)) (λ k. is_needed past k && not (k == x)) (created past)
    (λ q h. split (q == x)
    (λ e. let is : q ≡ x = eqb-true _ _ e in rw (is, f, was, eq-eqb x x refl) refl)
    (λ n. rw (same q (created-below past q h) (eqb-false _ _ n), n)
    (sym (and-true (is_needed past q)))))
    ∙ filter-filter (λ k. not (k == x)) (is_needed past) (created past)))
  where
    newest : created (r ∷ past) ≡ created past
    newest = rw c refl

    and-true : (b : Bool) → (b && true) ≡ b
    and-true true = refl
    and-true false = refl

-- descriptors -------------------------------------------------------------------------------------

abbrev queue_at : Past → ℕ → ℕ → Option ℕ
queue_at past p d = option_map (λ h. h.queue) (held past p d)

to-queue : (past : Past) (q : ℕ) → is_held past q ≡ true →
    (p : ℕ) × (d : ℕ) × (queue_at past p d ≡ Some q)
to-queue past q e = let x = is_held-holder past q e in (x.process, x.d, rw x.held (ap Some x.on))

-- descriptors that stand for the same queues before and after, if they are of queue q
pub is_held-same : (past now : Past) (q : ℕ) →
    ((p d : ℕ) → queue_at past p d ≡ Some q → queue_at now p d ≡ Some q) →
    ((p d : ℕ) → queue_at now p d ≡ Some q → queue_at past p d ≡ Some q) →
    is_held now q ≡ is_held past q
is_held-same past now q to from = grind (arith, same-tests, to-queue, held-is_held)

-- the descriptors of a process change in one place, from one queue or none to another or none
queue-changed : (past : Past) (r : Record) (d : ℕ) (v : Option Description) →
    ((e : ℕ) → held_after past r.entry.call r.payload r.entry.reply e
    (held past r.entry.process e) ≡ (if d == e then v else held past r.entry.process e)) →
    (q : ℕ) → (queue_at past r.entry.process d ≡ Some q → ⊥) →
    (option_map (λ h. h.queue) v ≡ Some q → ⊥) → is_held (r ∷ past) q ≡ is_held past q
queue-changed past r d v changes q not-before not-after = is_held-same past (r ∷ past) q
    (λ k e old. split (shares r.entry.process k) (λ t. stays k e (eqb-true _ _ t) old)
    (λ n. apart k e n ∙ old))
    (λ k e new. split (shares r.entry.process k) (λ t. came k e (eqb-true _ _ t) new)
    (λ n. sym (apart k e n) ∙ new))
  where
    now-at : (k e : ℕ) → owner_of r.entry.process ≡ owner_of k →
        held (r ∷ past) k e ≡ (if d == e then v else held past k e)
    now-at k e own = rw (eq-eqb (owner_of r.entry.process) (owner_of k) own)
        (rw (← held-mates past r.entry.process k own e) (changes e))

    one : (k e : ℕ) → (d == e) ≡ true → (if d == e then v else held past k e) ≡ v
    one k e t = rw t refl

    other : (k e : ℕ) → (d == e) ≡ false → (if d == e then v else held past k e) ≡ held past k e
    other k e f = rw f refl

    stays : (k e : ℕ) → owner_of r.entry.process ≡ owner_of k → queue_at past k e ≡ Some q →
        queue_at (r ∷ past) k e ≡ Some q
    stays k e own old = split (d == e)
        (λ t. let is : d ≡ e = eqb-true _ _ t in
        absurd (not-before (rw is (ap (option_map (λ (h : Description). h.queue))
        (held-mates past r.entry.process k own e) ∙ old))))
        (λ f. ap (option_map (λ (h : Description). h.queue)) (now-at k e own ∙ other k e f) ∙ old)

    came : (k e : ℕ) → owner_of r.entry.process ≡ owner_of k → queue_at (r ∷ past) k e ≡ Some q →
        queue_at past k e ≡ Some q
    came k e own new = split (d == e)
        (λ t. absurd (not-after (ap (option_map (λ (h : Description). h.queue))
        (sym (now-at k e own ∙ one k e t)) ∙ new)))
        (λ f. ap (option_map (λ (h : Description). h.queue)) (sym (now-at k e own ∙ other k e f)) ∙
        new)

    apart : (k e : ℕ) → shares r.entry.process k ≡ false →
        queue_at (r ∷ past) k e ≡ queue_at past k e
    apart k e n = ap (λ (b : Bool). option_map (λ (h : Description). h.queue)
        (if b then held_after past r.entry.call r.payload r.entry.reply e (held past k e) else
        held past k e)) n

-- a record that leaves the descriptors of its process on their queues
pub is_held-quiet : (past : Past) (r : Record) →
    ((e : ℕ) → option_map (λ h. h.queue) (held_after past r.entry.call r.payload r.entry.reply e
    (held past r.entry.process e)) ≡ queue_at past r.entry.process e) → (q : ℕ) →
    is_held (r ∷ past) q ≡ is_held past q
is_held-quiet past r same q = is_held-same past (r ∷ past) q (λ k e old. quiet k e ∙ old)
    (λ k e new. sym (quiet k e) ∙ new)
  where
    quiet : (k e : ℕ) → queue_at (r ∷ past) k e ≡ queue_at past k e
    quiet k e = split (shares r.entry.process k)
        (λ t. let mine : held past r.entry.process e ≡ held past k e = held-mates past
        r.entry.process k (eqb-true _ _ t) e in
        ap (λ (b : Bool). option_map (λ (h : Description). h.queue)
        (if b then held_after past r.entry.call r.payload r.entry.reply e (held past k e) else
        held past k e)) t
        ∙ ap (λ (o : Option Description). option_map (λ (h : Description). h.queue)
        (held_after past r.entry.call r.payload r.entry.reply e o)) (sym mine)
        ∙ same e
        ∙ ap (option_map (λ (h : Description). h.queue)) mine)
        (λ n. ap (λ (b : Bool). option_map (λ (h : Description). h.queue)
        (if b then held_after past r.entry.call r.payload r.entry.reply e (held past k e) else
        held past k e)) n)

-- a record that opens, closes, creates and unlinks nothing leaves the queues that exist
pub alive-same_queues : (past : Past) (r : Record) → creates r.entry.call r.entry.reply ≡ false →
    unlinks r.entry.call r.entry.reply ≡ false →
    ((e : ℕ) → option_map (λ h. h.queue) (held_after past r.entry.call r.payload r.entry.reply e
    (held past r.entry.process e)) ≡ queue_at past r.entry.process e) → alive (r ∷ past) ≡
    alive past
alive-same_queues past r c u same = alive-quiet past r c (λ q lt. rw (
  named-same past r q c u lt,
  is_held-quiet past r same q,
) refl)

abbrev pub rec : ℕ → Call → Reply → List ℕ → Record
rec p call reply payload = record {
  entry = record { process = p; call = call; reply = reply };
  payload = payload;
}

-- an open of a name that is bound
pub alive-opened : (past : Past) (p : ℕ) (flags : OpenFlags) (attr : Option Attr) (payload : List ℕ)
    (d : ℕ) → OpenedFacts past p payload d false →
    alive (rec p (MqOpen flags attr) (Opened d false) payload ∷ past) ≡ alive past
alive-opened past p flags attr payload d facts = by (bound_queue past payload) refl facts.new
  where
    r : Record
    r = rec p (MqOpen flags attr) (Opened d false) payload

    free : queue_at past p d ≡ None
    free = ap (option_map (λ h. h.queue))
        (none-of (held past p d) (lowest_free-is past p d facts.free).0)

    by : (o : Option ℕ) → bound_queue past payload ≡ o → not (is_some (bound_queue past payload)) ≡
        false → alive (rec p (MqOpen flags attr) (Opened d false) payload ∷ past) ≡ alive past
    by None is bound = absurd (let bad : true ≡ false = rw is at bound in cc)
    by (Some x) is bound = alive-quiet past (rec p (MqOpen flags attr) (Opened d false) payload)
        refl (λ q lt. split (q == x)
        (λ t. let e : q ≡ x = eqb-true _ _ t in
        let named : is_named past q ≡ true = rw e (bound-named past payload x is) in
        rw (
          named-same past (rec p (MqOpen flags attr) (Opened d false) payload) q refl refl lt,
          named,
        ) refl)
        (λ n. rw (
          named-same past (rec p (MqOpen flags attr) (Opened d false) payload) q refl refl lt,
          queue-changed past (rec p (MqOpen flags attr) (Opened d false) payload) d
              (Some (description (opened_queue past payload false) flags)) (λ e. refl) q
              (λ before. let bad : None ≡ Some q = sym free ∙ before in cc)
              (λ after. let here : unwrap_or (bound_queue past payload) 0 ≡ q = cc in let x_is : x ≡
              q = rw is at here in eqb-false _ _ n (sym x_is)),
        ) refl))

-- an open that creates its queue
pub alive-new : (past : Past) (p : ℕ) (flags : OpenFlags) (attr : Option Attr) (payload : List ℕ)
    (d : ℕ) → OpenedFacts past p payload d true →
    alive (rec p (MqOpen flags attr) (Opened d true) payload ∷ past) ≡ length past ∷ alive past
alive-new past p flags attr payload d facts =
    let r : Record = rec p (MqOpen flags attr) (Opened d true) payload in
    let unbound : bound_queue past payload ≡ None =
    unbound-of (bound_queue past payload) facts.new in
    let free : queue_at past p d ≡ None = ap (option_map (λ h. h.queue))
    (none-of (held past p d) (lowest_free-is past p d facts.free).0) in
    alive-created past r refl (λ q lt. rw (
      named-created past r q refl unbound lt,
      queue-changed past r d (Some (description (length past) flags)) (λ e. refl) q
          (λ before. let bad : None ≡ Some q = sym free ∙ before in cc)
          (λ after. let here : length past ≡ q = cc in omega arith),
    ) refl)
  where
    unbound-of : (o : Option ℕ) → not (is_some o) ≡ true → o ≡ None
    unbound-of None e = refl
    unbound-of (Some x) e = absurd (let bad : false ≡ true = e in cc)

-- a close of a descriptor of queue x
pub alive-closed : (past : Past) → Legal past → (p d : ℕ) (payload : List ℕ) (h : Description) →
    held past p d ≡ Some h →
    alive (rec p (MqClose d) Done payload ∷ past) ≡
    (if is_needed (rec p (MqClose d) Done payload ∷ past) h.queue then alive past else filter
    (λ q. not (q == h.queue)) (alive past))
alive-closed past legal p d payload h is =
    let r : Record = rec p (MqClose d) Done payload in
    alive-one past r h.queue refl (needed-alive past h.queue (held-alive past legal p d h is))
    (λ q lt ne. rw (
      named-same past r q refl refl lt,
      queue-changed past r d None (λ e. refl) q
          (λ before. let on : Some h.queue ≡ Some q = sym
          (ap (option_map (λ (x : Description). x.queue)) is) ∙ before in let same : h.queue ≡
          q = cc in ne (sym same))
          (λ after. let bad : None ≡ Some q = after in absurd (cc)),
    ) refl)

-- an unlink of the name of queue x
pub alive-unlinked : (past : Past) (p : ℕ) (payload : List ℕ) (x : ℕ) →
    bound_queue past payload ≡ Some x →
    alive (rec p MqUnlink Done payload ∷ past) ≡
    (if is_needed (rec p MqUnlink Done payload ∷ past) x then alive past else filter
    (λ q. not (q == x)) (alive past))
alive-unlinked past p payload x bound =
    let r : Record = rec p MqUnlink Done payload in
    alive-one past r x refl (rw (bound-named past payload x bound) refl)
    (λ q lt ne. rw (
      named-unlinked past r q x refl bound lt,
      ne_eqb q x ne,
      is_held-quiet past r
          (λ e. refl) q,
    ) refl)
