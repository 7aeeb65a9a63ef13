-- A descriptor that is held names a queue that exists.
use Rattle.std.proofs.lemmas.Bool.Decides.{nat_tests}
use Rattle.std.proofs.Common.{◌≡◌, ℕ, ◌==◌, Bool, true, false, ◌&&◌, ◌||◌, List, [], ◌∷◌, length, Option, Some, None, refl, eqb-true, eq-eqb, arith}
use Rattle.std.specs.List.{filter, list_any}
use Rattle.std.specs.Str.{bytes_eq}
use Rattle.std.proofs.lemmas.Bool.{and_parts}
use Rattle.mq_model.specs.Record.{Record, Past}
use Rattle.mq_model.specs.Threads.{owner_of, shares}
use Rattle.mq_model.specs.Names.{creates, unlinks, bound_queue}
use Rattle.mq_model.specs.Descriptors.{held, held_after, after_setattr, opened_queue, opened_number, with_holder, openers, created, alive, is_held, is_named, is_place, called_queue, Holder}
use Rattle.mq_model.specs.Messages.{is_in}
use Rattle.mq_model.specs.Legality.{Legal}
use Rattle.mq_model.proofs.Places.{split}
use Rattle.mq_model.proofs.Mates.{held-mates}
use Rattle.std.specs.Option.{option_map}
use Rattle.mq_model.specs.declared.entries.Attr.{Attr}
use Rattle.mq_model.specs.declared.entries.OpenFlags.{OpenFlags}
use Rattle.mq_model.specs.declared.entries.Description.{Description}
use Rattle.mq_model.specs.declared.entries.Call.{Call}
use Rattle.mq_model.specs.declared.entries.Call.TheVariants.{MqOpen}
use Rattle.mq_model.specs.declared.entries.Reply.{Reply}
use Rattle.mq_model.specs.declared.entries.Reply.TheVariants.{Opened}

setattr-cases : (X : Type 0) (call : Call) (d : ℕ) (before : Option Description) (h : Description) →
    after_setattr call d before ≡ Some h →
    ((k : Description) → before ≡ Some k → k.queue ≡ h.queue → X) → X
setattr-cases X call d before h is old = grind arith

-- what is held after an entry of its process: what an open made, or what was held before, on the
-- same queue
pub after-cases : (X : Type 0) (past : Past) (call : Call) (name : List ℕ) (reply : Reply) (d : ℕ)
    (before : Option Description) (h : Description) → held_after past call name reply d before ≡
    Some h →
    ((k : Description) → before ≡ Some k → k.queue ≡ h.queue → X) →
    ((flags : OpenFlags) (attr : Option Attr) (new : Bool) → call ≡ MqOpen flags attr → reply ≡
    Opened d new → opened_queue past name new ≡ h.queue → X) → X
after-cases X past call name reply d before h is old opens = grind (arith, setattr-cases)

any-more : (t : Holder → Bool) (p : ℕ) (o : Option ℕ) (xs : List Holder) → list_any t xs ≡ true →
    list_any t (with_holder p o xs) ≡ true
any-more t p o xs h = grind arith

-- some thread of a process with a descriptor was given it by an open
pub any-opener : (past : Past) (p d : ℕ) (h : Description) → held past p d ≡ Some h →
    (t : Holder → Bool) → ((k : ℕ) → owner_of k ≡ owner_of p → t (record { process = k; d = d }) ≡
    true) → list_any t (openers past) ≡ true
any-opener [] p d h e t passes = absurd (cc)
any-opener (r ∷ past) p d h e t passes = split (shares r.entry.process p)
    (λ own. let mine : owner_of r.entry.process ≡ owner_of p = eqb-true _ _ own in
    let after : held_after past r.entry.call r.payload r.entry.reply d (held past p d) ≡ Some h =
    rw own at e in
    after-cases _ past r.entry.call r.payload r.entry.reply d (held past p d) h after
    (λ k was same. any-more t r.entry.process (opened_number r.entry.call r.entry.reply)
    (openers past) (any-opener past p d k was t passes))
    (λ flags attr new call reply q. rw (call, reply, passes r.entry.process mine) refl))
    (λ other. let was : held past p d ≡ Some h = rw other at e in
    any-more t r.entry.process (opened_number r.entry.call r.entry.reply) (openers past)
    (any-opener past p d h was t passes))

pub created-more : (past : Past) (r : Record) (q : ℕ) → is_in (created past) q ≡ true →
    is_in (created (r ∷ past)) q ≡ true
created-more past r q h = split (creates r.entry.call r.entry.reply)
    (λ t. rw t (split (length past == q) (λ y. rw y refl) (λ n. rw (n, h) refl))) (λ f. rw f h)

pub bound-created : (past : Past) (name : List ℕ) (q : ℕ) → bound_queue past name ≡ Some q →
    is_in (created past) q ≡ true
bound-created [] name q e = absurd (cc)
bound-created (r ∷ past) name q e =
    split (creates r.entry.call r.entry.reply && bytes_eq r.payload name)
    (λ t. let here : Some (length past) ≡ Some q = rw t at e in let same : length past ≡ q = cc in
    rw (
      (and_parts (creates r.entry.call r.entry.reply) (bytes_eq r.payload name) t).0,
      eq-eqb (length past) q same,
    ) refl)
    (λ f. split (unlinks r.entry.call r.entry.reply && bytes_eq r.payload name)
    (λ t. let none : None ≡ Some q = rw (f, t) at e in absurd (cc))
    (λ g. let old : bound_queue past name ≡ Some q = rw (f, g) at e in created-more past r q
    (bound-created past name q old)))

pub created-held : (past : Past) → Legal past → (p d : ℕ) (h : Description) →
    held past p d ≡ Some h → is_in (created past) h.queue ≡ true
created-held [] legal p d h e = absurd (cc)
created-held (r ∷ past) legal p d h e = split (shares r.entry.process p)
    (λ own.
    let after : held_after past r.entry.call r.payload r.entry.reply d (held past p d) ≡ Some h =
    rw own at e in
    after-cases _ past r.entry.call r.payload r.entry.reply d (held past p d) h after
    (λ k was same. created-more past r h.queue (rw same at (created-held past legal.0 p d k was)))
    (λ flags attr new call reply q. opened new flags attr call reply q))
    (λ other. let was : held past p d ≡ Some h = rw other at e in created-more past r h.queue
    (created-held past legal.0 p d h was))
  where
    opened : (new : Bool) (flags : OpenFlags) (attr : Option Attr) →
        r.entry.call ≡ MqOpen flags attr → r.entry.reply ≡ Opened d new →
        opened_queue past r.payload new ≡ h.queue → is_in (created (r ∷ past)) h.queue ≡ true
    opened true flags attr call reply q = rw (call, reply, eq-eqb (length past) h.queue q) refl
    opened false flags attr call reply q =
        grind (arith, nat_tests, created-more, bound-created)

pub in-filter : (t : ℕ → Bool) (xs : List ℕ) (m : ℕ) → is_in xs m ≡ true → t m ≡ true →
    is_in (filter t xs) m ≡ true
in-filter t [] m h passes = absurd (cc)
in-filter t (x ∷ xs) m h passes = split (x == m)
    (λ e. let same : x ≡ m = eqb-true _ _ e in let pass : t x ≡ true = rw same passes in
    rw (pass, e) refl)
    (λ n. let rest : is_in xs m ≡ true = rw n at h in split (t x)
    (λ y. rw (y, n) (in-filter t xs m rest passes)) (λ z. rw z (in-filter t xs m rest passes)))

-- a held descriptor makes its queue held
pub is_held-by : (past : Past) (p d : ℕ) (h : Description) → held past p d ≡ Some h →
    is_held past h.queue ≡ true
is_held-by past p d h e = any-opener past p d h e
    (λ x. is_place h.queue (option_map (λ h. h.queue) (held past x.process x.d)))
    (λ k mate. rw (held-mates past k p mate d, e) (eq-eqb h.queue h.queue refl))

-- a descriptor that is held names a queue that exists
pub held-alive : (past : Past) → Legal past → (p d : ℕ) (h : Description) → held past p d ≡ Some h →
    is_in (alive past) h.queue ≡ true
held-alive past legal p d h e =
    in-filter (λ q. is_named past q || is_held past q) (created past) h.queue
    (created-held past legal p d h e) (rw (is_held-by past p d h e)
    (or-true (is_named past h.queue)))
  where
    or-true : (b : Bool) → (b || true) ≡ true
    or-true true = refl
    or-true false = refl

-- the queue that a call is made on exists
pub called-alive : (past : Past) → Legal past → (p : ℕ) (call : Call) (q : ℕ) →
    called_queue past p call ≡ Some q → is_in (alive past) q ≡ true
called-alive past legal p call q e = grind (arith, held-alive)
