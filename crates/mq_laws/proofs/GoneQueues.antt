-- A queue that ceased to exist never exists again.
use Rattle.std.proofs.lemmas.Bool.Decides.{nat_tests}
use Rattle.std.proofs.Common.{◌≡◌, ℕ, suc, ◌<◌, ◌≤◌, Bool, true, false, ◌&&◌, ◌||◌, not, List, [], ◌∷◌, length, Option, Some, None, is_some, refl, sym, ◌∙◌, ap, subst, arith, ◌⊎◌, inl, inr, ◌-◌, leb-true, leb-false, rules, nat_le, unwrap_or}
use Rattle.std.specs.Str.{bytes_eq}
use Rattle.std.proofs.lemmas.Bool.{not-true, false_from_ne_true}
use Rattle.mq_model.specs.Threads.{shares}
use Rattle.mq_model.specs.Record.{Record, Past, record_at, first}
use Rattle.mq_model.specs.Names.{creates, unlinks, bound_queue, name_of}
use Rattle.mq_model.specs.Descriptors.{held, held_after, opened_queue, created, alive, is_named, is_held}
use Rattle.mq_model.specs.Messages.{is_in, is_accepted, taken, taken_by, present}
use Rattle.mq_model.specs.Legality.{Legal, IsLegalNext, reply_to_open}
use Rattle.mq_laws.specs.Laws.{message_given, IsTakenAt, IsGoneAt, EndsForGood}
use Rattle.mq_model.proofs.Places.{split, clash, is_in-filter, find-in}
use Rattle.mq_model.proofs.Cases.{Says}
use Rattle.mq_model.proofs.LegalReplies.{legal_says, got_says}
use Rattle.mq_model.proofs.Prefixes.{record_at-below, length-first, first-all, record_at-first}
use Rattle.mq_model.proofs.Frames.{created-below}
use Rattle.mq_model.proofs.HeldQueues.{after-cases, held-alive, created-more, called-alive, in-filter}
use Rattle.mq_model.proofs.OpenReplies.{opened-says}
use Rattle.mq_model.proofs.Alive.{held-is_held, is_held-holder, needed-alive, bound-named, named-bound}
use Rattle.mq_model.proofs.Presence.{present-admitted, present-below}
use Rattle.mq_laws.proofs.SentMessages.{IsSentTo, accepted-sent, admitted-sent, handed-taken}
use Rattle.mq_laws.proofs.LegalPlaces.{legal-at, has-record, first-older, first-first}
use Rattle.mq_laws.proofs.GivenOnce.{given-reply}
use Rattle.mq_model.specs.declared.entries.Attr.{Attr}
use Rattle.mq_model.specs.declared.entries.OpenFlags.{OpenFlags}
use Rattle.mq_model.specs.declared.entries.Call.TheVariants.{MqOpen}
use Rattle.mq_model.specs.declared.entries.Reply.{Reply}
use Rattle.mq_model.specs.declared.entries.Reply.TheVariants.{Opened, Got}

-- queues ------------------------------------------------------------------------------------------

-- a queue is needed after a record only if it was needed before
needed-before : (past : Past) (r : Record) → Legal (r ∷ past) → (q : ℕ) → q < length past →
    (is_named (r ∷ past) q || is_held (r ∷ past) q) ≡ true → (is_named past q || is_held past q) ≡
    true
needed-before past r legal q lt e = split (is_named (r ∷ past) q)
    (λ t. by-name (bound_queue-before (name_of (r ∷ past) q) (named-bound (r ∷ past) q t)))
    (λ f. let holds : is_held (r ∷ past) q ≡ true = rw f at e in
    let x = is_held-holder (r ∷ past) q holds in
    split (shares r.entry.process x.process)
    (λ own. let after : held_after past r.entry.call r.payload r.entry.reply x.d
    (held past x.process x.d) ≡ Some x.description = rw own at x.held in
    after-cases _ past r.entry.call r.payload r.entry.reply x.d (held past x.process x.d)
    x.description after
    (λ k was same. by-hold (held-is_held past x.process x.d q k was (same ∙ x.on)))
    (λ flags attr new call reply opened. opens new (opened ∙ x.on) x.d flags attr call reply))
    (λ other. let was : held past x.process x.d ≡ Some x.description = rw other at x.held in
    by-hold (held-is_held past x.process x.d q x.description was x.on)))
  where
    by-name : bound_queue past (name_of (r ∷ past) q) ≡ Some q →
        (is_named past q || is_held past q) ≡ true
    by-name b = rw (bound-named past (name_of (r ∷ past) q) q b) refl

    by-hold : is_held past q ≡ true → (is_named past q || is_held past q) ≡ true
    by-hold h = rw h (or-true (is_named past q))
      where
        or-true : (b : Bool) → (b || true) ≡ true
        or-true true = refl
        or-true false = refl

    bound_queue-before : (name : List ℕ) → bound_queue (r ∷ past) name ≡ Some q →
        bound_queue past name ≡ Some q
    bound_queue-before name b =
        split (creates r.entry.call r.entry.reply && bytes_eq r.payload name)
        (λ t. let here : Some (length past) ≡ Some q = rw t at b in let same : length past ≡
        q = cc in absurd (omega (arith, lt)))
        (λ f. split (unlinks r.entry.call r.entry.reply && bytes_eq r.payload name)
        (λ t. let bad : None ≡ Some q = rw (f, t) at b in absurd (cc))
        (λ g. rw (f, g) at b))

    some-is : (o : Option ℕ) → not (is_some o) ≡ false → unwrap_or o 0 ≡ q → o ≡ Some q
    some-is None e u = absurd (let bad : true ≡ false = e in cc)
    some-is (Some k) e u = ap Some u

    opens : (new : Bool) → opened_queue past r.payload new ≡ q →
        (d : ℕ) (flags : OpenFlags) (attr : Option Attr) → r.entry.call ≡ MqOpen flags attr →
        r.entry.reply ≡ Opened d new → (is_named past q || is_held past q) ≡ true
    opens true opened d flags attr call reply = let same : length past ≡ q = opened in
        absurd (omega (arith, lt, same))
    opens false opened d flags attr call reply =
        let answered : Opened d false ≡ reply_to_open past r.entry.process flags attr r.payload =
        rw (call, reply) at legal.1.reply in
        let facts = opened-says past r.entry.process flags attr r.payload d false answered in
        rw (bound-named past r.payload q (some-is (bound_queue past r.payload) facts.new opened))
        refl

-- a queue that does not exist does not exist after one more record
gone-next : (past : Past) (r : Record) → Legal (r ∷ past) → (q : ℕ) →
    is_in (created past) q ≡ true → is_in (alive past) q ≡ false →
    is_in (alive (r ∷ past)) q ≡ false
gone-next past r legal q made gone = search (
  rules,
  false_from_ne_true,
  needed-before,
  created-below,
  needed-alive,
  clash,
  in-filter,
)

created-first : (past : Past) (j q : ℕ) → is_in (created (first j past)) q ≡ true →
    is_in (created past) q ≡ true
created-first [] j q h = let none : 0 - j ≡ 0 = omega arith in rw none at h
created-first (r ∷ past) j q h = split (nat_le (suc (length past)) j)
    (λ all. let none : suc (length past) - j ≡ 0 = omega (arith, leb-true _ _ all) in rw none at h)
    (λ some. let few : j ≤ length past = omega (arith, leb-false _ _ some) in
    let old : is_in (created (first j past)) q ≡ true = subst (λ b. is_in (created b) q ≡ true)
    (first-older past r j few) h in
    created-more past r q (created-first past j q old))

pub never-again : (past : Past) → Legal past → (j k q : ℕ) → IsGoneAt past j q → j ≤ k →
    k ≤ length past → is_in (alive (first k past)) q ≡ false
never-again [] legal j k q gone le within = grind arith
never-again (r ∷ past) legal j k q gone le within = split (nat_le k (length past))
    (λ older. let few : k ≤ length past = leb-true _ _ older in
    ap (λ b. is_in (alive b) q) (first-older past r k few) ∙ never-again past legal.0 j k q
    (before (omega (arith, few, le))) le few)
    (λ newest. let all : k ≡ suc (length past) = omega (arith, leb-false _ _ newest, within) in
    let whole : first k (r ∷ past) ≡ r ∷ past = first-all (r ∷ past) k all in
    ap (λ b. is_in (alive b) q) whole ∙ split (nat_le j (length past))
    (λ older. let few : j ≤ length past = leb-true _ _ older in
    let gone_then = never-again past legal.0 j (length past) q (before few) few (omega arith) in
    let now : is_in (alive past) q ≡ false = ap (λ b. is_in (alive b) q)
    (sym (first-all past (length past) refl)) ∙ gone_then in
    gone-next past r legal q (created-first past j q (before few).created) now)
    (λ same. let here : j ≡ suc (length past) = omega (arith, leb-false _ _ same, gone.place) in
    ap (λ b. is_in (alive b) q) (sym (first-all (r ∷ past) j here)) ∙ gone.gone))
  where
    before : j ≤ length past → IsGoneAt past j q
    before few = record {
      place = few;
      created = subst (λ b. is_in (created b) q ≡ true) (first-older past r j few) gone.created;
      gone = subst (λ b. is_in (alive b) q ≡ false) (first-older past r j few) gone.gone;
    }

-- messages ----------------------------------------------------------------------------------------

pub or-cases : {C : Type 0} (a b : Bool) → (a || b) ≡ true → (a ≡ true → C) → (b ≡ true → C) → C
or-cases a b e left right = grind arith

pub present-or-taken : (past : Past) (q m : ℕ) → is_accepted past q m ≡ true →
    is_in (present past q) m ≡ not (is_in (taken past) m)
present-or-taken past q m h = grind (
  arith,
  or-cases,
  handed-taken,
  false_from_ne_true,
  not-true,
  is_in-filter,
  clash,
  in-filter,
)

pub same-queue : (past : Past) (q k m : ℕ) → IsSentTo past q m → IsSentTo past k m → q ≡ k
same-queue past q k m a b = grind arith

pub in-one-queue : (past : Past) (q k m : ℕ) → is_accepted past q m ≡ true →
    is_in (present past k) m ≡ true → k ≡ q
in-one-queue past q k m h there = same-queue past k q m
    (admitted-sent past k m (present-admitted past k m there)) (accepted-sent past q m h)

pub sent-first : (past : Past) (k q m : ℕ) → IsSentTo (first k past) q m → m < k → k ≤ length past →
    IsSentTo past q m
sent-first past k q m x lt le = grind (arith, record_at-first, first-first)

-- the reply that takes a message: that of a receive, or that of the send itself
pub taken-reply : (k m : ℕ) (reply : Reply) → taken_by k reply ≡ Some m →
    (message_given reply ≡ Some m) ⊎ (k ≡ m)
taken-reply k m reply e = grind arith

pub none-taken : (past : Past) → Legal past → (j k q m : ℕ) → IsGoneAt past j q → j ≤ k →
    is_accepted past q m ≡ true → IsTakenAt past m k → ⊥
none-taken past legal j k q m gone le h e =
    let x = has-record (taken_by k) past k m e in
    let at = legal-at past legal k x.r x.at in
    let below = record_at-below past k x.r x.at in
    let dead = never-again past legal j k q gone le (omega (arith, below)) in
    let sent = accepted-sent past q m h in
    by at.before at.next below dead sent x.at (taken-reply k m x.r.entry.reply x.is)
  where
    by : {r : Record} → Legal (first k past) → IsLegalNext (first k past) r → k < length past →
        is_in (alive (first k past)) q ≡ false → IsSentTo past q m → record_at past k ≡ Some r →
        (message_given r.entry.reply ≡ Some m) ⊎ (k ≡ m) → ⊥
    by {r} before next below dead sent at (inl got) =
        let is = given-reply r.entry.reply m got in
        let says : Says (first k past) r.entry.process r.entry.call (Got m is.0 is.1) =
        rw is.2 at (legal_says (first k past) r next) in
        let x = got_says (first k past) r.entry.process r.entry.call m is.0 is.1 says in
        let there = (find-in _ (present (first k past) x.2.queue) m x.6).0 in
        let lt = present-below (first k past) x.2.queue m there in
        let long = length-first k past (omega (arith, below)) in
        let mine = sent-first past k x.2.queue m (admitted-sent (first k past) x.2.queue m
        (present-admitted (first k past) x.2.queue m there)) (omega (arith, lt, long))
        (omega (arith, below)) in
        let same = same-queue past x.2.queue q m mine sent in
        let living : is_in (alive (first k past)) q ≡ true =
        rw same at (held-alive (first k past) before r.entry.process x.0 x.2 x.4) in
        clash (is_in (alive (first k past)) q) living dead
    by {r} before next below dead sent at (inr same) =
        grind (arith, nat_tests, clash, called-alive)

pub ends-for-good : (past : Past) → Legal past → EndsForGood past
ends-for-good past legal = grind (arith, never-again, none-taken, present-or-taken, in-one-queue)
