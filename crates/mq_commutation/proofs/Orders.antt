-- Two calls in both orders.
use Rattle.std.proofs.Common.{◌≡◌, ◌⊎◌, inl, inr, ℕ, ◌<◌, ◌==◌, Bool, true, false, ◌&&◌, ◌||◌, List, [], ◌∷◌, length, Option, Some, None, is_some, if◌then◌else◌, refl, sym, ◌∙◌, ap, subst, arith, eqb-true, eq-eqb, ne_eqb, IsTrue}
use Rattle.std.proofs.lemmas.Bool.{eqb-false}
use Rattle.std.specs.List.{filter}
use Rattle.std.specs.Option.{option_map}
use Rattle.mq_model.specs.Record.{Record, Past}
use Rattle.mq_model.specs.Threads.{owner_of, shares}
use Rattle.mq_model.specs.Names.{bound_queue, name_of}
use Rattle.mq_model.specs.Descriptors.{alive, called_queue, created, held, is_held, is_named, is_place}
use Rattle.mq_model.specs.Messages.{is_in}
use Rattle.mq_model.specs.Notices.{gives_notice, notices}
use Rattle.mq_model.specs.Deadlines.{deadline_of}
use Rattle.mq_model.specs.Waits.{answered_by, is_wait, open_wait, wait_deadline}
use Rattle.mq_model.specs.Legality.{IsLegalNext, Legal, is_payload, may_call, payload_of, reply_to}
use Rattle.mq_model.specs.declared.entries.Deadline.{Deadline}
use Rattle.mq_model.specs.declared.entries.Description.{Description}
use Rattle.mq_model.specs.declared.entries.Call.{Call}
use Rattle.mq_model.specs.declared.entries.Call.TheVariants.{Collect}
use Rattle.mq_model.specs.declared.entries.Reply.{Reply}
use Rattle.mq_model.proofs.Places.{split, is_in-filter}
use Rattle.mq_model.proofs.Frames.{created-below, filter-same}
use Rattle.mq_model.proofs.LegalReplies.{legal_says}
use Rattle.mq_model.proofs.Alive.{is_held-same, name_of-older, rec}
use Rattle.mq_state.specs.Buffers.{room_of, waiting_room}
use Rattle.mq_equivalence.specs.Views.{Message, answer}
use Rattle.mq_equivalence.specs.Steps.{message_given}
use Rattle.mq_equivalence.proofs.Calls.{collected-alike}
use Rattle.mq_equivalence.proofs.Alike.{payload-alike, refused-alike}
use Rattle.mq_equivalence.specs.Structure.{Corresponds, renumbered}
use Rattle.mq_equivalence.proofs.Correspondence.{corresponds-self}
use Rattle.mq_equivalence.specs.Outline.{outline}
use Rattle.mq_equivalence.specs.Runs.{Request, after_calls}
use Rattle.mq_equivalence.proofs.Going.{room-step}
use Rattle.mq_equivalence.proofs.Runs.{payload-by}
use Rattle.mq_commutation.specs.Independence.{differ, reply_of, notified_registration, queue_touched_by}
use Rattle.mq_equivalence.proofs.Notified.{after_notices, notices-step}
use Rattle.mq_commutation.specs.Commuting.{Commute, Unaffected, is_covered, record_for}
use Rattle.mq_commutation.proofs.Replies.{SameAt}
use Rattle.mq_commutation.proofs.Structure.{HoldApart, created-stay, flagged, flagged-collect, flagged-shape, held-by, names-stay}
use Rattle.mq_commutation.proofs.Frames.{AnswersOn, acted, acted-shape, acts-cases, acts-shape, acts_on, answer-acted, answered_at}
use Rattle.mq_commutation.proofs.Steps.{both-give, both-wait, shapes}

-- facts of the calls on queues --------------------------------------------------------------------

pub touched-is : (past : Past) (p : ℕ) (call : Call) → is_covered call ≡ true →
    queue_touched_by past p call ≡ called_queue past p call
touched-is past p call on = grind arith

pub stays-answered : (past : Past) (r : Record) (p : ℕ) → (r.entry.process ≡ p → ⊥) →
    is_some (answered_by past p) ≡ true → is_some (answered_by (r ∷ past) p) ≡ true
stays-answered past r p ne e = grind arith

-- a call of another process may still be made
turn-other : (past : Past) (r : Record) (p : ℕ) (call : Call) → (r.entry.process ≡ p → ⊥) →
    is_covered call ≡ true → may_call past p call ≡ true → may_call (r ∷ past) p call ≡ true
turn-other past r p call ne on e = grind (arith, stays-answered)

same-reply : (past : Past) (p : ℕ) (call : Call) (given : List ℕ) → is_covered call ≡ true →
    reply_to past p call given ≡ reply_to past p call
    (payload_of call (reply_to past p call given) given)
same-reply past p call given on = grind arith

held-step : (past : Past) (p : ℕ) (call : Call) (reply : Reply) (payload : List ℕ) →
    is_covered call ≡ true → (k d : ℕ) → held (rec p call reply payload ∷ past) k d ≡
    (if shares p k then flagged call reply d (held past k d) else held past k d)
held-step past p call reply payload on k d =
    ap (λ (v : Option Description). if shares p k then v else held past k d)
    (held-by past call payload reply d (held past k d) on)

-- numbers and choices -----------------------------------------------------------------------------

pub apart-back : (o u : Option ℕ) → differ o u ≡ true → differ u o ≡ true
apart-back o u e = grind (arith, eqb-true, eq-eqb)

pub apart-off : (o u : Option ℕ) (k : ℕ) → differ o u ≡ true → u ≡ Some k → is_place k o ≡ false
apart-off o u k e is = grind (arith, eqb-true, eq-eqb)

pub apart-clash : (o u : Option ℕ) (k j : ℕ) → differ o u ≡ true → o ≡ Some k → u ≡ Some j → k ≡ j →
    ⊥
apart-clash o u k j e ok uj same = grind (arith, apart-off, eq-eqb)

-- a value of each process, which only a call of that process changes
pub own-two : {Z : Type 0} (p q k : ℕ) → (p ≡ q → ⊥) → (va vb h : Z) →
    (if p == k then va else (if q == k then vb else h)) ≡
    (if q == k then vb else (if p == k then va else h))
own-two p q k ne va vb h = grind (arith, eqb-true)

-- what a call makes of a descriptor of caller k's process
abbrev pub stepped : Past → Request → ℕ → ℕ → Option Description → Option Description
stepped past c k d before = if shares c.process k then flagged c.call (reply_of past c) d before
    else before

stepped-collect : (past : Past) (c : Request) (k d : ℕ) (before : Option Description) →
    c.call ≡ Collect → stepped past c k d before ≡ before
stepped-collect past c k d before is = split (shares c.process k)
    (λ t. rw t (flagged-collect c.call (reply_of past c) d before is))
    (λ f. rw f refl)

stepped-two : (past : Past) (a b : Request) (k d : ℕ) (before : Option Description) →
    HoldApart a b → stepped past a k d (stepped past b k d before) ≡
    stepped past b k d (stepped past a k d before)
stepped-two past a b k d before (inl far) = split (shares a.process k)
    (λ y. let other : shares b.process k ≡ false = ne_eqb (owner_of b.process) (owner_of k)
    (λ e. eqb-false (owner_of a.process) (owner_of b.process) far (eqb-true (owner_of a.process)
    (owner_of k) y ∙ sym e)) in
    rw (y, other) refl)
    (λ n. rw n refl)
stepped-two past a b k d before (inr (inl is)) = stepped-collect past a k d
    (stepped past b k d before) is ∙ ap (stepped past b k d)
    (sym (stepped-collect past a k d before is))
stepped-two past a b k d before (inr (inr is)) = ap (stepped past a k d)
    (stepped-collect past b k d before is) ∙
    sym (stepped-collect past b k d (stepped past a k d before) is)

either-two : {Z : Type 0} (u v : Bool) → (u ≡ true → v ≡ true → ⊥) → (x y h : Z) →
    (if u then x else (if v then y else h)) ≡ (if v then y else (if u then x else h))
either-two u v never x y h = grind arith

pub queue-cases : (u v w : Bool) → (u || v && w) ≡ true → (u ≡ true) ⊎ ((v ≡ true) × (w ≡ true))
queue-cases u v w e = grind arith

pub queue-back : (u u' v w : Bool) → (u ≡ true → u' ≡ true) → (u || v && w) ≡ true →
    (u' || w && v) ≡ true
queue-back u u' v w back e = grind (arith, queue-cases)

pub option-id : {X : Type 0} (f : X → X) → ((v : X) → f v ≡ v) → (o : Option X) → o ≡ option_map f o
option-id f same o = grind arith

pub the-place : (k : ℕ) (o : Option ℕ) → is_place k o ≡ true → o ≡ Some k
the-place k o e = grind (arith, eqb-true)

-- one order ---------------------------------------------------------------------------------------

abbrev pub paid : Past → Request → List ℕ
paid past a = payload_of a.call (reply_of past a) a.given

abbrev pub on_of : Past → Request → Option ℕ
on_of past a = called_queue past a.process a.call

-- the first of two calls does not affect the second
pub record Order (past : Past) (a b : Request) : Type 0 where
  pub legal : Legal past
  pub first : IsLegalNext past (record_for past a)
  pub second : IsLegalNext past (record_for past b)
  pub processes : (a.process ≡ b.process) → ⊥
  pub holders : HoldApart a b
  pub calls : (is_covered a.call ≡ true) × (is_covered b.call ≡ true)
  pub reply : outline (reply_of (record_for past a ∷ past) b) ≡ outline (reply_of past b)
  pub notified_registration : notified_registration (record_for past a ∷ past) b.process b.call
      (reply_of (record_for past a ∷ past) b) ≡ notified_registration past b.process b.call
      (reply_of past b)
  pub answered : answered_at (record_for past a ∷ past) b.process b.call
      (reply_of (record_for past a ∷ past) b) ≡ answered_at past b.process b.call (reply_of past b)
  pub message : message_given (after_calls past (b ∷ (a ∷ [])))
      (reply_of (after_calls past (a ∷ [])) b) ≡ message_given (after_calls past (b ∷ []))
      (reply_of past b)

module _ (past : Past) (a b : Request) (t : Order past a b) where
  abbrev pub mid : Past
  mid = record_for past a ∷ past

  pub legal-mid : Legal mid
  legal-mid = (t.legal, t.first)

  pub shaped-b : Rattle.mq_equivalence.specs.Steps.shape (reply_of mid b) ≡
      Rattle.mq_equivalence.specs.Steps.shape (reply_of past b)
  shaped-b = shapes (reply_of past b) (reply_of mid b) t.reply

  pub paid-b : paid mid b ≡ paid past b
  paid-b = payload-alike b.call (reply_of mid b) (reply_of past b) b.given shaped-b

  pub next-b : IsLegalNext mid (record_for mid b)
  next-b =
      let fits : is_payload b.call (reply_of mid b) (paid mid b) ≡
      is_payload b.call (reply_of past b) (paid past b) =
      ap (is_payload b.call (reply_of mid b)) paid-b ∙ payload-by b.call (reply_of past b)
      (reply_of mid b) (paid past b) (refused-alike (reply_of mid b) (reply_of past b) shaped-b)
      in
      record {
        process = t.second.process;
        turn = turn-other past (record_for past a) b.process b.call t.processes
            t.calls.1 t.second.turn;
        payload = subst (λ (v : Bool). IsTrue v) (sym fits) t.second.payload;
        reply = same-reply mid b.process b.call b.given t.calls.1;
      }

  -- a wait that is answered has the same answer after a call of another process
  answer-b : is_some (answered_by past b.process) ≡ true →
      answer mid b.process ≡ answer past b.process
  answer-b some =
      answer-acted past t.legal a.process a.call (reply_of past a) (paid past a) t.first
      t.calls.0 b.process
      ∙ ap (λ (acts : Bool). if acts then acted a.call (paid past a) (reply_of past a) else answer
      past b.process) idle
    where
      clash : ((a.process ≡ b.process) × (is_some (answered_by past b.process) ≡ true)) ⊎
          AnswersOn past a.process a.call b.process → ⊥
      clash (inl own) = t.processes own.0
      clash (inr other) = let bad : false ≡ true =
          sym (ap (λ (o : Option ℕ). is_some o) other.free) ∙ some in absurd (cc)

      idle : acts_on a.process (reply_of past a) (answered_at past a.process a.call
          (reply_of past a)) b.process ≡ false
      idle = split (acts_on a.process (reply_of past a) (answered_at past a.process a.call
          (reply_of past a)) b.process)
          (λ y. absurd (clash (acts-cases past t.legal a.process a.call (reply_of past a) b.process
          t.calls.0 (legal_says past (record_for past a) t.first) t.first.turn y)))
          (λ n. n)

  -- the first call does not affect the second
  pub unseen : Unaffected past a b
  unseen = record {
    next = next-b;
    reply = t.reply;
    message = t.message;
    collected =
        collected-alike past mid b.process b.call (reply_of past b) (reply_of mid b) (paid past b)
        (paid mid b) shaped-b answer-b (next-b.turn ∙ sym t.second.turn)
        (legal_says past (record_for past b) t.second) (legal_says mid (record_for mid b) next-b)
        t.second.turn;
  }

  abbrev pub both : Past
  both = record_for mid b ∷ mid

  -- each process after the two calls
  pub held-two : (k d : ℕ) → held both k d ≡ stepped past b k d (stepped past a k d (held past k d))
  held-two k d =
      held-step mid b.process b.call (reply_of mid b) (paid mid b) t.calls.1 k d
      ∙ (λ i. if shares b.process k then alike i else held mid k d)
      ∙ ap (stepped past b k d) (held-step past a.process a.call (reply_of past a)
      (paid past a) t.calls.0 k d)
    where
      alike : flagged b.call (reply_of mid b) d (held mid k d) ≡ flagged b.call (reply_of past b)
          d (held mid k d)
      alike = sym (flagged-shape b.call (reply_of mid b) d (held mid k d)) ∙
          ap (λ (r : Reply). flagged b.call r d (held mid k d)) shaped-b ∙ flagged-shape b.call
          (reply_of past b) d (held mid k d)

  pub waits-two : (k : ℕ) →
      is_some (open_wait both k) ≡ (if b.process == k then is_wait (reply_of past b) else
      (if a.process == k then is_wait (reply_of past a) else is_some (open_wait past k)))
  waits-two k =
      wait-if (b.process == k) (is_wait (reply_of mid b)) (length mid) (open_wait mid k)
      ∙ (λ i. if b.process == k then both-wait (reply_of past b) (reply_of mid b) t.reply i else
      wait-if (a.process == k) (is_wait (reply_of past a)) (length past) (open_wait past k) i)
    where
      wait-if : (u v : Bool) (n : ℕ) (o : Option ℕ) →
          is_some (if u then (if v then Some n else None) else o) ≡ (if u then v else is_some o)
      wait-if true true n o = refl
      wait-if true false n o = refl
      wait-if false v n o = refl

  abbrev pub room_for : Request → Bool → Option ℕ
  room_for c w = if w then Some (room_of c.call) else None

  pub rooms-two : (k : ℕ) →
      waiting_room both k ≡ (if b.process == k then room_for b (is_wait (reply_of past b)) else
      (if a.process == k then room_for a (is_wait (reply_of past a)) else waiting_room past k))
  rooms-two k =
      room-step mid b.process b.call (reply_of mid b) (paid mid b) k
      ∙ (λ i. if b.process == k then room_for b (both-wait (reply_of past b) (reply_of mid b)
      t.reply i) else room-step past a.process a.call (reply_of past a) (paid past a) k i)

  abbrev pub until_for : Request → Bool → Option Deadline
  until_for c w = if w then deadline_of c.call else None

  pub deadlines-two : (k : ℕ) →
      wait_deadline both k ≡ (if b.process == k then until_for b (is_wait (reply_of past b)) else
      (if a.process == k then until_for a (is_wait (reply_of past a)) else wait_deadline past k))
  deadlines-two k = λ i. if b.process == k
      then until_for b (both-wait (reply_of past b) (reply_of mid b) t.reply i)
      else wait_deadline mid k

  -- the notices of process k after a call
  abbrev pub noting : Request → ℕ → List ℕ → List ℕ
  noting c k values = after_notices c.process (gives_notice (reply_of past c))
      (notified_registration past c.process c.call (reply_of past c)) k values

  pub notices-two : (k : ℕ) → notices both k ≡ noting b k (noting a k (notices past k))
  notices-two k =
      notices-step mid legal-mid b.process b.call (reply_of mid b) (paid mid b)
      (legal_says mid (record_for mid b) next-b) k
      ∙ (λ i. after_notices b.process (both-give (reply_of past b) (reply_of mid b) t.reply i)
      (t.notified_registration i) k (notices-step past t.legal a.process a.call
      (reply_of past a) (paid past a) (legal_says past (record_for past a) t.first) k i))

  abbrev pub acting : Request → ℕ → Bool
  acting c k = acts_on c.process (reply_of past c) (answered_at past c.process c.call
      (reply_of past c)) k

  abbrev pub leaving : Request → Option (Option (Option Message))
  leaving c = acted c.call (paid past c) (reply_of past c)

  pub answers-two : (k : ℕ) →
      answer both k ≡
      (if acting b k then leaving b else (if acting a k then leaving a else answer past k))
  answers-two k =
      let w : Option ℕ = answered_at past b.process b.call (reply_of past b) in
      let on : acts_on b.process (reply_of mid b) w k ≡ acts_on b.process (reply_of past b) w k =
      sym (acts-shape b.process (reply_of mid b) w k) ∙ ap (λ (r : Reply). acts_on b.process r w k)
      shaped-b ∙ acts-shape b.process (reply_of past b) w k in
      let left : acted b.call (paid mid b) (reply_of mid b) ≡ leaving b =
      ap (λ (bytes : List ℕ). acted b.call bytes (reply_of mid b)) paid-b
      ∙ sym (acted-shape b.call (paid past b) (reply_of mid b)) ∙ ap (acted b.call (paid past b))
      shaped-b ∙ acted-shape b.call (paid past b) (reply_of past b) in
      answer-acted mid legal-mid b.process b.call (reply_of mid b) (paid mid b) next-b t.calls.1 k
      ∙ (λ i. if acts_on b.process (reply_of mid b) (t.answered i) k then acted b.call (paid mid b)
      (reply_of mid b) else answer-acted past t.legal a.process a.call (reply_of past a)
      (paid past a) t.first t.calls.0 k i)
      ∙ (λ i. if on i then left i else (if acting a k then leaving a else answer past k))

  pub names-two : (name : List ℕ) → bound_queue both name ≡ bound_queue past name
  names-two name = names-stay mid b.process b.call (reply_of mid b) (paid mid b) t.calls.1 name ∙
      names-stay past a.process a.call (reply_of past a) (paid past a) t.calls.0 name

  pub created-two : created both ≡ created past
  created-two = created-stay mid b.process b.call (reply_of mid b) (paid mid b) t.calls.1 ∙
      created-stay past a.process a.call (reply_of past a) (paid past a) t.calls.0

  pub named-two : (q : ℕ) → q < length past → is_named both q ≡ is_named past q
  named-two q lt = ap (is_place q) (names-two (name_of both q) ∙ ap (bound_queue past)
      (name_of-older mid (record_for mid b) q (omega (arith, lt)) ∙ name_of-older past
      (record_for past a) q lt))

-- both orders -------------------------------------------------------------------------------------

-- two calls commute if neither affects the other and everything at each queue is the same after
-- both orders
held-same : (past : Past) (a b : Request) (t : Order past a b) (s : Order past b a) (k d : ℕ) →
    held (both past b a s) k d ≡ held (both past a b t) k d
held-same past a b t s k d =
    held-two past b a s k d
    ∙ stepped-two past a b k d (held past k d) t.holders
    ∙ sym (held-two past a b t k d)

alive-two : (past : Past) (a b : Request) (t : Order past a b) (s : Order past b a) →
    alive (both past b a s) ≡ alive (both past a b t)
alive-two past a b t s =
    let x = both past a b t in
    let y = both past b a s in
    let same : (p d : ℕ) → option_map (λ (h : Description). h.queue) (held y p d) ≡
    option_map (λ (h : Description). h.queue) (held x p d) =
    λ p d. ap (option_map (λ (h : Description). h.queue)) (held-same past a b t s p d) in
    let low : (q : ℕ) → is_in (created x) q ≡ true →
    q < length past = λ q h. created-below past q (subst (λ (qs : List ℕ). is_in qs q ≡ true)
    (created-two past a b t) h) in
    let named : (q : ℕ) → is_in (created x) q ≡ true →
    is_named y q ≡ is_named x q = λ q h. named-two past b a s q (low q h) ∙
    sym (named-two past a b t q (low q h)) in
    let holds : (q : ℕ) → is_held y q ≡ is_held x q = λ q. is_held-same x y q (λ p d e. same p d ∙
    e) (λ p d e. sym (same p d) ∙ e) in
    ap (filter (λ q. is_named y q || is_held y q)) (created-two past b a s ∙
    sym (created-two past a b t))
    ∙ filter-same _ _ (created x) (λ q h. λ i. named q h i || holds q i)

pub commute-by : (past : Past) (a b : Request) (t : Order past a b) (s : Order past b a) →
    ((k : ℕ) → k < length past → SameAt (both past a b t) (both past b a s) k) →
    ((k : ℕ) (values : List ℕ) → noting past a b t a k (noting past a b t b k values) ≡
    noting past a b t b k (noting past a b t a k values)) →
    ((k : ℕ) → acting past a b t a k ≡ true → acting past a b t b k ≡ true → ⊥) → Commute past a b
commute-by past a b t s at-each noting-two one-answer =
    let x = both past a b t in
    let y = both past b a s in
    let ne = t.processes in
    let below : (q : ℕ) → is_in (alive x) q ≡ true →
    q < length past = λ q h. created-below past q (subst (λ (qs : List ℕ). is_in qs q ≡ true)
    (created-two past a b t) (is_in-filter _ (created x) q h).0) in
    let at : (q : ℕ) → is_in (alive x) q ≡ true → SameAt x y q = λ q h. at-each q (below q h) in
    record {
      second = unseen past a b t;
      first = unseen past b a s;
      journals = record {
        to = λ (q : ℕ). q;
        equivalent = record {
          legal = (
            (legal-mid past a b t, next-b past a b t),
            (legal-mid past b a s, next-b past b a s),
          );
          structure = record {
            names = λ name. names-two past b a s name ∙ sym (names-two past a b t name) ∙
                option-id (λ (q : ℕ). q) (λ v. refl) (bound_queue x name);
            descriptors = λ k d. held-same past a b t s k d ∙ option-id (renumbered (λ (q : ℕ). q))
                (λ v. refl) (held x k d);
            queues = subst (λ (qs : List ℕ). Corresponds (λ (q : ℕ). q) (alive x) qs)
                (sym (alive-two past a b t s)) (corresponds-self (alive x));
            limits = λ q h. (at q h).limits;
          };
          messages = λ q h. (at q h).messages;
          sending = λ q h. (at q h).sending;
          receiving = λ q h. (at q h).receiving;
          registrations = λ q h. (at q h).registration;
          values = λ k. notices-two past b a s k ∙ noting-two k (notices past k) ∙
              sym (notices-two past a b t k);
          waits = λ k. waits-two past b a s k ∙ own-two a.process b.process k ne
              (is_wait (reply_of past a)) (is_wait (reply_of past b)) (is_some (open_wait past k)) ∙
              sym (waits-two past a b t k);
          rooms = λ k. rooms-two past b a s k ∙ own-two a.process b.process k ne
              (room_for past a b t a (is_wait (reply_of past a)))
              (room_for past a b t b (is_wait (reply_of past b))) (waiting_room past k) ∙
              sym (rooms-two past a b t k);
          deadlines = λ k. deadlines-two past b a s k ∙ own-two a.process b.process k ne
              (until_for past a b t a (is_wait (reply_of past a)))
              (until_for past a b t b (is_wait (reply_of past b))) (wait_deadline past k) ∙
              sym (deadlines-two past a b t k);
          answered = λ k. answers-two past b a s k
              ∙ either-two (acting past a b t a k) (acting past a b t b k) (one-answer k)
              (leaving past a b t a) (leaving past a b t b) (answer past k)
              ∙ sym (answers-two past a b t k);
        };
      };
    }
