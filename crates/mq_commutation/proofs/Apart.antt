-- Calls of different processes on different queues commute.
use Rattle.std.proofs.Common.{◌≡◌, ◌⊎◌, inl, inr, ℕ, ◌<◌, Bool, true, false, ◌&&◌, ◌||◌, List, ◌∷◌, length, Option, Some, None, is_some, sym, ◌∙◌, ap, subst, arith, rules}
use Rattle.mq_model.specs.Record.{Past}
use Rattle.mq_model.specs.Threads.{owner_of}
use Rattle.mq_model.specs.Descriptors.{called_queue, held, is_place}
use Rattle.mq_model.specs.Messages.{is_in}
use Rattle.mq_model.specs.Notices.{gives_notice, notices}
use Rattle.mq_model.specs.Waits.{answered_by}
use Rattle.mq_model.specs.Legality.{IsLegalNext, Legal, reply_to}
use Rattle.mq_model.specs.declared.entries.Call.{Call}
use Rattle.mq_model.specs.declared.entries.Call.TheVariants.{NextNotice, Collect}
use Rattle.mq_model.proofs.Places.{split}
use Rattle.mq_model.proofs.Cases.{Says, reply_says}
use Rattle.mq_model.proofs.HeldQueues.{called-alive}
use Rattle.mq_model.proofs.LegalReplies.{legal_says}
use Rattle.mq_model.proofs.NamedWaits.{blocked-once}
use Rattle.mq_equivalence.specs.Views.{Message}
use Rattle.mq_equivalence.proofs.Falling.{foremost}
use Rattle.mq_equivalence.specs.Outline.{outline}
use Rattle.mq_equivalence.specs.Runs.{Request}
use Rattle.mq_commutation.specs.Independence.{differ, only_reads, whose_notices, whose_notices_by, reply_of, notified_registration, queue_touched}
use Rattle.mq_equivalence.proofs.Notified.{after_notices, notices-step}
use Rattle.mq_commutation.specs.Commuting.{Commute, is_covered, record_for}
use Rattle.mq_commutation.proofs.Replies.{SameAt, called-same, reply-same, same-back, same-on}
use Rattle.mq_commutation.proofs.Structure.{HoldApart, apart-holders-back, held-collect, held-other}
use Rattle.mq_commutation.proofs.Frames.{AnswersOn, acts-cases, acts_on, answered-same, answered_at, looks, notices-off, stays-at, stays-look, told-same}
use Rattle.mq_commutation.proofs.Orders.{Order, apart-back, apart-clash, apart-off, both, commute-by, next-b, on_of, paid, paid-b, queue-back, queue-cases, the-place, touched-is}
use Rattle.mq_commutation.proofs.Steps.{both-told, message-same, shapes, steps-at}
use Rattle.mq_state.proofs.QueuesKeep.{alive-below}

-- two covered calls of different processes, on different queues or both only reading, that change
-- the notices of different processes
pub record AreSeparate (past : Past) (a b : Request) : Type 0 where
  pub processes : (a.process ≡ b.process) → ⊥
  pub holders : HoldApart a b
  pub calls : (is_covered a.call ≡ true) × (is_covered b.call ≡ true)
  pub queues : (differ (queue_touched past a) (queue_touched past b) || only_reads a.call &&
      only_reads b.call) ≡ true
  pub notices : differ (whose_notices past a) (whose_notices past b) ≡ true

pub record Two (past : Past) (a b : Request) : Type 0 where
  pub legal : Legal past
  pub first : IsLegalNext past (record_for past a)
  pub second : IsLegalNext past (record_for past b)
  pub apart : AreSeparate past a b

swap : (past : Past) (a b : Request) → Two past a b → Two past b a
swap past a b t = search (rules, queue-back, apart-back, apart-holders-back)

module _ (past : Past) (a b : Request) (t : Two past a b) where
  abbrev between : Past
  between = record_for past a ∷ past

  legal-between : Legal between
  legal-between = (t.legal, t.first)

  -- the second call finds the same descriptors, or uses none
  abbrev FindsSame : Type 0
  FindsSame = ((d : ℕ) → held between b.process d ≡ held past b.process d) ⊎ (b.call ≡ Collect)

  held-b : FindsSame
  held-b = by t.apart.holders
    where
      by : HoldApart a b → FindsSame
      by (inl far) = inl (λ d. held-other past a.process a.call (reply_of past a) (paid past a)
          b.process far d)
      by (inr (inl is)) = inl (λ d. held-collect past a.process a.call (reply_of past a)
          (paid past a) b.process t.apart.calls.0 is d)
      by (inr (inr is)) = inr is

  called-b : on_of between b ≡ on_of past b
  called-b = by held-b
    where
      by : FindsSame → on_of between b ≡ on_of past b
      by (inl same) = called-same past between b.process same b.call
      by (inr is) = ap (called_queue between b.process) is ∙
          sym (ap (called_queue past b.process) is)

  touched-a : queue_touched past a ≡ on_of past a
  touched-a = touched-is past a.process a.call t.apart.calls.0

  touched-b : queue_touched past b ≡ on_of past b
  touched-b = touched-is past b.process b.call t.apart.calls.1

  -- on different queues, or both only read
  queues-are : (differ (on_of past a) (on_of past b) ≡ true) ⊎ ((only_reads a.call ≡ true) ×
      (only_reads b.call ≡ true))
  queues-are = queue-cases (differ (on_of past a) (on_of past b)) (only_reads a.call)
      (only_reads b.call) ((λ i. differ (sym touched-a i) (sym touched-b i) || only_reads a.call &&
      only_reads b.call) ∙ t.apart.queues)

  low : (k : ℕ) → on_of past b ≡ Some k → k < length past
  low k e = alive-below past k (called-alive past t.legal b.process b.call k e)

  abbrev Quiet : ℕ → Type 0
  Quiet k = (is_place k (on_of past a) ≡ false) ⊎ (only_reads a.call ≡ true)

  quiet : (k : ℕ) → k < length past → Quiet k → SameAt past between k
  quiet k lt (inl off) = stays-at past t.legal a.process a.call (reply_of past a) (paid past a)
      t.first t.apart.calls.0 k lt off
  quiet k lt (inr look) = stays-look past t.legal a.process a.call (reply_of past a) (paid past a)
      t.first t.apart.calls.0 look k lt

  at-b : (k : ℕ) → on_of past b ≡ Some k → SameAt past between k
  at-b k e = quiet k (low k e) (by queues-are)
    where
      by : ((differ (on_of past a) (on_of past b) ≡ true) ⊎ ((only_reads a.call ≡ true) ×
          (only_reads b.call ≡ true))) → Quiet k
      by (inl far) = inl (apart-off (on_of past a) (on_of past b) k far e)
      by (inr look) = inr look.0

  says-a : Says past a.process a.call (reply_of past a)
  says-a = legal_says past (record_for past a) t.first

  says-b : Says past b.process b.call (reply_of past b)
  says-b = legal_says past (record_for past b) t.second

  notices-b : b.call ≡ NextNotice → notices between b.process ≡ notices past b.process
  notices-b is =
      let own : whose_notices past b ≡ Some (owner_of b.process) =
      ap (λ (c : Call). whose_notices_by past b.process c (reply_to past b.process c b.given))
      is in
      notices-step past t.legal a.process a.call (reply_of past a) (paid past a) says-a b.process
      ∙ notices-off past a.process a.call (reply_of past a) b.process (notices past b.process)
      t.apart.calls.0 says-a (apart-off (whose_notices past a) (whose_notices past b)
      (owner_of b.process) t.apart.notices own)

  same-b : outline (reply_of between b) ≡ outline (reply_of past b)
  same-b = by held-b
    where
      by : FindsSame → outline (reply_of between b) ≡ outline (reply_of past b)
      by (inl same) = reply-same past between b.process same b.call b.given
          t.apart.calls.1 notices-b at-b
      by (inr is) =
          ap (λ (c : Call). outline (reply_to between b.process c b.given)) is
          ∙ sym (ap (λ (c : Call). outline (reply_to past b.process c b.given)) is)

  shaped-b : Rattle.mq_equivalence.specs.Steps.shape (reply_of between b) ≡
      Rattle.mq_equivalence.specs.Steps.shape (reply_of past b)
  shaped-b = shapes (reply_of past b) (reply_of between b) same-b

  told-b : notified_registration between b.process b.call (reply_of between b) ≡
      notified_registration past b.process b.call (reply_of past b)
  told-b = told-same past between b.process b.call (reply_of past b) (reply_of between b) called-b
      (both-told (reply_of past b) (reply_of between b) same-b) at-b

  answered-b : answered_at between b.process b.call (reply_of between b) ≡
      answered_at past b.process b.call (reply_of past b)
  answered-b = answered-same past between b.process b.call (reply_of past b) (reply_of between b)
      called-b shaped-b at-b

  pub order : Order past a b
  order = record {
    legal = t.legal;
    first = t.first;
    second = t.second;
    processes = t.apart.processes;
    holders = t.apart.holders;
    calls = t.apart.calls;
    reply = same-b;
    notified_registration = told-b;
    answered = answered-b;
    message = message-same past between t.legal legal-between b.process b.call (reply_of past b)
        (reply_of between b) (paid past b) (paid between b) says-b
        (reply_says between b.process b.call b.given) called-b same-b
        (λ k e. ap (λ (cs : List (Option Message)). foremost cs) (at-b k e).messages);
  }

  abbrev noted_by_call : Request → ℕ → List ℕ → List ℕ
  noted_by_call c k values = after_notices c.process (gives_notice (reply_of past c))
      (notified_registration past c.process c.call (reply_of past c)) k values

  abbrev act_of : Request → ℕ → Bool
  act_of c k = acts_on c.process (reply_of past c) (answered_at past c.process c.call
      (reply_of past c)) k

  noting-two : (k : ℕ) (values : List ℕ) → noted_by_call a k (noted_by_call b k values) ≡
      noted_by_call b k (noted_by_call a k values)
  noting-two k values = split (is_place (owner_of k) (whose_notices past b))
      (λ y. let off : is_place (owner_of k) (whose_notices past a) ≡ false = apart-off
      (whose_notices past a) (whose_notices past b) (owner_of k) t.apart.notices
      (the-place (owner_of k) (whose_notices past b) y) in
      notices-off past a.process a.call (reply_of past a) k (noted_by_call b k values)
      t.apart.calls.0 says-a off
      ∙ sym (ap (noted_by_call b k) (notices-off past a.process a.call (reply_of past a) k values
      t.apart.calls.0 says-a off)))
      (λ n. ap (noted_by_call a k) (notices-off past b.process b.call (reply_of past b) k values
      t.apart.calls.1 says-b n)
      ∙ sym (notices-off past b.process b.call (reply_of past b) k (noted_by_call a k values)
      t.apart.calls.1 says-b n))

  -- they do not both change the answer of one process
  abbrev AtWork : Request → ℕ → Type 0
  AtWork c k = ((c.process ≡ k) × (is_some (answered_by past k) ≡ true)) ⊎
      AnswersOn past c.process c.call k

  one-answer : (k : ℕ) → act_of a k ≡ true → act_of b k ≡ true → ⊥
  one-answer k ea eb = by queues-are
    where
      none : answered_by past k ≡ None → is_some (answered_by past k) ≡ true → ⊥
      none n e = let bad : false ≡ true = sym (ap (λ (o : Option ℕ). is_some o) n) ∙ e in
          absurd (cc)

      far-both : differ (on_of past a) (on_of past b) ≡ true → AtWork a k → AtWork b k → ⊥
      far-both far (inl x) (inl y) = t.apart.processes (x.0 ∙ sym y.0)
      far-both far (inl x) (inr y) = none y.free x.1
      far-both far (inr x) (inl y) = none x.free y.1
      far-both far (inr x) (inr y) =
          let some : Some x.wait ≡ Some y.wait = sym x.opens ∙ y.opens in
          let wait : x.wait ≡ y.wait = cc in
          apart-clash (on_of past a) (on_of past b) x.queue y.queue far x.on y.on
          (blocked-once past x.kind y.kind x.queue y.queue y.wait
          (subst (λ (w : ℕ). is_in (Rattle.mq_model.specs.Callers.blocked past x.kind x.queue)
          w ≡ true) wait x.blocks) y.blocks).1

      by : ((differ (on_of past a) (on_of past b) ≡ true) ⊎ ((only_reads a.call ≡ true) ×
          (only_reads b.call ≡ true))) → ⊥
      by (inl far) = far-both far
          (acts-cases past t.legal a.process a.call (reply_of past a) k t.apart.calls.0 says-a
          t.first.turn ea)
          (acts-cases past t.legal b.process b.call (reply_of past b) k t.apart.calls.1 says-b
          t.second.turn eb)
      by (inr look) = let bad : false ≡ true =
          sym ((looks past a.process a.call (reply_of past a) look.0 says-a).answers past a.process
          a.call k) ∙ ea in absurd (cc)

-- at a queue that the second call is not about
at-first : (past : Past) (a b : Request) (t : Two past a b) (k : ℕ) → k < length past →
    Quiet past b a (swap past a b t) k →
    SameAt (both past a b (order past a b t)) (both past b a (order past b a (swap past a b t))) k
at-first past a b t k lt off =
    let s = swap past a b t in
    let more : k < length (between past a b t) = omega (arith, lt) in
    let quiet_b : SameAt past (between past b a s) k = quiet past b a s k lt off in
    let stepped : SameAt (between past a b t) (both past b a (order past b a s)) k =
    steps-at past (between past b a s) t.legal (legal-between past b a s) a.process a.call
    (reply_of past a) (reply_of (between past b a s) a) (paid past a)
    (paid (between past b a s) a)
    t.first (next-b past b a (order past b a s)) t.apart.calls.0 (called-b past b a s)
    (same-b past b a s) (paid-b past b a (order past b a s)) k lt more quiet_b
    in
    let last : SameAt (between past a b t) (both past a b (order past a b t)) k = by more off in
    same-on (both past a b (order past a b t)) (between past a b t)
    (both past b a (order past b a s)) k (same-back (between past a b t)
    (both past a b (order past a b t)) k last) stepped
  where
    by : k < length (between past a b t) → Quiet past b a (swap past a b t) k →
        SameAt (between past a b t) (both past a b (order past a b t)) k
    by more (inl off) = stays-at (between past a b t) (legal-between past a b t) b.process b.call
        (reply_of (between past a b t) b) (paid (between past a b t) b)
        (next-b past a b (order past a b t)) t.apart.calls.1 k more
        (ap (is_place k) (called-b past a b t) ∙ off)
    by more (inr look) = stays-look (between past a b t) (legal-between past a b t) b.process b.call
        (reply_of (between past a b t) b) (paid (between past a b t) b)
        (next-b past a b (order past a b t)) t.apart.calls.1 look k more

at-each : (past : Past) (a b : Request) (t : Two past a b) (k : ℕ) → k < length past →
    SameAt (both past a b (order past a b t)) (both past b a (order past b a (swap past a b t))) k
at-each past a b t k lt = by (queues-are past a b t)
  where
    by : ((differ (on_of past a) (on_of past b) ≡ true) ⊎ ((only_reads a.call ≡ true) ×
        (only_reads b.call ≡ true))) → SameAt (both past a b (order past a b t))
        (both past b a (order past b a (swap past a b t))) k
    by (inr look) = at-first past a b t k lt (inr look.1)
    by (inl far) = split (is_place k (on_of past b))
        (λ y. let s = swap past a b t in
        same-back (both past b a (order past b a s)) (both past a b (order past a b t)) k
        (at-first past b a s k lt (inl (apart-off (on_of past a) (on_of past b) k far
        (the-place k (on_of past b) y)))))
        (λ n. at-first past a b t k lt (inl n))

pub apart-commute : (past : Past) (a b : Request) → Two past a b → Commute past a b
apart-commute past a b t =
    commute-by past a b (order past a b t) (order past b a (swap past a b t))
    (λ k lt. at-each past a b t k lt) (λ k values. noting-two past a b t k values)
    (λ k ea eb. one-answer past a b t k ea eb)
