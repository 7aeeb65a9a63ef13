-- A message is queued after the one that a receive gets: the send and the receive commute.
use Rattle.std.proofs.Common.{◌≡◌, inl, ℕ, suc, ◌<◌, ◌==◌, Bool, true, false, not, List, [], ◌∷◌, length, Option, Some, None, is_some, is_none, if◌then◌else◌, refl, sym, ◌∙◌, ap, subst, arith, eqb-true, eq-eqb, ℤ, int_le, nat_le, pos, ◌≤◌}
use Rattle.std.specs.Option.{option_map, option_and_then}
use Rattle.mq_model.specs.Record.{Record, Past}
use Rattle.mq_model.specs.Threads.{shares}
use Rattle.mq_model.specs.Names.{attributes}
use Rattle.mq_model.specs.Descriptors.{called_queue, held, is_place}
use Rattle.mq_model.specs.Messages.{best, is_send, least, present, priority, priority_given, waiting_receives, waiting_sends}
use Rattle.mq_model.specs.Notices.{gives_notice, registered_place}
use Rattle.mq_model.specs.Legality.{IsLegalNext, reply_to_receive, reply_to_send, Legal, reply_to}
use Rattle.mq_model.specs.declared.entries.Description.{Description}
use Rattle.mq_model.specs.declared.entries.Call.{Call}
use Rattle.mq_model.specs.declared.entries.Call.TheVariants.{MqClose, MqSend, MqReceive, MqTimedSend, MqTimedReceive, NextNotice, Collect, Withdraw}
use Rattle.mq_model.specs.declared.entries.Reply.{Reply}
use Rattle.mq_model.specs.declared.entries.Reply.TheVariants.{Queued, Got}
use Rattle.mq_model.proofs.Places.{split}
use Rattle.mq_model.proofs.Cases.{Says, reply_says}
use Rattle.mq_model.proofs.HeldQueues.{called-alive}
use Rattle.mq_model.proofs.LegalReplies.{legal_says}
use Rattle.mq_model.proofs.Alive.{rec}
use Rattle.mq_equivalence.specs.Views.{Message, Registered, Sender, at, author, contents, joined, prio_of, receivers, registered_as, sender, senders, sent}
use Rattle.mq_equivalence.proofs.Effects.{after_contents, after_receivers, after_senders, contents-step, is-best, message_of, prio-is, receivers-step, senders-step}
use Rattle.mq_equivalence.proofs.Falling.{any, any-joined, any-least, any-line, best-first, foremost, joined-behind, others}
use Rattle.mq_equivalence.proofs.Changes.{falls-present, got-all}
use Rattle.mq_equivalence.proofs.Registrations.{after_registered, registered-step}
use Rattle.mq_model.proofs.Frames.{attributes-older}
use Rattle.mq_model.specs.ErrorOrder.{is_full_with}
use Rattle.std.proofs.lemmas.Bool.Decides.{nat_tests}
use Rattle.mq_equivalence.specs.Outline.{outline}
use Rattle.mq_equivalence.specs.Runs.{Request, after_calls}
use Rattle.mq_equivalence.proofs.Replies.{best-contents, count-contents, placed-some, timed-shape}
use Rattle.mq_equivalence.proofs.Seen.{is_got}
use Rattle.mq_commutation.specs.Independence.{stays_filled, reply_of, notified_registration}
use Rattle.mq_commutation.specs.Commuting.{Commute, is_covered, record_for}
use Rattle.mq_commutation.proofs.Replies.{SameAt, called-same, receive-any, send-any, same-back, same-on}
use Rattle.mq_commutation.proofs.Structure.{held-other, shares-back}
use Rattle.mq_equivalence.proofs.Notified.{after_notices, viewed}
use Rattle.mq_commutation.proofs.Frames.{not-withdrawn, acts_on, answered_at, stays-at}
use Rattle.mq_commutation.proofs.Orders.{Order, both, commute-by, legal-mid, next-b, noting, on_of, paid, paid-b}
use Rattle.mq_commutation.proofs.Steps.{no-message, message-same}
use Rattle.mq_state.proofs.QueuesKeep.{alive-below}

-- lists of messages -------------------------------------------------------------------------------

others-length : (cs : List (Option Message)) → any cs ≡ true → suc (length (others cs)) ≡ length cs
others-length cs e = grind arith

full-less : (a : ℤ) (n : ℕ) → int_le a (pos (suc n)) ≡ false → int_le a (pos n) ≡ false
full-less a n e = grind arith

-- replies that end no wait and no registration ----------------------------------------------------

pub record Calm (reply : Reply) : Type 0 where
  pub senders : (p : ℕ) (call : Call) (payload : List ℕ) (on : Bool) (ss : List (Option Sender)) →
      after_senders p call payload on reply ss ≡ ss
  pub receivers : (p : ℕ) (call : Call) (on : Bool) (rs : List (Option ℕ)) →
      after_receivers p call on reply rs ≡ rs
  pub registered : (p : ℕ) (call : Call) (on : Bool) (before : Option Registered) →
      after_registered on p call reply before ≡ before
  pub answers : (past : Past) (p : ℕ) (call : Call) → answered_at past p call reply ≡ None
  pub notified_registration : (past : Past) (p : ℕ) (call : Call) →
      notified_registration past p call reply ≡ None
  pub acts : (p : ℕ) (w : Option ℕ) (k : ℕ) → acts_on p reply w k ≡ is_place k w
  pub gives : gives_notice reply ≡ false

abbrev nobody : ℕ → Option ℕ
nobody q = None

none-at : (o : Option ℕ) → option_and_then nobody o ≡ None
none-at o = grind arith

still-queued : (on : Bool) (p : ℕ) (call : Call) (before : Option Registered) →
    after_registered on p call (Queued None) before ≡ before
still-queued on p call before = grind arith

still-got : (m : ℕ) (on : Bool) (p : ℕ) (call : Call) (before : Option Registered) →
    after_registered on p call (Got m None None) before ≡ before
still-got m on p call before = grind arith

left-got : (m : ℕ) (p : ℕ) (call : Call) (payload : List ℕ) (on : Bool)
    (ss : List (Option Sender)) → after_senders p call payload on (Got m None None) ss ≡ ss
left-got m p call payload on ss = grind arith

calm-queued : Calm (Queued None)
calm-queued = record {
  senders = λ p call payload on ss. refl;
  receivers = λ p call on rs. refl;
  registered = λ p call on before. still-queued on p call before;
  answers = λ past p call. none-at
      (called_queue past p call);
  notified_registration = λ past p call. refl;
  acts = λ p w k. refl;
  gives = refl;
}

calm-got : (m : ℕ) → Calm (Got m None None)
calm-got m = record {
  senders = λ p call payload on ss. left-got m p call payload on ss;
  receivers = λ p call on rs. refl;
  registered = λ p call on before. still-got m on p call before;
  answers = λ past p call. none-at (called_queue past p call);
  notified_registration =
      λ past p call. refl;
  acts = λ p w k. refl;
  gives = refl;
}

queued-of : (r : Reply) → outline r ≡ Queued None → r ≡ Queued None
queued-of r e = grind arith

got-of : (r : Reply) → outline r ≡ Got 0 None None → (m : ℕ) × (r ≡ Got m None None)
got-of r e = grind arith

-- the state of a queue after such a call
pub record KeptAt (past : Past) (r : Record) (k : ℕ) : Type 0 where
  pub senders : senders (r ∷ past) k ≡ senders past k
  pub receivers : receivers (r ∷ past) k ≡ receivers past k
  pub registered : registered_as (r ∷ past) k ≡ registered_as past k

pub kept-at : (past : Past) (p : ℕ) (call : Call) (reply : Reply) (payload : List ℕ) → Legal past →
    IsLegalNext past (rec p call reply payload) → is_covered call ≡ true → Calm reply → (k : ℕ) →
    KeptAt past (rec p call reply payload) k
kept-at past p call reply payload legal next on calm k =
    let says = legal_says past (rec p call reply payload) next in
    grind (arith, nat_tests, not-withdrawn, senders-step, receivers-step, registered-step)

-- the two calls -----------------------------------------------------------------------------------

-- a sends after the message that b receives, on one queue
pub record Passing (past : Past) (a b : Request) : Type 0 where
  pub legal : Legal past
  pub first : IsLegalNext past (record_for past a)
  pub second : IsLegalNext past (record_for past b)
  pub processes : (a.process ≡ b.process) → ⊥
  pub owners : shares a.process b.process ≡ false
  pub calls : (is_covered a.call ≡ true) × (is_covered b.call ≡ true)
  pub sends : is_send a.call ≡ true
  pub queued : reply_of past a ≡ Queued None
  pub message : ℕ
  pub gets : reply_of past b ≡ Got message None None
  pub queue : ℕ
  pub on_a : on_of past a ≡ Some queue
  pub on_b : on_of past b ≡ Some queue
  pub low : nat_le (priority_given a.call) (priority past message) ≡ true
  pub filled : stays_filled past (Some queue) ≡ true

-- a queue with messages
-- what a receive, and a send, find at a queue of two journals
record FoundFull (x y : Past) (q : ℕ) : Type 0 where
  limits : attributes y q ≡ attributes x q
  free_x : least (waiting_sends x q) ≡ None
  free_y : least (waiting_sends y q) ≡ None
  best : is_some (best y q) ≡ is_some (best x q)

record FoundRoom (x y : Past) (q : ℕ) : Type 0 where
  limits : attributes y q ≡ attributes x q
  free_x : least (waiting_receives x q) ≡ None
  free_y : least (waiting_receives y q) ≡ None
  room_x : is_full_with (attributes x q) (length (present x q)) ≡ false
  room_y : is_full_with (attributes x q) (length (present y q)) ≡ false
  quiet : is_some (if length (present y q) == 0 then registered_place y q else None) ≡
      is_some (if length (present x q) == 0 then registered_place x q else None)

module _ (x y : Past) (p : ℕ) (same : (d : ℕ) → held y p d ≡ held x p d) (q : ℕ) where
  receive-found : (d room : ℕ) → option_map (λ (h : Description). h.queue) (held x p d) ≡ Some q →
      FoundFull x y q → outline (reply_to_receive y (held y p d) room) ≡
      outline (reply_to_receive x (held x p d) room)
  receive-found d room on found =
      ap (λ (o : Option Description). outline (reply_to_receive y o room)) (same d) ∙
      by (held x p d) on
    where
      by : (o : Option Description) → option_map (λ (h : Description). h.queue) o ≡ Some q →
          outline (reply_to_receive y o room) ≡ outline (reply_to_receive x o room)
      by None e = refl
      by (Some h) e =
          let here : h.queue ≡ q = cc in
          let f = subst (λ (j : ℕ). FoundFull x y j) (sym here) found in
          rw (f.limits, f.free_x, f.free_y)
          (receive-any room h (attributes x h.queue) (length (present y h.queue))
          (length (present x h.queue)) (best y h.queue) (best x h.queue)
          (registered_place y h.queue) (registered_place x h.queue) f.best)

  send-found : (d prio len : ℕ) → option_map (λ (h : Description). h.queue) (held x p d) ≡ Some q →
      FoundRoom x y q → outline (reply_to_send y (held y p d) prio len) ≡
      outline (reply_to_send x (held x p d) prio len)
  send-found d prio len on found =
      ap (λ (o : Option Description). outline (reply_to_send y o prio len)) (same d) ∙
      by (held x p d) on
    where
      by : (o : Option Description) → option_map (λ (h : Description). h.queue) o ≡ Some q →
          outline (reply_to_send y o prio len) ≡ outline (reply_to_send x o prio len)
      by None e = refl
      by (Some h) e =
          let here : h.queue ≡ q = cc in
          let f = subst (λ (j : ℕ). FoundRoom x y j) (sym here) found in
          rw (f.limits, f.free_x, f.free_y)
          (send-any prio len h (attributes x h.queue) (length (present y h.queue))
          (length (present x h.queue)) (registered_place y h.queue) (registered_place x h.queue)
          f.room_y f.room_x f.quiet)

  receive-like : (call : Call) (given : List ℕ) → (m : ℕ) (a n : Option ℕ) →
      Says x p call (Got m a n) → called_queue x p call ≡ Some q → FoundFull x y q →
      outline (reply_to y p call given) ≡ outline (reply_to x p call given)
  receive-like (MqReceive d room) given m a n says on found = receive-found d room on found
  receive-like (MqTimedReceive d room until now) given m a n says on found =
      timed-shape until now _ _ (receive-found d room on found)
  receive-like (MqClose d) given m a n says on found = absurd says.0
  receive-like (MqSend d prio len) given m a n says on found = absurd says.3
  receive-like (MqTimedSend d prio len until now) given m a n says on found = absurd says.3
  receive-like NextNotice given m a n says on found = absurd (cc)
  receive-like Collect given m a n says on found = absurd (cc)
  receive-like (Withdraw now) given m a n says on found = absurd (cc)
  receive-like _ given m a n says on found = absurd says

  send-like : (call : Call) (given : List ℕ) → is_send call ≡ true →
      called_queue x p call ≡ Some q → FoundRoom x y q →
      outline (reply_to y p call given) ≡ outline (reply_to x p call given)
  send-like (MqSend d prio len) given sends on found = send-found d prio len on found
  send-like (MqTimedSend d prio len until now) given sends on found = timed-shape until now _ _
      (send-found d prio len on found)
  send-like call given sends on found = absurd (let bad : false ≡ true = sends in cc)

-- a message that was queued found room, and no waiting receive
record QueuedSays (past : Past) (q : ℕ) : Type 0 where
  free : least (waiting_receives past q) ≡ None
  room : is_full_with (attributes past q) (length (present past q)) ≡ false
  quiet : None ≡ (if length (present past q) == 0 then registered_place past q else None)

queued-says : (past : Past) (p : ℕ) (call : Call) (q : ℕ) → is_send call ≡ true →
    Says past p call (Queued None) → called_queue past p call ≡ Some q → QueuedSays past q
queued-says past p call q sends says on = grind arith

no-least-sends : (x y : Past) (q : ℕ) → senders y q ≡ senders x q →
    least (waiting_sends x q) ≡ None → least (waiting_sends y q) ≡ None
no-least-sends x y q same e = none-some (least (waiting_sends y q))
    (any-least (at sender y) (waiting_sends y q) ∙ ap (λ (ss : List (Option Sender)). any ss) same ∙
    sym (any-least (at sender x) (waiting_sends x q)) ∙ ap (λ (o : Option ℕ). is_some o) e)
  where
    none-some : (o : Option ℕ) → is_some o ≡ false → o ≡ None
    none-some None e = refl
    none-some (Some k) e = absurd (cc)

no-least-receives : (x y : Past) (q : ℕ) → receivers y q ≡ receivers x q →
    least (waiting_receives x q) ≡ None → least (waiting_receives y q) ≡ None
no-least-receives x y q same e = none-some (least (waiting_receives y q))
    (any-least (at author y) (waiting_receives y q) ∙ ap (λ (rs : List (Option ℕ)). any rs) same ∙
    sym (any-least (at author x) (waiting_receives x q)) ∙ ap (λ (o : Option ℕ). is_some o) e)
  where
    none-some : (o : Option ℕ) → is_some o ≡ false → o ≡ None
    none-some None e = refl
    none-some (Some k) e = absurd (cc)

module _ (past : Past) (a b : Request) (t : Passing past a b) where
  abbrev sent_first : Past
  sent_first = record_for past a ∷ past

  abbrev got_first : Past
  got_first = record_for past b ∷ past

  abbrev k : ℕ
  k = t.queue

  abbrev cs : List (Option Message)
  cs = contents past k

  abbrev new : Option Message
  new = Some (message_of a.call (paid past a))

  says-a : Says past a.process a.call (reply_of past a)
  says-a = legal_says past (record_for past a) t.first

  says-b : Says past b.process b.call (reply_of past b)
  says-b = legal_says past (record_for past b) t.second

  got-b : Says past b.process b.call (Got t.message None None)
  got-b = subst (Says past b.process b.call) t.gets says-b

  queued-a : Says past a.process a.call (Queued None)
  queued-a = subst (Says past a.process a.call) t.queued says-a

  calm-a : Calm (reply_of past a)
  calm-a = subst Calm (sym t.queued) calm-queued

  calm-b : Calm (reply_of past b)
  calm-b = subst Calm (sym t.gets) (calm-got t.message)

  on-a : is_place k (on_of past a) ≡ true
  on-a = ap (is_place k) t.on_a ∙ eq-eqb k k refl

  on-b : is_place k (on_of past b) ≡ true
  on-b = ap (is_place k) t.on_b ∙ eq-eqb k k refl

  best-k : best past k ≡ Some t.message
  best-k =
      let got = got-all past b.process b.call t.message None None got-b in
      let some : Some got.queue ≡ Some k = sym got.on ∙ t.on_b in
      let same : got.queue ≡ k = cc in
      subst (λ (j : ℕ). best past j ≡ Some t.message) same got.best

  free-k : least (waiting_sends past k) ≡ None
  free-k =
      let got = got-all past b.process b.call t.message None None got-b in
      let some : Some got.queue ≡ Some k = sym got.on ∙ t.on_b in
      let same : got.queue ≡ k = cc in
      subst (λ (j : ℕ). least (waiting_sends past j) ≡ None) same (sym got.admitted)

  says-k : QueuedSays past k
  says-k = queued-says past a.process a.call k t.sends queued-a t.on_a

  any-k : any cs ≡ true
  any-k = any-line (at sent past) (present past k) t.message
      (is-best past k t.message best-k).inside

  low-k : prio_of new ≤ prio_of (foremost cs)
  low-k =
      let first = (best-first (at sent past) (present past k) t.message
      (falls-present past t.legal k) (is-best past k t.message best-k)).0 in
      let best : prio_of (foremost cs) ≡ priority past t.message = ap prio_of (sym first) ∙
      prio-is past t.message in
      let le : priority_given a.call ≤ priority past t.message = grind (arith, nat_tests, t.low) in
      omega (arith, le, best)

  behind-k : (foremost (joined prio_of new cs) ≡ foremost cs) ×
      (others (joined prio_of new cs) ≡ joined prio_of new (others cs))
  behind-k = joined-behind new cs any-k low-k

  kept-a : (q : ℕ) → KeptAt past (record_for past a) q
  kept-a q = kept-at past a.process a.call (reply_of past a) (paid past a) t.legal t.first
      t.calls.0 calm-a q

  kept-b : (q : ℕ) → KeptAt past (record_for past b) q
  kept-b q = kept-at past b.process b.call (reply_of past b) (paid past b) t.legal t.second
      t.calls.1 calm-b q

  contents-sent : contents sent_first k ≡ joined prio_of new cs
  contents-sent =
      contents-step past t.legal a.process a.call (reply_of past a) (paid past a) k says-a
      ∙ (λ i. after_contents a.call (paid past a) (on-a i) (t.queued i) (senders past k) cs)
      ∙ ap (λ (s : Bool). if s then joined prio_of new cs else cs) t.sends

  contents-got : contents got_first k ≡ others cs
  contents-got =
      contents-step past t.legal b.process b.call (reply_of past b) (paid past b) k says-b
      ∙ (λ i. after_contents b.call (paid past b) (on-b i) (t.gets i) (senders past k) cs)

  low-queue : k < length past
  low-queue = alive-below past k (called-alive past t.legal a.process a.call k t.on_a)

  count-got : suc (length (present got_first k)) ≡ length (present past k)
  count-got =
      ap suc (count-contents got_first k ∙
      ap (λ (l : List (Option Message)). length l) contents-got)
      ∙ others-length cs any-k ∙ sym (count-contents past k)

  -- the receive after the send
  held-b : (d : ℕ) → held sent_first b.process d ≡ held past b.process d
  held-b d = held-other past a.process a.call (reply_of past a) (paid past a) b.process t.owners d

  found-b : FoundFull past sent_first k
  found-b = record {
    limits = attributes-older past (record_for past a) k low-queue;
    free_x = free-k;
    free_y = no-least-sends past sent_first k (kept-a k).senders free-k;
    best =
        best-contents sent_first k ∙ ap (λ (l : List (Option Message)). any l) contents-sent
        ∙ any-joined prio_of new cs ∙ sym any-k ∙ sym (best-contents past k);
  }

  reply-b : outline (reply_of sent_first b) ≡ outline (reply_of past b)
  reply-b = receive-like past sent_first b.process held-b k b.call b.given t.message None None
      got-b t.on_b found-b

  got-is : (m : ℕ) × (reply_of sent_first b ≡ Got m None None)
  got-is = got-of (reply_of sent_first b) (reply-b ∙ ap outline t.gets)

  -- the send after the receive
  held-a : (d : ℕ) → held got_first a.process d ≡ held past a.process d
  held-a d = held-other past b.process b.call (reply_of past b) (paid past b) a.process
      (shares-back a.process b.process t.owners) d

  nothing-told : is_some (if length (present got_first k) == 0 then registered_place got_first k
      else None) ≡ false
  nothing-told = split (is_none (registered_as past k))
      (λ y. let none : is_some (registered_place got_first k) ≡ false = placed-some past got_first k
      k (kept-b k).registered ∙ placed-none y in
      if-none (length (present got_first k) == 0) (registered_place got_first k) none)
      (λ n. let more : not (length (present past k) == 1) ≡ true = rw n at t.filled in
      let other : (length (present got_first k) == 0) ≡ false =
      split (length (present got_first k) == 0)
      (λ z. let zero_is : length (present got_first k) ≡ 0 = eqb-true _ _ z in
      let one : length (present past k) ≡ 1 = sym count-got ∙ ap suc zero_is in
      let is : (length (present past k) == 1) ≡ true = eq-eqb _ _ one in
      let bad : false ≡ true = rw is at more in absurd (cc))
      (λ z. z) in
      ap (λ (b : Bool). is_some (if b then registered_place got_first k else None)) other)
    where
      if-none : (b : Bool) (o : Option ℕ) → is_some o ≡ false →
          is_some (if b then o else None) ≡ false
      if-none true o e = e
      if-none false o e = refl

      placed-none : is_none (registered_as past k) ≡ true →
          is_some (registered_place past k) ≡ false
      placed-none = by (Rattle.mq_model.specs.Notices.registered past k)
        where
          by : (o : Option Rattle.mq_model.specs.declared.entries.Registration.Registration) →
              is_none (option_map
              (λ (n : Rattle.mq_model.specs.declared.entries.Registration.Registration). viewed n)
              o) ≡ true →
              is_some (option_map
              (λ (n : Rattle.mq_model.specs.declared.entries.Registration.Registration). n.place)
              o) ≡ false
          by None e = refl
          by (Some n) e = absurd (cc)

  found-a : FoundRoom past got_first k
  found-a = record {
    limits = attributes-older past (record_for past b) k low-queue;
    free_x = says-k.free;
    free_y = no-least-receives past got_first k (kept-b k).receivers says-k.free;
    room_x = says-k.room;
    room_y = full-less (attributes past k).maxmsg (length (present got_first k))
        (ap (λ (n : ℕ). int_le (attributes past k).maxmsg (pos n)) count-got ∙ says-k.room);
    quiet = nothing-told ∙ ap (λ (o : Option ℕ). is_some o) says-k.quiet;
  }

  reply-a : outline (reply_of got_first a) ≡ outline (reply_of past a)
  reply-a = send-like past got_first a.process held-a k a.call a.given t.sends t.on_a found-a

  queued-is : reply_of got_first a ≡ Queued None
  queued-is = queued-of (reply_of got_first a) (reply-a ∙ ap outline t.queued)

  calm-later-b : Calm (reply_of sent_first b)
  calm-later-b = subst Calm (sym got-is.1) (calm-got got-is.0)

  calm-later-a : Calm (reply_of got_first a)
  calm-later-a = subst Calm (sym queued-is) calm-queued

  called-b : on_of sent_first b ≡ on_of past b
  called-b = called-same past sent_first b.process held-b b.call

  called-a : on_of got_first a ≡ on_of past a
  called-a = called-same past got_first a.process held-a a.call

  order-b : Order past a b
  order-b = record {
    legal = t.legal;
    first = t.first;
    second = t.second;
    processes = t.processes;
    holders = inl t.owners;
    calls = t.calls;
    reply = reply-b;
    notified_registration = calm-later-b.notified_registration sent_first b.process b.call ∙
        sym (calm-b.notified_registration past b.process b.call);
    answered = calm-later-b.answers sent_first b.process b.call ∙
        sym (calm-b.answers past b.process b.call);
    message = message-same past sent_first t.legal (t.legal, t.first) b.process b.call
        (reply_of past b) (reply_of sent_first b) (paid past b) (paid sent_first b) says-b
        (reply_says sent_first b.process b.call b.given) called-b reply-b
        (λ j e. let some : Some j ≡ Some k = sym e ∙ t.on_b in let same : j ≡ k = cc in
        subst (λ (q : ℕ). foremost (contents sent_first q) ≡ foremost (contents past q)) (sym same)
        (ap (λ (l : List (Option Message)). foremost l) contents-sent ∙ behind-k.0));
  }

  order-a : Order past b a
  order-a = record {
    legal = t.legal;
    first = t.second;
    second = t.first;
    processes = λ e. t.processes (sym e);
    holders = inl (shares-back a.process b.process t.owners);
    calls = (t.calls.1, t.calls.0);
    reply = reply-a;
    notified_registration = calm-later-a.notified_registration got_first a.process a.call ∙
        sym (calm-a.notified_registration past a.process a.call);
    answered = calm-later-a.answers got_first a.process a.call ∙
        sym (calm-a.answers past a.process a.call);
    message =
        no-message (after_calls past (a ∷ (b ∷ []))) (reply_of past a) (reply_of got_first a)
        reply-a (ap is_got t.queued)
        ∙ sym (no-message (after_calls past (a ∷ [])) (reply_of past a) (reply_of past a) refl
        (ap is_got t.queued));
  }

  abbrev x : Past
  x = both past a b order-b

  abbrev y : Past
  y = both past b a order-a

  at-queue : SameAt x y k
  at-queue = record {
    limits = attributes-older got_first (record_for got_first a) k (omega (arith, low-queue)) ∙
        attributes-older past (record_for past b) k low-queue ∙
        sym (attributes-older sent_first (record_for sent_first b) k (omega (arith, low-queue)) ∙
        attributes-older past (record_for past a) k low-queue);
    messages =
        contents-step got_first (legal-mid past b a order-a) a.process a.call (reply_of got_first a)
        (paid got_first a) k (reply_says got_first a.process a.call a.given)
        ∙ (λ i. after_contents a.call (paid-b past b a order-a i)
        ((ap (is_place k) called-a ∙ on-a) i) (queued-is i) (senders got_first k)
        (contents-got i))
        ∙ ap (λ (s : Bool). if s then joined prio_of new (others cs) else others cs) t.sends
        ∙ sym (contents-step sent_first (legal-mid past a b order-b) b.process b.call
        (reply_of sent_first b) (paid sent_first b) k
        (reply_says sent_first b.process b.call b.given)
        ∙ (λ i. after_contents b.call (paid sent_first b) ((ap (is_place k) called-b ∙ on-b) i)
        (got-is.1 i) (senders sent_first k) (contents-sent i))
        ∙ behind-k.1);
    sending = late-a.senders ∙ (kept-b k).senders ∙ sym (late-b.senders ∙ (kept-a k).senders);
    receiving = late-a.receivers ∙ (kept-b k).receivers ∙
        sym (late-b.receivers ∙ (kept-a k).receivers);
    registration = late-a.registered ∙ (kept-b k).registered ∙
        sym (late-b.registered ∙ (kept-a k).registered);
  }
    where
      late-a : KeptAt got_first (record_for got_first a) k
      late-a = kept-at got_first a.process a.call (reply_of got_first a) (paid got_first a)
          (legal-mid past b a order-a) (next-b past b a order-a) t.calls.0 calm-later-a k

      late-b : KeptAt sent_first (record_for sent_first b) k
      late-b = kept-at sent_first b.process b.call (reply_of sent_first b) (paid sent_first b)
          (legal-mid past a b order-b) (next-b past a b order-b) t.calls.1 calm-later-b k

  at-all : (q : ℕ) → q < length past → SameAt x y q
  at-all q lt = split (k == q)
      (λ e. subst (λ (j : ℕ). SameAt x y j) (eqb-true k q e) at-queue)
      (λ f. let off_a : is_place q (on_of past a) ≡ false = ap (is_place q) t.on_a ∙ f in
      let off_b : is_place q (on_of past b) ≡ false = ap (is_place q) t.on_b ∙ f in
      same-on x past y q
      (same-back past x q (same-on past sent_first x q
      (stays-at past t.legal a.process a.call (reply_of past a) (paid past a) t.first
      t.calls.0 q lt off_a)
      (stays-at sent_first (legal-mid past a b order-b) b.process b.call (reply_of sent_first b)
      (paid sent_first b) (next-b past a b order-b) t.calls.1 q (omega (arith, lt))
      (ap (is_place q) called-b ∙ off_b))))
      (same-on past got_first y q
      (stays-at past t.legal b.process b.call (reply_of past b) (paid past b) t.second
      t.calls.1 q lt off_b)
      (stays-at got_first (legal-mid past b a order-a) a.process a.call (reply_of got_first a)
      (paid got_first a) (next-b past b a order-a) t.calls.0 q (omega (arith, lt))
      (ap (is_place q) called-a ∙ off_a))))

  quiet-notices : (c : Request) → Calm (reply_of past c) → (q : ℕ) (values : List ℕ) →
      after_notices c.process (gives_notice (reply_of past c)) (notified_registration past c.process
      c.call (reply_of past c)) q values ≡ values
  quiet-notices c calm q values = λ i. after_notices c.process (calm.gives i)
      (calm.notified_registration past c.process c.call i) q values

  never-acts : (c : Request) → Calm (reply_of past c) → (q : ℕ) →
      acts_on c.process (reply_of past c) (answered_at past c.process c.call (reply_of past c)) q ≡
      true → ⊥
  never-acts c calm q e =
      let none : acts_on c.process (reply_of past c) (answered_at past c.process c.call
      (reply_of past c)) q ≡ false = calm.acts c.process (answered_at past c.process c.call
      (reply_of past c)) q ∙ ap (is_place q) (calm.answers past c.process c.call) in
      let bad : false ≡ true = sym none ∙ e in absurd (cc)

  pub pass-commute : Commute past a b
  pass-commute = commute-by past a b order-b order-a at-all
      (λ q values. quiet-notices a calm-a q (noting past a b order-b b q values) ∙
      sym (ap (noting past a b order-b b q) (quiet-notices a calm-a q values)))
      (λ q ea eb. never-acts a calm-a q ea)

  pub pass-commute-back : Commute past b a
  pass-commute-back = commute-by past b a order-a order-b (λ q lt. same-back x y q (at-all q lt))
      (λ q values. sym (quiet-notices a calm-a q (noting past a b order-b b q values) ∙
      sym (ap (noting past a b order-b b q) (quiet-notices a calm-a q values))))
      (λ q eb ea. never-acts a calm-a q ea)
