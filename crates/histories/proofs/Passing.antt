-- A history in which a receive passed over a message has no linearization.
use Rattle.std.proofs.Common.{◌≡◌, ℕ, ◌+◌, ◌-◌, ◌≤◌, ◌<◌, ◌==◌, zero, suc, Bool, true, false, not, ◌&&◌, ◌||◌, List, [], ◌∷◌, length, take, take-take, Option, Some, None, Vec, ◌⊎◌, inl, inr, refl, sym, ◌∙◌, ap, subst, arith, slice_get, nat_le, nat_lt, eqb-true, eq-eqb, ltb-true, leb-false, int_lt, pos, Global}
use Rattle.std.specs.Option.{option_map}
use Rattle.std.specs.List.{list_all, list_any}
use Rattle.std.proofs.lemmas.Bool.{and_parts, cases_lt}
use Rattle.std.proofs.lemmas.Bool.Decides.{nat_tests}
use Rattle.std.proofs.lemmas.Option.{slice_get_past, slice_get_within}
use Rattle.mq_model.specs.Record.{Record, Past}
use Rattle.mq_model.specs.Descriptors.{called_queue, created, descriptor_of, held}
use Rattle.mq_model.specs.ErrorOrder.{found_reply, is_write_only, timed_reply}
use Rattle.mq_model.specs.Legality.{IsLegalNext, reply_to, reply_to_receive}
use Rattle.mq_model.specs.Messages.{best, goes_first, is_accepted, is_in, is_receive, present, priority, priority_given, taken}
use Rattle.mq_model.specs.Names.{attributes, name_of}
use Rattle.mq_model.specs.declared.entries.Call.{Call}
use Rattle.mq_model.specs.declared.entries.Call.TheVariants.{MqReceive, MqTimedReceive}
use Rattle.mq_model.specs.declared.entries.Deadline.{Deadline}
use Rattle.mq_model.specs.declared.entries.Description.{Description}
use Rattle.mq_model.specs.declared.entries.Reply.{Reply}
use Rattle.mq_model.specs.declared.entries.Reply.TheVariants as reply
use Rattle.mq_model.specs.declared.faults.Fault.TheVariants.{BadDescriptor, MessageSize}
use Rattle.mq_model.proofs.Best.{best-none, find-test}
use Rattle.mq_model.proofs.Cases.{Says, either}
use Rattle.mq_model.proofs.Places.{find-in, split}
use Rattle.mq_model.proofs.LegalReplies.{got_says, legal_says}
use Rattle.mq_model.proofs.Prefixes.{record_at-below}
use Rattle.mq_model.proofs.Presence.{present-admitted}
use Rattle.mq_laws.proofs.SentMessages.{accepted-sent, admitted-sent}
use Rattle.histories.proofs.Giving.{is_sending}
use Rattle.std.specs.Str.{bytes_eq}
use Rattle.std.proofs.lemmas.Slice.Eq.{bytes_eq-Decides}
use Rattle.mq_laws.proofs.GoneQueues.{present-or-taken}
use Rattle.histories.specs.OwnCalls.{made}
use Rattle.histories.specs.declared.operation.Operation.{Operation}
use Rattle.histories.specs.declared.operation.Outcome.{Outcome}
use Rattle.histories.specs.declared.operation.Outcome.TheVariants.{Done, Opened, Got, Notice, Refused}
use Rattle.histories.specs.Histories.{Histories, completed, current_of, is_complete, is_through, none_ended}
use Rattle.histories.specs.Linearizations.{ComesFrom, IsCallOf, IsLinearization}
use Rattle.histories.specs.Outcomes.{fits, is_message}
use Rattle.histories.specs.RealTime.{operation_at}
use Rattle.histories.specs.Excess.{HasNoOrder, has_got, returned_by, sends_by}
use Rattle.histories.specs.Named.{calls_on, has_returned_on, is_marked, marks_of, no_marks}
use Rattle.histories.specs.Passed.{IsPassed, got_other, is_part, passes, sends_other_of}
use Rattle.histories.specs.declared.passed.Part.TheVariants.{Sent, PassedOver, SentBefore, Received}
use Rattle.histories.specs.declared.passed.Passed.{Passed}
use Rattle.histories.proofs.Accepting.{IsOf, accepted-later, completed-accepted, ending-reply, of-later}
use Rattle.histories.proofs.Completing.{sending-operation}
use Rattle.histories.proofs.Cutting.{AreBegun, Ends, cut, ends-older, ends-trans, is_through_by, none-left, through-each}
use Rattle.histories.proofs.Marking.{any-on, marks_at, none-has-on}
use Rattle.histories.proofs.Naming.{call-placed, created-placed, name-later, one-of-name, placed-marked}
use Rattle.histories.proofs.Refuting.{count_returned, returned-completed}
use Rattle.histories.proofs.Taking.{sent-called, taker}
use Rattle.histories.proofs.Tracing.{IsCallAt, made-record, own-call, record-with}
use Rattle.mq_laws.proofs.SendingOrder.{all-in}

-- an operation on the queue that a test finds among those that had returned by a time
pub record HasFound (time : ℕ) (name : List ℕ) (test : Operation → Bool)
    (histories : Histories) : Type 0 where
  pub index : ℕ
  pub v : Vec Operation Global
  pub has : slice_get histories index ≡ Some v
  pub k : ℕ
  pub below : k < count_returned time v.items
  pub operation : Operation
  pub is : slice_get v.items k ≡ Some operation
  pub on : is_marked (marks_at name histories index k) (descriptor_of operation.call) ≡ true
  pub passes : test operation ≡ true

any-at : {A : Type 0} (test : A → Bool) (xs : List A) → list_any test xs ≡ true →
    (k : ℕ) × (x : A) × (slice_get xs k ≡ Some x) × (test x ≡ true)
any-at test [] e = absurd (let bad : false ≡ true = e in cc)
any-at test (x ∷ xs) e = split (test x)
    (λ t. (0, x, refl, t))
    (λ f. let rest : list_any test xs ≡ true = rw f at e in let y = any-at test xs rest in
    (suc y.0, y.1, y.2, y.3))

take-at : {A : Type 0} (n : ℕ) (xs : List A) (k : ℕ) (x : A) → slice_get (take n xs) k ≡ Some x →
    (k < n) × (slice_get xs k ≡ Some x)
take-at (suc n) (y ∷ ys) zero x is = (omega arith, is)
take-at (suc n) (y ∷ ys) (suc k) x is = let rest = take-at n ys k x is in let lt = rest.0 in
    (omega (arith, lt), rest.1)
take-at _ _ k x is = absurd (let bad : None ≡ Some x = is in cc)

pub found : (time : ℕ) (name : List ℕ) (test : Operation → Bool) (histories : Histories) →
    has_returned_on time name test histories ≡ true → HasFound time name test histories
found time name test histories e =
    let a = any-at (λ (v : Vec Operation Global). list_any test
    (calls_on name (returned_by time v.items))) histories e in
    let xs = a.1.items in
    let b = any-on test name no_marks (returned_by time xs) a.3 in
    let c = take-at (count_returned time xs) xs b.k b.operation b.is in
    let lt = c.0 in
    let marks : marks_of name no_marks (take b.k (returned_by time xs)) ≡ marks_of name no_marks
    (take b.k xs) = ap (marks_of name no_marks) (take-take b.k (count_returned time xs) xs
    (omega (arith, lt))) in
    record {
      index = a.0;
      v = a.1;
      has = a.2;
      k = b.k;
      below = c.0;
      operation = b.operation;
      is = c.1;
      on = rw a.2 (ap (λ (m : List Bool). is_marked m (descriptor_of b.operation.call))
          (sym marks) ∙ b.on);
      passes = b.passes;
    }

pub found-at : (time : ℕ) (name : List ℕ) (test : Operation → Bool) (histories : Histories)
    (x : HasFound time name test histories) → operation_at histories x.index x.k ≡ Some x.operation
found-at time name test histories x = rw x.has x.is

-- what had returned by a time at which no operation is left is completed
pub found-completed : (time : ℕ) (name : List ℕ) (test : Operation → Bool) (histories : Histories)
    (past : Past) (x : HasFound time name test histories) →
    is_through_by time (current_of histories past x.index) ≡ true →
    x.k < completed past (x.index + 1)
found-completed time name test histories past x through =
    grind (arith, is_through_by, returned-completed)

pub through-all : (histories : Histories) (past : Past) → is_complete histories past ≡ true →
    (i : ℕ) → is_through (current_of histories past i) ≡ true
through-all histories past complete i = grind (arith, cases_lt, through-each, slice_get_past)

-- a receive that finds a message ------------------------------------------------------------------

-- a reply of a receive that finds a message of this priority: an earlier error, or a message that
-- goes first
abbrev Finds : Past → ℕ → Reply → Type 0
Finds past prio (reply.Refused f) = (f ≡ BadDescriptor) ⊎ (f ≡ MessageSize)
Finds past prio (reply.Got b a n) = prio ≤ priority past b
Finds past prio _ = ⊥

best-found : (past : Past) (q m prio : ℕ) (nonblock : Bool) (o : Option ℕ) (waits n : Option ℕ) →
    best past q ≡ o → is_in (present past q) m ≡ true → priority past m ≡ prio →
    Finds past prio (found_reply nonblock o waits n)
best-found past q m prio nonblock o waits n is there same =
    grind (arith, best-none, find-test, all-in)

receive-finds : (past : Past) (q m prio : ℕ) (o : Option Description) (room : ℕ) →
    is_in (present past q) m ≡ true → priority past m ≡ prio →
    ((h : Description) → o ≡ Some h → h.queue ≡ q) → Finds past prio (reply_to_receive past o room)
receive-finds past q m prio None room there same queue = inl refl
receive-finds past q m prio (Some h) room there same queue =
    let on : h.queue ≡ q = queue h refl in
    let here : is_in (present past h.queue) m ≡ true = subst (λ (k : ℕ). is_in (present past k) m ≡
    true) (sym on) there in
    let P = Finds past prio in
    either P (is_write_only h.access) _ _ (λ _. inl refl) (λ access.
    either P (int_lt (pos room) (attributes past h.queue).msgsize) _ _ (λ _. inr refl) (λ size.
    best-found past h.queue m prio h.nonblock (best past h.queue) _ _ refl here same))

timed-finds : (past : Past) (prio : ℕ) (until now : Deadline) (y : Reply) → Finds past prio y →
    Finds past prio (timed_reply until now y)
timed-finds past prio until now y finds = grind arith

-- such a reply shows no result that passes over the message
finds-passes-not : (past : Past) (prio : ℕ) (y : Reply) (x : Outcome) → Finds past prio y →
    fits past y x ≡ true → passes prio x ≡ true → ⊥
finds-passes-not past prio y x finds fit pass = grind (arith, ltb-true)

-- the theorem -------------------------------------------------------------------------------------

-- a receive from the queue in which the message is
finds-now : (past : Past) (r : Record) (o : Operation) → IsLegalNext past r → IsCallOf r o →
    (q m prio : ℕ) → is_in (present past q) m ≡ true → priority past m ≡ prio →
    ((k : ℕ) → called_queue past r.entry.process r.entry.call ≡ Some k → k ≡ q) →
    is_receive o.call ≡ true → Finds past prio r.entry.reply
finds-now past r o next call q m prio there same only receive = by r.entry.call refl
    (ap is_receive call.call ∙ receive)
  where
    by : (call : Call) → r.entry.call ≡ call → is_receive call ≡ true →
        Finds past prio r.entry.reply
    by (MqReceive d room) c e =
        let on : (h : Description) → held past r.entry.process d ≡ Some h →
        h.queue ≡ q = λ h is. only h.queue (ap (called_queue past r.entry.process) c ∙
        ap (option_map (λ (x : Description). x.queue)) is) in
        let finds = receive-finds past q m prio (held past r.entry.process d) room there same on in
        let is : reply_to past r.entry.process (MqReceive d room) r.payload ≡ r.entry.reply =
        ap (λ (x : Call). reply_to past r.entry.process x r.payload) (sym c) ∙ sym next.reply in
        subst (λ (y : Reply). Finds past prio y) is finds
    by (MqTimedReceive d room until now) c e =
        let on : (h : Description) → held past r.entry.process d ≡ Some h →
        h.queue ≡ q = λ h is. only h.queue (ap (called_queue past r.entry.process) c ∙
        ap (option_map (λ (x : Description). x.queue)) is) in
        let finds = timed-finds past prio until now _ (receive-finds past q m prio
        (held past r.entry.process d) room there same on) in
        let is : reply_to past r.entry.process (MqTimedReceive d room until now) r.payload ≡
        r.entry.reply = ap (λ (x : Call). reply_to past r.entry.process x r.payload) (sym c) ∙
        sym next.reply in
        subst (λ (y : Reply). Finds past prio y) is finds
    by _ c e = absurd (let bad : false ≡ true = e in cc)

pub completed-made : (past : Past) (p : ℕ) → completed past p ≤ made past p
completed-made past p = grind arith

-- the message was accepted by the queue of the name
record IsSent (e : Passed) (past : Past) : Type 0 where
  pub m : ℕ
  pub q : ℕ
  pub accepted : is_accepted past q m ≡ true
  pub of : IsOf past m e.prio e.message.items
  pub made : is_in (created past) q ≡ true
  pub named : name_of past q ≡ e.name.items

abbrev sent-later : (e : Passed) (before past : Past) → Ends before past → IsSent e before →
    IsSent e past
sent-later e before past ends x =
    let later = name-later before past x.q ends x.made in
    record {
      m = x.m;
      q = x.q;
      accepted = accepted-later before past x.q x.m ends x.accepted;
      of = of-later before past x.m e.prio e.message.items ends x.of;
      made = later.0;
      named = later.1 ∙ x.named;
    }

-- a receive from the queue of the name, with what was made before it
record IsReceive (e : Passed) (histories : Histories) (full past : Past) (r : Record)
    (o : Operation) : Type 0 where
  pub linear : IsLinearization histories (r ∷ past)
  pub begun : AreBegun e.to histories (r ∷ past) linear
  pub call : IsCallOf r o
  pub fits : fits past r.entry.reply o.outcome ≡ true
  pub receive : is_receive o.call ≡ true
  pub whole : IsLinearization histories full
  pub inside : Ends past full
  pub complete : is_complete histories full ≡ true
  pub on : (k : ℕ) → called_queue past r.entry.process r.entry.call ≡ Some k →
      (is_in (created past) k ≡ true) × (name_of past k ≡ e.name.items)

-- the queue of the receive is that of the message
only-queue : (histories : Histories) (e : Passed) → IsPassed histories e →
    (full past : Past) (r : Record) (o : Operation) → IsReceive e histories full past r o →
    (x : IsSent e past) →
    (k : ℕ) → called_queue past r.entry.process r.entry.call ≡ Some k → k ≡ x.q
only-queue histories e is full past r o it x k called = grind (arith, one-of-name)

-- a message that was accepted before a receive is still in its queue
record IsThere (past : Past) (prio m q : ℕ) : Type 0 where
  pub there : is_in (present past q) m ≡ true
  pub same : priority past m ≡ prio

still-there : (histories : Histories) (e : Passed) → IsPassed histories e →
    (full past : Past) (r : Record) (o : Operation) → IsReceive e histories full past r o →
    (x : IsSent e past) → IsThere past e.prio x.m x.q
still-there histories e is full past r o it x = split (is_in (taken past) x.m)
    (λ t.
    let to = accepted-sent past x.q x.m x.accepted in
    let y = taker e.to histories full past it.linear.0 it.begun.0 it.whole it.inside
    (through-all histories full it.complete) x.m x.q e.prio e.message.items x.of to t in
    let marked = (placed-marked e.to e.name.items histories past y.index y.k y.place y.placed
    is.bound y.operation y.is x.q y.on).1 in
    let on = marked ∙ (bytes_eq-Decides (name_of past x.q) e.name.items).1 x.named in
    let no = none-has-on (is_part Received e) e.name.items histories y.index y.k y.operation
    is.stays y.is on in
    let bad : true ≡ false = sym y.may ∙ no in absurd (cc))
    (λ f. record {
      there = present-or-taken past x.q x.m x.accepted ∙ ap not f;
      same = rw x.of.at x.of.priority;
    })

-- the send of the message had returned before a record of what began later
sent-before : (histories : Histories) (e : Passed) → IsPassed histories e →
    (past : Past) (linear : IsLinearization histories past) → AreBegun e.to histories past linear →
    (begin : ℕ) → e.from < begin → none_ended histories past begin (length histories) ≡ true →
    IsSent e past
sent-before histories e is past linear begun begin later in_time =
    let test : Operation → Bool = is_part Sent e in
    let x = found e.from e.name.items test histories is.sent in
    let within = slice_get_within histories x.index x.v x.has in
    let before = none-left histories past begin e.from (length histories) x.index
    in_time later within in
    let sent = found-completed e.from e.name.items test histories past x before in
    let at = found-at e.from e.name.items test histories x in
    let acc = completed-accepted e.to histories past linear begun x.index x.k x.operation e.prio
    e.message.items at x.passes sent in
    let to = accepted-sent past acc.q acc.m acc.accepted in
    let y = acc.placed in
    let called = sent-called past acc.q acc.m to y.before y.r y.ends y.at in
    let marked = placed-marked e.to e.name.items histories past x.index x.k acc.m y is.bound
    x.operation at acc.q called in
    record {
      m = acc.m;
      q = acc.q;
      accepted = acc.accepted;
      of = acc.of;
      made = marked.0;
      named = (bytes_eq-Decides (name_of past acc.q) e.name.items).0 (sym marked.1 ∙ x.on);
    }

-- a receive that finds no message of this priority or a higher one
lower-not : (histories : Histories) (e : Passed) → IsPassed histories e →
    (full past : Past) (r : Record) (o : Operation) → IsReceive e histories full past r o →
    IsSent e past → passes e.prio o.outcome ≡ true → ⊥
lower-not histories e is full past r o it x pass =
    let there = still-there histories e is full past r o it x in
    let finds = finds-now past r o it.linear.1 it.call x.q x.m e.prio there.there there.same
    (only-queue histories e is full past r o it x) it.receive in
    finds-passes-not past e.prio r.entry.reply o.outcome finds it.fits pass

-- a receive that gets a message of the priority that was sent later -------------------------------

-- the reply gives a message that goes before all others of the queue
record GivesFirst (past : Past) (q prio : ℕ) (bytes : List ℕ) : Type 0 where
  pub b : ℕ
  pub there : is_in (present past q) b ≡ true
  pub all : list_all (goes_first past b) (present past q) ≡ true
  pub of : IsOf past b prio bytes

of-message : (past : Past) (b prio : ℕ) (bytes : List ℕ) → is_message past b prio bytes ≡ true →
    IsOf past b prio bytes
of-message past b prio bytes e = grind (arith, and_parts, IsOf, eqb-true, bytes_eq-Decides)

-- a receive that finds a message waits for none, so what it got is in its queue
gives-first : (past : Past) (r : Record) (o : Operation) → IsLegalNext past r → IsCallOf r o →
    (q m prio : ℕ) (bytes : List ℕ) → is_in (present past q) m ≡ true → priority past m ≡ prio →
    ((k : ℕ) → called_queue past r.entry.process r.entry.call ≡ Some k → k ≡ q) →
    fits past r.entry.reply o.outcome ≡ true → is_receive o.call ≡ true →
    has_got prio bytes o.outcome ≡ true → GivesFirst past q prio bytes
gives-first past r o next call q m prio bytes there same only fit receive got =
    by r.entry.reply refl (finds-now past r o next call q m prio there same only receive)
    o.outcome fit got
  where
    first_of : (b : ℕ) (a n : Option ℕ) → r.entry.reply ≡ reply.Got b a n →
        is_message past b prio bytes ≡ true → GivesFirst past q prio bytes
    first_of b a n is e =
        let says : Says past r.entry.process r.entry.call (reply.Got b a n) =
        subst (λ (y : Reply). Says past r.entry.process r.entry.call y) is
        (legal_says past r next) in
        let x = got_says past r.entry.process r.entry.call b a n says in
        let y = find-in (λ (k : ℕ). list_all (goes_first past k) (present past x.2.queue))
        (present past x.2.queue) b x.6 in
        let queue : x.2.queue ≡ q = only x.2.queue (rw (x.3.1, x.4) refl) in
        record {
          b = b;
          there = subst (λ (k : ℕ). is_in (present past k) b ≡ true) queue y.0;
          all = subst (λ (k : ℕ). list_all (goes_first past b) (present past k) ≡ true) queue y.1;
          of = of-message past b prio bytes e;
        }

    by : (y : Reply) → r.entry.reply ≡ y → Finds past prio y → (x : Outcome) →
        fits past r.entry.reply x ≡ true → has_got prio bytes x ≡ true →
        GivesFirst past q prio bytes
    by (reply.Got b a n) is finds (Got p other) fit got =
        let parts = and_parts (p == prio) (bytes_eq other.items bytes) got in
        let here : is_message past b p other.items ≡ true = rw is at fit in
        let number : p ≡ prio = eqb-true _ _ parts.0 in
        let equal : other.items ≡ bytes = (bytes_eq-Decides other.items bytes).0 parts.1 in
        first_of b a n is (subst (λ (k : ℕ). is_message past b k bytes ≡ true) number
        (subst (λ (l : List ℕ). is_message past b p l ≡ true) equal here))
    by (reply.Refused g) is finds (Got p other) fit got =
        absurd (let bad : false ≡ true = rw is at fit in cc)
    by (reply.Opened d c) is finds x fit got = absurd finds
    by (reply.Queued n) is finds x fit got = absurd finds
    by (reply.Handed w) is finds x fit got = absurd finds
    by reply.Waits is finds x fit got = absurd finds
    by (reply.Collected c) is finds x fit got = absurd finds
    by (reply.Withdrawn c) is finds x fit got = absurd finds
    by (reply.Attrs s) is finds x fit got = absurd finds
    by (reply.Notice v) is finds x fit got = absurd finds
    by reply.Done is finds x fit got = absurd finds
    by y is finds _ fit got = absurd (let bad : false ≡ true = got in cc)

-- the send of a message that nobody had begun to send by this time came after those that had
-- returned
later-not : (histories : Histories) (e : Passed) → IsPassed histories e →
    (full past : Past) (r : Record) (o : Operation) → IsReceive e histories full past r o →
    IsSent e past →
    (v : Vec ℕ Global) → e.other ≡ Some v → has_got e.prio v.items o.outcome ≡ true → ⊥
later-not histories e is full past r o it x v other got =
    let bytes : List ℕ = v.items in
    let there = still-there histories e is full past r o it x in
    let only = only-queue histories e is full past r o it x in
    let y = gives-first past r o it.linear.1 it.call x.q x.m e.prio bytes there.there there.same
    only it.fits it.receive got in
    let sent = admitted-sent past x.q y.b (present-admitted past x.q y.b y.there) in
    let both : Some y.of.r ≡ Some sent.r = sym y.of.at ∙ sent.at in
    let same : y.of.r ≡ sent.r = cc in
    let z = record-with e.to histories past it.linear.0 it.begun.0 y.b sent.r sent.at in
    let from : ComesFrom histories z.before sent.r = z.linear.2 in
    let says = legal_says z.before sent.r z.linear.1 in
    let own = ending-reply z.before sent.r.entry.process sent.r.entry.call sent.r.entry.reply
    says sent.reply in
    let call = own-call histories z.before sent.r from own in
    let prio : priority_given sent.r.entry.call ≡ e.prio =
    ap (λ (s : Record). priority_given s.entry.call) (sym same) ∙ y.of.priority in
    let payload : sent.r.payload ≡ bytes = ap (λ (s : Record). s.payload) (sym same) ∙ y.of.bytes in
    let sending : is_sending e.prio bytes sent.r ≡ true =
    rw (
      sent.send,
      sent.reply,
      eq-eqb _ _ prio,
      (bytes_eq-Decides sent.r.payload bytes).1
          payload,
    ) refl in
    let sends_it = sending-operation z.before sent.r from.operation e.prio bytes call
    from.fits sending in
    let placed : IsCallAt e.to histories past from.index (completed z.before (from.index + 1)) y.b =
    record {
      before = z.before;
      r = sent.r;
      linear = z.linear;
      begun = z.begun;
      ends = z.ends;
      at = z.place;
      of = refl;
      number = refl;
      own = own;
    } in
    let called = sent-called past x.q y.b sent z.before sent.r z.ends z.place in
    let marked = (placed-marked e.to e.name.items histories past from.index
    (completed z.before (from.index + 1)) y.b placed is.bound from.operation from.is
    x.q called).1 in
    let on = marked ∙ (bytes_eq-Decides (name_of past x.q) e.name.items).1 x.named in
    let test : is_part SentBefore e from.operation ≡ false = none-has-on (is_part SentBefore e)
    e.name.items histories from.index (completed z.before (from.index + 1)) from.operation
    is.later from.is on in
    let none : sends_by e.from e.prio bytes from.operation ≡ false =
    subst (λ (b : Option (Vec ℕ Global)). sends_other_of e.from e.prio b from.operation ≡
    false) other test in
    let late : nat_le from.operation.begin e.from ≡ false =
    split (nat_le from.operation.begin e.from)
    (λ t. let bad : true ≡ false = rw (t, sends_it) at none in absurd (cc))
    (λ f. f) in
    let after = leb-false from.operation.begin e.from late in
    let first = sent-before histories e is z.before z.linear.0 z.begun.0 from.operation.begin
    after from.in_time in
    let old : Ends z.before past = ends-older sent.r z.before past z.ends in
    let was = sent-later e z.before past old first in
    let still = still-there histories e is full past r o it was in
    let queue : was.q ≡ x.q = one-of-name e.to e.name.items histories past it.linear.0 it.begun.0
    is.bound was.q x.q was.made x.made was.named x.named in
    let here : is_in (present past x.q) was.m ≡ true =
    subst (λ (k : ℕ). is_in (present past k) was.m ≡ true) queue still.there in
    let goes = all-in (goes_first past y.b) (present past x.q) was.m y.all here in
    let mine : priority past y.b ≡ e.prio = rw y.of.at y.of.priority in
    let below = record_at-below z.before first.m first.of.r first.of.at in
    let place = z.place in
    goes-not past y.b was.m (mine ∙ sym still.same) (omega (arith, below, place)) goes
  where
    goes-not : (past : Past) (b m : ℕ) → priority past b ≡ priority past m → m < b →
        goes_first past b m ≡ true → ⊥
    goes-not past b m same lt e = by (priority past b) (priority past m) same lt e
      where
        by : (x y : ℕ) → x ≡ y → m < b → (nat_lt y x || (x == y && nat_le b m)) ≡ true → ⊥
        by x y same lt e = grind (arith, nat_tests)

-- the theorem
pub passed-refutes : (histories : Histories) (e : Passed) → IsPassed histories e →
    HasNoOrder histories
passed-refutes histories e is past linear = split (is_complete histories past)
    (λ complete.
    let c = cut e.to histories past linear complete in
    let test : Operation → Bool = is_part PassedOver e in
    let it = found e.to e.name.items test histories is.passed in
    let o = it.operation in
    let within = slice_get_within histories it.index it.v it.has in
    let received = found-completed e.to e.name.items test histories c.part it
    (c.through it.index within) in
    let few = completed-made c.part (it.index + 1) in
    let at = found-at e.to e.name.items test histories it in
    let x = made-record e.to histories c.part c.linear c.begun it.index it.k o at
    (omega (arith, received, few)) in
    let one = and_parts (is_receive o.call && nat_lt e.from o.begin)
    (passes e.prio o.outcome || got_other e.prio e.other o.outcome) it.passes in
    let two = and_parts (is_receive o.call) (nat_lt e.from o.begin) one.0 in
    let p = x.placed in
    let sent = sent-before histories e is p.before p.linear.0 p.begun.0 o.begin
    (ltb-true e.from o.begin two.1) x.in_time in
    let received_it : IsReceive e histories past p.before p.r o = record {
      linear = p.linear;
      begun = p.begun;
      call = x.call;
      fits = x.fits;
      receive = two.0;
      whole = linear;
      inside = ends-older p.r p.before past (ends-trans (p.r ∷ p.before) c.part past p.ends c.ends);
      complete = complete;
      on = λ k called.
          let made = created-placed e.to histories c.part it.index it.k x.place p k called in
          let marked = call-placed e.to e.name.items histories c.part it.index it.k x.place p
          is.bound o at k called in
          (made, (bytes_eq-Decides (name_of p.before k) e.name.items).0 (sym marked ∙ it.on));
    } in
    split (passes e.prio o.outcome)
    (λ pass. absurd (lower-not histories e is past p.before p.r o received_it sent pass))
    (λ no.
    let other : got_other e.prio e.other o.outcome ≡ true = rw no at one.1 in
    absurd (by-other o.outcome e.other refl other (later-not histories e is past p.before p.r o
    received_it sent))))
    (λ f. f)
  where
    by-other : (x : Outcome) (other : Option (Vec ℕ Global)) → e.other ≡ other →
        got_other e.prio e.other x ≡ true →
        ((v : Vec ℕ Global) → e.other ≡ Some v → has_got e.prio v.items x ≡ true → ⊥) → ⊥
    by-other x None same got refutes = let bad : false ≡ true = rw same at got in cc
    by-other x (Some v) same got refutes = refutes v same (rw same at got)
