-- The message of a send that succeeded is accepted before the send returns.
use Rattle.std.proofs.lemmas.Bool.Decides.{nat_tests}
use Rattle.std.proofs.Common.{◌≡◌, ℕ, ◌+◌, ◌≤◌, ◌<◌, ◌==◌, true, false, not, List, [], ◌∷◌, length, Option, Some, None, inl, inr, refl, sym, ◌∙◌, ap, subst, arith, eqb-true, eq-eqb, unwrap_or}
use Rattle.std.proofs.lemmas.Bool.{and_parts, cases_lt, or_right, or_left}
use Rattle.std.proofs.lemmas.Slice.Eq.{bytes_eq-Decides}
use Rattle.mq_model.specs.Record.{Record, Past, Process, record_at}
use Rattle.mq_model.specs.Descriptors.{called_queue}
use Rattle.mq_model.specs.Messages.{admits, admitted, blocked_sends, entered, is_accepted, is_in, is_send, priority_given, waiting_sends}
use Rattle.mq_model.specs.Waits.{is_wait, named_wait, open_wait, answered_by}
use Rattle.mq_model.specs.Legality.{IsLegalNext, Legal}
use Rattle.mq_model.specs.declared.entries.Call.{Call}
use Rattle.mq_model.specs.declared.entries.Call.TheVariants.{MqSend, Collect, MqTimedSend, Withdraw}
use Rattle.mq_model.specs.declared.entries.Reply.{Reply}
use Rattle.mq_model.specs.declared.entries.Reply.TheVariants as reply
use Rattle.mq_model.proofs.Cases.{Says}
use Rattle.mq_model.proofs.Frames.{record_at-older}
use Rattle.mq_model.proofs.LegalReplies.{legal_says}
use Rattle.mq_model.proofs.NamedWaits.{least-in}
use Rattle.mq_model.proofs.Places.{split, is_in-filter, is_in-with_place}
use Rattle.mq_model.proofs.Prefixes.{record_at-below}
use Rattle.mq_model.proofs.Waiters.{admits-least}
use Rattle.mq_laws.specs.Laws.{cause, Has}
use Rattle.mq_laws.proofs.GivenOnce.{answered-named, collected}
use Rattle.mq_laws.proofs.LegalPlaces.{has-cases, has-record}
use Rattle.mq_laws.proofs.SentMessages.{is_sent}
use Rattle.histories.specs.OwnCalls.{ends_wait}
use Rattle.histories.specs.declared.operation.Operation.{Operation}
use Rattle.histories.specs.declared.operation.Outcome.{Outcome}
use Rattle.histories.specs.declared.operation.Outcome.TheVariants.{Done, Opened, Got, Notice, Refused}
use Rattle.histories.specs.Histories.{Histories, completed, current_of}
use Rattle.histories.specs.Linearizations.{ComesFrom, IsCallOf, IsLinearization}
use Rattle.histories.specs.Outcomes.{completes, fits, is_handed}
use Rattle.histories.specs.RealTime.{operation_at}
use Rattle.histories.specs.Passed.{has_sent}
use Rattle.histories.proofs.Completing.{completed-other, completed-own, added, sent-payload}
use Rattle.histories.proofs.Cutting.{AreBegun, Ends}
use Rattle.histories.proofs.Tracing.{IsCallAt, call-older, legal-linear, own-call, waits-for}

-- the record at this place is of a send of this message
pub record IsOf (past : Past) (m prio : ℕ) (message : List ℕ) : Type 0 where
  pub r : Record
  pub at : record_at past m ≡ Some r
  pub priority : priority_given r.entry.call ≡ prio
  pub bytes : r.payload ≡ message

-- the message of the k-th operation of a process was accepted
pub record HasAccepted (time : ℕ) (histories : Histories) (past : Past) (index k prio : ℕ)
    (message : List ℕ) : Type 0 where
  pub m : ℕ
  pub q : ℕ
  pub accepted : is_accepted past q m ≡ true
  pub of : IsOf past m prio message
  pub placed : IsCallAt time histories past index k m

pub of-older : (past : Past) (r : Record) (m prio : ℕ) (message : List ℕ) →
    IsOf past m prio message → IsOf (r ∷ past) m prio message
of-older past r m prio message x = record {
  r = x.r;
  at = record_at-older past r m
      (record_at-below past m x.r x.at) ∙ x.at;
  priority = x.priority;
  bytes = x.bytes;
}

pub accepted-more : (past : Past) (r : Record) (q m : ℕ) → is_accepted past q m ≡ true →
    is_accepted (r ∷ past) q m ≡ true
accepted-more past r q m h = grind (arith, or_left, is_in-with_place, or_right)

has-older : (time : ℕ) (histories : Histories) (past : Past) (r : Record) (index k prio : ℕ)
    (message : List ℕ) → HasAccepted time histories past index k prio message →
    HasAccepted time histories (r ∷ past) index k prio message
has-older time histories past r index k prio message x =
    grind (arith, accepted-more, of-older, call-older)

-- the queue of a send that did not fail
pub send-on : (past : Past) (p : Process) (call : Call) (y : Reply) → Says past p call y →
    is_send call ≡ true → is_sent y ≡ true → (q : ℕ) × (called_queue past p call ≡ Some q)
send-on past p (MqSend d prio len) (reply.Queued n) says send sent = (says.0.queue, rw says.1 refl)
send-on past p (MqSend d prio len) (reply.Handed w) says send sent = (says.0.queue, rw says.1 refl)
send-on past p (MqSend d prio len) reply.Waits says send sent = (says.0.queue, rw says.1 refl)
send-on past p (MqTimedSend d prio len until now) (reply.Queued n) says send sent =
    (says.0.queue, rw says.1 refl)
send-on past p (MqTimedSend d prio len until now) (reply.Handed w) says send sent =
    (says.0.queue, rw says.1 refl)
send-on past p (MqTimedSend d prio len until now) reply.Waits says send sent =
    (says.0.queue, rw says.1 refl)
send-on past p call (reply.Opened d c) says send sent = absurd (let bad : false ≡ true = sent in cc)
send-on past p call (reply.Got m a n) says send sent = absurd (let bad : false ≡ true = sent in cc)
send-on past p call (reply.Collected b) says send sent = absurd (let bad : false ≡ true = sent in
    cc)
send-on past p call (reply.Withdrawn b) says send sent = absurd (let bad : false ≡ true = sent in
    cc)
send-on past p call (reply.Attrs s) says send sent = absurd (let bad : false ≡ true = sent in cc)
send-on past p call (reply.Notice v) says send sent = absurd (let bad : false ≡ true = sent in cc)
send-on past p call reply.Done says send sent = absurd (let bad : false ≡ true = sent in cc)
send-on past p call (reply.Refused f) says send sent = absurd (let bad : false ≡ true = sent in cc)
send-on past p _ y says send sent = absurd (let bad : false ≡ true = send in cc)

-- a collect and a withdrawal have their own replies
pub ending-reply : (past : Past) (p : Process) (call : Call) (y : Reply) → Says past p call y →
    is_sent y ≡ true → ends_wait call ≡ false
ending-reply past p call y says sent = grind (arith, is_sent)

-- what it means that an operation sends a message
record Sends (o : Operation) (prio : ℕ) (message : List ℕ) : Type 0 where
  pub send : is_send o.call ≡ true
  pub priority : priority_given o.call ≡ prio
  pub bytes : o.given.items ≡ message
  pub done : o.outcome ≡ Done

sends-of : (o : Operation) (prio : ℕ) (message : List ℕ) → has_sent prio message o ≡ true →
    Sends o prio message
sends-of o prio message e = grind (arith, and_parts, eqb-true, bytes_eq-Decides)

-- a record of the operation is of its message
call-of : (past : Past) (r : Record) (o : Operation) (m prio : ℕ) (message : List ℕ) →
    Sends o prio message → IsCallOf r o → is_sent r.entry.reply ≡ true → record_at past m ≡ Some r →
    IsOf past m prio message
call-of past r o m prio message sends is sent at = grind (arith, sent-payload)

-- a send that is queued, or handed over
newest-accepted : (past : Past) (r : Record) (q : ℕ) → is_send r.entry.call ≡ true →
    called_queue past r.entry.process r.entry.call ≡ Some q → (y : Reply) → r.entry.reply ≡ y →
    is_sent y ≡ true → is_wait y ≡ false → is_accepted (r ∷ past) q (length past) ≡ true
newest-accepted past r q send on y is sent goes = grind (arith, eq-eqb, or_right)

enters : (past : Past) (r : Record) (q w : ℕ) → entered past r.entry q ≡ Some w →
    is_in (admitted (r ∷ past) q) w ≡ true
enters past r q w e = rw e (rw (eq-eqb w w refl) refl)

entered-got : (past : Past) (r : Record) (q w m : ℕ) (a n : Option ℕ) →
    r.entry.reply ≡ reply.Got m a n → a ≡ Some w → is_in (blocked_sends past q) w ≡ true →
    entered past r.entry q ≡ Some w
entered-got past r q w m a n is e blocked = grind arith

-- a waiting send that a receive admits is in the queue
admits-admitted : (past : Past) → Legal past → (k w : ℕ) → Has admits past k w →
    (q : ℕ) × (is_in (admitted past q) w ≡ true)
admits-admitted [] legal k w h = absurd (let bad : None ≡ Some w = h in cc)
admits-admitted (r ∷ past) legal k w h = has-cases admits past r k w h
    (λ here is. by r.entry.reply refl is)
    (λ old lt. let x = admits-admitted past legal.0 k w old in
    (x.0, is_in-with_place (entered past r.entry x.0) (admitted past x.0) w x.1))
  where
    by : (y : Reply) → r.entry.reply ≡ y → admits y ≡ Some w →
        (q : ℕ) × (is_in (admitted (r ∷ past) q) w ≡ true)
    by (reply.Got m a n) is e =
        let says : Says past r.entry.process r.entry.call (reply.Got m a n) =
        subst (λ (y : Reply). Says past r.entry.process r.entry.call y) is
        (legal_says past r legal.1) in
        let x = admits-least past r.entry.process r.entry.call m a n says in
        let waits = least-in (waiting_sends past x.0) w (sym x.1 ∙ e) in
        let blocked : is_in (blocked_sends past x.0) w ≡ true =
        (is_in-filter _ (blocked_sends past x.0) w waits).0 in
        (x.0, enters past r x.0 w (entered-got past r x.0 w m a n is e blocked))
    by _ is e = absurd (let bad : None ≡ Some w = e in cc)

-- an entry that serves a wait and hands nothing over admits a send
admitting : (past : Past) (b w : ℕ) → Has named_wait past b w → not (is_handed past b) ≡ true →
    Has admits past b w
admitting past b w h not_handed = grind (arith, has-record)

-- the wait of a process is for its current operation, so an admitted one is of its message
collected-accepted : (histories : Histories) (past : Past) (linear : IsLinearization histories past)
    (time : ℕ) → AreBegun time histories past linear → (r : Record) → IsLegalNext past r →
    (index : ℕ) (o : Operation) (prio : ℕ) (message : List ℕ) →
    r.entry.process ≡ index + 1 → current_of histories past index ≡ Some o → Sends o prio message →
    (b : ℕ) → r.entry.reply ≡ reply.Collected b → not (is_handed past b) ≡ true →
    HasAccepted time histories past index (completed past (index + 1)) prio message
collected-accepted histories past linear time begun r legal index o prio message process is sends b
    was not_handed =
    let legal_past = legal-linear histories past linear in
    let c = collected past r legal b (ap cause was) in
    let x = answered-named past r.entry.process b c.answered in
    let admits_it = admitting past b x.w x.named not_handed in
    let q = admits-admitted past legal_past b x.w admits_it in
    let y = waits-for time histories past linear begun r.entry.process x.w x.opened in
    grind (arith, nat_tests, or_left, call-of, IsCallAt)
  where
    waits-sent : (y : Reply) → is_wait y ≡ true → is_sent y ≡ true
    waits-sent reply.Waits e = refl
    waits-sent (reply.Queued n) e = refl
    waits-sent (reply.Handed w) e = refl
    waits-sent _ e = absurd (let bad : false ≡ true = e in cc)

-- the record that completes a send
completing-accepted : (histories : Histories) (past : Past)
    (linear : IsLinearization histories past) (time : ℕ) → AreBegun time histories past linear →
    (r : Record) → IsLegalNext past r → (from : ComesFrom histories past r) →
    from.operation.begin ≤ time → (prio : ℕ) (message : List ℕ) →
    Sends from.operation prio message → is_wait r.entry.reply ≡ false →
    HasAccepted time histories (r ∷ past) from.index (completed past (from.index + 1)) prio
    message
completing-accepted histories past linear time begun r legal from by_then prio message sends goes =
    let fit : completes past r.entry.reply ≡ true =
    subst (λ (x : Outcome). fits past r.entry.reply x ≡ true) sends.done from.fits in
    by r.entry.reply refl fit
  where
    Accepts : Type 0
    Accepts = HasAccepted time histories (r ∷ past) from.index
        (completed past (from.index + 1)) prio message

    now : (y : Reply) → r.entry.reply ≡ y → is_sent y ≡ true → is_wait y ≡ false → Accepts
    now y is sent quiet =
        let says : Says past r.entry.process r.entry.call r.entry.reply = legal_says past r legal in
        let sent_now : is_sent r.entry.reply ≡ true = subst (λ (x : Reply). is_sent x ≡ true)
        (sym is) sent in
        let own = ending-reply past r.entry.process r.entry.call r.entry.reply says sent_now in
        let call = own-call histories past r from own in
        let send : is_send r.entry.call ≡ true = ap is_send call.call ∙ sends.send in
        let q = send-on past r.entry.process r.entry.call r.entry.reply says send sent_now in
        let here : record_at (r ∷ past) (length past) ≡ Some r =
        rw (eq-eqb (length past) (length past) refl) refl in
        record {
          m = length past;
          q = q.0;
          accepted = newest-accepted past r q.0 send q.1 y is sent quiet;
          of = call-of (r ∷ past) r from.operation (length past) prio message sends
              call sent_now here;
          placed = record {
            before = past;
            r = r;
            linear = (linear, legal, from);
            begun = (begun, by_then);
            ends = inl refl;
            at = refl;
            of = refl;
            number = refl;
            own =
                own;
          };
        }

    by : (y : Reply) → r.entry.reply ≡ y → completes past y ≡ true → Accepts
    by (reply.Queued n) is fit = now (reply.Queued n) is refl refl
    by (reply.Handed w) is fit = now (reply.Handed w) is refl refl
    by (reply.Collected b) is fit =
        has-older time histories past r from.index (completed past (from.index + 1)) prio message
        (collected-accepted histories past linear time begun r legal from.index from.operation prio
        message from.process from.is sends b is fit)
    by reply.Waits is fit = absurd (let bad : true ≡ false = subst (λ (x : Reply). is_wait x ≡
        false) is goes in cc)
    by reply.Done is fit =
        absurd (no-done r.entry.call
        (subst (λ (y : Reply). Says past r.entry.process r.entry.call y) is
        (legal_says past r legal)) (is_call is))
      where
        is_call : r.entry.reply ≡ reply.Done → is_send r.entry.call ≡ true
        is_call is = split (ends_wait r.entry.call)
            (λ ends. absurd (not-ending r.entry.call ends
            (subst (λ (y : Reply). Says past r.entry.process r.entry.call y) is
            (legal_says past r legal))))
            (λ own. ap is_send (own-call histories past r from own).call ∙ sends.send)
          where
            not-ending : (call : Call) → ends_wait call ≡ true →
                Says past r.entry.process call reply.Done → ⊥
            not-ending Collect e says = let bad : reply.Done ≡
                reply.Collected (unwrap_or (answered_by past r.entry.process) 0) = says in cc
            not-ending (Withdraw now) e says = let bad : reply.Done ≡
                reply.Withdrawn (unwrap_or (open_wait past r.entry.process) 0) = says in cc
            not-ending _ e says = let bad : false ≡ true = e in cc

        no-done : (call : Call) → Says past r.entry.process call reply.Done → is_send call ≡ true →
            ⊥
        no-done (MqSend d prio len) says send = says.3
        no-done (MqTimedSend d prio len until now) says send = says.3
        no-done _ says send = let bad : false ≡ true = send in cc
    by (reply.Opened d c) is fit = absurd (let bad : false ≡ true = fit in cc)
    by (reply.Got m a n) is fit = absurd (let bad : false ≡ true = fit in cc)
    by (reply.Withdrawn b) is fit = absurd (let bad : false ≡ true = fit in cc)
    by (reply.Attrs s) is fit = absurd (let bad : false ≡ true = fit in cc)
    by (reply.Notice v) is fit = absurd (let bad : false ≡ true = fit in cc)
    by (reply.Refused f) is fit = absurd (let bad : false ≡ true = fit in cc)

-- the message of each completed send was accepted
pub completed-accepted : (time : ℕ) (histories : Histories) (past : Past)
    (linear : IsLinearization histories past) → AreBegun time histories past linear →
    (index k : ℕ) (o : Operation) (prio : ℕ) (message : List ℕ) →
    operation_at histories index k ≡ Some o → has_sent prio message o ≡ true →
    k < completed past (index + 1) → HasAccepted time histories past index k prio message
completed-accepted time histories [] linear begun index k o prio message is sent below =
    absurd (omega (arith, below))
completed-accepted time histories (r ∷ past) linear begun index k o prio message is sent below =
    elim (cases_lt k (completed past (index + 1))) [
      | inl before ↦ has-older time histories past r index k prio message
          (completed-accepted time histories past linear.0 begun.0 index k o prio
          message is sent before)
      | inr after ↦ split (r.entry.process == index + 1)
          (λ own.
          let mine : r.entry.process ≡ index + 1 = eqb-true _ _ own in
          let more = completed-own past r (index + 1) mine linear.1 in
          let from : ComesFrom histories past r = linear.2 in
          split (is_wait r.entry.reply)
          (λ waits. let none : added r.entry.reply ≡ 0 = rw waits refl in
          absurd (omega (arith, more, none, below, after)))
          (λ goes.
          let one : added r.entry.reply ≡ 1 = rw goes refl in
          let number : completed past (index + 1) ≡ k = omega (arith, more, one, below, after) in
          let at : from.index ≡ index = let p = from.process in omega (arith, p, mine) in
          let here : current_of histories past index ≡ Some o =
          ap (λ (n : ℕ). operation_at histories index n) number ∙ is in
          let there : current_of histories past index ≡ Some from.operation =
          subst (λ (n : ℕ). current_of histories past n ≡ Some from.operation) at from.is in
          let both : Some from.operation ≡ Some o = sym there ∙ here in
          let same : from.operation ≡ o = cc in
          let has = completing-accepted histories past linear.0 time begun.0 r linear.1 from begun.1
          prio message (subst (λ (x : Operation). Sends x prio message) (sym same)
          (sends-of o prio message sent)) goes in
          let has_his : HasAccepted time histories (r ∷ past) index
          (completed past (index + 1)) prio
          message = subst (λ (i : ℕ). HasAccepted time histories (r ∷ past) i
          (completed past (i + 1)) prio message) at has in
          subst (λ (n : ℕ). HasAccepted time histories (r ∷ past) index n prio message)
          number has_his))
          (λ other. let same = completed-other past r (index + 1)
          (λ e. let k : (r.entry.process == index + 1) ≡ true = eq-eqb _ _ e in let bad : true ≡
          false = sym k ∙ other in cc) in absurd (omega (arith, same, below, after)))
    ]

-- what was accepted stays accepted
pub accepted-later : (before past : Past) (q m : ℕ) → Ends before past →
    is_accepted before q m ≡ true → is_accepted past q m ≡ true
accepted-later before [] q m ends h = subst (λ (x : Past). is_accepted x q m ≡ true) ends h
accepted-later before (r ∷ past) q m ends h = elim ends [
  | inl same ↦ subst (λ (x : Past). is_accepted x q m ≡ true) same h
  | inr older ↦ accepted-more past r q m (accepted-later before past q m older h)
]

pub of-later : (before past : Past) (m prio : ℕ) (message : List ℕ) → Ends before past →
    IsOf before m prio message → IsOf past m prio message
of-later before [] m prio message ends h = subst (λ (x : Past). IsOf x m prio message) ends h
of-later before (r ∷ past) m prio message ends h = elim ends [
  | inl same ↦ subst (λ (x : Past). IsOf x m prio message) same h
  | inr older ↦ of-older past r m prio message (of-later before past m prio message older h)
]
