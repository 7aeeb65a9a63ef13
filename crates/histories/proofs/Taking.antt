-- Which operation takes a message from its queue.
use Rattle.std.proofs.lemmas.Bool.Decides.{nat_tests}
use Rattle.std.proofs.Common.{◌≡◌, ℕ, ◌+◌, ◌≤◌, ◌<◌, ◌==◌, Bool, true, false, not, ◌&&◌, List, [], ◌∷◌, length, Option, Some, ◌⊎◌, inl, inr, refl, sym, ◌∙◌, ap, subst, arith, eqb-true, eq-eqb, rules}
use Rattle.std.specs.Option.{option_map, unwrap_or}
use Rattle.std.specs.Str.{bytes_eq}
use Rattle.std.proofs.lemmas.Bool.{and_parts, le-leb, or_right}
use Rattle.std.proofs.lemmas.Slice.Eq.{bytes_eq-Decides}
use Rattle.mq_model.specs.Record.{Record, Past, record_at}
use Rattle.mq_model.specs.Descriptors.{called_queue, is_on}
use Rattle.mq_model.specs.Messages.{blocked_receives, blocks_receive, is_in, is_receive, least, present, taken, taken_by, waiting_receives, with_place}
use Rattle.mq_model.specs.Waits.{answered_by, named_wait, open_wait}
use Rattle.mq_model.specs.Legality.{Legal, may_call}
use Rattle.mq_model.specs.declared.entries.Call.{Call}
use Rattle.mq_model.specs.declared.entries.Call.TheVariants.{Collect, Withdraw}
use Rattle.mq_model.specs.declared.entries.Reply.{Reply}
use Rattle.mq_model.specs.declared.entries.Reply.TheVariants as reply
use Rattle.mq_model.specs.declared.callers.WaitKind.TheVariants.{Receive}
use Rattle.mq_model.proofs.Cases.{Says}
use Rattle.mq_model.proofs.Frames.{record_at-older}
use Rattle.mq_model.proofs.LegalReplies.{got_says, legal_says}
use Rattle.mq_model.proofs.NamedWaits.{blocked-cases, least-in, newest-receive}
use Rattle.mq_model.proofs.Places.{find-in, is_in-filter, split}
use Rattle.mq_model.proofs.Prefixes.{first-all, record_at-below}
use Rattle.mq_model.proofs.Presence.{place-is, present-admitted, present-below}
use Rattle.mq_model.proofs.Steps.{taken-below}
use Rattle.mq_model.proofs.Waiters.{waiter}
use Rattle.mq_laws.specs.Laws.{cause, withdrawn_wait, Has}
use Rattle.mq_laws.proofs.EndedWaits.{has-older, named-once, withdrawn-unnamed}
use Rattle.mq_laws.proofs.GivenOnce.{answered-named, collected}
use Rattle.mq_laws.proofs.GoneQueues.{same-queue}
use Rattle.mq_laws.proofs.LegalPlaces.{first-older, has-here}
use Rattle.mq_laws.proofs.SentMessages.{IsSentTo, admitted-sent}
use Rattle.histories.specs.OwnCalls.{ends_wait}
use Rattle.histories.specs.declared.operation.Operation.{Operation}
use Rattle.histories.specs.declared.operation.Outcome.{Outcome}
use Rattle.histories.specs.declared.operation.Outcome.TheVariants.{Pending, Done, Got}
use Rattle.histories.specs.Histories.{Histories, completed, current_of, is_pending, is_through}
use Rattle.histories.specs.Linearizations.{ComesFrom, IsLinearization}
use Rattle.histories.specs.Outcomes.{fits, has_handed, hands, is_handed, is_message}
use Rattle.histories.specs.RealTime.{operation_at}
use Rattle.histories.specs.Excess.{has_got}
use Rattle.histories.specs.Passed.{may_receive}
use Rattle.histories.proofs.Accepting.{IsOf, ending-reply, of-older}
use Rattle.histories.proofs.Completing.{free}
use Rattle.histories.proofs.Cutting.{AreBegun, Ends, ends-length, ends-older}
use Rattle.histories.proofs.Tracing.{IsCallAt, call-older, current-other, legal-linear, own-call, waits-for}
use Rattle.histories.proofs.Admitting.{some-not-none}

-- an operation that began by this time, and was made on this queue, may have received the message
pub record HasTaker (time : ℕ) (histories : Histories) (past : Past) (q prio : ℕ)
    (message : List ℕ) : Type 0 where
  pub index : ℕ
  pub k : ℕ
  pub operation : Operation
  pub is : operation_at histories index k ≡ Some operation
  pub may : may_receive time prio message operation ≡ true
  pub place : ℕ
  pub placed : IsCallAt time histories past index k place
  pub on : called_queue placed.before placed.r.entry.process placed.r.entry.call ≡ Some q

taker-older : (time : ℕ) (histories : Histories) (past : Past) (r : Record) (q prio : ℕ)
    (message : List ℕ) → HasTaker time histories past q prio message →
    HasTaker time histories (r ∷ past) q prio message
taker-older time histories past r q prio message x = record {
  index = x.index;
  k = x.k;
  operation = x.operation;
  is = x.is;
  may = x.may;
  place = x.place;
  placed =
      call-older time histories past r x.index x.k x.place x.placed;
  on = x.on;
}

-- an older message was sent to its queue before the latest record
sent-older_part : (past : Past) (r : Record) (q m : ℕ) → m < length past → IsSentTo (r ∷ past) q m →
    IsSentTo past q m
sent-older_part past r q m lt x = grind (arith, record_at-older, first-older)

-- the queue to which the latest record sent its message
sent-here : (past : Past) (r : Record) (q : ℕ) → IsSentTo (r ∷ past) q (length past) →
    called_queue past r.entry.process r.entry.call ≡ Some q
sent-here past r q x = grind (arith, eq-eqb, first-older, first-all)

-- the queue of a waiting receive is that of its call
pub blocked-called : (past : Past) (q w : ℕ) → is_in (blocked_receives past q) w ≡ true →
    (before : Past) (r : Record) → Ends (r ∷ before) past → length before ≡ w →
    called_queue before r.entry.process r.entry.call ≡ Some q
blocked-called [] q w there before r ends at = absurd (let bad : false ≡ true = there in cc)
blocked-called (s ∷ past) q w there before r ends at = elim ends [
  | inl same ↦
      let tails : before ≡ past = cc in
      let heads : r ≡ s = cc in
      let place : w ≡ length past = sym at ∙ ap length tails in
      let here = newest-receive past s q (subst (λ k. is_in (blocked_receives (s ∷ past) q) k ≡
      true) place there) in
      let on = place-is (called_queue past s.entry.process s.entry.call) q
      (and_parts (blocks_receive s.entry.call s.entry.reply) (is_on past s.entry q) here).1 in
      ap (λ (b : Past). called_queue b r.entry.process r.entry.call) tails ∙
      ap (λ (x : Record). called_queue past x.entry.process x.entry.call) heads ∙ on
  | inr older ↦
      let le = ends-length (r ∷ before) past older in
      let apart : length past ≡ w → ⊥ = λ e. omega (arith, le, at, e) in
      blocked-called past q w ((blocked-cases past s Receive q w there).1 apart) before r older at
]

-- the queue to which a message was sent is that of its call
pub sent-called : (past : Past) (q m : ℕ) → IsSentTo past q m → (before : Past) (r : Record) →
    Ends (r ∷ before) past → length before ≡ m → called_queue before r.entry.process r.entry.call ≡
    Some q
sent-called [] q m to before r ends at = absurd (let bad : r ∷ before ≡ [] = ends in cc)
sent-called (s ∷ past) q m to before r ends at = elim ends [
  | inl same ↦
      let tails : before ≡ past = cc in
      let heads : r ≡ s = cc in
      let place : m ≡ length past = sym at ∙ ap length tails in
      let on = sent-here past s q (subst (λ k. IsSentTo (s ∷ past) q k) place to) in
      ap (λ (b : Past). called_queue b r.entry.process r.entry.call) tails ∙
      ap (λ (x : Record). called_queue past x.entry.process x.entry.call) heads ∙ on
  | inr older ↦
      let le = ends-length (r ∷ before) past older in
      sent-called past q m (sent-older_part past s q m (omega (arith, le, at)) to) before r older at
]

-- a send that hands its message over does so on its queue
pub handed-on : (past : Past) (p w : ℕ) (call : Call) → Says past p call (reply.Handed w) →
    (q : ℕ) × (called_queue past p call ≡ Some q) × (least (waiting_receives past q) ≡ Some w)
handed-on past p w call says = grind arith

-- what is_message says of a record that is of a message
message-is : (past : Past) (m prio p : ℕ) (message bytes : List ℕ) → IsOf past m prio message →
    is_message past m p bytes ≡ true → (p ≡ prio) × (bytes ≡ message)
message-is past m prio p message bytes x is = grind (arith, and_parts, eqb-true, bytes_eq-Decides)

got-of : (p prio : ℕ) (bytes message : List ℕ) → p ≡ prio → bytes ≡ message →
    (p == prio && bytes_eq bytes message) ≡ true
got-of p prio bytes message same equal =
    rw (eq-eqb p prio same, (bytes_eq-Decides bytes message).1 equal) refl

-- what a reply that gives the message shows of its operation
gives-it : (time : ℕ) (o : Operation) (prio : ℕ) (message : List ℕ) → o.begin ≤ time →
    is_receive o.call ≡ true →
    (has_got prio message o.outcome ≡ true) ⊎ (is_pending o.outcome ≡ true) →
    may_receive time prio message o ≡ true
gives-it time o prio message begun receive how = grind (arith, le-leb, or_right)

got-outcome : (past : Past) (m prio : ℕ) (message : List ℕ) (a n : Option ℕ) (x : Outcome) →
    IsOf past m prio message → fits past (reply.Got m a n) x ≡ true →
    (has_got prio message x ≡ true) ⊎ (is_pending x ≡ true)
got-outcome past m prio message a n Pending of fit = inr refl
got-outcome past m prio message a n (Got p bytes) of fit = let same =
    message-is past m prio p message bytes.items of fit in
    inl (got-of p prio bytes.items message same.0 same.1)
got-outcome past m prio message a n _ of fit = absurd (let bad : false ≡ true = fit in cc)

collected-outcome : (past : Past) (m prio : ℕ) (message : List ℕ) (x : Outcome) →
    IsOf past m prio message → is_handed past m ≡ true → fits past (reply.Collected m) x ≡ true →
    (has_got prio message x ≡ true) ⊎ (is_pending x ≡ true)
collected-outcome past m prio message Pending of handed fit = inr refl
collected-outcome past m prio message (Got p bytes) of handed fit =
    search (rules, and_parts, message-is, got-of)
collected-outcome past m prio message Done of handed fit =
    absurd (let bad : not true ≡ true = subst (λ (b : Bool). not b ≡ true) handed fit in cc)
collected-outcome past m prio message _ of handed fit = absurd (let bad : false ≡ true = fit in cc)

-- a receive to which the message was handed -------------------------------------------------------

-- the operation waits, and an entry handed it the message
record IsServed (histories : Histories) (past : Past) (index w m prio : ℕ) (message : List ℕ)
    (o : Operation) : Type 0 where
  pub opened : open_wait past (index + 1) ≡ Some w
  pub is : current_of histories past index ≡ Some o
  pub named : Has named_wait past m w
  pub of : IsOf past m prio message
  pub handed : is_handed past m ≡ true

handed-older : (past : Past) (r : Record) (m prio : ℕ) (message : List ℕ) →
    IsOf past m prio message → is_handed past m ≡ true → is_handed (r ∷ past) m ≡ true
handed-older past r m prio message of e =
    ap (λ (o : Option Record). has_handed (option_map (λ (x : Record). x.entry) o))
    (record_at-older past r m (record_at-below past m of.r of.at)) ∙ e

served-step : (time : ℕ) (histories : Histories) (past : Past) (r : Record)
    (linear : IsLinearization histories (r ∷ past)) (index w m prio : ℕ) (message : List ℕ)
    (o : Operation) → o.begin ≤ time → is_receive o.call ≡ true →
    IsServed histories past index w m prio message o →
    IsServed histories (r ∷ past) index w m prio message o ⊎ (may_receive time prio message o ≡
    true)
served-step time histories past r linear index w m prio message o begun receive x =
    split (r.entry.process == index + 1)
    (λ own. inr (ended (eqb-true _ _ own)))
    (λ other. grind (arith, nat_tests, current-other, has-older, of-older, handed-older))
  where
    legal : Legal past
    legal = legal-linear histories past linear.0

    by : (call : Call) → r.entry.call ≡ call → r.entry.process ≡ index + 1 →
        may_call past (index + 1) call ≡ true → Says past (index + 1) call r.entry.reply →
        may_receive time prio message o ≡ true
    by Collect c mine turn says =
        let b : ℕ = unwrap_or (answered_by past (index + 1)) 0 in
        let from : ComesFrom histories past r = linear.2 in
        let is : r.entry.reply ≡ reply.Collected b = says in
        let a = collected past r linear.1 b (ap cause is) in
        let named = answered-named past r.entry.process b a.answered in
        let opened : open_wait past (index + 1) ≡ Some named.w =
        subst (λ (k : ℕ). open_wait past k ≡ Some named.w) mine named.opened in
        let both : Some named.w ≡ Some w = sym opened ∙ x.opened in
        let wait : named.w ≡ w = cc in
        let same : b ≡ m = named-once past legal b m w (subst (λ (k : ℕ). Has named_wait past b k)
        wait named.named) x.named in
        let reply_is : r.entry.reply ≡ reply.Collected m = is ∙ ap reply.Collected same in
        let at : from.index ≡ index = let p = from.process in omega (arith, p, mine) in
        let there : current_of histories past index ≡ Some from.operation =
        subst (λ (n : ℕ). current_of histories past n ≡ Some from.operation) at from.is in
        let ops : Some from.operation ≡ Some o = sym there ∙ x.is in
        let op : from.operation ≡ o = cc in
        let fit : fits past r.entry.reply o.outcome ≡ true =
        subst (λ (y : Operation). fits past r.entry.reply y.outcome ≡ true) op from.fits in
        let fit_it : fits past (reply.Collected m) o.outcome ≡ true =
        subst (λ (y : Reply). fits past y o.outcome ≡ true) reply_is fit in
        gives-it time o prio message begun receive (collected-outcome past m prio message o.outcome
        x.of x.handed fit_it)
    by (Withdraw now) c mine turn says =
        let w0 : ℕ = unwrap_or (open_wait past (index + 1)) 0 in
        let is : r.entry.reply ≡ reply.Withdrawn w0 = says in
        let same : w0 ≡ w = rw x.opened refl in
        let here : Has withdrawn_wait (r ∷ past) (length past) w = has-here withdrawn_wait past r w
        (ap withdrawn_wait is ∙ ap Some same) in
        absurd (withdrawn-unnamed (r ∷ past) (legal, linear.1) (length past) m w here
        (has-older named_wait past r m w x.named))
    by _ c mine turn says = absurd (some-not-none past (index + 1) w x.opened turn)

    ended : r.entry.process ≡ index + 1 → may_receive time prio message o ≡ true
    ended mine = by r.entry.call refl mine
        (subst (λ (k : ℕ). may_call past k r.entry.call ≡ true) mine linear.1.turn)
        (subst (λ (k : ℕ). Says past k r.entry.call r.entry.reply) mine
        (legal_says past r linear.1))

served-later : (time : ℕ) (histories : Histories) (base full : Past) →
    IsLinearization histories full → Ends base full →
    (index w m prio : ℕ) (message : List ℕ) (o : Operation) → o.begin ≤ time →
    is_receive o.call ≡ true →
    IsServed histories base index w m prio message o →
    IsServed histories full index w m prio message o ⊎ (may_receive time prio message o ≡ true)
served-later time histories base [] linear ends index w m prio message o begun receive x =
    inl (subst (λ (p : Past). IsServed histories p index w m prio message o) ends x)
served-later time histories base (r ∷ full) linear ends index w m prio message o begun receive x =
    elim ends [
      | inl same ↦ inl (subst (λ (p : Past). IsServed histories p index w m prio message o) same x)
      | inr older ↦ elim (served-later time histories base full linear.0 older index w
          m prio message o
          begun receive x) [
            | inr may ↦ inr may
            | inl still ↦ served-step time histories full r linear index w m prio message o
                begun receive still
          ]
    ]

-- at the end each operation that returned is completed
served-ends : (time : ℕ) (histories : Histories) (full : Past) (index w m prio : ℕ)
    (message : List ℕ) (o : Operation) → o.begin ≤ time → is_receive o.call ≡ true →
    is_through (current_of histories full index) ≡ true →
    IsServed histories full index w m prio message o ⊎ (may_receive time prio message o ≡ true) →
    may_receive time prio message o ≡ true
served-ends time histories full index w m prio message o begun receive through how =
    grind (arith, gives-it)

-- a waiting receive is a receive
blocked-receive : (past : Past) (q w : ℕ) (r : Record) → is_in (blocked_receives past q) w ≡ true →
    record_at past w ≡ Some r → is_receive r.entry.call ≡ true
blocked-receive [] q w r there at = absurd (let bad : false ≡ true = there in cc)
blocked-receive (s ∷ past) q w r there at = split (w == length past)
    (λ t.
    let place : w ≡ length past = eqb-true _ _ t in
    let same : Some s ≡ Some r = rw t at at in
    let is : s ≡ r = cc in
    let here = newest-receive past s q (subst (λ k. is_in (blocked_receives (s ∷ past) q) k ≡
    true) place there) in
    let blocks = (and_parts (blocks_receive s.entry.call s.entry.reply)
    (is_on past s.entry q) here).0 in
    ap (λ (x : Record). is_receive x.entry.call) (sym is) ∙ blocks-it s.entry.call
    s.entry.reply blocks)
    (λ f.
    let old : record_at past w ≡ Some r = rw f at at in
    let apart : length past ≡ w → ⊥ = λ e. let lt = record_at-below past w r old in
    omega (arith, lt, e) in
    blocked-receive past q w r ((blocked-cases past s Receive q w there).1 apart) old)
  where
    blocks-it : (call : Call) (y : Reply) → blocks_receive call y ≡ true → is_receive call ≡ true
    blocks-it call reply.Waits e = e
    blocks-it call y e = absurd (cc)

-- the operations to which a message was handed may have received it
handed-taker : (time : ℕ) (histories : Histories) (full past : Past) (r : Record)
    (linear : IsLinearization histories (r ∷ past)) → AreBegun time histories (r ∷ past) linear →
    IsLinearization histories full → Ends (r ∷ past) full →
    ((i : ℕ) → is_through (current_of histories full i) ≡ true) →
    (w q prio : ℕ) (message : List ℕ) → r.entry.reply ≡ reply.Handed w →
    IsOf (r ∷ past) (length past) prio message → IsSentTo (r ∷ past) q (length past) →
    HasTaker time histories (r ∷ past) q prio message
handed-taker time histories full past r linear begun whole ends through w q prio message is of to =
    let legal = legal-linear histories past linear.0 in
    let says : Says past r.entry.process r.entry.call (reply.Handed w) =
    subst (λ (y : Reply). Says past r.entry.process r.entry.call y) is
    (legal_says past r linear.1) in
    let x = handed-on past r.entry.process w r.entry.call says in
    let both : Some x.0 ≡ Some q = sym x.1 ∙ sent-here past r q to in
    let queue : x.0 ≡ q = cc in
    let there = least-in (waiting_receives past x.0) w x.2 in
    let y = waiter past legal Receive x.0 w there in
    let z = waits-for time histories past linear.0 begun.0 y.0 w y.1 in
    let blocked = (is_in-filter _ (blocked_receives past x.0) w there).0 in
    let receive : is_receive z.operation.call ≡ true = ap is_receive (sym z.call.call) ∙
    blocked-receive past x.0 w z.r blocked z.at in
    let opened : open_wait past (z.index + 1) ≡ Some w = subst (λ (k : ℕ). open_wait past k ≡
    Some w) z.process y.1 in
    let own : ends_wait r.entry.call ≡ false = ending-reply past r.entry.process r.entry.call
    (reply.Handed w) says refl in
    let apart : (r.entry.process == z.index + 1) ≡ false = split (r.entry.process == z.index + 1)
    (λ t. let mine : r.entry.process ≡ z.index + 1 = eqb-true _ _ t in
    let none = free past r (z.index + 1) mine linear.1 own in
    let bad : true ≡ false = rw opened at none in absurd (cc))
    (λ f. f) in
    let served : IsServed histories (r ∷ past) z.index w (length past) prio message z.operation =
    grind (arith, nat_tests, current-other, has-here) in
    let may = served-ends time histories full z.index w (length past) prio message z.operation
    z.begun receive (through z.index)
    (served-later time histories (r ∷ past) full whole ends z.index w (length past) prio message
    z.operation z.begun receive served) in
    record {
      index = z.index;
      k = completed past (z.index + 1);
      operation = z.operation;
      is = z.is;
      may = may;
      place = w;
      placed = call-older time histories past r z.index (completed past (z.index + 1)) w z.placed;
      on = blocked-called past x.0 w blocked z.placed.before z.placed.r z.placed.ends z.placed.at ∙
          ap Some queue;
    }
  where
    handed-here : hands r.entry.reply ≡ true → is_handed (r ∷ past) (length past) ≡ true
    handed-here e = rw (eq-eqb (length past) (length past) refl) e

-- each message that was taken has an operation that may have received it
pub taker : (time : ℕ) (histories : Histories) (full past : Past)
    (linear : IsLinearization histories past) → AreBegun time histories past linear →
    IsLinearization histories full → Ends past full →
    ((i : ℕ) → is_through (current_of histories full i) ≡ true) →
    (m q prio : ℕ) (message : List ℕ) → IsOf past m prio message → IsSentTo past q m →
    is_in (taken past) m ≡ true → HasTaker time histories past q prio message
taker time histories full [] linear begun whole ends through m q prio message of to there =
    absurd (let bad : false ≡ true = there in cc)
taker time histories full (r ∷ past) linear begun whole ends through m q prio message of to there =
    by (λ of_old to_old old. taker time histories full past linear.0 begun.0 whole
    (ends-older r past full ends) through m q prio message of_old to_old old)
    r.entry.reply refl there
  where
    legal : Legal past
    legal = legal-linear histories past linear.0

    from : ComesFrom histories past r
    from = linear.2

    Rest : Type 0
    Rest = IsOf past m prio message → IsSentTo past q m → is_in (taken past) m ≡ true →
        HasTaker time histories past q prio message

    Takes : Type 0
    Takes = HasTaker time histories (r ∷ past) q prio message

    older : Rest → is_in (taken past) m ≡ true → Takes
    older rest old =
        let lt = taken-below past legal m old in
        let of_old : IsOf past m prio message = record {
          r = of.r;
          at = sym (record_at-older past r m lt) ∙ of.at;
          priority = of.priority;
          bytes = of.bytes;
        } in
        taker-older time histories past r q prio message
        (rest of_old (sent-older_part past r q m lt to) old)

    got : (a n : Option ℕ) → r.entry.reply ≡ reply.Got m a n → Takes
    got a n is =
        let says : Says past r.entry.process r.entry.call (reply.Got m a n) =
        subst (λ (y : Reply). Says past r.entry.process r.entry.call y) is
        (legal_says past r linear.1) in
        let x = got_says past r.entry.process r.entry.call m a n says in
        let inside = find-in _ (present past x.2.queue) m x.6 in
        let lt = present-below past x.2.queue m inside.0 in
        let to_it = admitted-sent past x.2.queue m (present-admitted past x.2.queue m inside.0) in
        let queue : x.2.queue ≡ q = same-queue past x.2.queue q m to_it
        (sent-older_part past r q m lt to) in
        let called : called_queue past r.entry.process r.entry.call ≡ Some x.2.queue =
        rw (x.3.1, x.4) refl in
        let of_old : IsOf past m prio message = record {
          r = of.r;
          at = sym (record_at-older past r m lt) ∙ of.at;
          priority = of.priority;
          bytes = of.bytes;
        } in
        let own : ends_wait r.entry.call ≡ false = receive-own r.entry.call x.3.0 in
        let call = own-call histories past r from own in
        let receive : is_receive from.operation.call ≡ true = ap is_receive (sym call.call) ∙
        x.3.0 in
        let fit : fits past (reply.Got m a n) from.operation.outcome ≡ true =
        subst (λ (y : Reply). fits past y from.operation.outcome ≡ true) is from.fits in
        record {
          index = from.index;
          k = completed past (from.index + 1);
          operation = from.operation;
          is = from.is;
          may = gives-it time from.operation prio message begun.1 receive
              (got-outcome past m prio message a n from.operation.outcome of_old fit);
          place = length past;
          placed = record {
            before = past;
            r = r;
            linear = linear;
            begun = begun;
            ends = inl refl;
            at = refl;
            of = refl;
            number = refl;
            own = own;
          };
          on = called ∙ ap Some queue;
        }
      where
        receive-own : (call : Call) → is_receive call ≡ true → ends_wait call ≡ false
        receive-own Collect e = absurd (let bad : false ≡ true = e in cc)
        receive-own (Withdraw now) e = absurd (let bad : false ≡ true = e in cc)
        receive-own _ e = refl

    handed : (w : ℕ) → r.entry.reply ≡ reply.Handed w → length past ≡ m → Takes
    handed w is here = handed-taker time histories full past r linear begun whole ends through w
        q prio message is
        (subst (λ (k : ℕ). IsOf (r ∷ past) k prio message) (sym here) of)
        (subst (λ (k : ℕ). IsSentTo (r ∷ past) q k) (sym here) to)

    by : Rest → (y : Reply) → r.entry.reply ≡ y →
        is_in (with_place (taken_by (length past) r.entry.reply) (taken past)) m ≡ true → Takes
    by rest (reply.Got k a n) is there =
        let in_it : is_in (k ∷ taken past) m ≡ true = rw is at there in
        split (k == m)
        (λ t. let same : k ≡ m = eqb-true _ _ t in
        got a n (is ∙ ap (λ (j : ℕ). reply.Got j a n) same))
        (λ f. let old : is_in (taken past) m ≡ true = rw f at in_it in older rest old)
    by rest (reply.Handed w) is there =
        let in_it : is_in (length past ∷ taken past) m ≡ true = rw is at there in
        split (length past == m)
        (λ t. handed w is (eqb-true _ _ t))
        (λ f. let old : is_in (taken past) m ≡ true = rw f at in_it in older rest old)
    by rest _ is there = older rest (rw is at there)
