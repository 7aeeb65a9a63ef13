-- How many messages entered the queue of a name at each record of a linearization.
use Rattle.std.proofs.Common.{◌≡◌, ℕ, ◌+◌, ◌≤◌, ◌<◌, ◌-◌, ◌==◌, Bool, true, false, ◌&&◌, List, [], ◌∷◌, length, take, Option, Some, None, is_some, Vec, refl, sym, ◌∙◌, ap, subst, arith, if◌then◌else◌, slice_get, eqb-true, eq-eqb, le-leb, Global}
use Rattle.std.proofs.lemmas.Bool.{eqb-false}
use Rattle.std.proofs.lemmas.Option.{slice_get_within}
use Rattle.mq_model.specs.Record.{Record, Past}
use Rattle.mq_model.specs.Descriptors.{called_queue, descriptor_of}
use Rattle.mq_model.specs.Messages.{admits, blocked_sends, is_send, least, waiting_sends}
use Rattle.mq_model.specs.Waits.{answered_by, is_answered, is_wait, named_wait, names_wait, open_wait}
use Rattle.mq_model.specs.declared.entries.Call.{Call}
use Rattle.mq_model.specs.declared.entries.Reply.{Reply}
use Rattle.mq_model.specs.declared.entries.Reply.TheVariants as reply
use Rattle.mq_model.specs.declared.callers.WaitKind.TheVariants.{Send}
use Rattle.mq_model.proofs.Cases.{Says}
use Rattle.mq_model.proofs.Frames.{answered_by-none}
use Rattle.mq_model.proofs.LegalReplies.{legal_says}
use Rattle.mq_model.proofs.NamedWaits.{least-in}
use Rattle.mq_model.proofs.Places.{is_in-filter, split}
use Rattle.mq_model.proofs.Waiters.{waiter}
use Rattle.mq_laws.proofs.GivenOnce.{answered-named}
use Rattle.mq_laws.proofs.LegalPlaces.{has-here}
use Rattle.mq_laws.proofs.SentMessages.{blocked-sent}
use Rattle.histories.specs.OwnCalls.{ends_wait, made}
use Rattle.histories.specs.declared.operation.Operation.{Operation}
use Rattle.histories.specs.declared.operation.Outcome.{Outcome}
use Rattle.histories.specs.declared.operation.Outcome.TheVariants.{Got}
use Rattle.histories.specs.Histories.{Histories, completed, current_of, is_through}
use Rattle.histories.specs.Linearizations.{IsLinearization}
use Rattle.histories.specs.Outcomes.{fits, hands, is_handed}
use Rattle.histories.specs.Named.{KeepsName, is_marked, marks_of, no_marks}
use Rattle.histories.specs.NotFull.{enters_by, may_enter}
use Rattle.histories.proofs.Admitting.{IsAdmitted, admitted-enters}
use Rattle.histories.proofs.Completing.{completed-free, completed-other, free, made-other, made-own, made-same, one_if, operations-of}
use Rattle.histories.proofs.Cutting.{AreBegun, Ends}
use Rattle.histories.proofs.Giving.{handed-sends}
use Rattle.histories.proofs.Getting.{if_on, record_on, same-now}
use Rattle.histories.proofs.Marking.{is_on_now, is_op_marked, marks_at, tally, tally-fewer, tally-more}
use Rattle.histories.proofs.Naming.{call-marked, placed-marked}
use Rattle.histories.proofs.Passing.{completed-made}
use Rattle.histories.proofs.Taking.{sent-called}
use Rattle.histories.proofs.Totals.{of_process, total, total-grows}
use Rattle.histories.proofs.Tracing.{current-other, ending-waits-not, legal-linear, own-call, waits-for}

-- the current operation of a process is a send whose message may enter
abbrev pub enters_now : ℕ → Option Operation → Bool
enters_now time None = false
enters_now time (Some o) = enters_by time o

-- how many messages of a process entered the queue, with that of a send whose wait was served
abbrev pub entered_by : ℕ → List ℕ → Histories → Past → ℕ → ℕ
entered_by time name histories past i =
    of_process (λ (v : Vec Operation Global). tally (enters_by time) name v.items
    (completed past (i + 1))) (slice_get histories i)
    + one_if (is_answered past (i + 1) && (is_on_now name histories past i && enters_now time
    (current_of histories past i)))

-- a reply by which the message of its send enters at once
abbrev pub own_come : Reply → ℕ
own_come (reply.Queued n) = 1
own_come (reply.Handed w) = 1
own_come _ = 0

answer-step : (a c : Bool) (o : Option ℕ) (k n : ℕ) →
    n + one_if (is_some o && c) ≤ n + one_if (is_some (if a then Some k else o) && c)
answer-step a c o k n = grind arith

other-entered : (time : ℕ) (name : List ℕ) (histories : Histories) (past : Past) (r : Record)
    (i : ℕ) → (r.entry.process == i + 1) ≡ false →
    entered_by time name histories past i ≤ entered_by time name histories (r ∷ past) i
other-entered time name histories past r i other =
    let e = completed-other past r (i + 1) (eqb-false _ _ other) in
    let n : ℕ = of_process (λ (v : Vec Operation Global). tally (enters_by time) name v.items
    (completed past (i + 1))) (slice_get histories i) in
    let counts : of_process (λ (v : Vec Operation Global). tally (enters_by time) name v.items
    (completed (r ∷ past) (i + 1))) (slice_get histories i) ≡
    n = ap (λ (k : ℕ). of_process (λ (v : Vec Operation Global). tally (enters_by time) name
    v.items k) (slice_get histories i)) e in
    let on = same-now name histories past r i other in
    let now : enters_now time (current_of histories (r ∷ past) i) ≡
    enters_now time (current_of histories past i) = ap (enters_now time)
    (current-other histories past r i other) in
    let c : Bool = is_on_now name histories past i &&
    enters_now time (current_of histories past i) in
    let both : (is_on_now name histories (r ∷ past) i && enters_now time
    (current_of histories (r ∷ past) i)) ≡ c =
    ap (λ (b : Bool). b && enters_now time (current_of histories (r ∷ past) i)) on ∙
    ap (λ (b : Bool). is_on_now name histories past i && b) now in
    let answered : is_answered (r ∷ past) (i + 1) ≡
    is_some (if names_wait r.entry.reply (open_wait past (i + 1)) then Some (length past) else
    answered_by past (i + 1)) = rw other refl in
    let same : one_if (is_answered (r ∷ past) (i + 1) && (is_on_now name histories (r ∷ past) i &&
    enters_now time (current_of histories (r ∷ past) i)))
    ≡ one_if (is_some (if names_wait r.entry.reply (open_wait past (i + 1)) then Some (length past)
    else answered_by past (i + 1)) && c) =
    ap (λ (b : Bool). one_if (b && (is_on_now name histories (r ∷ past) i && enters_now time
    (current_of histories (r ∷ past) i)))) answered
    ∙ ap (λ (b : Bool). one_if (is_some (if names_wait r.entry.reply (open_wait past (i + 1)) then
    Some (length past) else answered_by past (i + 1)) && b)) both in
    let step = answer-step (names_wait r.entry.reply (open_wait past (i + 1))) c
    (answered_by past (i + 1)) (length past) n in
    omega (arith, counts, same, step)

-- a process that waits has made a call
waits-made : (histories : Histories) (past : Past) → IsLinearization histories past → (p w : ℕ) →
    open_wait past p ≡ Some w → 1 ≤ made past p
waits-made histories [] linear p w e = absurd (let bad : None ≡ Some w = e in cc)
waits-made histories (r ∷ past) linear p w e = split (r.entry.process == p)
    (λ own.
    let last : (if is_wait r.entry.reply then Some (length past) else None) ≡ Some w =
    rw own at e in
    split (is_wait r.entry.reply)
    (λ t.
    let more = made-own past r p (eqb-true _ _ own) (ending-waits-not past r linear.1 t) in
    omega (arith, more))
    (λ f. let bad : None ≡ Some w = rw f at last in absurd (cc)))
    (λ other.
    let old : open_wait past p ≡ Some w = rw other at e in
    let same = made-other past r p (eqb-false _ _ other) in
    let before = waits-made histories past linear.0 p w old in
    omega (arith, same, before))

-- a message is queued by a send
pub queued-sends : (past : Past) (p : ℕ) (n : Option ℕ) (call : Call) →
    Says past p call (reply.Queued n) → is_send call ≡ true
queued-sends past p n call says = grind arith

done-enters : (past : Past) (y : Reply) (x : Outcome) → own_come y ≡ 1 → fits past y x ≡ true →
    may_enter x ≡ true
done-enters past y x come fit = grind arith

-- what a reply of the call of an operation brings into a queue is its message
come-le : (time : ℕ) (histories : Histories) (past : Past) (r : Record)
    (linear : IsLinearization histories (r ∷ past)) → linear.2.operation.begin ≤ time →
    ends_wait r.entry.call ≡ false →
    own_come r.entry.reply ≤ one_if (enters_by time linear.2.operation)
come-le time histories past r linear begun own = by r.entry.reply refl
  where
    enters : is_send r.entry.call ≡ true → own_come r.entry.reply ≡ 1 →
        one_if (enters_by time linear.2.operation) ≡ 1
    enters send come =
        let call = own-call histories past r linear.2 own in
        let sends : is_send linear.2.operation.call ≡ true = ap is_send (sym call.call) ∙ send in
        let may = done-enters past r.entry.reply linear.2.operation.outcome come linear.2.fits in
        rw (le-leb _ _ begun, sends, may) refl

    by : (y : Reply) → r.entry.reply ≡ y → own_come y ≤ one_if (enters_by time linear.2.operation)
    by (reply.Queued n) is =
        let send = queued-sends past r.entry.process n r.entry.call
        (subst (λ (y : Reply). Says past r.entry.process r.entry.call y) is
        (legal_says past r linear.1)) in
        let e = enters send (ap own_come is) in
        omega (arith, e)
    by (reply.Handed w) is =
        let send = handed-sends past r.entry.process w r.entry.call
        (subst (λ (y : Reply). Says past r.entry.process r.entry.call y) is
        (legal_says past r linear.1)) in
        let e = enters send (ap own_come is) in
        omega (arith, e)
    by _ is = omega arith

-- a collect and a withdrawal bring in nothing
ending-come : (past : Past) (p : ℕ) (call : Call) (y : Reply) → Says past p call y →
    ends_wait call ≡ true → own_come y ≡ 0
ending-come past p call y says ends = grind arith

some-of : (o : Option ℕ) → is_some o ≡ true → (b : ℕ) × (o ≡ Some b)
some-of o e = grind arith

none-of : (o : Option ℕ) → is_some o ≡ false → o ≡ None
none-of o e = grind arith

wait-come : (y : Reply) → is_wait y ≡ true → own_come y ≡ 0
wait-come y e = grind arith

-- the count at a process, by the operations that it has completed
entered-quiet : (time : ℕ) (name : List ℕ) (histories : Histories) (past : Past) (i : ℕ)
    (v : Vec Operation Global) → slice_get histories i ≡ Some v → is_answered past (i + 1) ≡ false →
    entered_by time name histories past i ≡ tally (enters_by time) name v.items
    (completed past (i + 1))
entered-quiet time name histories past i v has quiet = rw (has, quiet) (omega arith)

entered-is : (time : ℕ) (name : List ℕ) (histories : Histories) (past : Past) (i : ℕ)
    (v : Vec Operation Global) (o : Operation) → slice_get histories i ≡ Some v →
    current_of histories past i ≡ Some o → is_answered past (i + 1) ≡ true →
    entered_by time name histories past i ≡ tally (enters_by time) name v.items
    (completed past (i + 1)) + one_if
    (is_marked (marks_at name histories i (completed past (i + 1))) (descriptor_of o.call) &&
    enters_by time o)
entered-is time name histories past i v o has is answered = grind (
  arith,
  marks_at,
  is_on_now,
  is_op_marked,
  one_if,
  of_process,
  tally,
)

come-on : (on : Bool) (n : ℕ) (enters : Bool) → n ≤ one_if enters →
    if_on on n ≤ one_if (on && enters)
come-on on n enters le = grind arith

if_on-zero : (on : Bool) (n : ℕ) → n ≡ 0 → if_on on n ≡ 0
if_on-zero on n e = grind arith

own-entered : (time : ℕ) (name : List ℕ) (histories : Histories) (past : Past) (r : Record)
    (linear : IsLinearization histories (r ∷ past)) → linear.2.operation.begin ≤ time →
    entered_by time name histories past linear.2.index + if_on
    (record_on name histories past r linear) (own_come r.entry.reply) ≤ entered_by time name
    histories (r ∷ past) linear.2.index
own-entered time name histories past r linear begun =
    let ops = operations-of histories past linear.2.index linear.2.operation linear.2.is in
    let n : ℕ = completed past (linear.2.index + 1) in
    let on : Bool = record_on name histories past r linear in
    let after = entered-quiet time name histories (r ∷ past) linear.2.index ops.v
    ops.has quiet_now in
    let more : tally (enters_by time) name ops.v.items (n + 1) ≡
    tally (enters_by time) name ops.v.items n + one_if (on && enters_by time linear.2.operation)
    =
    tally-more (enters_by time) name ops.v.items n linear.2.operation ops.at_n
    ∙ ap (λ (b : Bool). tally (enters_by time) name ops.v.items n + one_if
    (b && enters_by time linear.2.operation)) (marks_is ops.v ops.has) in
    split (ends_wait r.entry.call)
    (λ ends.
    let none = if_on-zero on (own_come r.entry.reply) (ending-come past r.entry.process r.entry.call
    r.entry.reply (legal_says past r linear.1) ends) in
    let waits_not : is_wait r.entry.reply ≡ false = split (is_wait r.entry.reply)
    (λ t. let own = ending-waits-not past r linear.1 t in let bad : true ≡ false = sym ends ∙ own in
    absurd (cc))
    (λ f. f) in
    let free_now : is_some (open_wait (r ∷ past) (linear.2.index + 1)) ≡ false =
    rw (eq-eqb _ _ linear.2.process, waits_not) refl in
    let number : completed (r ∷ past) (linear.2.index + 1) ≡ made past (linear.2.index + 1) =
    completed-free (r ∷ past) (linear.2.index + 1) free_now ∙ made-same past r
    (linear.2.index + 1) ends in
    split (is_answered past (linear.2.index + 1))
    (λ t.
    let b = some-of (answered_by past (linear.2.index + 1)) t in
    let named = answered-named past (linear.2.index + 1) b.0 b.1 in
    let some = waits-made histories past linear.0 (linear.2.index + 1) named.w named.opened in
    let before : n ≡ made past (linear.2.index + 1) - 1 = rw named.opened refl in
    let next : completed (r ∷ past) (linear.2.index + 1) ≡ n + 1 =
    omega (arith, number, before, some) in
    let old = entered-is time name histories past linear.2.index ops.v linear.2.operation ops.has
    linear.2.is t in
    let new : tally (enters_by time) name ops.v.items (completed (r ∷ past) (linear.2.index + 1)) ≡
    tally (enters_by time) name ops.v.items (n + 1) =
    ap (tally (enters_by time) name ops.v.items) next in
    omega (arith, none, after, more, old, new))
    (λ f.
    let old = entered-quiet time name histories past linear.2.index ops.v ops.has f in
    let most = completed-made past (linear.2.index + 1) in
    let fewer = tally-fewer (enters_by time) name ops.v.items n
    (completed (r ∷ past) (linear.2.index + 1)) (omega (arith, most, number)) in
    omega (arith, none, after, old, fewer)))
    (λ own.
    let none = free past r (linear.2.index + 1) linear.2.process linear.1 own in
    let quiet : is_answered past (linear.2.index + 1) ≡ false =
    ap is_some (answered_by-none past (linear.2.index + 1)
    (none-of (open_wait past (linear.2.index + 1)) none)) in
    let old = entered-quiet time name histories past linear.2.index ops.v ops.has quiet in
    let number = completed-free past (linear.2.index + 1) none in
    let made_more = made-own past r (linear.2.index + 1) linear.2.process own in
    split (is_wait r.entry.reply)
    (λ waits.
    let come = if_on-zero on (own_come r.entry.reply) (wait-come r.entry.reply waits) in
    let some_now : is_some (open_wait (r ∷ past) (linear.2.index + 1)) ≡ true =
    rw (eq-eqb _ _ linear.2.process, waits) refl in
    let before : completed (r ∷ past) (linear.2.index + 1) ≡ made (r ∷ past) (linear.2.index + 1) -
    1 = rw some_now refl in
    let same : completed (r ∷ past) (linear.2.index + 1) ≡ n =
    omega (arith, before, made_more, number) in
    let new : tally (enters_by time) name ops.v.items (completed (r ∷ past) (linear.2.index + 1)) ≡
    tally (enters_by time) name ops.v.items n =
    ap (tally (enters_by time) name ops.v.items) same in
    omega (arith, come, after, old, new))
    (λ goes.
    let free_now : is_some (open_wait (r ∷ past) (linear.2.index + 1)) ≡ false =
    rw (eq-eqb _ _ linear.2.process, goes) refl in
    let after_made = completed-free (r ∷ past) (linear.2.index + 1) free_now in
    let next : completed (r ∷ past) (linear.2.index + 1) ≡ n + 1 =
    omega (arith, after_made, made_more, number) in
    let new : tally (enters_by time) name ops.v.items (completed (r ∷ past) (linear.2.index + 1)) ≡
    tally (enters_by time) name ops.v.items (n + 1) =
    ap (tally (enters_by time) name ops.v.items) next in
    let le = come-on on (own_come r.entry.reply) (enters_by time linear.2.operation)
    (come-le time histories past r linear begun own) in
    omega (arith, after, old, more, new, le)))
  where
    quiet_now : is_answered (r ∷ past) (linear.2.index + 1) ≡ false
    quiet_now = rw (eq-eqb _ _ linear.2.process) refl

    marks_is : (v : Vec Operation Global) → slice_get histories linear.2.index ≡ Some v →
        is_marked (marks_of name no_marks (take (completed past (linear.2.index + 1)) v.items))
        (descriptor_of linear.2.operation.call) ≡ record_on name histories past r linear
    marks_is v has = rw has refl

-- a waiting send that a receive admits ------------------------------------------------------------

got-own : (past : Past) (p m : ℕ) (a n : Option ℕ) (call : Call) →
    Says past p call (reply.Got m a n) → ends_wait call ≡ false
got-own past p m a n call says = grind arith

-- a receive that admits a send does so on its queue
pub admits-on : (past : Past) (p m : ℕ) (a n : Option ℕ) (call : Call) →
    Says past p call (reply.Got m a n) → (q : ℕ) × (called_queue past p call ≡ Some q) ×
    (a ≡ least (waiting_sends past q))
admits-on past p m a n call says = grind arith

-- the process of the send
record HasAdmitted (time : ℕ) (name : List ℕ) (histories : Histories) (past : Past) (r : Record)
    (linear : IsLinearization histories (r ∷ past)) : Type 0 where
  pub index : ℕ
  pub within : index < length histories
  pub grows : entered_by time name histories past index + if_on
      (record_on name histories past r linear) 1 ≤ entered_by time name histories (r ∷ past) index

admits-one : (time : ℕ) (name : List ℕ) (histories : Histories) (full past : Past) (r : Record)
    (linear : IsLinearization histories (r ∷ past)) → AreBegun time histories (r ∷ past) linear →
    KeepsName time name histories → IsLinearization histories full → Ends (r ∷ past) full →
    ((i : ℕ) → is_through (current_of histories full i) ≡ true) → (m w : ℕ) (n : Option ℕ) →
    r.entry.reply ≡ reply.Got m (Some w) n → HasAdmitted time name histories past r linear
admits-one time name histories full past r linear begun stays whole ends through m w n is =
    let legal = legal-linear histories past linear.0 in
    let says : Says past r.entry.process r.entry.call (reply.Got m (Some w) n) =
    subst (λ (y : Reply). Says past r.entry.process r.entry.call y) is
    (legal_says past r linear.1) in
    let x = admits-on past r.entry.process m (Some w) n r.entry.call says in
    let there = least-in (waiting_sends past x.0) w (sym x.2) in
    let y = waiter past legal Send x.0 w there in
    let z = waits-for time histories past linear.0 begun.0 y.0 w y.1 in
    let blocked = (is_in-filter _ (blocked_sends past x.0) w there).0 in
    let sent = blocked-sent past x.0 w blocked in
    let both : Some sent.r ≡ Some z.r = sym sent.at ∙ z.at in
    let same : sent.r ≡ z.r = cc in
    let send : is_send z.operation.call ≡ true = ap is_send (sym z.call.call) ∙
    ap (λ (s : Record). is_send s.entry.call) (sym same) ∙ sent.send in
    let opened : open_wait past (z.index + 1) ≡ Some w = subst (λ (k : ℕ). open_wait past k ≡
    Some w) z.process y.1 in
    let free_yet : answered_by past (z.index + 1) ≡ None = subst (λ (k : ℕ). answered_by past k ≡
    None) z.process y.2 in
    let own = got-own past r.entry.process m (Some w) n r.entry.call says in
    let apart : (r.entry.process == z.index + 1) ≡ false = split (r.entry.process == z.index + 1)
    (λ t. let mine : r.entry.process ≡ z.index + 1 = eqb-true _ _ t in
    let none = free past r (z.index + 1) mine linear.1 own in
    let bad : true ≡ false = rw opened at none in absurd (cc))
    (λ f. f) in
    let still : current_of histories (r ∷ past) z.index ≡ Some z.operation =
    current-other histories past r z.index apart ∙ z.is in
    let admitted : IsAdmitted histories (r ∷ past) z.index w (length past) z.operation = record {
      opened = rw apart opened;
      is = still;
      named = has-here named_wait past r w (ap named_wait is);
      kept = kept_here (ap hands is);
    } in
    let may = admitted-enters histories (r ∷ past) full whole ends z.index w (length past)
    z.operation (through z.index) admitted in
    let enters : enters_by time z.operation ≡ true = rw (le-leb _ _ z.begun, send, may) refl in
    let called = sent-called past x.0 w sent z.placed.before z.placed.r z.placed.ends z.placed.at in
    let waits_on = (placed-marked time name histories past z.index (completed past (z.index + 1)) w
    z.placed stays z.operation z.is x.0 called).1 in
    let gets_on = call-marked time name histories past r linear begun stays own x.0 x.1 in
    let number = completed-other past r (z.index + 1) (eqb-false _ _ apart) in
    let on : is_marked (marks_at name histories z.index (completed (r ∷ past) (z.index + 1)))
    (descriptor_of z.operation.call) ≡ record_on name histories past r linear =
    ap (λ (k : ℕ). is_marked (marks_at name histories z.index k) (descriptor_of z.operation.call))
    number ∙ waits_on ∙ sym gets_on in
    let ops = operations-of histories past z.index z.operation z.is in
    let quiet : is_answered past (z.index + 1) ≡ false = ap is_some free_yet in
    let old = entered-quiet time name histories past z.index ops.v ops.has quiet in
    let names : names_wait r.entry.reply (open_wait past (z.index + 1)) ≡ true =
    ap (λ (y : Reply). names_wait y (open_wait past (z.index + 1))) is ∙
    ap (λ (o : Option ℕ). names_wait (reply.Got m (Some w) n) o) opened ∙ eq-eqb w w refl in
    let answered : is_answered (r ∷ past) (z.index + 1) ≡ true = rw (apart, names) refl in
    let new = entered-is time name histories (r ∷ past) z.index ops.v z.operation ops.has
    still answered in
    let counts : tally (enters_by time) name ops.v.items (completed (r ∷ past) (z.index + 1)) ≡
    tally (enters_by time) name ops.v.items (completed past (z.index + 1)) =
    ap (tally (enters_by time) name ops.v.items) number in
    let one : one_if
    (is_marked (marks_at name histories z.index (completed (r ∷ past) (z.index + 1)))
    (descriptor_of z.operation.call) && enters_by time z.operation) ≡
    if_on (record_on name histories past r linear) 1 =
    ap (λ (b : Bool). one_if (b && enters_by time z.operation)) on ∙
    ap (λ (b : Bool). one_if (record_on name histories past r linear && b)) enters ∙
    one-on (record_on name histories past r linear) in
    record {
      index = z.index;
      within = slice_get_within histories z.index ops.v ops.has;
      grows = omega (arith, old, new, counts, one);
    }
  where
    kept_here : hands r.entry.reply ≡ false → is_handed (r ∷ past) (length past) ≡ false
    kept_here e = rw (eq-eqb (length past) (length past) refl) e

    one-on : (b : Bool) → one_if (b && true) ≡ if_on b 1
    one-on true = refl
    one-on false = refl

admitting-got : (y : Reply) (w : ℕ) → admits y ≡ Some w →
    (m : ℕ) × (n : Option ℕ) × (y ≡ reply.Got m (Some w) n)
admitting-got y w e = grind arith

-- what one record adds to the messages that entered
pub entered-step : (time : ℕ) (name : List ℕ) (histories : Histories) (full past : Past)
    (r : Record) (linear : IsLinearization histories (r ∷ past)) →
    AreBegun time histories (r ∷ past) linear → KeepsName time name histories →
    IsLinearization histories full → Ends (r ∷ past) full →
    ((i : ℕ) → is_through (current_of histories full i) ≡ true) →
    total (entered_by time name histories past) (length histories) + if_on
    (record_on name histories past r linear) (own_come r.entry.reply + one_if
    (is_some (admits r.entry.reply))) ≤ total (entered_by time name histories (r ∷ past))
    (length histories)
entered-step time name histories full past r linear begun stays whole ends through =
    by (admits r.entry.reply) refl
  where
    on : Bool
    on = record_on name histories past r linear

    own : entered_by time name histories past linear.2.index + if_on
        (record_on name histories past r linear) (own_come r.entry.reply) ≤ entered_by time name
        histories (r ∷ past) linear.2.index
    own = own-entered time name histories past r linear begun.1

    each : (i : ℕ) → entered_by time name histories past i ≤ entered_by time name histories (r ∷
        past) i
    each i = split (r.entry.process == i + 1)
        (λ mine.
        let at : linear.2.index ≡ i = let p = linear.2.process in let e : r.entry.process ≡ i + 1 =
        eqb-true _ _ mine in omega (arith, p, e) in
        let le = own in
        subst (λ (k : ℕ). entered_by time name histories past k ≤ entered_by time name histories
        (r ∷ past) k) at (omega (arith, le)))
        (λ other. other-entered time name histories past r i other)

    by : (o : Option ℕ) → admits r.entry.reply ≡ o →
        total (entered_by time name histories past) (length histories) + if_on
        (record_on name histories past r linear) (own_come r.entry.reply + one_if
        (is_some (admits r.entry.reply))) ≤ total (entered_by time name histories (r ∷ past))
        (length histories)
    by None e =
        let ops = operations-of histories past linear.2.index linear.2.operation linear.2.is in
        let grows = total-grows (entered_by time name histories past)
        (entered_by time name histories (r ∷ past)) (length histories) linear.2.index
        (if_on (record_on name histories past r linear) (own_come r.entry.reply))
        (slice_get_within histories linear.2.index ops.v ops.has) (λ i apart. each i) own in
        let count : own_come r.entry.reply + one_if (is_some (admits r.entry.reply)) ≡
        own_come r.entry.reply = rw e (omega arith) in
        let is : if_on (record_on name histories past r linear) (own_come r.entry.reply + one_if
        (is_some (admits r.entry.reply))) ≡ if_on (record_on name histories past r linear)
        (own_come r.entry.reply) = ap (if_on (record_on name histories past r linear)) count in
        omega (arith, grows, is)
    by (Some w) e =
        let g = admitting-got r.entry.reply w e in
        let x = admits-one time name histories full past r linear begun stays whole ends through
        g.0 w g.1 g.2 in
        let grows = total-grows (entered_by time name histories past)
        (entered_by time name histories (r ∷ past)) (length histories) x.index
        (if_on (record_on name histories past r linear) 1) x.within
        (λ i apart. each i) x.grows in
        let count : own_come r.entry.reply + one_if (is_some (admits r.entry.reply)) ≡ 1 =
        ap (λ (y : Reply). own_come y + one_if (is_some (admits y))) g.2 in
        let is : if_on (record_on name histories past r linear) (own_come r.entry.reply + one_if
        (is_some (admits r.entry.reply))) ≡ if_on (record_on name histories past r linear) 1 =
        ap (if_on (record_on name histories past r linear)) count in
        omega (arith, grows, is)
