-- How many messages the processes got from the queue of a name at each record of a linearization.
use Rattle.std.proofs.Common.{◌≡◌, ◌≢◌, ℕ, ◌+◌, ◌≤◌, ◌==◌, Bool, true, false, ◌&&◌, List, [], ◌∷◌, length, take, Option, Some, None, Vec, refl, sym, ◌∙◌, ap, subst, arith, if◌then◌else◌, slice_get, eqb-true, eq-eqb, ne_eqb, rules, Global}
use Rattle.std.specs.Option.{option_map}
use Rattle.std.proofs.lemmas.Bool.{and_parts, eqb-false}
use Rattle.mq_model.specs.Record.{Record, Past, Process}
use Rattle.mq_model.specs.Descriptors.{descriptor_of}
use Rattle.mq_model.specs.Messages.{blocked_receives, waiting_receives}
use Rattle.mq_model.specs.Waits.{answered_by, is_wait, named_wait, names_wait, open_wait}
use Rattle.mq_model.specs.Legality.{Legal}
use Rattle.mq_model.specs.declared.entries.Reply.{Reply}
use Rattle.mq_model.specs.declared.entries.Reply.TheVariants as reply
use Rattle.mq_model.specs.declared.callers.WaitKind.TheVariants.{Receive}
use Rattle.mq_model.proofs.Cases.{Says}
use Rattle.mq_model.proofs.Frames.{record_at-older}
use Rattle.mq_model.proofs.LegalReplies.{legal_says}
use Rattle.mq_model.proofs.NamedWaits.{least-in}
use Rattle.mq_model.proofs.OpenWaits.{same-waiter}
use Rattle.mq_model.proofs.Places.{is_in-filter, split}
use Rattle.mq_model.proofs.Prefixes.{record_at-below}
use Rattle.mq_model.proofs.Waiters.{waiter}
use Rattle.mq_laws.specs.Laws.{cause}
use Rattle.mq_laws.proofs.GivenOnce.{answered-named, collected}
use Rattle.mq_laws.proofs.LegalPlaces.{has-record}
use Rattle.histories.specs.OwnCalls.{ends_wait}
use Rattle.histories.specs.declared.operation.Operation.{Operation}
use Rattle.histories.specs.declared.operation.Outcome.{Outcome}
use Rattle.histories.specs.declared.operation.Outcome.TheVariants.{Got}
use Rattle.histories.specs.Histories.{Histories, completed}
use Rattle.histories.specs.Linearizations.{ComesFrom, IsLinearization}
use Rattle.histories.specs.Outcomes.{brings, fits, has_handed, hands, is_handed}
use Rattle.histories.specs.Named.{KeepsName, is_marked, marks_of, no_marks}
use Rattle.histories.specs.NotFull.{is_got, takes_out}
use Rattle.histories.proofs.Accepting.{ending-reply}
use Rattle.histories.proofs.Completing.{added, completed-other, completed-own, free, one_if, operations-of}
use Rattle.histories.proofs.Cutting.{AreBegun}
use Rattle.histories.proofs.Giving.{handing}
use Rattle.histories.proofs.Marking.{is_on_now, is_op_marked, marks_at, tally, tally-fewer, tally-more}
use Rattle.histories.proofs.Naming.{call-marked, placed-marked}
use Rattle.histories.proofs.Taking.{blocked-called, handed-on}
use Rattle.histories.proofs.Totals.{of_process, total, total-more}
use Rattle.histories.proofs.Tracing.{current-other, legal-linear, waits-for}

apart-of : (p q : ℕ) → (p == q) ≡ false → p ≢ q
apart-of p q e = eqb-false p q e

-- receives ----------------------------------------------------------------------------------------

-- a message was handed to the process, which waits for one
abbrev pub handed_wait : Past → Process → Bool
handed_wait [] p = false
handed_wait (r ∷ past) p =
    if r.entry.process == p then false
    else (if names_wait r.entry.reply (open_wait past p) then hands r.entry.reply else
    handed_wait past p)

-- how many messages a process got from the queue, with one that was handed to it
abbrev pub got_by : List ℕ → Histories → Past → ℕ → ℕ
got_by name histories past i =
    of_process (λ (v : Vec Operation Global). tally takes_out name v.items (completed past (i + 1)))
    (slice_get histories i)
    + one_if (handed_wait past (i + 1) && is_on_now name histories past i)

answered-handed : (past : Past) (p b : ℕ) → answered_by past p ≡ Some b → is_handed past b ≡ true →
    handed_wait past p ≡ true
answered-handed [] p b e handed = absurd (let bad : None ≡ Some b = e in cc)
answered-handed (r ∷ past) p b e handed = split (r.entry.process == p)
    (λ own. let bad : None ≡ Some b = rw own at e in absurd (cc))
    (λ other.
    let rest : (if names_wait r.entry.reply (open_wait past p) then Some (length past) else
    answered_by past p) ≡ Some b = rw other at e in
    split (names_wait r.entry.reply (open_wait past p))
    (λ t.
    let here : Some (length past) ≡ Some b = rw t at rest in
    let place : length past ≡ b = cc in
    let it : is_handed (r ∷ past) (length past) ≡ true = ap (is_handed (r ∷ past)) place ∙ handed in
    let gives : hands r.entry.reply ≡ true = rw (eq-eqb (length past) (length past) refl) at it in
    rw (other, t) gives)
    (λ f.
    let old : answered_by past p ≡ Some b = rw f at rest in
    let named = answered-named past p b old in
    let x = has-record named_wait past b named.w named.named in
    let same = record_at-older past r b (record_at-below past b x.r x.at) in
    let before : is_handed past b ≡ true =
    ap (λ (o : Option Record). has_handed (option_map (λ (y : Record). y.entry) o)) (sym same) ∙
    handed in
    rw (other, f) (answered-handed past p b old before)))

-- a reply by which its process gets a message at once
abbrev pub own_gain : Reply → ℕ
own_gain (reply.Got m a n) = 1
own_gain _ = 0

-- what a reply does to a queue, if it is of a call on it
abbrev pub if_on : Bool → ℕ → ℕ
if_on on n = if on then n else 0

wait-step : (a b c d : Bool) (n : ℕ) →
    n + one_if ((if a then b else c) && d) ≤ n + one_if (c && d) + if_on d (one_if (a && b))
wait-step a b c d n = grind arith

pub same-now : (name : List ℕ) (histories : Histories) (past : Past) (r : Record) (i : ℕ) →
    (r.entry.process == i + 1) ≡ false → is_on_now name histories (r ∷ past) i ≡
    is_on_now name histories past i
same-now name histories past r i other = search (
  rules,
  completed-other,
  apart-of,
  is_op_marked,
  marks_at,
  current-other,
)

other-got : (name : List ℕ) (histories : Histories) (past : Past) (r : Record) (i : ℕ) →
    (r.entry.process == i + 1) ≡ false →
    got_by name histories (r ∷ past) i ≤ got_by name histories past i + if_on
    (is_on_now name histories past i)
    (one_if (names_wait r.entry.reply (open_wait past (i + 1)) && hands r.entry.reply))
other-got name histories past r i other =
    let e = completed-other past r (i + 1) (apart-of _ _ other) in
    let n : ℕ = of_process (λ (v : Vec Operation Global). tally takes_out name v.items
    (completed past (i + 1))) (slice_get histories i) in
    let counts : of_process (λ (v : Vec Operation Global). tally takes_out name v.items
    (completed (r ∷ past) (i + 1))) (slice_get histories i) ≡
    n = ap (λ (k : ℕ). of_process (λ (v : Vec Operation Global). tally takes_out name v.items k)
    (slice_get histories i)) e in
    let now = same-now name histories past r i other in
    let waits : handed_wait (r ∷ past) (i + 1) ≡
    (if names_wait r.entry.reply (open_wait past (i + 1)) then hands r.entry.reply else
    handed_wait past (i + 1)) = rw other refl in
    let same : one_if (handed_wait (r ∷ past) (i + 1) && is_on_now name histories (r ∷ past) i) ≡
    one_if ((if names_wait r.entry.reply (open_wait past (i + 1)) then hands r.entry.reply else
    handed_wait past (i + 1)) && is_on_now name histories past i) =
    ap (λ (b : Bool). one_if (b && is_on_now name histories (r ∷ past) i)) waits ∙
    ap (λ (b : Bool). one_if ((if names_wait r.entry.reply (open_wait past (i + 1)) then hands
    r.entry.reply else handed_wait past (i + 1)) && b)) now in
    let step = wait-step (names_wait r.entry.reply (open_wait past (i + 1))) (hands r.entry.reply)
    (handed_wait past (i + 1)) (is_on_now name histories past i) n in
    omega (arith, counts, same, step)

record Brings (past : Past) (y : Reply) : Type 0 where
  pub prio : ℕ
  pub bytes : List ℕ
  pub is : brings past y prio bytes ≡ true

-- what the reply of a call adds to the messages that its process got
abbrev gain : Reply → Bool → ℕ
gain y got = if is_wait y then 0 else one_if got

gain-le : (past : Past) (p : ℕ) (y : Reply) (x : Outcome) → fits past y x ≡ true →
    ((b : ℕ) → y ≡ reply.Collected b → is_handed past b ≡ true → handed_wait past p ≡ true) →
    gain y (is_got x) ≤ one_if (handed_wait past p) + own_gain y
gain-le past p y x fit served = grind (arith, one_if, and_parts)

-- whether the operation of a record is on the queue
abbrev pub record_on : (name : List ℕ) (histories : Histories) (past : Past) (r : Record) →
    IsLinearization histories (r ∷ past) → Bool
record_on name histories past r linear = is_marked (marks_at name histories linear.2.index
    (completed past (linear.2.index + 1))) (descriptor_of linear.2.operation.call)

count-gain : (name : List ℕ) (xs : List Operation) (n m : ℕ) (y : Reply) (o : Operation) →
    slice_get xs n ≡ Some o → m ≤ n + added y →
    tally takes_out name xs m ≤ tally takes_out name xs n + gain y
    (is_marked (marks_of name no_marks (take n xs)) (descriptor_of o.call) && takes_out o)
count-gain name xs n m y o there le = split (is_wait y)
    (λ waits.
    let few : m ≤ n + 0 = rw waits at le in
    let fewer = tally-fewer takes_out name xs m n (omega (arith, few)) in
    rw waits (omega (arith, fewer)))
    (λ quiet.
    let few : m ≤ n + 1 = rw quiet at le in
    let fewer = tally-fewer takes_out name xs m (n + 1) few in
    let step = tally-more takes_out name xs n o there in
    rw quiet (omega (arith, fewer, step)))

own-got : (name : List ℕ) (histories : Histories) (past : Past) (r : Record)
    (linear : IsLinearization histories (r ∷ past)) →
    got_by name histories (r ∷ past) linear.2.index ≤ got_by name histories past linear.2.index +
    if_on (record_on name histories past r linear) (own_gain r.entry.reply)
own-got name histories past r linear =
    let from : ComesFrom histories past r = linear.2 in
    let n : ℕ = completed past (from.index + 1) in
    let ops = operations-of histories past from.index from.operation from.is in
    let le = completed-own past r (from.index + 1) from.process linear.1 in
    let counts = count-gain name ops.v.items n (completed (r ∷ past) (from.index + 1)) r.entry.reply
    from.operation ops.at_n le in
    let none : handed_wait (r ∷ past) (from.index + 1) ≡ false =
    rw (eq-eqb _ _ from.process) refl in
    let marks : is_marked (marks_of name no_marks (take n ops.v.items))
    (descriptor_of from.operation.call) ≡ record_on name histories past r linear =
    rw ops.has refl in
    let now : is_on_now name histories past from.index ≡ record_on name histories past r linear =
    ap (is_op_marked (marks_at name histories from.index n)) from.is in
    let gains = gain-le past (from.index + 1) r.entry.reply from.operation.outcome
    from.fits served in
    let after : got_by name histories (r ∷ past) from.index ≡ tally takes_out name ops.v.items
    (completed (r ∷ past) (from.index + 1)) = rw (ops.has, none) (omega arith) in
    let before : got_by name histories past from.index ≡ tally takes_out name ops.v.items n + one_if
    (handed_wait past (from.index + 1) && record_on name histories past r linear) =
    ap (λ (b : Bool). of_process (λ (v : Vec Operation Global). tally takes_out name v.items n)
    (slice_get histories from.index) + one_if (handed_wait past (from.index + 1) && b)) now
    ∙ ap (λ (o : Option (Vec Operation Global)). of_process
    (λ (v : Vec Operation Global). tally takes_out name v.items n) o + one_if
    (handed_wait past (from.index + 1) && record_on name histories past r linear)) ops.has in
    let gain_is : gain r.entry.reply (is_marked (marks_of name no_marks (take n ops.v.items))
    (descriptor_of from.operation.call) && takes_out from.operation) ≡ gain r.entry.reply
    (record_on name histories past r linear && takes_out from.operation) =
    ap (λ (b : Bool). gain r.entry.reply (b && takes_out from.operation)) marks in
    let on = gain-on (record_on name histories past r linear) r.entry.reply
    (takes_out from.operation) (handed_wait past (from.index + 1)) gains in
    omega (arith, counts, after, before, gain_is, on)
  where
    served : (b : ℕ) → r.entry.reply ≡ reply.Collected b → is_handed past b ≡ true →
        handed_wait past (linear.2.index + 1) ≡ true
    served b is handed =
        let a = collected past r linear.1 b (ap cause is) in
        let answered : answered_by past (linear.2.index + 1) ≡ Some b =
        subst (λ (k : ℕ). answered_by past k ≡ Some b) linear.2.process a.answered in
        answered-handed past (linear.2.index + 1) b answered handed

    none-gained : (y : Reply) → gain y false ≡ 0
    none-gained y = split (is_wait y) (λ t. rw t refl) (λ f. rw f refl)

    gain-on : (on : Bool) (y : Reply) (got handed : Bool) →
        gain y got ≤ one_if handed + own_gain y →
        gain y (on && got) ≤ one_if (handed && on) + if_on on (own_gain y)
    gain-on true y got true le = omega (arith, le)
    gain-on true y got false le = omega (arith, le)
    gain-on false y got handed le = let none = none-gained y in omega (arith, none)

-- what one record adds to the messages that were got
pub got-step : (time : ℕ) (name : List ℕ) (histories : Histories) (past : Past) (r : Record)
    (linear : IsLinearization histories (r ∷ past)) → AreBegun time histories (r ∷ past) linear →
    KeepsName time name histories →
    total (got_by name histories (r ∷ past)) (length histories) ≤ total (got_by name histories past)
    (length histories) + if_on (record_on name histories past r linear)
    (own_gain r.entry.reply + one_if (hands r.entry.reply))
got-step time name histories past r linear begun stays = split (hands r.entry.reply)
    (λ t.
    let h = handing r.entry.reply t in
    let le = handed h.0 h.1 in
    let gain : own_gain r.entry.reply + one_if (hands r.entry.reply) ≡ 1 =
    ap (λ (y : Reply). own_gain y + one_if (hands y)) h.1 in
    let is : if_on (record_on name histories past r linear) (own_gain r.entry.reply + one_if
    (hands r.entry.reply)) ≡ if_on (record_on name histories past r linear) 1 = ap
    (if_on (record_on name histories past r linear)) gain in
    omega (arith, le, is))
    (λ f.
    let more = total-more (got_by name histories past) (got_by name histories (r ∷ past))
    (length histories) linear.2.index (if_on (record_on name histories past r linear)
    (own_gain r.entry.reply))
    (λ i apart.
    let other : (r.entry.process == i + 1) ≡ false =
    ne_eqb _ _ (λ e. apart (let p = linear.2.process in omega (arith, e, p))) in
    let le = other-got name histories past r i other in
    let none : one_if (names_wait r.entry.reply (open_wait past (i + 1)) && hands r.entry.reply) ≡
    0 = rw f (nothing (names_wait r.entry.reply (open_wait past (i + 1)))) in
    let zero_on = if_on-zero (is_on_now name histories past i)
    (one_if (names_wait r.entry.reply (open_wait past (i + 1)) && hands r.entry.reply)) none in
    omega (arith, le, zero_on))
    (own-got name histories past r linear) in
    let gain : own_gain r.entry.reply + one_if (hands r.entry.reply) ≡ own_gain r.entry.reply =
    rw f (omega arith) in
    let is : if_on (record_on name histories past r linear) (own_gain r.entry.reply + one_if
    (hands r.entry.reply)) ≡ if_on (record_on name histories past r linear)
    (own_gain r.entry.reply) = ap (if_on (record_on name histories past r linear)) gain in
    omega (arith, more, is))
  where
    nothing : (b : Bool) → one_if (b && false) ≡ 0
    nothing true = refl
    nothing false = refl

    if_on-zero : (on : Bool) (n : ℕ) → n ≡ 0 → if_on on n ≡ 0
    if_on-zero true n e = e
    if_on-zero false n e = refl

    if_on-most : (on : Bool) (n : ℕ) → n ≤ 1 → if_on on n ≤ if_on on 1
    if_on-most true n le = le
    if_on-most false n le = omega arith

    legal : Legal past
    legal = legal-linear histories past linear.0

    handed : (w : ℕ) → r.entry.reply ≡ reply.Handed w →
        total (got_by name histories (r ∷ past)) (length histories) ≤ total
        (got_by name histories past) (length histories) + if_on
        (record_on name histories past r linear) 1
    handed w is =
        let says : Says past r.entry.process r.entry.call (reply.Handed w) =
        subst (λ (y : Reply). Says past r.entry.process r.entry.call y) is
        (legal_says past r linear.1) in
        let x = handed-on past r.entry.process w r.entry.call says in
        let there = least-in (waiting_receives past x.0) w x.2 in
        let y = waiter past legal Receive x.0 w there in
        let z = waits-for time histories past linear.0 begun.0 y.0 w y.1 in
        let opened : open_wait past (z.index + 1) ≡ Some w = subst (λ (k : ℕ). open_wait past k ≡
        Some w) z.process y.1 in
        let own : ends_wait r.entry.call ≡ false = ending-reply past r.entry.process r.entry.call
        (reply.Handed w) says refl in
        let blocked = (is_in-filter _ (blocked_receives past x.0) w there).0 in
        let called = blocked-called past x.0 w blocked z.placed.before z.placed.r
        z.placed.ends z.placed.at in
        let waits_on = (placed-marked time name histories past z.index
        (completed past (z.index + 1)) w z.placed stays z.operation z.is x.0 called).1 in
        let sends_on = call-marked time name histories past r linear begun stays own x.0 x.1 in
        let now : is_on_now name histories past z.index ≡ record_on name histories past r linear =
        ap (is_op_marked (marks_at name histories z.index (completed past (z.index + 1))))
        z.is ∙ waits_on ∙ sym sends_on in
        let apart : (r.entry.process == z.index + 1) ≡ false =
        split (r.entry.process == z.index + 1)
        (λ t. let mine : r.entry.process ≡ z.index + 1 = eqb-true _ _ t in
        let none = free past r (z.index + 1) mine linear.1 own in
        let bad : true ≡ false = rw opened at none in absurd (cc))
        (λ f. f) in
        total-more (got_by name histories past) (got_by name histories (r ∷ past))
        (length histories) z.index (if_on (record_on name histories past r linear) 1)
        (λ i ne. split (r.entry.process == i + 1)
        (λ mine.
        let at : linear.2.index ≡ i = let p = linear.2.process in let e : r.entry.process ≡ i + 1 =
        eqb-true _ _ mine in omega (arith, p, e) in
        let le = own-got name histories past r linear in
        let none : own_gain r.entry.reply ≡ 0 = ap own_gain is in
        let zero_on = if_on-zero (record_on name histories past r linear)
        (own_gain r.entry.reply) none in
        subst (λ (k : ℕ). got_by name histories (r ∷ past) k ≤ got_by name histories past k) at
        (omega (arith, le, zero_on)))
        (λ other.
        let le = other-got name histories past r i other in
        let none : one_if (names_wait r.entry.reply (open_wait past (i + 1)) && hands r.entry.reply)
        ≡ 0 = ap (λ (y : Reply). one_if (names_wait y (open_wait past (i + 1)) && hands y)) is ∙
        unnamed i (open_wait past (i + 1)) refl z.index opened ne in
        let zero_on = if_on-zero (is_on_now name histories past i)
        (one_if (names_wait r.entry.reply (open_wait past (i + 1)) && hands r.entry.reply)) none
        in
        omega (arith, le, zero_on)))
        (let le = other-got name histories past r z.index apart in
        let most = if_on-most (is_on_now name histories past z.index)
        (one_if (names_wait r.entry.reply (open_wait past (z.index + 1)) && hands
        r.entry.reply)) (one-most (names_wait r.entry.reply (open_wait past (z.index + 1)) &&
        hands r.entry.reply)) in
        let same : if_on (is_on_now name histories past z.index) 1 ≡
        if_on (record_on name histories past r linear) 1 = ap (λ (b : Bool). if_on b 1) now in
        omega (arith, le, most, same))
      where
        one-most : (b : Bool) → one_if b ≤ 1
        one-most true = omega arith
        one-most false = omega arith

        unnamed : (i : ℕ) → (o : Option ℕ) → open_wait past (i + 1) ≡ o → (k : ℕ) →
            open_wait past (k + 1) ≡ Some w → i ≢ k →
            one_if (names_wait (reply.Handed w) o && true) ≡ 0
        unnamed i None e k opened ne = refl
        unnamed i (Some v) e k opened ne = split (w == v)
            (λ t.
            let same : w ≡ v = eqb-true _ _ t in
            let mine : open_wait past (i + 1) ≡ Some w = e ∙ ap Some (sym same) in
            let one = same-waiter past (i + 1) (k + 1) w mine opened in
            absurd (ne (omega (arith, one))))
            (λ f. rw f refl)
