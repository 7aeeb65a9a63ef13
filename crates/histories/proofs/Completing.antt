-- How many operations are completed at each record of a linearization.
use Rattle.std.proofs.Common.{◌≡◌, ◌≢◌, ℕ, ◌+◌, ◌≤◌, ◌==◌, zero, suc, Bool, true, false, List, [], ◌∷◌, length, take, Option, Some, None, is_some, Vec, ◌⊎◌, inl, inr, refl, ap, subst, arith, if◌then◌else◌, slice_get, count_by, eq-eqb, ne_eqb, le-leb, Global}
use Rattle.std.specs.Option.{option_and_then}
use Rattle.std.proofs.lemmas.Bool.{and_parts}
use Rattle.std.proofs.lemmas.Option.{slice_get_within}
use Rattle.std.proofs.lemmas.Slice.Eq.{bytes_eq-Decides}
use Rattle.mq_model.specs.Record.{Record, Past, Place, Process}
use Rattle.mq_model.specs.Messages.{is_send, with_place}
use Rattle.mq_model.specs.Waits.{is_wait, open_wait}
use Rattle.mq_model.specs.Legality.{IsLegalNext, payload_of}
use Rattle.mq_model.proofs.Places.{split, same_place}
use Rattle.mq_model.specs.declared.entries.Call.{Call}
use Rattle.mq_model.specs.declared.entries.Call.TheVariants.{Collect}
use Rattle.mq_model.specs.declared.entries.Reply.{Reply}
use Rattle.mq_model.specs.declared.entries.Reply.TheVariants as reply
use Rattle.mq_laws.proofs.SentMessages.{is_sent}
use Rattle.histories.specs.OwnCalls.{ends_wait, made}
use Rattle.histories.proofs.OwnCalls.{turn-of-own, some-of-none}
use Rattle.histories.specs.declared.operation.Operation.{Operation}
use Rattle.histories.specs.declared.operation.Outcome.{Outcome}
use Rattle.histories.specs.Outcomes.{fits}
use Rattle.histories.specs.Histories.{Histories, completed, current, current_of}
use Rattle.histories.specs.Linearizations.{ComesFrom, IsCallOf, IsLinearization, IsWithdrawalOf}
use Rattle.histories.specs.Excess.{may_have_sent, receives, sends, sends_by}
use Rattle.histories.proofs.Cutting.{AreBegun}
use Rattle.histories.proofs.Giving.{given_by, given_of, is_sending, sent_of}
use Rattle.histories.proofs.Totals.{count-fewer, count-more, of_process, total, total-grows, total-le, total-more}

-- one process at a record -------------------------------------------------------------------------

other-process : (p q : ℕ) → p ≢ q → (p == q) ≡ false
other-process p q apart = ne_eqb p q apart

pub made-other : (past : Past) (r : Record) (p : Process) → r.entry.process ≢ p →
    made (r ∷ past) p ≡ made past p
made-other past r p apart = rw (other-process r.entry.process p apart) refl

pub completed-other : (past : Past) (r : Record) (p : Process) → r.entry.process ≢ p →
    completed (r ∷ past) p ≡ completed past p
completed-other past r p apart = rw (other-process r.entry.process p apart) refl

pub made-same : (past : Past) (r : Record) (p : Process) → ends_wait r.entry.call ≡ true →
    made (r ∷ past) p ≡ made past p
made-same past r p ends = split (r.entry.process == p) (λ t. rw (t, ends) refl) (λ f. rw f refl)

-- a process that does not wait has completed all that it has made
pub free : (past : Past) (r : Record) (p : Process) → r.entry.process ≡ p → IsLegalNext past r →
    ends_wait r.entry.call ≡ false → is_some (open_wait past p) ≡ false
free past r p mine legal own = grind (arith, turn-of-own, some-of-none)

pub completed-free : (past : Past) (p : Process) → is_some (open_wait past p) ≡ false →
    completed past p ≡ made past p
completed-free past p none = rw none refl

pub made-own : (past : Past) (r : Record) (p : Process) → r.entry.process ≡ p →
    ends_wait r.entry.call ≡ false → made (r ∷ past) p ≡ made past p + 1
made-own past r p mine own = rw (eq-eqb r.entry.process p mine, own) refl

-- what a record adds to the completed operations of its process
abbrev pub added : Reply → ℕ
added y = if is_wait y then 0 else 1

pub completed-own : (past : Past) (r : Record) (p : Process) → r.entry.process ≡ p →
    IsLegalNext past r → completed (r ∷ past) p ≤ completed past p + added r.entry.reply
completed-own past r p mine legal = grind (arith, eq-eqb, free)

-- sends -------------------------------------------------------------------------------------------

-- how many of the operations that a process has begun send the message
abbrev pub begun_sends : ℕ → ℕ → List ℕ → Histories → Past → ℕ → ℕ
begun_sends time prio message histories past index =
    of_process (λ (v : Vec Operation Global). count_by (sends_by time prio message)
    (take (made past (index + 1)) v.items)) (slice_get histories index)

ending-sends-not : (call : Call) → ends_wait call ≡ true → is_send call ≡ false
ending-sends-not call e = grind arith

pub sent-may : (past : Past) (y : Reply) (outcome : Outcome) → is_sent y ≡ true →
    fits past y outcome ≡ true → may_have_sent outcome ≡ true
sent-may past y outcome sent fit = grind arith

-- the payload of a send that did not fail is the message that it was given
pub sent-payload : (call : Call) (y : Reply) (given : List ℕ) → is_send call ≡ true →
    is_sent y ≡ true → payload_of call y given ≡ given
sent-payload call y given send sent = grind arith

-- the operation of a record that sends the message sends it
pub sending-operation : (past : Past) (r : Record) (operation : Operation) (prio : ℕ)
    (message : List ℕ) → IsCallOf r operation → fits past r.entry.reply operation.outcome ≡ true →
    is_sending prio message r ≡ true → sends prio message operation ≡ true
sending-operation past r operation prio message is fit sending =
    grind (arith, and_parts, is_sent, sent-may, sent-payload)

-- the operations of the process of a record
pub record HasOperations (histories : Histories) (index n : ℕ)
    (operation : Operation) : Type 0 where
  pub v : Vec Operation Global
  pub has : slice_get histories index ≡ Some v
  pub at_n : slice_get v.items n ≡ Some operation

pub operations-of : (histories : Histories) (past : Past) (index : ℕ) (operation : Operation) →
    current_of histories past index ≡ Some operation →
    HasOperations histories index (completed past (index + 1)) operation
operations-of histories past index operation is = by (slice_get histories index) refl is
  where
    by : (o : Option (Vec Operation Global)) → slice_get histories index ≡ o →
        option_and_then (current past index) o ≡ Some operation →
        HasOperations histories index (completed past (index + 1)) operation
    by None none e = absurd (let bad : None ≡ Some operation = e in cc)
    by (Some v) has e = record { v = v; has = has; at_n = e }

abbrev pub one_if : Bool → ℕ
one_if b = if b then 1 else 0

length-sent : (prio : ℕ) (message : List ℕ) (past : Past) (r : Record) →
    length (sent_of prio message (r ∷ past)) ≡ length (sent_of prio message past) + one_if
    (is_sending prio message r)
length-sent prio message past r = split (is_sending prio message r) (λ y. rw y (omega arith))
    (λ n. rw n (omega arith))

pub one-le : (a b : Bool) → (a ≡ true → b ≡ true) → one_if a ≤ one_if b
one-le a b e = grind arith

pub sent-begun : (time prio : ℕ) (message : List ℕ) (histories : Histories) (past : Past)
    (linear : IsLinearization histories past) → AreBegun time histories past linear →
    length (sent_of prio message past) ≤ total (begun_sends time prio message histories past)
    (length histories)
sent-begun time prio message histories [] linear begun = omega arith
sent-begun time prio message histories (r ∷ past) linear begun =
    let before = sent-begun time prio message histories past linear.0 begun.0 in
    let longer = length-sent prio message past r in
    let from : ComesFrom histories past r = linear.2 in
    split (ends_wait r.entry.call)
    (λ ends.
    let quiet : is_sending prio message r ≡ false = rw (ending-sends-not r.entry.call ends) refl in
    let none : one_if (is_sending prio message r) ≡ 0 = ap one_if quiet in
    let same = total-le (begun_sends time prio message histories past)
    (begun_sends time prio message histories (r ∷ past)) (length histories)
    (λ i lt. let e = made-same past r (i + 1) ends in rw e (omega arith)) in
    omega (arith, before, longer, none, same))
    (λ own.
    let free_now = free past r (from.index + 1) from.process linear.1 own in
    let number : completed past (from.index + 1) ≡ made past (from.index + 1) =
    completed-free past (from.index + 1) free_now in
    let ops = operations-of histories past from.index from.operation from.is in
    let at_made : slice_get ops.v.items (made past (from.index + 1)) ≡ Some from.operation =
    subst (λ n. slice_get ops.v.items n ≡ Some from.operation) number ops.at_n in
    let w : ℕ = one_if (sends_by time prio message from.operation) in
    let here : begun_sends time prio message histories past from.index + w ≤ begun_sends time prio
    message histories (r ∷ past) from.index =
    let step = count-more (sends_by time prio message) ops.v.items (made past (from.index + 1))
    from.operation at_made in
    rw (ops.has, made-own past r (from.index + 1) from.process own, step) (omega arith) in
    let grows = total-grows (begun_sends time prio message histories past)
    (begun_sends time prio message histories (r ∷ past)) (length histories) from.index w
    (slice_get_within histories from.index ops.v ops.has)
    (λ i apart. let e = made-other past r (i + 1)
    (λ same. apart (let p = from.process in omega (arith, same, p))) in rw e (omega arith))
    here in
    let is_call : IsCallOf r from.operation = by_call own from.call in
    let le = one-le (is_sending prio message r) (sends_by time prio message from.operation)
    (λ yes. let sends_it = sending-operation past r from.operation prio message is_call from.fits
    yes in let by_then = le-leb from.operation.begin time begun.1 in
    rw (by_then, sends_it) refl) in
    omega (arith, before, longer, grows, le))
  where
    by_call : ends_wait r.entry.call ≡ false →
        (r.entry.call ≡ Collect) ⊎ (IsWithdrawalOf r linear.2.operation ⊎
        IsCallOf r linear.2.operation) → IsCallOf r linear.2.operation
    by_call own (inl collects) = absurd (let bad : true ≡ false = subst (λ (c : Call). ends_wait c ≡
        false) collects own in cc)
    by_call own (inr (inl withdraws)) =
        absurd (let bad : true ≡ false = subst (λ (c : Call). ends_wait c ≡ false)
        withdraws.call own in cc)
    by_call own (inr (inr is)) = is

-- receives ----------------------------------------------------------------------------------------

-- how many of the operations that a process has completed received the message
abbrev pub completed_receives : ℕ → List ℕ → Histories → Past → ℕ → ℕ
completed_receives prio message histories past index =
    of_process (λ (v : Vec Operation Global). count_by (receives prio message)
    (take (completed past (index + 1)) v.items)) (slice_get histories index)

pub length-with : (o : Option Place) (xs : List ℕ) →
    length (with_place o xs) ≡ length xs + one_if (is_some o)
length-with o xs = grind arith

-- what the record of an operation adds to the receives that are completed
abbrev gained : ℕ → List ℕ → Reply → Operation → ℕ
gained prio message y operation = if is_wait y then 0 else one_if (receives prio message operation)

gained-le : (past : Past) (y : Reply) (operation : Operation) (prio : ℕ) (message : List ℕ) →
    fits past y operation.outcome ≡ true →
    gained prio message y operation ≤ one_if (is_some (given_by past prio message y))
gained-le past y operation prio message fit = grind (
  arith,
  one-le,
  given_by,
  and_parts,
  same_place,
  bytes_eq-Decides,
)

completed-gain : (prio : ℕ) (message : List ℕ) (xs : List Operation) (n m : ℕ) (y : Reply)
    (operation : Operation) → slice_get xs n ≡ Some operation → m ≤ n + added y →
    count_by (receives prio message) (take m xs) ≤ count_by (receives prio message) (take n xs) +
    gained prio message y operation
completed-gain prio message xs n m y operation there le = split (is_wait y)
    (λ waits.
    let few : m ≤ n + 0 = rw waits at le in
    let fewer = count-fewer (receives prio message) xs m n (omega (arith, few)) in
    rw waits (omega (arith, fewer)))
    (λ quiet.
    let few : m ≤ n + 1 = rw quiet at le in
    let fewer = count-fewer (receives prio message) xs m (n + 1) few in
    let step = count-more (receives prio message) xs n operation there in
    rw quiet (omega (arith, fewer, step)))

pub completed-given : (prio : ℕ) (message : List ℕ) (histories : Histories) (past : Past) →
    IsLinearization histories past →
    total (completed_receives prio message histories past) (length histories) ≤ length
    (given_of prio message past)
completed-given prio message histories [] linear =
    let none = total-le (completed_receives prio message histories []) (λ i. 0) (length histories)
    (λ i lt. nothing (slice_get histories i)) in
    let zero_all = total-zero (length histories) in
    omega (arith, none, zero_all)
  where
    nothing : (o : Option (Vec Operation Global)) →
        of_process (λ (v : Vec Operation Global). count_by (receives prio message) (take 0 v.items))
        o ≤ 0
    nothing None = omega arith
    nothing (Some v) = omega arith

    total-zero : (n : ℕ) → total (λ i. 0) n ≡ 0
    total-zero zero = refl
    total-zero (suc n) = let before = total-zero n in omega (arith, before)
completed-given prio message histories (r ∷ past) linear =
    let before = completed-given prio message histories past linear.0 in
    let from : ComesFrom histories past r = linear.2 in
    let longer = length-with (given_by past prio message r.entry.reply)
    (given_of prio message past) in
    let ops = operations-of histories past from.index from.operation from.is in
    let w : ℕ = gained prio message r.entry.reply from.operation in
    let here : completed_receives prio message histories (r ∷ past) from.index ≤ completed_receives
    prio message histories past from.index + w =
    rw ops.has (completed-gain prio message ops.v.items (completed past (from.index + 1))
    (completed (r ∷ past) (from.index + 1)) r.entry.reply from.operation ops.at_n
    (completed-own past r (from.index + 1) from.process linear.1)) in
    let more = total-more (completed_receives prio message histories past)
    (completed_receives prio message histories (r ∷ past)) (length histories) from.index w
    (λ i apart. let e = completed-other past r (i + 1)
    (λ same. apart (let p = from.process in omega (arith, same, p))) in rw e (omega arith))
    here in
    let le = gained-le past r.entry.reply from.operation prio message from.fits in
    omega (arith, before, longer, more, le)
