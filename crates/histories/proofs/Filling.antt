-- A history in which a send found its queue full, although too few messages can have been in it,
-- has no linearization.
use Rattle.std.proofs.Common.{◌≡◌, ℕ, ◌+◌, ◌≤◌, ◌==◌, Bool, true, false, ◌&&◌, List, [], ◌∷◌, length, take, Option, Some, None, Vec, refl, sym, ◌∙◌, ap, arith, eqb-true, slice_get, count_by, nat_lt, ltb-true, le-leb, ℤ, int_le, int_lt, pos, Global}
use Rattle.std.specs.Str.{bytes_eq}
use Rattle.std.proofs.lemmas.Bool.{and_parts, eqb-false}
use Rattle.std.proofs.lemmas.Bool.Decides.{nat_tests}
use Rattle.std.proofs.lemmas.Option.{slice_get_within}
use Rattle.std.proofs.lemmas.Slice.Eq.{bytes_eq-Decides}
use Rattle.mq_model.specs.Record.{Record, Past}
use Rattle.mq_model.specs.Descriptors.{called_queue, created}
use Rattle.mq_model.specs.Legality.{IsLegalNext, reply_to_send}
use Rattle.mq_model.specs.Messages.{is_full, is_in, is_send, present, priority_given}
use Rattle.mq_model.specs.Names.{attributes, attributes_given, creates, name_of}
use Rattle.mq_model.specs.Waits.{is_answered}
use Rattle.mq_model.specs.declared.entries.Description.{Description}
use Rattle.mq_model.specs.declared.entries.OpenFlags.{OpenFlags}
use Rattle.mq_model.specs.declared.entries.Reply.{Reply}
use Rattle.mq_model.specs.declared.entries.Reply.TheVariants as reply
use Rattle.mq_model.specs.declared.faults.Fault.{Fault}
use Rattle.mq_model.proofs.Alive.{name_of-newest, name_of-older}
use Rattle.mq_model.proofs.Frames.{attributes-older}
use Rattle.mq_model.proofs.Places.{split}
use Rattle.mq_model.proofs.PresentFew.{attributes-newest, created-cases, at-most}
use Rattle.histories.specs.declared.operation.Operation.{Operation}
use Rattle.histories.specs.declared.operation.Outcome.{Outcome}
use Rattle.histories.specs.declared.operation.Outcome.TheVariants.{Opened, Refused}
use Rattle.histories.specs.Histories.{Histories, completed, current_of, is_complete}
use Rattle.histories.specs.Linearizations.{ComesFrom, IsCallOf, IsLinearization}
use Rattle.histories.specs.Outcomes.{fits}
use Rattle.histories.specs.Excess.{HasNoOrder, returned_by}
use Rattle.histories.specs.Named.{calls_on, has_any, marks_of, no_marks}
use Rattle.histories.specs.NotFull.{IsNotFull, creates_less, enters_by, finds_full, found_full, says_full, takes_out}
use Rattle.histories.specs.declared.not_full.NotFull.{NotFull}
use Rattle.histories.proofs.Balance.{HasName, balance}
use Rattle.histories.proofs.Completing.{one_if}
use Rattle.histories.proofs.Cutting.{AreBegun, cut, ends-older, ends-trans, is_through_by, none-left}
use Rattle.histories.proofs.Entering.{enters_now, entered_by}
use Rattle.histories.proofs.Getting.{got_by, handed_wait}
use Rattle.histories.proofs.Marking.{is_on_now, is_op_marked, none-has, tally, tally-fewer, tally-le, tally-more}
use Rattle.histories.proofs.Naming.{call-placed, created-placed, one-of-name, open-payload}
use Rattle.histories.proofs.Passing.{completed-made, found, found-at, found-completed, through-all}
use Rattle.histories.proofs.Refuting.{count_returned, returned-completed}
use Rattle.histories.proofs.Totals.{of_process, total-le, total-sum}
use Rattle.histories.proofs.Tracing.{made-record, own-call}

-- a send that finds its queue full ----------------------------------------------------------------

-- the queue of this description is full
abbrev IsFullOf : Past → Option Description → Type 0
IsFullOf past o = (h : Description) × (o ≡ Some h) × (is_full past h.queue ≡ true)

-- what the replies of a send say of its queue
abbrev FullSays : Past → Option Description → Reply → Type 0
FullSays past o (reply.Refused f) = says_full f ≡ true → IsFullOf past o
FullSays past o reply.Waits = IsFullOf past o
FullSays past o (reply.Queued n) = Unit {0}
FullSays past o (reply.Handed w) = Unit {0}
FullSays past o _ = ⊥

send-says : (past : Past) (o : Option Description) (prio len : ℕ) →
    FullSays past o (reply_to_send past o prio len)
send-says past o prio len = grind (arith, and_parts)

refused-full : (past : Past) (o : Option Description) (y : Reply) (f : Fault) → FullSays past o y →
    says_full f ≡ true → fits past y (Refused f) ≡ true → IsFullOf past o
refused-full past o y f says full fit = grind arith

outcome-full : (past : Past) (o : Option Description) (y : Reply) (x : Outcome) →
    FullSays past o y → found_full x ≡ true → fits past y x ≡ true → IsFullOf past o
outcome-full past o y x says full fit = grind (arith, refused-full)

-- the queue of the call of a record is full
record HasFull (past : Past) (r : Record) : Type 0 where
  pub q : ℕ
  pub on : called_queue past r.entry.process r.entry.call ≡ Some q
  pub full : is_full past q ≡ true

send-full : (past : Past) (r : Record) (o : Operation) → IsLegalNext past r → IsCallOf r o →
    is_send o.call ≡ true → found_full o.outcome ≡ true → fits past r.entry.reply o.outcome ≡ true →
    HasFull past r
send-full past r o next call send full fit = grind (arith, outcome-full, send-says)

-- the capacity ------------------------------------------------------------------------------------

-- an open that creates its queue may do so
abbrev CreateSays : OpenFlags → Reply → Type 0
CreateSays flags (reply.Opened d true) = flags.create ≡ true
CreateSays flags y = Unit {0}

at-least : (a : ℤ) (n : ℕ) → int_lt a (pos n) ≡ false → int_le (pos n) a ≡ true
at-least a n h = grind arith

-- what created a queue gave it this capacity at least
created-capacity : (time capacity : ℕ) (name : List ℕ) (histories : Histories) (past : Past)
    (r : Record) (linear : IsLinearization histories (r ∷ past)) → linear.2.operation.begin ≤ time →
    creates_less time name capacity linear.2.operation ≡ false →
    r.payload ≡ name → creates r.entry.call r.entry.reply ≡ true →
    int_le (pos capacity) (attributes_given r.entry.call).maxmsg ≡ true
created-capacity time capacity name histories past r linear begun enough named new =
    grind (arith, own-call, open-payload, bytes_eq-Decides, le-leb, at-least)

-- the queue of the name has this capacity at least
capacity-least : (time capacity : ℕ) (name : List ℕ) (histories : Histories) (past : Past)
    (linear : IsLinearization histories past) → AreBegun time histories past linear →
    has_any (creates_less time name capacity) histories ≡ false →
    (q : ℕ) → is_in (created past) q ≡ true → name_of past q ≡ name →
    int_le (pos capacity) (attributes past q).maxmsg ≡ true
capacity-least time capacity name histories [] linear begun enough q made named =
    absurd (let bad : false ≡ true = made in cc)
capacity-least time capacity name histories (r ∷ past) linear begun enough q made named =
    created-cases past r q made
    (λ old lt. rw (attributes-older past r q lt) (capacity-least time capacity name histories past
    linear.0 begun.0 enough q old (sym (name_of-older past r q lt) ∙ named)))
    (λ new here.
    let from : ComesFrom histories past r = linear.2 in
    let none = none-has (creates_less time name capacity) histories from.index
    (completed past (from.index + 1)) from.operation enough from.is in
    let is : attributes (r ∷ past) q ≡ attributes_given r.entry.call =
    rw (← here) (attributes-newest past r) in
    let payload : r.payload ≡ name = sym (name_of-newest past r) ∙ ap (name_of (r ∷ past)) here ∙
    named in
    rw is (created-capacity time capacity name histories past r linear begun.1 none payload new))

-- the counts --------------------------------------------------------------------------------------

-- what had returned by a time at which none is left is among what the process got
taken-got : (time : ℕ) (name : List ℕ) (histories : Histories) (past : Past) (i : ℕ) →
    is_through_by time (current_of histories past i) ≡ true →
    of_process (λ (v : Vec Operation Global). count_by takes_out
    (calls_on name (returned_by time v.items))) (slice_get histories i) ≤ got_by name
    histories past i
taken-got time name histories past i through = grind (
  arith,
  is_through_by,
  of_process,
  tally,
  one_if,
  handed_wait,
  is_on_now,
  returned-completed,
  tally-fewer,
  count_returned,
)

one-answered : (b c : Bool) → one_if (b && c) ≤ one_if c
one-answered b c = grind arith

-- what entered was sent by an operation of the process
entered-sent : (time : ℕ) (name : List ℕ) (histories : Histories) (past : Past) (i : ℕ) →
    entered_by time name histories past i ≤ of_process (λ (v : Vec Operation Global). count_by
    (enters_by time) (calls_on name v.items)) (slice_get histories i)
entered-sent time name histories past i = by (slice_get histories i) refl
  where
    n : ℕ
    n = completed past (i + 1)

    more : (v : Vec Operation Global) (o : Option Operation) → slice_get v.items n ≡ o →
        tally (enters_by time) name v.items n + one_if
        (is_op_marked (marks_of name no_marks (take n v.items)) o && enters_now time o) ≤
        count_by (enters_by time) (calls_on name v.items)
    more v None e = let le = tally-le (enters_by time) name v.items n in omega (arith, le)
    more v (Some o) e =
        let step = tally-more (enters_by time) name v.items n o e in
        let le = tally-le (enters_by time) name v.items (n + 1) in
        omega (arith, step, le)

    by : (o : Option (Vec Operation Global)) → slice_get histories i ≡ o →
        entered_by time name histories past i ≤ of_process (λ (v : Vec Operation Global). count_by
        (enters_by time) (calls_on name v.items)) o
    by None is =
        let now : one_if (is_on_now name histories past i && enters_now time
        (current_of histories past i)) ≡ 0 = rw is refl in
        let none : of_process (λ (v : Vec Operation Global). tally (enters_by time) name v.items n)
        (slice_get histories i) ≡ 0 = rw is refl in
        let le = one-answered (is_answered past (i + 1))
        (is_on_now name histories past i && enters_now time (current_of histories past i)) in
        omega (arith, now, none, le)
    by (Some v) is =
        let now : one_if (is_on_now name histories past i && enters_now time
        (current_of histories past i)) ≡
        one_if (is_op_marked (marks_of name no_marks (take n v.items)) (slice_get v.items n) &&
        enters_now time (slice_get v.items n)) = rw is refl in
        let count : of_process (λ (w : Vec Operation Global). tally (enters_by time) name w.items n)
        (slice_get histories i) ≡ tally (enters_by time) name v.items n =
        ap (of_process (λ (w : Vec Operation Global). tally (enters_by time) name w.items n)) is
        in
        let le = one-answered (is_answered past (i + 1))
        (is_on_now name histories past i && enters_now time (current_of histories past i)) in
        let most = more v (slice_get v.items n) refl in
        omega (arith, now, count, le, most)

-- the theorem
pub not-full-refutes : (histories : Histories) (e : NotFull) → IsNotFull histories e →
    HasNoOrder histories
not-full-refutes histories e is past linear = split (is_complete histories past)
    (λ complete.
    let name : List ℕ = e.name.items in
    let test : Operation → Bool = finds_full e.from e.prio e.message.items in
    let c = cut e.to histories past linear complete in
    let sender = found e.to name test histories is.full in
    let within = slice_get_within histories sender.index sender.v sender.has in
    let sent = found-completed e.to name test histories c.part sender
    (c.through sender.index within) in
    let few = completed-made c.part (sender.index + 1) in
    let at = found-at e.to name test histories sender in
    let x = made-record e.to histories c.part c.linear c.begun sender.index sender.k
    sender.operation at (omega (arith, sent, few)) in
    let p = x.placed in
    let o = sender.operation in
    let one = and_parts (is_send o.call && found_full o.outcome && priority_given o.call == e.prio
    && bytes_eq o.given.items e.message.items) (nat_lt e.from o.begin) sender.passes in
    let two = and_parts (is_send o.call && found_full o.outcome && priority_given o.call == e.prio)
    (bytes_eq o.given.items e.message.items) one.0 in
    let three = and_parts (is_send o.call && found_full o.outcome)
    (priority_given o.call == e.prio) two.0 in
    let four = and_parts (is_send o.call) (found_full o.outcome) three.0 in
    let full = send-full p.before p.r o p.linear.1 x.call four.0 four.1 x.fits in
    let made = created-placed e.to histories c.part sender.index sender.k x.place p
    full.q full.on in
    let marked = call-placed e.to name histories c.part sender.index sender.k x.place p is.bound o
    at full.q full.on in
    let named : name_of p.before full.q ≡ name = (bytes_eq-Decides (name_of p.before full.q) name).0
    (sym marked ∙ sender.on) in
    let has : HasName name p.before full.q = grind (
      arith,
      nat_tests,
      eqb-true,
      bytes_eq-Decides,
      one-of-name,
      eqb-false,
    ) in
    let inside = ends-older p.r p.before past (ends-trans (p.r ∷ p.before) c.part past
    p.ends c.ends) in
    let all = balance e.to name histories past p.before p.linear.0 p.begun.0 is.bound linear inside
    (through-all histories past complete) full.q has in
    let enough = capacity-least e.to e.capacity name histories p.before p.linear.0 p.begun.0
    is.capacity full.q made named in
    let holds = at-most (attributes p.before full.q).maxmsg e.capacity
    (length (present p.before full.q)) enough full.full in
    let taken = total-sum (λ (v : Vec Operation Global). count_by takes_out
    (calls_on name (returned_by e.from v.items))) histories in
    let got = total-le (λ i. of_process (λ (v : Vec Operation Global). count_by takes_out
    (calls_on name (returned_by e.from v.items))) (slice_get histories i))
    (got_by name histories p.before) (length histories)
    (λ i lt. taken-got e.from name histories p.before i (none-left histories p.before o.begin e.from
    (length histories) i x.in_time (ltb-true e.from o.begin one.1) lt)) in
    let sends = total-sum (λ (v : Vec Operation Global). count_by (enters_by e.to)
    (calls_on name v.items)) histories in
    let entered = total-le (entered_by e.to name histories p.before)
    (λ i. of_process (λ (v : Vec Operation Global). count_by (enters_by e.to)
    (calls_on name v.items)) (slice_get histories i)) (length histories)
    (λ i lt. entered-sent e.to name histories p.before i) in
    let received = is.received in
    let numbers = is.sent in
    let fewer = is.fewer in
    absurd (omega (arith, all, holds, taken, got, sends, entered, received, numbers, fewer)))
    (λ f. f)
