-- A history in which a message is received more often than it was sent has no linearization.
use Rattle.std.proofs.Common.{◌≡◌, ℕ, ◌≤◌, zero, suc, true, List, [], ◌∷◌, length, Some, None, Vec, arith, slice_get, count_by, position, unwrap_or, Global}
use Rattle.std.specs.List.{position_or_len}
use Rattle.std.proofs.lemmas.List.Sums.{prefix_len-le-length}
use Rattle.mq_model.specs.Record.{Past}
use Rattle.mq_model.proofs.Places.{split}
use Rattle.histories.specs.declared.operation.Operation.{Operation}
use Rattle.histories.specs.Histories.{Histories, current_of, is_complete}
use Rattle.histories.specs.Excess.{HasNoOrder, IsExcess, receives, returned_by, returns_after, sends_by, times_received, times_sent}
use Rattle.histories.specs.declared.excess.Excess.{Excess}
use Rattle.histories.proofs.Cutting.{IsCut, cut, is_through_by}
use Rattle.histories.proofs.Giving.{given-le-sent}
use Rattle.histories.proofs.Tracing.{legal-linear}
use Rattle.histories.proofs.Totals.{count-fewer, count-le, no-more, of_process, total-le, total-sum}
use Rattle.histories.proofs.Completing.{begun_sends, completed-given, completed_receives, sent-begun}

-- the first operation that had not returned by a time is not after one that had not
first-after : (time : ℕ) (xs : List Operation) (k : ℕ) (o : Operation) → slice_get xs k ≡ Some o →
    returns_after time o ≡ true → position_or_len (returns_after time) xs ≤ k
first-after time [] k o is after = absurd (let bad : None ≡ Some o = is in cc)
first-after time (x ∷ xs) zero o is after = grind arith
first-after time (x ∷ xs) (suc k) o is after =
    let rest = first-after time xs k o is after in
    split (returns_after time x) (λ t. rw t (omega arith)) (λ f. rw f (omega (arith, rest)))

-- if a process has completed its operations until a time, none that had returned by then is left
abbrev first_after : ℕ → List Operation → ℕ
first_after time xs = position_or_len (returns_after time) xs

abbrev pub count_returned : ℕ → List Operation → ℕ
count_returned time xs = unwrap_or (position (returns_after time) xs) (length xs)

pub returned-completed : (time : ℕ) (xs : List Operation) (n : ℕ) →
    is_through_by time (slice_get xs n) ≡ true → count_returned time xs ≤ n
returned-completed time xs n through = grind (
  arith,
  is_through_by,
  no-more,
  prefix_len-le-length,
  first-after,
)

received-completed : (time prio : ℕ) (message : List ℕ) (histories : Histories) (past : Past)
    (i : ℕ) → is_through_by time (current_of histories past i) ≡ true →
    of_process (λ (v : Vec Operation Global). count_by (receives prio message)
    (returned_by time v.items)) (slice_get histories i) ≤ completed_receives prio message
    histories past i
received-completed time prio message histories past i through =
    grind (arith, is_through_by, of_process, returned-completed, count-fewer)

begun-le : (time prio : ℕ) (message : List ℕ) (histories : Histories) (past : Past) (i : ℕ) →
    begun_sends time prio message histories past i ≤ of_process
    (λ (v : Vec Operation Global). count_by (sends_by time prio message) v.items)
    (slice_get histories i)
begun-le time prio message histories past i = grind (arith, of_process, count-le)

-- no message is received more often than it was sent
received-le-sent : (time prio : ℕ) (message : List ℕ) (histories : Histories) (past : Past) →
    IsCut time histories past →
    times_received time prio message histories ≤ times_sent time prio message histories
received-le-sent time prio message histories past c =
    let n = length histories in
    let received = total-sum (λ (v : Vec Operation Global). count_by (receives prio message)
    (returned_by time v.items)) histories in
    let sent = total-sum (λ (v : Vec Operation Global). count_by (sends_by time prio message)
    v.items) histories in
    let one =
    total-le (λ i. of_process (λ (v : Vec Operation Global). count_by (receives prio message)
    (returned_by time v.items)) (slice_get histories i))
    (completed_receives prio message histories c.part) n
    (λ i lt. received-completed time prio message histories c.part i (c.through i lt)) in
    let two = completed-given prio message histories c.part c.linear in
    let three = given-le-sent prio message c.part (legal-linear histories c.part c.linear) in
    let four = sent-begun time prio message histories c.part c.linear c.begun in
    let five = total-le (begun_sends time prio message histories c.part)
    (λ i. of_process (λ (v : Vec Operation Global). count_by (sends_by time prio message)
    v.items) (slice_get histories i)) n
    (λ i lt. begun-le time prio message histories c.part i) in
    omega (arith, received, sent, one, two, three, four, five)

pub excess-refutes : (histories : Histories) (e : Excess) → IsExcess histories e →
    HasNoOrder histories
excess-refutes histories e is past linear = split (is_complete histories past)
    (λ complete.
    let le = received-le-sent e.time e.prio e.message.items histories past
    (cut e.time histories past linear complete) in
    let received = is.received in
    let sent = is.sent in
    let more = is.more in
    absurd (omega (arith, le, received, sent, more)))
    (λ f. f)
