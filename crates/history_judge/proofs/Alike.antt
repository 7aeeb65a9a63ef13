-- Calls that show the same have operations that show the same.
use Rattle.std.proofs.Common.{◌≡◌, ℕ, ◌==◌, max, Bool, List, [], ◌∷◌, Option, Some, None, map, refl, ap, sym, ◌∙◌, if◌then◌else◌, arith}
use Rattle.mq_model.specs.declared.entries.Call.{Call}
use Rattle.mq_model.specs.declared.entries.Reply.{Reply}
use Rattle.mq_model.specs.declared.entries.Reply.TheVariants as reply
use Rattle.histories.specs.declared.operation.Operation.{Operation}
use Rattle.histories.specs.declared.operation.Outcome.{Outcome}
use Rattle.histories.specs.declared.operation.Outcome.TheVariants.{Done, Opened}
use Rattle.history_judge.specs.Text.{message_of, written_reply}
use Rattle.history_judge.specs.Seen.{AreSameCalls, AreSameOperations, Seen, SeenCall, seen, seen_call}
use Rattle.history_judge.specs.Processes.{is_process, operations_of, process_count}
use Rattle.history_judge.specs.Descriptors.{Numbers, after_closed, after_opened, lowest_free, no_numbers, numbers_after, own_call, own_operation, own_outcome, renamed}
use Rattle.history_judge.specs.declared.line.Called.{Called}

-- by processes ------------------------------------------------------------------------------------

abbrev operations_seen : ℕ → List SeenCall → List Seen
operations_seen process [] = []
operations_seen process (c ∷ calls) =
    if c.process == process then c.operation ∷ operations_seen process calls
    else operations_seen process calls

if-seen : (b : Bool) (o : Operation) (xs : List Operation) (ys : List Seen) → map seen xs ≡ ys →
    map seen (if b then o ∷ xs else xs) ≡ (if b then seen o ∷ ys else ys)
if-seen b o xs ys e = grind arith

operations_of-seen : (p : ℕ) (calls : List Called) →
    map seen (operations_of p calls) ≡ operations_seen p (map seen_call calls)
operations_of-seen p [] = refl
operations_of-seen p (c ∷ calls) = if-seen (c.process == p) c.operation (operations_of p calls)
    (operations_seen p (map seen_call calls)) (operations_of-seen p calls)

operations_of-alike : (p : ℕ) (xs ys : List Called) → AreSameCalls xs ys →
    AreSameOperations (operations_of p xs) (operations_of p ys)
operations_of-alike p xs ys same = operations_of-seen p xs ∙ ap (operations_seen p) same ∙
    sym (operations_of-seen p ys)

abbrev count_seen : List SeenCall → ℕ
count_seen [] = 0
count_seen (c ∷ calls) = max (if is_process c.process then c.process else 0) (count_seen calls)

count-seen : (calls : List Called) → process_count calls ≡ count_seen (map seen_call calls)
count-seen [] = refl
count-seen (c ∷ calls) = ap (λ n. max (if is_process c.process then c.process else 0) n)
    (count-seen calls)

pub process_count-alike : (xs ys : List Called) → AreSameCalls xs ys →
    process_count xs ≡ process_count ys
process_count-alike xs ys same = count-seen xs ∙ ap count_seen same ∙ sym (count-seen ys)

-- by own numbers ----------------------------------------------------------------------------------

abbrev own_reply : Numbers → Option Reply → Option Reply
own_reply numbers None = None
own_reply numbers (Some (reply.Opened d created)) =
    Some (reply.Opened (lowest_free numbers) created)
own_reply numbers (Some r) = Some r

own_message-is : (numbers : Numbers) (o : Outcome) →
    message_of (own_outcome numbers o) ≡ message_of o
own_message-is numbers o = grind arith

abbrev after_reply : Numbers → Call → Option Reply → Numbers
after_reply numbers call None = numbers
after_reply numbers call (Some (reply.Opened d created)) = after_opened numbers
    (lowest_free numbers) d
after_reply numbers call (Some reply.Done) = after_closed numbers call
after_reply numbers call (Some r) = numbers

after_reply-is : (numbers : Numbers) (call : Call) (o : Outcome) →
    numbers_after numbers call o ≡ after_reply numbers call (written_reply o)
after_reply-is numbers call o = grind arith

abbrev own_seen : Numbers → Seen → Seen
own_seen numbers s = record s { call = own_call numbers s.call; reply = own_reply numbers s.reply }

own_seen-is : (numbers : Numbers) (o : Operation) →
    seen (own_operation numbers o) ≡ own_seen numbers (seen o)
own_seen-is numbers o = grind (arith, own_message-is)

abbrev renamed_seen : Numbers → List Seen → List Seen
renamed_seen numbers [] = []
renamed_seen numbers (s ∷ operations) =
    own_seen numbers s ∷ renamed_seen (after_reply numbers (own_call numbers s.call) s.reply)
    operations

renamed-seen : (numbers : Numbers) (operations : List Operation) →
    map seen (renamed numbers operations) ≡ renamed_seen numbers (map seen operations)
renamed-seen numbers [] = refl
renamed-seen numbers (o ∷ operations) =
    let next = numbers_after numbers (own_call numbers o.call) o.outcome in
    ap (λ s. s ∷ map seen (renamed next operations)) (own_seen-is numbers o)
    ∙ ap (λ t. own_seen numbers (seen o) ∷ t)
    (renamed-seen next operations ∙ ap (λ n. renamed_seen n (map seen operations))
    (after_reply-is numbers (own_call numbers o.call) o.outcome))

renamed-alike : (numbers : Numbers) (xs ys : List Operation) → AreSameOperations xs ys →
    AreSameOperations (renamed numbers xs) (renamed numbers ys)
renamed-alike numbers xs ys same = renamed-seen numbers xs ∙ ap (renamed_seen numbers) same ∙
    sym (renamed-seen numbers ys)

pub own_operations-alike : (p : ℕ) (xs ys : List Called) → AreSameCalls xs ys →
    AreSameOperations (renamed no_numbers (operations_of p xs))
    (renamed no_numbers (operations_of p ys))
own_operations-alike p xs ys same = renamed-alike no_numbers (operations_of p xs)
    (operations_of p ys) (operations_of-alike p xs ys same)
