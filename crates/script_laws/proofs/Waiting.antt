-- A call that waited is two moves: the wait and its collect.
use Rattle.std.proofs.lemmas.Bool.Decides.{nat_tests}
use Rattle.std.proofs.Common.{◌≡◌, ℕ, ◌+◌, Bool, true, List, [], ◌∷◌, ◌++◌, length, append_assoc, Some, None, if◌then◌else◌, refl, ap, ◌∙◌, subst, arith, eq-eqb, Vec, Global}
use Rattle.fast_mutex.specs.Items.{LockId, Ticket, Grows}
use Rattle.mq.specs.Calls.{Waited, author, bounds_in, recorded}
use Rattle.mq.proofs.Others.{wait-grown}
use Rattle.mq_model.specs.Legality.{IsLegalNext, Legal}
use Rattle.mq_model.specs.Messages.{is_receive}
use Rattle.mq_model.specs.Record.{Past, Record, record_at}
use Rattle.mq_model.specs.Waits.{answered_by, open_wait}
use Rattle.mq_model.specs.declared.entries.Call.{Call}
use Rattle.mq_model.specs.declared.entries.Call.TheVariants.{Collect}
use Rattle.mq_model.specs.declared.entries.Reply.TheVariants.{Collected, Waits}
use Rattle.mq_state.specs.Buffers.{message_at, received_at, with_front}
use Rattle.script_orders.specs.Progress.{Progress}
use Rattle.script_orders.specs.Said.{said, said_of_collect, said_of_message}
use Rattle.script_orders.specs.Turns.{after_turn}
use Rattle.script_orders.specs.declared.plan.Planned.{Planned}
use Rattle.script_orders.specs.declared.plan.Step.TheVariants as steps
use Rattle.script_text.specs.Replies.{reply_line}
use Rattle.script_text.specs.declared.reply.Outcome.TheVariants as outcomes
use Rattle.script_laws.proofs.Answering.{Answers, answer-kind, record_at-more}
use Rattle.script_laws.proofs.Course.{Goes}
use Rattle.script_laws.proofs.Lines.{IsNext, call-goes, turn-by-collect, turn-by-line}
use Rattle.script_laws.proofs.Moving.{IsAt, Moved, at-free, further, mine-one, stood}
use Rattle.script_laws.proofs.Saying.{message-prints}
use Rattle.script_laws.proofs.Splitting.{stands}

-- older records -----------------------------------------------------------------------------------

pub record_at-grown : (p k : ℕ) (r : Record) (before after : Past) →
    Grows author p before after [] → record_at before k ≡ Some r → record_at after k ≡ Some r
record_at-grown p k r before after g at = ap (λ (past : Past). record_at past k) g.is ∙
    record_at-more g.behind before k r at

-- a journal that extends another is legal only if that one is
pub legal-behind : (more past : Past) → Legal (more ++ past) → Legal past
legal-behind [] past legal = legal
legal-behind (x ∷ more) past legal = legal-behind more past legal.0

pub legal-grown : (p : ℕ) (before after : Past) → Grows author p before after [] → Legal after →
    Legal before
legal-grown p before after g legal = legal-behind g.behind before
    (subst (λ (past : Past). Legal past) g.is legal)

-- what is printed of a collect --------------------------------------------------------------------

-- what a collect prints: the line of a send, or a message
pub said-by : (b : Bool) (past : Past) (p by : ℕ) (waiting : Call) → is_receive waiting ≡ b →
    Answers past by waiting →
    said_of_collect past p by ≡
    (if b then said_of_message past p by else reply_line p outcomes.Done [])
said-by b past p by waiting kind answers = grind arith

-- a receive returned the message of the send that answered it, and a longer journal says the same
pub received-prints : (past new : Past) (p by : ℕ) (waiting : Call) (before : List ℕ) →
    Grows author p past new [] → is_receive waiting ≡ true → Answers past by waiting
    → said_of_collect past p by ≡ reply_line p (outcomes.Got (received_at new by))
    (with_front (message_at new by) before)
received-prints past new p by waiting before g kind answers =
    let later : record_at new by ≡ Some answers.answer = record_at-grown p by answers.answer past
    new g answers.at in
    let same : said_of_message past p by ≡ said_of_message new p by = rw (answers.at, later) refl in
    said-by true past p by waiting kind answers ∙ same ∙ message-prints new p by before

-- a collect ---------------------------------------------------------------------------------------

-- the move that collects
pub collect-goes : (phase : ℕ) (program : Vec Planned Global) (p by : ℕ) (waited : Record)
    (wait : ℕ) (progress : Progress) (found : Past)
    → Legal found → IsLegalNext found (recorded p Collect [] (Collected by))
    → open_wait found p ≡ Some wait → record_at found wait ≡ Some waited
    → (after_turn found phase p progress program ≡
    Some (record {
      past = recorded p Collect [] (Collected by) ∷ found;
      progress = record {
        begun = progress.begun + 0;
        text = progress.text ++ said_of_collect
            (recorded p Collect [] (Collected by) ∷ found) p by;
      };
    }))
    × Answers (recorded p Collect [] (Collected by) ∷ found) by waited.entry.call
collect-goes phase program p by waited wait progress found legal next waits at =
    let r : Record = recorded p Collect [] (Collected by) in
    let goes = call-goes found p Collect [] (Collected by) progress next in
    let answered : answered_by found p ≡ Some by = grind arith in
    let answers = answer-kind found legal p wait by waited waits answered at in (
      turn-by-collect found phase p progress program wait (record {
        past = r ∷ found;
        text = progress.text ++ said (r ∷ found) p (Collected by);
      }) waits goes,
      record {
        answer = answers.answer;
        at = record_at-more (r ∷ []) found by answers.answer
            answers.at;
        kind = answers.kind;
      },
    )

-- both moves --------------------------------------------------------------------------------------

-- the move that begins it
pub wait-goes : (phase : ℕ) (program : Vec Planned Global) (p : ℕ) (from found : Past)
    (progress : Progress) (call : Call) (given : List ℕ)
    → open_wait from p ≡ None → Grows author p from found [] →
    IsNext phase program progress.begun (steps.Call call) given →
    IsLegalNext found (recorded p call given Waits)
    → Goes p phase program (record {
      found = found;
      own = recorded p call given Waits ∷ [];
      next = further progress [];
    }) from progress
wait-goes phase program p from found progress call given free others next legal =
    grind (arith, call-goes, mine-one, turn-by-line, wait-grown)

-- a wait and its collect are two moves, if this is printed for the collect
pub waited-moves : (phase : ℕ) (program : Vec Planned Global) (from : Past) (progress : Progress)
    (old new : Ticket Record) (call : Call) (given line : List ℕ) (by : ℕ)
    → IsAt old.number from old → IsNext phase program progress.begun (steps.Call call) given →
    Waited old new call given by
    → ((past : Past) → Grows author old.number past new.left [] → Answers past by call →
    said_of_collect past old.number by ≡ line)
    → Moved old.number phase program from progress new line
waited-moves phase program from progress old new call given line by at next waited prints =
    let p : ℕ = old.number in
    let begun : Ticket Record = waited.begun in
    let wait : Record = recorded p call given Waits in
    let end : Record = recorded p Collect [] (Collected by) in
    let b = stood old begun from call given Waits at refl waited.begins.calls waited.begins.found in
    let begins = wait-goes phase program p from b.found progress call given (at-free p from old at)
    b.others next b.next in
    let grown : Grows author p (wait ∷ b.found) new.left (end ∷ []) =
    rw (waited.begins.calls.number, b.is) at waited.ends.grows in
    let s = stands author p end (wait ∷ b.found) new.left grown in
    let found : Past = s.found in
    let legal : Legal (end ∷ found) = legal-grown p (end ∷ found) new.left s.later
    waited.calls.legal in
    let waits : open_wait found p ≡ Some (length b.found) =
    rw (wait-grown s.others, eq-eqb p p refl) refl in
    let wait_at : record_at found (length b.found) ≡ Some wait = record_at-grown p (length b.found)
    wait (wait ∷ b.found) found s.others
    (rw (eq-eqb (length b.found) (length b.found) refl) refl) in
    let first : Progress = further progress [] in
    let c = collect-goes phase program p by wait (length b.found) first found legal.0 legal.1
    waits wait_at in
    let text : (progress.text ++ []) ++ said_of_collect (end ∷ found) p by ≡ progress.text ++ line =
    rw (prints (end ∷ found) s.later c.1) (append_assoc progress.text [] line) in
    let count : progress.begun + 1 + 0 ≡ progress.begun + 1 = omega arith in
    let to_end : Goes p phase program (record {
      found = found;
      own = end ∷ [];
      next = further progress line;
    }) (wait ∷ b.found) first = grind (arith, nat_tests, mine-one)
    in
    record {
      at = end ∷ found;
      is = record {
        number = waited.calls.number;
        bounds = ap (λ (l : LockId). bounds_in l.fixed) waited.calls.lock ∙ at.bounds;
        free = rw (waited.calls.number, wait-grown s.later, eq-eqb p p refl) refl;
        near = s.later;
      };
      goes = λ to end_progress moves course. (
        record { found = b.found; own = wait ∷ []; next = first } ∷
            (record { found = found; own = end ∷ []; next = further progress line } ∷ moves),
        (begins, (to_end, course)),
      );
    }
