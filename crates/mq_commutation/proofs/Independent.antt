-- Independent calls commute.
use Rattle.std.proofs.Common.{◌≡◌, ◌⊎◌, inl, inr, ℕ, Bool, true, false, ◌&&◌, ◌||◌, not, Option, Some, None, refl, sym, ◌∙◌, ap, eqb-true, arith, nat_le}
use Rattle.std.proofs.lemmas.Bool.{and_parts, not-true}
use Rattle.mq_model.specs.Record.{Past}
use Rattle.mq_model.specs.Threads.{shares}
use Rattle.mq_model.specs.Messages.{is_send, priority, priority_given}
use Rattle.mq_model.specs.Legality.{IsLegalNext, Legal}
use Rattle.mq_model.specs.declared.entries.Reply.{Reply}
use Rattle.mq_model.specs.declared.entries.Reply.TheVariants.{Queued, Got}
use Rattle.mq_model.proofs.Places.{split}
use Rattle.mq_equivalence.specs.Runs.{Request}
use Rattle.mq_commutation.specs.Independence.{differ, are_independent, changes_queues, only_reads, changes_names, whose_notices, passes, passes_by, reply_of, stays_filled, queue_touched}
use Rattle.mq_commutation.specs.Commuting.{Commute, is_covered, record_for}
use Rattle.mq_commutation.proofs.Structure.{other-callers, shares-back}
use Rattle.mq_commutation.proofs.Orders.{on_of, touched-is}
use Rattle.mq_commutation.proofs.Apart.{apart-commute}
use Rattle.mq_commutation.proofs.Pass.{pass-commute, pass-commute-back}

record PassesBy (past : Past) (prio : ℕ) (a b : Reply) : Type 0 where
  message : ℕ
  queued : a ≡ Queued None
  gets : b ≡ Got message None None
  low : nat_le prio (priority past message) ≡ true

passes-by : (past : Past) (prio : ℕ) (a b : Reply) → passes_by past prio a b ≡ true →
    PassesBy past prio a b
passes-by past prio a b e = grind arith

record OneQueue (o u : Option ℕ) : Type 0 where
  queue : ℕ
  first : o ≡ Some queue
  second : u ≡ Some queue

one-queue : (o u : Option ℕ) → differ o u ≡ false → OneQueue o u
one-queue o u e = grind (arith, eqb-true)

four-cases : (u v w z : Bool) → (u || v || w || z) ≡ true → u ≡ false → v ≡ false →
    (w ≡ true) ⊎ (z ≡ true)
four-cases u v w z e f g = grind arith

pub independent-commute : (past : Past) (a b : Request) → Legal past →
    IsLegalNext past (record_for past a) → IsLegalNext past (record_for past b) →
    is_covered a.call ≡ true → is_covered b.call ≡ true → are_independent past a b ≡ true →
    Commute past a b
independent-commute past a b legal first second covered_a covered_b e =
    let queues : Bool = differ (queue_touched past a) (queue_touched past b) || only_reads a.call &&
    only_reads b.call || passes past a b || passes past b a in
    let names : Bool = not (changes_names a.call && changes_queues b.call || changes_names b.call &&
    changes_queues a.call) in
    let one = and_parts (not (shares a.process b.process) && names && differ (whose_notices past a)
    (whose_notices past b)) queues e in
    let two = and_parts (not (shares a.process b.process) && names) (differ (whose_notices past a)
    (whose_notices past b)) one.0 in
    let three = and_parts (not (shares a.process b.process)) names two.0 in
    let other : shares a.process b.process ≡ false = not-true _ three.0 in
    let same : (w : Bool) → differ (queue_touched past a) (queue_touched past b) ≡ w →
    Commute past a b = λ w. by other two.1 one.1 w in
    same (differ (queue_touched past a) (queue_touched past b)) refl
  where
    there : (c : Request) → is_covered c.call ≡ true → (k : ℕ) → queue_touched past c ≡ Some k →
        on_of past c ≡ Some k
    there c covered k is = sym (touched-is past c.process c.call covered) ∙ is

    meets : (other : shares a.process b.process ≡ false) →
        OneQueue (queue_touched past a) (queue_touched past b) →
        (passes past a b ≡ true) ⊎ (passes past b a ≡ true) → Commute past a b
    meets other q (inl p) =
        let x = and_parts (is_send a.call && passes_by past (priority_given a.call)
        (reply_of past a) (reply_of past b)) (stays_filled past (queue_touched past a)) p in
        let y = and_parts (is_send a.call) (passes_by past (priority_given a.call) (reply_of past a)
        (reply_of past b)) x.0 in
        let z = passes-by past (priority_given a.call) (reply_of past a) (reply_of past b) y.1 in
        pass-commute past a b (record {
          legal = legal;
          first = first;
          second = second;
          processes = other-callers a.process b.process other;
          owners = other;
          calls = (covered_a, covered_b);
          sends = y.0;
          queued = z.queued;
          message = z.message;
          gets = z.gets;
          queue = q.queue;
          on_a = there a covered_a q.queue q.first;
          on_b = there b covered_b q.queue q.second;
          low = z.low;
          filled = ap (stays_filled past)
              (sym q.first) ∙ x.1;
        })
    meets other q (inr p) =
        let x = and_parts (is_send b.call && passes_by past (priority_given b.call)
        (reply_of past b) (reply_of past a)) (stays_filled past (queue_touched past b)) p in
        let y = and_parts (is_send b.call) (passes_by past (priority_given b.call) (reply_of past b)
        (reply_of past a)) x.0 in
        let z = passes-by past (priority_given b.call) (reply_of past b) (reply_of past a) y.1 in
        pass-commute-back past b a (record {
          legal = legal;
          first = second;
          second = first;
          processes = λ e. other-callers a.process b.process other (sym e);
          owners =
              shares-back a.process b.process other;
          calls = (covered_b, covered_a);
          sends = y.0;
          queued = z.queued;
          message = z.message;
          gets = z.gets;
          queue = q.queue;
          on_a = there b covered_b q.queue q.second;
          on_b = there a covered_a q.queue q.first;
          low = z.low;
          filled = ap (stays_filled past) (sym q.second) ∙ x.1;
        })

    far : (other : shares a.process b.process ≡ false) →
        differ (whose_notices past a) (whose_notices past b) ≡ true →
        (differ (queue_touched past a) (queue_touched past b) || only_reads a.call && only_reads
        b.call) ≡ true → Commute past a b
    far other notices queues = apart-commute past a b (record {
      legal = legal;
      first = first;
      second = second;
      apart = record {
        processes = other-callers a.process b.process other;
        holders = inl other;
        calls = (covered_a, covered_b);
        queues = queues;
        notices = notices;
      };
    })

    by : (other : shares a.process b.process ≡ false) →
        differ (whose_notices past a) (whose_notices past b) ≡ true →
        (differ (queue_touched past a) (queue_touched past b) || only_reads a.call && only_reads
        b.call || passes past a b || passes past b a) ≡ true → (w : Bool) →
        differ (queue_touched past a) (queue_touched past b) ≡ w → Commute past a b
    by other notices all true is = far other notices (rw is refl)
    by other notices all false is = split (only_reads a.call && only_reads b.call)
        (λ look. far other notices (rw (is, look) refl))
        (λ not_look. meets other (one-queue (queue_touched past a) (queue_touched past b) is)
        (four-cases (differ (queue_touched past a) (queue_touched past b))
        (only_reads a.call && only_reads b.call) (passes past a b) (passes past b a)
        all is not_look))
