use Rattle.std.proofs.Common.{arith, ◌≡◌, ◌+◌, ◌-◌, ◌∙◌, ℕ, suc, refl, sym, ap}
use Rattle.fast_mutex.specs.Items.{LockId}
use Rattle.fast_mutex.specs.Marks.{flag}
use Rattle.fast_mutex.specs.Seats.{lock_id}
use Rattle.fast_mutex.specs.Fast.{list_in}
use Rattle.fast_mutex.proofs.MarksKeep.{bits_step, bits_next, flag_same}
use Rattle.fast_mutex.proofs.FastKeeps.{IsMarking, marking_none, marking_same, marking_stored, marking_all}
use Rattle.fast_mutex.proofs.fast.FastMutex.set_marks.Goals.{then-old-new, else-old-new}
use Rattle.fast_mutex.proofs.fast.FastMutex.set_marks.Goals as goal

pub loop-old-init : goal.loop-old-init
loop-old-init g c = record {
  own = (refl, refl);
  marking = marking_none _ _ _ _ _ c.requires.ready;
  low = omega arith;
  high = omega (arith, c.args.self.now.shape);
  before = c.requires.before;
  after = c.requires.after;
}

pub set_mark-seat-requires-clause-lock : goal.set_mark-seat-requires-clause-lock
set_mark-seat-requires-clause-lock g c = let fixed =
    ap (λ m. m.0.fixed) c.loop-old.invariant.marking.view in
    (λ i. lock_id (c.loop-old.invariant.own.0 i) (fixed i)) ∙ c.requires.lock

pub set_mark-seat-requires-clause-ready : goal.set_mark-seat-requires-clause-ready
set_mark-seat-requires-clause-ready g c = c.loop-old.invariant.marking.ready

pub set_mark-seat-requires-clause-mark : goal.set_mark-seat-requires-clause-mark
set_mark-seat-requires-clause-mark g c =
    let k : ℕ = c.loop-old.process in
    let size : 33 - k ≡ suc (32 - k) = omega (arith, c.args.self.now.shape) in
    let bit = bits_step (λ p. g.S.Logged.is_answered p (list_in g.S.Logged.items c.args.seat.me.1))
    k (32 - k) (33 - k) c.loop-old.new size c.loop-old.invariant.after in
    let slots = ap (λ m. m.1) c.loop-old.invariant.marking.view in
    bit.0 ∙ ap (λ z. flag (g.S.Logged.is_answered k (list_in g.S.Logged.items z))) (sym slots)

pub loop-old-preserved : goal.loop-old-preserved
loop-old-preserved g c =
    let k : ℕ = c.loop-old.process in
    let in_found : ℕ → _ = λ p. g.S.Logged.is_answered p c.args.seat.me.0.found in
    let in_given : ℕ →
    _ = λ p. g.S.Logged.is_answered p (list_in g.S.Logged.items c.args.seat.me.1) in
    let size : 33 - k ≡ suc (32 - k) = omega (arith, c.args.self.now.shape) in
    let old_bit = bits_step in_found k (32 - k) (33 - k) c.loop-old.old size
    c.loop-old.invariant.before in
    let new_bit = bits_step in_given k (32 - k) (33 - k) c.loop-old.new size
    c.loop-old.invariant.after in
    let step : ((c.if-old-new.seat.table_id ≡ c.args.seat.table_id) ×
    (c.if-old-new.seat.id ≡ c.args.seat.id)) × IsMarking g.S.Logged.items g.S.Logged.fixed
    g.S.Logged.author g.S.Logged.is_answered c.args.seat.me (k + 1) c.if-old-new.seat.me =
    elim c.if-old-new.branch [
      | then-old-new w ↦ (
        (
          ap (λ z. z.table_id) w.seat-is ∙ w.set_mark-seat.ensures.own.0 ∙
              c.loop-old.invariant.own.0,
          ap (λ z. z.id) w.seat-is ∙ w.set_mark-seat.ensures.own.1 ∙
              c.loop-old.invariant.own.1,
        ),
        marking_stored _ _ _ _ _ _ _ k c.loop-old.invariant.marking (ap (λ z. z.me) w.seat-is ∙
            w.set_mark-seat.ensures.view),
      )
      | else-old-new w ↦ (
        (
          ap (λ z. z.table_id) w.seat-is ∙ c.loop-old.invariant.own.0,
          ap (λ z. z.id) w.seat-is ∙
              c.loop-old.invariant.own.1,
        ),
        marking_same _ _ _ _ _ _ _ k c.loop-old.invariant.marking
            (flag_same (in_found k) (in_given k) (sym old_bit.0 ∙ w.if-old-new.false ∙ new_bit.0))
            (ap (λ z. z.me) w.seat-is),
      )
    ] in record {
      own = step.0;
      marking = step.1;
      low = omega arith;
      high = omega arith;
      before = bits_next in_found k c.loop-old.old old_bit.1;
      after = bits_next in_given k c.loop-old.new new_bit.1;
    }

pub returns-after-loop-old-clause-view : goal.returns-after-loop-old-clause-view
returns-after-loop-old-clause-view g c = c.loop-old.invariant.marking.view

pub returns-after-loop-old-clause-ready : goal.returns-after-loop-old-clause-ready
returns-after-loop-old-clause-ready g c = c.loop-old.invariant.marking.ready

pub returns-after-loop-old-clause-shows : goal.returns-after-loop-old-clause-shows
returns-after-loop-old-clause-shows g c =
    let k : ℕ = c.loop-old.process in
    let same : c.args.seat.me.0.fixed.0 ≡ c.args.self.now.table.shared.key.count =
    ap (λ (l : LockId). l.count) c.requires.lock in
    marking_all _ _ _ _ _ _ k (33 - k) _ c.loop-old.old c.loop-old.invariant.marking
    c.loop-old.invariant.before (c.loop-old-test.false ∙ c.loop-old.invariant.after)
    (omega (arith, c.args.self.now.shape))

pub returns-after-loop-old-clause-few : goal.returns-after-loop-old-clause-few
returns-after-loop-old-clause-few g c = omega (
  arith,
  c.loop-old.invariant.marking.few,
  c.loop-old.invariant.high,
)
