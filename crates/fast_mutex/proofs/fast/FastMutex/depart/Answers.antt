use Rattle.std.proofs.Common.{arith, ◌≡◌, ◌∙◌, ◌∷◌, [], Some, ap, sym}
use Rattle.fast_mutex.specs.Items.{LockId}
use Rattle.fast_mutex.specs.Seats.{lock_id}
use Rattle.fast_mutex.specs.Marks.{answer_bits}
use Rattle.fast_mutex.specs.Fast.{list_in}
use Rattle.fast_mutex.proofs.FastKeeps.{ready_from, shows_after, leaves_ready, planned_is, lowers_leaving_at, left_is}
use Rattle.fast_mutex.proofs.fast.FastMutex.depart.Goals as goal

pub set_marks-seat-requires-clause-lock : goal.set_marks-seat-requires-clause-lock
set_marks-seat-requires-clause-lock g c = let fixed = ap (λ m. m.0.fixed) c.put_in.ensures.state in
    (λ i. lock_id (c.put_in.ensures.own.0 i) (fixed i)) ∙ c.requires.lock

pub set_marks-seat-requires-clause-ready : goal.set_marks-seat-requires-clause-ready
set_marks-seat-requires-clause-ready g c = let w = c.args.inside in
    ready_from _ _ _ _ _ w.at w.number _ _ _ _ _ c.args.state (c.put_in.ensures.state ∙
    ap (λ m. (m.0, (0, Some c.args.state) ∷ [])) w.alone) w.is_in c.requires.grows
    (c.requires.fixed ∙ sym (ap (λ (l : LockId). l.fixed) c.requires.lock)) w.unstored

pub set_marks-seat-requires-clause-before : goal.set_marks-seat-requires-clause-before
set_marks-seat-requires-clause-before g c = let found =
    ap (λ m. m.0.found) c.put_in.ensures.state in c.args.inside.known ∙
    ap (λ l. answer_bits (λ p. g.S.Logged.is_answered p l) 1 32) (sym found)

pub set_marks-seat-requires-clause-after : goal.set_marks-seat-requires-clause-after
set_marks-seat-requires-clause-after g c = let slots = ap (λ m. m.1) c.put_in.ensures.state in
    c.answers-after.ensures ∙
    ap (λ z. answer_bits (λ p. g.S.Logged.is_answered p (list_in g.S.Logged.items z)) 1 32)
    (sym slots)

pub store-requires : goal.store-requires
store-requires g c = (
  c.set_marks-seat.ensures.own.0 ∙ c.put_in.ensures.own.0 ∙ ap (λ (l : LockId). l.table)
      c.requires.lock,
  omega (arith, c.args.self.now.shape),
  leaves_ready _ _ _ _ _ _ _ _ c.set_marks-seat.ensures.ready
      (shows_after g.S.Logged.items g.S.Logged.fixed g.S.Logged.author g.S.Logged.is_answered
      c.put_in.new.seat.me c.set_marks-seat.result.me c.set_marks-seat.ensures.view
      c.set_marks-seat.ensures.shows),
)

pub store-requires-2 : goal.store-requires-2
store-requires-2 g c = let w = c.args.inside in
    let same : w.seat.me.0.fixed.0 ≡ c.args.self.now.table.shared.key.count =
    ap (λ (l : LockId). l.count) c.requires.lock in
    let held = planned_is _ c.set_marks-seat.result.me _ _ (c.put_in.ensures.state ∙
    ap (λ m. (m.0, (0, Some c.args.state) ∷ [])) w.alone) c.set_marks-seat.ensures.view in (
      c.store.ensures.0 ∙ (c.set_marks-seat.ensures.own.0 ∙ c.put_in.ensures.own.0 ∙
          ap (λ (l : LockId). l.table) c.requires.lock),
      omega (arith, c.args.self.now.shape, c.args.inside.range),
      lowers_leaving_at _ _ _ _ _ _ _ _ _ _ _ _ _ _ (left_is g.S.Logged.items _ _ _ _ _ _ _ _ _
          c.args.state held c.store.ensures.2.goes),
    )
