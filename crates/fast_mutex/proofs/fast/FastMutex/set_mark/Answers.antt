use Rattle.std.proofs.Common.{arith, ◌≡◌, ◌+◌, ap}
use Rattle.fast_mutex.specs.Items.{LockId}
use Rattle.fast_mutex.proofs.FastKeeps.{marks_at, marked_is}
use Rattle.fast_mutex.proofs.fast.FastMutex.set_mark.Goals as goal

pub store-requires : goal.store-requires
store-requires g c = let s = c.args.seat in
    let same : s.me.0.fixed.0 ≡ c.args.self.now.table.shared.key.count =
    ap (λ (l : LockId). l.count) c.requires.lock in
    let word : c.args.self.now.count + 1 + c.args.process ≡ s.me.0.fixed.0 + 1 + c.args.process =
    omega (arith, c.args.self.now.shape) in (
      ap (λ (l : LockId). l.table) c.requires.lock,
      omega (arith, c.args.self.now.shape, c.requires.process),
      marks_at _ _ _ _ _ g.met.S.Logged.stays _ _ c.args.process _ _ _ c.requires.ready
          c.requires.process.0 (omega (arith, c.args.self.now.shape, c.requires.process)) word
          c.requires.mark,
    )

pub returns-clause-view : goal.returns-clause-view
returns-clause-view g c = let s = c.args.seat in
    let same : s.me.0.fixed.0 ≡ c.args.self.now.table.shared.key.count =
    ap (λ (l : LockId). l.count) c.requires.lock in
    let word : c.args.self.now.count + 1 + c.args.process ≡ s.me.0.fixed.0 + 1 + c.args.process =
    omega (arith, c.args.self.now.shape) in
    marked_is _ _ _ _ _ _ c.args.process s.me _ c.store.ensures.2 word
