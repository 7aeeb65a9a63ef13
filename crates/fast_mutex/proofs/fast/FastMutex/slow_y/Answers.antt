use Rattle.std.proofs.Common.{arith, ◌≡◌, ap}
use Rattle.fast_mutex.specs.Items.{LockId}
use Rattle.fast_mutex.proofs.FastKeeps.{stands_at, tests_y_at}
use Rattle.fast_mutex.proofs.fast.FastMutex.slow_y.Goals as goal

pub load-found-requires : goal.load-found-requires
load-found-requires g c = let w = c.args.walk in
    let same : w.seat.me.0.fixed.0 ≡ c.args.self.now.table.shared.key.count =
    ap (λ (l : LockId). l.count) c.requires.lock in (
      ap (λ (l : LockId). l.table) c.requires.lock,
      omega (
        arith,
        c.args.self.now.shape,
        c.args.walk.range,
      ),
      tests_y_at _ _ _ _ _ _ _ _ _ _ _ _ _ _
          (stands_at _ w.at _ w.number w.alone c.requires.at),
    )
