use Rattle.std.proofs.Common.{arith, ◌≡◌, ap}
use Rattle.fast_mutex.specs.Items.{LockId}
use Rattle.fast_mutex.proofs.FastKeeps.{stands_at, lowers_back_at}
use Rattle.fast_mutex.proofs.fast.FastMutex.back_b.Goals as goal

pub store-requires : goal.store-requires
store-requires g c = let w = c.args.walk in
    let same : w.seat.me.0.fixed.0 ≡ c.args.self.now.table.shared.key.count =
    ap (λ (l : LockId). l.count) c.requires.lock in (
      ap (λ (l : LockId). l.table) c.requires.lock,
      omega (
        arith,
        c.args.self.now.shape,
        c.args.walk.range,
      ),
      lowers_back_at _ _ _ _ _ _ _ _ _ _ _ _ _ _
          (stands_at _ w.at _ w.number w.alone c.requires.at),
    )
