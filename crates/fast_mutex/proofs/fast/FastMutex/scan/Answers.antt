use Rattle.std.proofs.Common.{arith, ◌≡◌, ap}
use Rattle.lamport_core.specs.State.{IsProcess}
use Rattle.fast_mutex.specs.Items.{LockId}
use Rattle.fast_mutex.proofs.FastKeeps.{stands_at, loads_flag_at, scan_process}
use Rattle.fast_mutex.proofs.fast.FastMutex.scan.Goals as goal

pub load-found-requires : goal.load-found-requires
load-found-requires g c = let w = c.args.walk in
    let same : w.seat.me.0.fixed.0 ≡ c.args.self.now.table.shared.key.count =
    ap (λ (l : LockId). l.count) c.requires.lock in
    let in_range : IsProcess w.seat.me.0.fixed.0 c.args.j = scan_process _ c.args.j _ w.at w.counted
    c.requires.at in (
      ap (λ (l : LockId). l.table) c.requires.lock,
      omega (arith, c.args.self.now.shape, in_range),
      loads_flag_at _ _ _ _ _ _ _ _ _ _ _ _ _ _ c.args.j
          (stands_at _ w.at _ w.number w.alone c.requires.at),
    )
