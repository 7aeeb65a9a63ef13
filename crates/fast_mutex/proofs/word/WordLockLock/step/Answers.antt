use Rattle.std.proofs.Common.{arith, ap}
use Rattle.fast_mutex.specs.Items.{LockId}
use Rattle.fast_mutex.proofs.WordKeeps.{enters_at, walk_outside}
use Rattle.fast_mutex.proofs.word.WordLockLock.step.Goals as goal

pub compare_exchange-found-requires : goal.compare_exchange-found-requires
compare_exchange-found-requires g c = (
  ap (λ (l : LockId). l.table) c.requires.lock,
  omega (arith, c.args.self.now.shape),
  enters_at _ _ _ _ _ _ _ _ _ _ _ (walk_outside g.S.Logged.items c.args.walk.state _ _ _ _
      c.args.walk.alone c.requires.outside),
)
