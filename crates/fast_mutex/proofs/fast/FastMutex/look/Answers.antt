use Rattle.std.proofs.Common.{arith, ◌≡◌, ◌+◌, ap}
use Rattle.fast_mutex.specs.Seats.{lock_id, last_left}
use Rattle.fast_mutex.specs.Items.{LockId}
use Rattle.fast_mutex.proofs.FastKeeps.{looks_at}
use Rattle.fast_mutex.proofs.fast.FastMutex.look.Goals as goal

pub load-found-requires : goal.load-found-requires
load-found-requires g c = let s = c.args.seat.now in
    let same : s.seat.me.0.fixed.0 ≡ c.args.self.now.table.shared.key.count =
    ap (λ (l : LockId). l.count) c.requires in
    let word : c.args.self.now.count + 1 + s.number ≡ s.seat.me.0.fixed.0 + 1 + s.number =
    omega (arith, c.args.self.now.shape) in (
      ap (λ (l : LockId). l.table) c.requires,
      omega (arith, c.args.self.now.shape, s.range),
      looks_at _ _ _ _ _ g.met.S.Logged.stays _ _ _ _ _ _ _ _ _ _ word s.alone,
    )

-- by an equation and not by a search, so that a poll with any other result is rejected at once
pub returns-clause-ticket : goal.returns-clause-ticket
returns-clause-ticket g c = let table = c.load-found.ensures.0 in let me =
    c.load-found.ensures.2.goes in
    (λ i. record {
      lock = lock_id (table i) ((me i).0.fixed);
      number = c.args.seat.now.number;
      left = last_left ((me i).0.claims);
      told = (me i).0.plan.told;
    })
