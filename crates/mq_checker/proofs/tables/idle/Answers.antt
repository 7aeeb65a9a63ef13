use Rattle.std.proofs.Common.{refl}
use Rattle.mq_checker.proofs.tables.idle.Goals as goal

pub returns : goal.returns
returns c = record { mirror = c.free.ensures.starts 2049; count = refl }
