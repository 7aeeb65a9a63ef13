use Rattle.std.proofs.Common.{refl, arith}
use Rattle.mq_checker.proofs.tables.vacant.Goals as goal

pub returns : goal.returns
returns c = record { mirror = c.free.ensures.starts 33 (omega arith); count = refl }
