use Rattle.mq_checker.proofs.TakenBits.{taken-start}
use Rattle.mq_checker.proofs.taken.unmarked.Goals as goal

pub returns : goal.returns
returns c = taken-start 16384
