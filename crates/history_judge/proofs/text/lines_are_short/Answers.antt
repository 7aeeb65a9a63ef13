use Rattle.std.proofs.Common.{arith}
use Rattle.history_judge.proofs.LineLengths.{line-length}
use Rattle.history_judge.proofs.text.lines_are_short.Goals as goal

pub returns : goal.returns
returns c = λ d fits given message. omega (arith, line-length d fits, given, message)
