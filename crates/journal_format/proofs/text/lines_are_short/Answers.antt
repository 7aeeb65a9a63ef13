use Rattle.std.proofs.Common.{arith}
use Rattle.journal_format.proofs.LineLengths.{line-length}
use Rattle.journal_format.proofs.text.lines_are_short.Goals as goal

pub returns : goal.returns
returns c = λ place r small fits short. omega (arith, line-length place r small fits, short)
