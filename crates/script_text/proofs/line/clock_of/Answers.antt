use Rattle.std.proofs.Common.{arith}
use Rattle.script_text.proofs.WordCounts.{clock_none}
use Rattle.script_text.proofs.line.clock_of.Goals as goal

pub returns-in_default-clause-written : goal.returns-in_default-clause-written
returns-in_default-clause-written c = clock_none c.args.words.now
    (λ other. omega (arith, c.in_default.len_below))

pub returns-in_default-2-clause-written : goal.returns-in_default-2-clause-written
returns-in_default-2-clause-written c = clock_none c.args.words.now
    (λ other. omega (arith, c.in_default.len_at_least))
