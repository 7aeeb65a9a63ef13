use Rattle.std.proofs.Common.{arith}
use Rattle.std.proofs.lemmas.Grind.{common_steps}
use Rattle.script_runner.proofs.Working.{new-count, new-ready}
use Rattle.script_runner.proofs.run.run_whole.Goals as goal

pub run-requires-after_bounds : goal.run-requires-after_bounds
run-requires-after_bounds g c h2 within = grind (arith, new-ready)

pub journal_of-requires-clause-made : goal.journal_of-requires-clause-made
journal_of-requires-clause-made g c = grind arith

pub journal_of-requires-clause-all : goal.journal_of-requires-clause-all
journal_of-requires-clause-all g c = grind (arith, common_steps, new-count)

pub journal_of-requires-in-Err-Stuck-clause-all : goal.journal_of-requires-in-Err-Stuck-clause-all
journal_of-requires-in-Err-Stuck-clause-all g c = grind (arith, common_steps, new-count)

pub returns-in-Err-Stuck-clause-deadlock : goal.returns-in-Err-Stuck-clause-deadlock
returns-in-Err-Stuck-clause-deadlock g c = grind arith
