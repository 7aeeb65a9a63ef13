use Rattle.std.proofs.Common.{◌≡◌, ◌==◌, ◌<◌, ◌≤◌, ℕ, false, List, length, eqb-true, arith}
use Rattle.std.proofs.lemmas.Bool.Decides.{nat_tests}
use Rattle.mq_model.proofs.Prefixes.{first-all}
use Rattle.journal_views.proofs.facts.last_caller.Goals as goal

pub loop-i-preserved : goal.loop-i-preserved
loop-i-preserved c = grind (arith, nat_tests, eqb-true)

pub returns-clause-few : goal.returns-clause-few
returns-clause-few c = c.loop-i.invariant.few

pub returns-clause-none : goal.returns-clause-none
returns-clause-none c = grind (arith, first-all)
