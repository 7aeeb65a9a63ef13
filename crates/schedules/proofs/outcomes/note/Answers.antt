use Rattle.std.proofs.lemmas.Grind.{common_steps}
use Rattle.std.proofs.Common.{arith}
use Rattle.std.proofs.Common.{◌≡◌, false, inr, refl}
use Rattle.schedules.specs.Outcomes.{is_among, observed_in}
use Rattle.schedules.proofs.Collecting.{among-push, distinct-push}
use Rattle.schedules.proofs.outcomes.note.Goals as goal

pub returns-clause-distinct : goal.returns-clause-distinct
returns-clause-distinct g c = grind (arith, common_steps, distinct-push)

pub returns-clause-noted : goal.returns-clause-noted
returns-clause-noted g c goal = rw c.in_ok-push.ensures.items (among-push c.args.found.now.items _ _
    c.in_ok-outcome.ensures)

pub returns-clause-grows : goal.returns-clause-grows
returns-clause-grows g c = inr (
  record {
    outcome = c.in_ok-outcome.outcome;
    schedule = c.in_ok-schedule.schedule;
  },
  c.in_ok-schedule.ensures.items_if_clones_equal
      (λ x y same. same),
  c.in_ok-push.ensures.items,
)
