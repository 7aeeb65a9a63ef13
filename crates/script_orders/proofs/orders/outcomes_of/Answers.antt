use Rattle.std.proofs.Common.{◌≡◌, ◌∙◌, sym, subst, List, true}
use Rattle.std.specs.List.{All}
use Rattle.schedules.specs.Outcomes.{AreDistinct, AreFoundWithin, IsWitness, is_among}
use Rattle.schedules.specs.declared.outcomes.Witnessed.{Witnessed}
use Rattle.script_orders.specs.Phased.{AreInOrder}
use Rattle.script_orders.specs.Stage.{first_stage, next_stage, observed, stands_still}
use Rattle.script_orders.proofs.Phasing.{all-among, all-joined-all, all-joined-distinct, all-joined-ordered, all-joined-within}
use Rattle.script_orders.proofs.orders.outcomes_of.Goals as goal

pub returns-clause-witnessed : goal.returns-clause-witnessed
returns-clause-witnessed c =
    let P : Witnessed →
    Type 0 = IsWitness next_stage stands_still observed (first_stage c.args.play.now) in
    let before : All P c.in_ok-found.field-0.found.items = c.in_ok-found.ensures.witnessed in
    subst (λ (found : List Witnessed). All P found) (sym c.in_ok-found-2.ensures)
    (all-joined-all P c.in_ok-found.field-0.found.items before)

pub returns-clause-distinct : goal.returns-clause-distinct
returns-clause-distinct c =
    let before : AreDistinct c.in_ok-found.field-0.found.items = c.in_ok-found.ensures.distinct in
    subst (λ (found : List Witnessed). AreDistinct found) (sym c.in_ok-found-2.ensures)
    (all-joined-distinct c.in_ok-found.field-0.found.items before)

pub returns-clause-all : goal.returns-clause-all
returns-clause-all c = λ complete schedule to leads.
    let before : is_among c.in_ok-found.field-0.found.items (observed to) ≡ true =
    c.in_ok-found.ensures.all complete schedule to leads in
    subst (λ (found : List Witnessed). is_among found (observed to) ≡ true)
    (sym c.in_ok-found-2.ensures) (all-among c.in_ok-found.field-0.found.items (observed to) ∙
    before)

pub returns-clause-in_order : goal.returns-clause-in_order
returns-clause-in_order c = subst (λ (found : List Witnessed). AreInOrder found)
    (sym c.in_ok-found-2.ensures) (all-joined-ordered c.in_ok-found.field-0.found.items)

pub returns-clause-within : goal.returns-clause-within
returns-clause-within c = λ complete.
    let before : AreFoundWithin c.in_ok-found.field-0.steps c.in_ok-found.field-0.found.items =
    c.in_ok-found.ensures.within complete in
    subst (λ (found : List Witnessed). AreFoundWithin c.in_ok-found.field-0.steps found)
    (sym c.in_ok-found-2.ensures) (all-joined-within c.in_ok-found.field-0.steps
    c.in_ok-found.field-0.found.items before)
