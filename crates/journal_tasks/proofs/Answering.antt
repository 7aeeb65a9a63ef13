-- What was found about a script, from the start of its processes.
use Rattle.std.proofs.Common.{◌≡◌, ◌≤◌, ◌*◌, ◌∙◌, ℕ, true, false, Option, ap, subst}
use Rattle.std.specs.List.{All}
use Rattle.schedules.specs.Outcomes.{AreAll, AreDistinct, AreFoundWithin, IsWitness}
use Rattle.schedules.specs.Work.{TakesAll}
use Rattle.schedules.specs.declared.outcomes.Collected.{Collected}
use Rattle.script_orders.specs.Orders.{AreLegal}
use Rattle.script_orders.specs.Stage.{Stage, choice_count, first_stage, next_stage, observed, stands_still}
use Rattle.journal_tasks.specs.EveryOrder.{AreFound, answer_text}

pub found-from : (budget : ℕ) (play : Stage) (collected : Collected) → first_stage play ≡ play →
    All (IsWitness next_stage stands_still observed (first_stage play)) collected.found.items →
    AreDistinct collected.found.items →
    (collected.complete ≡ true → AreAll next_stage stands_still observed (first_stage play)
    collected.found.items) →
    (collected.complete ≡ false → TakesAll next_stage choice_count (λ depth. 1) budget
    (first_stage play)) →
    (collected.steps ≤ budget) × (collected.complete ≡ false → collected.steps ≡ budget) →
    (collected.complete ≡ true → AreFoundWithin collected.steps collected.found.items) →
    2 * collected.states ≤ collected.steps → AreLegal (first_stage play) →
    AreFound budget play collected
found-from budget play collected first witnessed distinct all used_up steps within states legal =
    let P : Stage → Type 0 = λ s. AreFound budget s collected in
    let here : AreFound budget (first_stage play) collected = record {
      witnessed = witnessed;
      distinct = distinct;
      all = all;
      used_up = used_up;
      steps = steps;
      within = within;
      states =
          states;
      legal = legal;
    } in
    subst P first here

pub text-from : (journal : Option ℕ) (phases count : ℕ) (play later : Stage)
    (collected : Collected) →
    phases ≡ count → first_stage later ≡ first_stage play → first_stage play ≡ play →
    answer_text journal phases (first_stage later) collected ≡
    answer_text journal count play collected
text-from journal phases count play later collected same start first =
    ap (λ (n : ℕ). answer_text journal n (first_stage later) collected) same
    ∙ ap (λ (s : Stage). answer_text journal count s collected) start
    ∙ ap (λ (s : Stage). answer_text journal count s collected) first
