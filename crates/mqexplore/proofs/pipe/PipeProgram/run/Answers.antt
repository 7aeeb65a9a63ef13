use Rattle.std.proofs.Common.{true, List, [], ◌∷◌, ◌++◌, Ok, Err, refl}
use Rattle.std.specs.Result.{IfOk}
use Rattle.exploration.specs.Shown.{Shows}
use Rattle.exploration.specs.declared.operation.Choice.{Choice}
use Rattle.exploration.specs.declared.operation.Step.{Step}
use Rattle.mqexplore.proofs.pipe.PipeProgram.run.Goals as goal

-- of a test that is true of all choices, steps show what it says
shows-all : (before : List Choice) (steps : List Step) → Shows (λ _ _. true) before steps
shows-all before [] = tt
shows-all before (step ∷ steps) =
    ((λ choice can. refl), shows-all (before ++ step.choice ∷ []) steps)

pub returns-clause-shows : goal.returns-clause-shows
returns-clause-shows g c = elim c.trace.result as
    (λ r. IfOk r (λ trace. Shows (λ _ _. true) [] trace.steps.items)) [
      | Ok trace ↦ shows-all [] trace.steps.items
      | Err fault ↦ tt
    ]
