use Rattle.history_judge.specs.Descriptors.{no_numbers}
use Rattle.history_judge.proofs.OwnNumbers.{none-owned-yet, renamed-again}
use Rattle.history_judge.proofs.renaming.renames_once.Goals as goal

pub returns : goal.returns
returns c = λ operations. renamed-again no_numbers no_numbers none-owned-yet operations
