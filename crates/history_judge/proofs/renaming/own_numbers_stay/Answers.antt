use Rattle.std.proofs.Common.{[]}
use Rattle.history_judge.specs.Descriptors.{no_numbers}
use Rattle.history_judge.proofs.OwnNumbers.{none-held, renamed-stays}
use Rattle.history_judge.proofs.renaming.own_numbers_stay.Goals as goal

pub returns : goal.returns
returns c = λ operations own. renamed-stays [] no_numbers none-held operations own
