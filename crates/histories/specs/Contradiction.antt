-- The contradictions that are found without a search.
use Rattle.histories.specs.Histories.{Histories}
use Rattle.histories.specs.Excess.{IsExcess}
use Rattle.histories.specs.Passed.{IsPassed}
use Rattle.histories.specs.NotFull.{IsNotFull}
use Rattle.histories.specs.declared.contradiction.Contradiction.{Contradiction}
use Rattle.histories.specs.declared.contradiction.Contradiction.TheVariants.{Excess, Passed, NotFull}

abbrev pub IsContradiction : Histories → Contradiction → Type 0
IsContradiction histories (Excess e) = IsExcess histories e
IsContradiction histories (Passed e) = IsPassed histories e
IsContradiction histories (NotFull e) = IsNotFull histories e
