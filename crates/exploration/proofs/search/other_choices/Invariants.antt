use Rattle.std.proofs.Common.{◌≡◌, true, All}
use Rattle.exploration.specs.Choices.{can_choose}
use Rattle.exploration.proofs.search.other_choices.Given as goal

abbrev pub invariant-loop-it : goal.invariant-loop-it
invariant-loop-it l = All (λ choice. can_choose l.parked choice ≡ true) l.others.items

abbrev pub invariant-loop-variant : goal.invariant-loop-variant
invariant-loop-variant l = All (λ choice. can_choose l.parked choice ≡ true) l.others.items
