-- Which choices parked threads allow.
use Rattle.std.specs.Prelude.{Bool, true, false, ◌&&◌, ◌==◌, nat_lt, List}
use Rattle.std.specs.List.{list_any}
use Rattle.exploration.specs.declared.operation.Ability.{Ability}
use Rattle.exploration.specs.declared.operation.Ability.TheVariants.{Cannot, Can, Late}
use Rattle.exploration.specs.declared.operation.Choice.{Choice}
use Rattle.exploration.specs.declared.operation.Parked.{Parked}

abbrev pub is_able : Ability → Bool
is_able Cannot = false
is_able Can = true
is_able Late = true

abbrev pub can_go_on : Parked → Bool
can_go_on p = is_able p.ability

-- the choice lets this thread go on, with a variant that exists
abbrev pub takes : Parked → Choice → Bool
takes p c = p.thread == c.thread && nat_lt c.variant p.variants && can_go_on p

-- this choice lets one of the parked threads go on
abbrev pub can_choose : List Parked → Choice → Bool
can_choose parked c = list_any (λ p. takes p c) parked
