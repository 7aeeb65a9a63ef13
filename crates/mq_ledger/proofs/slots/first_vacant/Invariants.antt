use Rattle.std.proofs.Common.{◌≡◌, take, is_none}
use Rattle.std.specs.List.{count_by}
use Rattle.mq_ledger.proofs.slots.first_vacant.Given as goal

-- no slot before this one is vacant
abbrev pub invariant-loop-key : goal.invariant-loop-key
invariant-loop-key l = count_by is_none (take l.key l.slots) ≡ 0
