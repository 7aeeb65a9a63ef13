use Rattle.std.proofs.Common.{◌≡◌, ◌++◌, drop}
use Rattle.mq_equivalence.specs.Key.{codes}
use Rattle.mq_equivalence.specs.Kinds.{place_code}
use Rattle.mq_equivalence.proofs.parts.push_places.Given as goal

abbrev pub invariant-loop-i : goal.invariant-loop-i
invariant-loop-i l =
    l.key.items ++ codes (place_code l.received l.kind l.journal.records) (drop l.i l.places)
    ≡ l.initial.key.items ++ codes (place_code l.received l.kind l.journal.records) l.places
