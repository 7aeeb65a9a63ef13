use Rattle.std.proofs.Common.{◌≡◌, take}
use Rattle.std.specs.List.{list_any}
use Rattle.histories.specs.Named.{calls_on, marks_of, no_marks}
use Rattle.histories.specs.NotFull.{finds_full}
use Rattle.histories.proofs.not_full.one_full.Given as goal

abbrev pub invariant-loop-operation : goal.invariant-loop-operation
invariant-loop-operation l = record {
  full : l.full ≡ list_any (finds_full l.found.from l.found.prio l.found.message.items)
      (calls_on l.found.name.items (take l.operation-index l.operations));
  marks : l.marks ≡ marks_of l.found.name.items no_marks (take l.operation-index l.operations);
}
