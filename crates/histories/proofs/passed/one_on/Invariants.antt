use Rattle.std.proofs.Common.{◌≡◌, take}
use Rattle.std.specs.List.{list_any}
use Rattle.histories.specs.Named.{calls_on, marks_of, no_marks}
use Rattle.histories.specs.Passed.{is_part}
use Rattle.histories.proofs.passed.one_on.Given as goal

abbrev pub invariant-loop-operation : goal.invariant-loop-operation
invariant-loop-operation l = record {
  found : l.found ≡ list_any (is_part l.part l.passed) (calls_on l.passed.name.items
      (take l.operation-index l.operations));
  marks : l.marks ≡ marks_of l.passed.name.items no_marks (take l.operation-index l.operations);
}
