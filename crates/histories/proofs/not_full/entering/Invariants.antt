use Rattle.std.proofs.Common.{◌≡◌, ◌≤◌, take}
use Rattle.histories.specs.Named.{marks_of, no_marks}
use Rattle.histories.specs.NotFull.{enters_by}
use Rattle.histories.proofs.Marking.{tally}
use Rattle.histories.proofs.not_full.entering.Given as goal

abbrev pub invariant-loop-operation : goal.invariant-loop-operation
invariant-loop-operation l = record {
  count : l.count ≡ tally (enters_by l.time) l.name l.operations l.operation-index;
  few : l.count ≤ l.operation-index;
  marks : l.marks ≡ marks_of l.name no_marks (take l.operation-index l.operations);
}
