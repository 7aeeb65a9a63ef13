use Rattle.std.proofs.Common.{◌≡◌, ◌+◌, Bool, ◌&&◌, length, take, Some, arith, refl, sym, ◌∙◌, ap, slice_get}
use Rattle.std.proofs.lemmas.Option.{slice_get_read}
use Rattle.mq_model.specs.Descriptors.{descriptor_of}
use Rattle.histories.specs.Named.{is_marked, marks_after, marks_of, no_marks}
use Rattle.histories.specs.NotFull.{enters_by}
use Rattle.histories.proofs.Completing.{one_if}
use Rattle.histories.proofs.Marking.{marks-next, one-most, tally-more}
use Rattle.histories.proofs.not_full.entering.Goals as goal
use Rattle.histories.proofs.not_full.entering.Goals.{then-is_marked+then-enters_by, else-is_marked, else-is_marked-via-then-is_marked+else-enters_by, else-is_marked-via-else-is_marked}

pub loop-operation-preserved : goal.loop-operation-preserved
loop-operation-preserved c =
    let xs = c.args.operations.now in
    let k = c.loop-operation.operation-index in
    let o = c.operation-item.result in
    let name = c.args.name.now in
    let test = (enters_by c.args.time) in
    let is : slice_get xs k ≡ Some o = slice_get_read xs (length xs) k o refl
    (omega (arith, c.loop-operation-test.true)) c.operation-item.is in
    let on : c.is_marked.result ≡ is_marked (marks_of name no_marks (take k xs))
    (descriptor_of o.call) = rw (c.descriptor.ensures, c.loop-operation.invariant.marks) at
    c.is_marked.ensures in
    let step : c.if-is_marked.count ≡ c.loop-operation.count + one_if
    (c.is_marked.result && test o) = elim c.if-is_marked.branch [
      | then-is_marked+then-enters_by w ↦ grind (
        arith,
        w.count-is,
        w.if-is_marked.true,
        w.if-enters_by.true,
        w.enters_by.ensures,
      )
      | else-is_marked w ↦ elim w.else-is_marked.branch [
        | else-is_marked-via-then-is_marked+else-enters_by v ↦ grind (
          arith,
          w.count-is,
          v.if-is_marked.true,
          v.if-enters_by.false,
          v.enters_by.ensures,
        )
        | else-is_marked-via-else-is_marked v ↦ grind (arith, w.count-is, v.if-is_marked.false)
      ]
    ] in
    let same : one_if (c.is_marked.result && test o) ≡
    one_if (is_marked (marks_of name no_marks (take k xs)) (descriptor_of o.call) && test o) =
    ap (λ (b : Bool). one_if (b && test o)) on in
    let before = c.loop-operation.invariant.count in
    let few = c.loop-operation.invariant.few in
    let more = tally-more test name xs k o is in
    let most = one-most (c.is_marked.result && test o) in
    let marks : c.marks_after-marks.result ≡ marks_after name (marks_of name no_marks (take k xs))
    o = rw c.loop-operation.invariant.marks at c.marks_after-marks.ensures in
    record {
      count = omega (arith, step, same, before, more);
      few = omega (arith, step, few, most);
      marks = marks ∙ sym (marks-next name xs k o is);
    }
