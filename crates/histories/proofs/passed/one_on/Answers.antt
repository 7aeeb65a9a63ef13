use Rattle.std.proofs.Common.{◌≡◌, Bool, ◌&&◌, ◌||◌, length, take, Some, arith, refl, sym, ◌∙◌, ap, slice_get}
use Rattle.std.specs.List.{list_any}
use Rattle.std.proofs.lemmas.Option.{slice_get_read}
use Rattle.mq_model.specs.Descriptors.{descriptor_of}
use Rattle.histories.specs.Named.{calls_on, is_marked, marks_after, marks_of, no_marks}
use Rattle.histories.specs.Passed.{is_part}
use Rattle.histories.proofs.Marking.{any-next, marks-next}
use Rattle.histories.proofs.passed.one_on.Goals as goal
use Rattle.histories.proofs.passed.one_on.Goals.{then-found, else-found+then-is_on, else-found+else-is_on}

pub loop-operation-preserved : goal.loop-operation-preserved
loop-operation-preserved c =
    let xs = c.args.operations.now in
    let k = c.loop-operation.operation-index in
    let o = c.operation-item.result in
    let name = c.args.passed.now.name.items in
    let part = is_part c.args.part c.args.passed.now in
    let is : slice_get xs k ≡ Some o = slice_get_read xs (length xs) k o refl
    (omega (arith, c.loop-operation-test.true)) c.operation-item.is in
    let on : c.is_marked-is_on.result ≡ is_marked (marks_of name no_marks (take k xs))
    (descriptor_of o.call) = rw (c.descriptor.ensures, c.loop-operation.invariant.marks) at
    c.is_marked-is_on.ensures in
    let found : c.if-found.found ≡
    (c.loop-operation.found || (c.is_marked-is_on.result && part o)) = elim c.if-found.branch [
      | then-found w ↦ grind (arith, w.found-is, w.if-found.true)
      | else-found+then-is_on w ↦ grind (
        arith,
        w.found-is,
        w.if-found.false,
        w.if-is_on.true,
        w.is_part.ensures,
      )
      | else-found+else-is_on w ↦ grind (arith, w.found-is, w.if-found.false, w.if-is_on.false)
    ] in
    let marks : c.marks_after-marks.result ≡ marks_after name (marks_of name no_marks (take k xs))
    o = rw (c.deref.ensures.value, c.loop-operation.invariant.marks) at
    c.marks_after-marks.ensures in
    record {
      found = found
          ∙ ap (λ (b : Bool). b || (c.is_marked-is_on.result && part o))
          c.loop-operation.invariant.found
          ∙ ap (λ (b : Bool). list_any part (calls_on name (take k xs)) || (b && part o)) on
          ∙ sym (any-next part name xs k o is);
      marks = marks ∙ sym (marks-next name xs k o is);
    }
