use Rattle.std.proofs.Common.{◌∙◌, ◌+◌, ◌*◌, ℕ, Bool, arith, sym, ap, rules}
use Rattle.fast_mutex.specs.Marks.{flag}
use Rattle.fast_mutex.proofs.MarksKeep.{bits_down, bits_room, bits_empty}
use Rattle.mq_model.specs.Waits.{is_answered}
use Rattle.mq.proofs.guarded.all_answered.Goals as goal

pub loop-process-init : goal.loop-process-init
loop-process-init c = record {
  few = omega arith;
  bits = sym (bits_empty (λ p. is_answered c.args.books.now.records p) 33);
}

pub overflow_mul-bits : goal.overflow_mul-bits
overflow_mul-bits c = grind (arith, bits_room)

pub overflow_add-bits : goal.overflow_add-bits
overflow_add-bits c = grind (arith, bits_room)

pub loop-process-preserved : goal.loop-process-preserved
loop-process-preserved c = let f : ℕ → Bool = λ p. is_answered c.args.books.now.records p in record {
  few = omega arith;
  bits = ap (λ z. 2 * c.loop-process.bits + z) (c.bit.ensures ∙ ap flag c.answered.ensures) ∙
      bits_down f c.loop-process.process c.loop-process.bits c.loop-process-test.true
      c.loop-process.invariant.few c.loop-process.invariant.bits;
}

pub returns : goal.returns
returns c = search rules
