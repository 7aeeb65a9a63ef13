use Rattle.std.proofs.Common.{◌≡◌, ap, arith, vec_capacity}
use Rattle.mq_slots.specs.Held.{Held}
use Rattle.mq_slots.specs.Messages.{messages}
use Rattle.mq_slots.proofs.Popping.{IsPop, pop-first, popped-best}
use Rattle.mq_slots.proofs.chains.Slots.best.Goals as goal

pub at-slot-requires : goal.at-slot-requires
at-slot-requires c =
    let s = c.self.inside in
    let pop : IsPop s.cells.items s.levels.items s.free s.spare (vec_capacity s.levels) =
    record {
      sound = c.self.invariant;
      some = λ e. c.if-self-len.false
          (omega (arith, s.cells.ok.0));
    } in
    rw (c.at-first.ensures, c.deref.ensures.value, c.deref-2.ensures.value)
    ((pop-first _ _ _ _ _ pop).within)

pub returns-clause-best : goal.returns-clause-best
returns-clause-best c =
    let s = c.self.inside in
    let pop : IsPop s.cells.items s.levels.items s.free s.spare (vec_capacity s.levels) =
    record {
      sound = c.self.invariant;
      some = λ e. c.if-self-len.false
          (omega (arith, s.cells.ok.0));
    } in
    let shows : messages s.cells.items ≡ c.args.self.now.messages =
    ap (λ (h : Held). h.messages) c.self.view_is in
    rw (
      c.at-slot.ensures,
      c.deref-2.ensures.value,
      c.at-first.ensures,
      c.deref.ensures.value,
      ← shows,
    ) (popped-best _ _ _ _ _ pop)
