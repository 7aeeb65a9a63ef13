use Rattle.std.proofs.Common.{◌≡◌, ap, arith, vec_capacity}
use Rattle.mq_slots.specs.Held.{Held}
use Rattle.mq_slots.specs.Messages.{messages}
use Rattle.mq_slots.proofs.Popping.{IsPop, pop-first, popped-best, popped-sound, popped-count, popped-messages}
use Rattle.mq_slots.proofs.Latest.{popped-without}
use Rattle.mq_slots.proofs.chains.Slots.pop.Goals as goal

pub at-best-requires : goal.at-best-requires
at-best-requires c =
    let s = c.self.inside in
    let pop : IsPop s.cells.items s.levels.items s.free s.spare (vec_capacity s.levels) =
    record {
      sound = c.self.invariant;
      some = λ e. c.if-self-len.false
          (omega (arith, s.cells.ok.0));
    } in
    rw (c.at-first.ensures, c.deref.ensures.value, c.deref-2.ensures.value)
    ((pop-first _ _ _ _ _ pop).within)

pub unlink-requires-clause-first : goal.unlink-requires-clause-first
unlink-requires-clause-first c =
    let s = c.self.inside in
    let pop : IsPop s.cells.items s.levels.items s.free s.spare (vec_capacity s.levels) =
    record {
      sound = c.self.invariant;
      some = λ e. c.if-self-len.false
          (omega (arith, s.cells.ok.0));
    } in
    rw (c.at-first.ensures, c.deref.ensures.value) ((pop-first _ _ _ _ _ pop).within)

pub invariant_of-self : goal.invariant_of-self
invariant_of-self c =
    let s = c.self.inside in
    let pop : IsPop s.cells.items s.levels.items s.free s.spare (vec_capacity s.levels) =
    record {
      sound = c.self.invariant;
      some = λ e. c.if-self-len.false
          (omega (arith, s.cells.ok.0));
    } in
    rw (c.unlink.ensures, c.drop_level.ensures.items, c.at-first.ensures, c.deref.ensures.value)
    (popped-sound _ _ _ _ _ _ pop c.drop_level.ensures.capacity)

pub returns-clause-best : goal.returns-clause-best
returns-clause-best c =
    let s = c.self.inside in
    let pop : IsPop s.cells.items s.levels.items s.free s.spare (vec_capacity s.levels) =
    record {
      sound = c.self.invariant;
      some = λ e. c.if-self-len.false
          (omega (arith, s.cells.ok.0));
    } in
    let shows : messages s.cells.items ≡ c.args.self.now.messages =
    ap (λ (h : Held). h.messages) c.self.view_is in
    rw (
      c.at-best.ensures,
      c.deref-2.ensures.value,
      c.at-first.ensures,
      c.deref.ensures.value,
      ← shows,
    ) (popped-best _ _ _ _ _ pop)

pub returns-clause-rest : goal.returns-clause-rest
returns-clause-rest c =
    let s = c.self.inside in
    let pop : IsPop s.cells.items s.levels.items s.free s.spare (vec_capacity s.levels) =
    record {
      sound = c.self.invariant;
      some = λ e. c.if-self-len.false
          (omega (arith, s.cells.ok.0));
    } in
    let shows : messages s.cells.items ≡ c.args.self.now.messages =
    ap (λ (h : Held). h.messages) c.self.view_is in
    rw (
      c.unlink.ensures,
      c.at-best.ensures,
      c.deref-2.ensures.value,
      c.at-first.ensures,
      c.deref.ensures.value,
      ← shows,
    ) (popped-messages _ _ _ _ _ pop)

pub returns-clause-others : goal.returns-clause-others
returns-clause-others c =
    let s = c.self.inside in
    let pop : IsPop s.cells.items s.levels.items s.free s.spare (vec_capacity s.levels) =
    record {
      sound = c.self.invariant;
      some = λ e. c.if-self-len.false
          (omega (arith, s.cells.ok.0));
    } in
    let shows : messages s.cells.items ≡ c.args.self.now.messages =
    ap (λ (h : Held). h.messages) c.self.view_is in
    rw (
      c.unlink.ensures,
      c.at-best.ensures,
      c.deref-2.ensures.value,
      c.at-first.ensures,
      c.deref.ensures.value,
      ← shows,
    ) (popped-without _ _ _ _ _ pop)

pub returns-clause-count : goal.returns-clause-count
returns-clause-count c =
    let s = c.self.inside in
    let pop : IsPop s.cells.items s.levels.items s.free s.spare (vec_capacity s.levels) =
    record {
      sound = c.self.invariant;
      some = λ e. c.if-self-len.false
          (omega (arith, s.cells.ok.0));
    } in
    let shows : messages s.cells.items ≡ c.args.self.now.messages =
    ap (λ (h : Held). h.messages) c.self.view_is in
    let less = popped-count _ _ _ _ _ pop in
    rw (c.unlink.ensures, c.at-first.ensures, c.deref.ensures.value, ← shows) (omega (arith, less))

pub returns-clause-kept : goal.returns-clause-kept
returns-clause-kept c =
    let s = c.self.inside in
    let pop : IsPop s.cells.items s.levels.items s.free s.spare (vec_capacity s.levels) =
    record {
      sound = c.self.invariant;
      some = λ e. c.if-self-len.false
          (omega (arith, s.cells.ok.0));
    } in
    let shows : messages s.cells.items ≡ c.args.self.now.messages =
    ap (λ (h : Held). h.messages) c.self.view_is in
    rw (c.unlink.ensures, c.at-first.ensures, c.deref.ensures.value, ← shows)
    (λ m there. ((popped-messages _ _ _ _ _ pop m).0 there).0)
