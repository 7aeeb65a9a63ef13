use Rattle.std.proofs.Common.{◌≡◌, ap, arith, vec_capacity}
use Rattle.mq_slots.specs.Held.{Held}
use Rattle.mq_slots.specs.Messages.{messages}
use Rattle.mq_slots.proofs.Pushing.{IsPush, push-given, push-room, pushed-sound, pushed-count, pushed-messages, pushed-newest}
use Rattle.mq_slots.proofs.Latest.{pushed-latest}
use Rattle.mq_slots.proofs.chains.Slots.push.Goals as goal

pub note_level-requires-clause-room : goal.note_level-requires-clause-room
note_level-requires-clause-room c =
    let s = c.self.inside in
    let push : IsPush s.cells.items s.levels.items s.free s.spare (vec_capacity s.levels)
    c.find_level-at.result c.args.prio c.args.place =
    push-given _ _ c.deref.result.now _ _ _ _ _ _ c.args.self.now c.self.invariant c.self.view_is
    c.requires.room c.requires.prio (omega (arith, c.ranges.place)) c.requires.newest
    c.deref.ensures.value c.find_level-at.ensures.within c.find_level-at.ensures.below
    c.find_level-at.ensures.rest in
    omega (arith, push-room _ _ _ _ _ _ _ _ push, s.levels.ok.0)

pub invariant_of-self : goal.invariant_of-self
invariant_of-self c =
    let s = c.self.inside in
    let push : IsPush s.cells.items s.levels.items s.free s.spare (vec_capacity s.levels)
    c.find_level-at.result c.args.prio c.args.place =
    push-given _ _ c.deref.result.now _ _ _ _ _ _ c.args.self.now c.self.invariant c.self.view_is
    c.requires.room c.requires.prio (omega (arith, c.ranges.place)) c.requires.newest
    c.deref.ensures.value c.find_level-at.ensures.within c.find_level-at.ensures.below
    c.find_level-at.ensures.rest in
    rw (
      c.link.ensures,
      c.last_from-before.ensures,
      c.deref-2.ensures.value,
      c.note_level.ensures.items,
      c.at.ensures,
      c.deref-3.ensures.value,
    )
    (pushed-sound _ _ _ _ _ _ _ _ _ push c.note_level.ensures.capacity)

pub returns-clause-messages : goal.returns-clause-messages
returns-clause-messages c =
    let s = c.self.inside in
    let push : IsPush s.cells.items s.levels.items s.free s.spare (vec_capacity s.levels)
    c.find_level-at.result c.args.prio c.args.place =
    push-given _ _ c.deref.result.now _ _ _ _ _ _ c.args.self.now c.self.invariant c.self.view_is
    c.requires.room c.requires.prio (omega (arith, c.ranges.place)) c.requires.newest
    c.deref.ensures.value c.find_level-at.ensures.within c.find_level-at.ensures.below
    c.find_level-at.ensures.rest in
    let shows : messages s.cells.items ≡ c.args.self.now.messages =
    ap (λ (h : Held). h.messages) c.self.view_is in
    rw (c.link.ensures, c.last_from-before.ensures, c.deref-2.ensures.value, ← shows)
    (pushed-messages _ _ _ _ _ _ _ _ push)

pub returns-clause-latest : goal.returns-clause-latest
returns-clause-latest c =
    let s = c.self.inside in
    let push : IsPush s.cells.items s.levels.items s.free s.spare (vec_capacity s.levels)
    c.find_level-at.result c.args.prio c.args.place =
    push-given _ _ c.deref.result.now _ _ _ _ _ _ c.args.self.now c.self.invariant c.self.view_is
    c.requires.room c.requires.prio (omega (arith, c.ranges.place)) c.requires.newest
    c.deref.ensures.value c.find_level-at.ensures.within c.find_level-at.ensures.below
    c.find_level-at.ensures.rest in
    let shows : messages s.cells.items ≡ c.args.self.now.messages =
    ap (λ (h : Held). h.messages) c.self.view_is in
    rw (c.link.ensures, c.last_from-before.ensures, c.deref-2.ensures.value, ← shows)
    (pushed-latest _ _ _ _ _ _ _ _ push)

pub returns-clause-count : goal.returns-clause-count
returns-clause-count c =
    let s = c.self.inside in
    let push : IsPush s.cells.items s.levels.items s.free s.spare (vec_capacity s.levels)
    c.find_level-at.result c.args.prio c.args.place =
    push-given _ _ c.deref.result.now _ _ _ _ _ _ c.args.self.now c.self.invariant c.self.view_is
    c.requires.room c.requires.prio (omega (arith, c.ranges.place)) c.requires.newest
    c.deref.ensures.value c.find_level-at.ensures.within c.find_level-at.ensures.below
    c.find_level-at.ensures.rest in
    let shows : messages s.cells.items ≡ c.args.self.now.messages =
    ap (λ (h : Held). h.messages) c.self.view_is in
    rw (c.link.ensures, c.last_from-before.ensures, c.deref-2.ensures.value, ← shows)
    (pushed-count _ _ _ _ _ _ _ _ push)

pub returns-clause-newest : goal.returns-clause-newest
returns-clause-newest c =
    let s = c.self.inside in
    let push : IsPush s.cells.items s.levels.items s.free s.spare (vec_capacity s.levels)
    c.find_level-at.result c.args.prio c.args.place =
    push-given _ _ c.deref.result.now _ _ _ _ _ _ c.args.self.now c.self.invariant c.self.view_is
    c.requires.room c.requires.prio (omega (arith, c.ranges.place)) c.requires.newest
    c.deref.ensures.value c.find_level-at.ensures.within c.find_level-at.ensures.below
    c.find_level-at.ensures.rest in
    rw (c.link.ensures, c.last_from-before.ensures, c.deref-2.ensures.value)
    (pushed-newest _ _ _ _ _ _ _ _ push)
