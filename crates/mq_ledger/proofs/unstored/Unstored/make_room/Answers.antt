use Rattle.std.proofs.Common.{refl, sym, ap, subst, ◌∙◌}
use Rattle.mq_ledger.specs.Seen.{Seen, HasPlace}
use Rattle.mq_ledger.proofs.Sound.{sound-same}
use Rattle.mq_ledger.proofs.unstored.Unstored.make_room.Goals as goal

pub invariant_of-self : goal.invariant_of-self
invariant_of-self c = sound-same c.self.inside _ c.self.invariant refl refl
    c.make_room.ensures.added.are_true c.make_room.ensures.added.count refl c.self.invariant.empty

pub invariant_of-self-in-Continue-branch-2 : goal.invariant_of-self-in-Continue-branch-2
invariant_of-self-in-Continue-branch-2 c = sound-same c.self.inside _ c.self.invariant refl refl
    c.make_room.ensures.added.are_true c.make_room.ensures.added.count refl (c.reserve.ensures.len ∙
    c.self.invariant.empty)

pub invariant_of-self-in_err-reserve : goal.invariant_of-self-in_err-reserve
invariant_of-self-in_err-reserve c = sound-same c.self.inside _ c.self.invariant refl refl
    c.make_room.ensures.added.are_true c.make_room.ensures.added.count refl (c.reserve.ensures.len ∙
    c.self.invariant.empty)

pub invariant_of-self-else-bytes-capacity : goal.invariant_of-self-else-bytes-capacity
invariant_of-self-else-bytes-capacity c = sound-same c.self.inside _ c.self.invariant refl refl
    c.make_room.ensures.added.are_true c.make_room.ensures.added.count refl c.self.invariant.empty

pub returns-in_err-make_room-clause-keeps : goal.returns-in_err-make_room-clause-keeps
returns-in_err-make_room-clause-keeps c k has = c.make_room.ensures.added.keeps k
    (subst (λ ps. HasPlace ps k) (sym (ap (λ (v : Seen). v.places) c.self.view_is)) has)

pub returns-in_err-reserve-clause-keeps : goal.returns-in_err-reserve-clause-keeps
returns-in_err-reserve-clause-keeps c k has = c.make_room.ensures.added.keeps k
    (subst (λ ps. HasPlace ps k) (sym (ap (λ (v : Seen). v.places) c.self.view_is)) has)

pub returns-in_ok-reserve-clause-keeps : goal.returns-in_ok-reserve-clause-keeps
returns-in_ok-reserve-clause-keeps c k has = c.make_room.ensures.added.keeps k
    (subst (λ ps. HasPlace ps k) (sym (ap (λ (v : Seen). v.places) c.self.view_is)) has)

pub returns-else-bytes-capacity-clause-keeps : goal.returns-else-bytes-capacity-clause-keeps
returns-else-bytes-capacity-clause-keeps c k has = c.make_room.ensures.added.keeps k
    (subst (λ ps. HasPlace ps k) (sym (ap (λ (v : Seen). v.places) c.self.view_is)) has)
