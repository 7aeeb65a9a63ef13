use Rattle.std.proofs.Common.{refl, sym, ap, subst}
use Rattle.mq_ledger.specs.Seen.{Seen, HasPlace}
use Rattle.mq_ledger.proofs.Sound.{sound-same}
use Rattle.mq_ledger.proofs.unstored.Unstored.make_slots.Goals as goal

pub invariant_of-self : goal.invariant_of-self
invariant_of-self c = sound-same c.self.inside _ c.self.invariant refl refl
    c.grow.ensures.added.are_true c.grow.ensures.added.count refl c.self.invariant.empty

pub returns-clause-keeps : goal.returns-clause-keeps
returns-clause-keeps c k has = c.grow.ensures.added.keeps k (subst (λ ps. HasPlace ps k)
    (sym (ap (λ (v : Seen). v.places) c.self.view_is)) has)
