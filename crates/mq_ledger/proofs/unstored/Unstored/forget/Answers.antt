use Rattle.std.proofs.Common.{◌≡◌, refl, sym, ap, subst, ◌∙◌}
use Rattle.mq_ledger.specs.Keeping.{places_of}
use Rattle.mq_ledger.specs.Seen.{Seen, HasPlace}
use Rattle.mq_laws.specs.Needed.{home}
use Rattle.mq_ledger.proofs.Sound.{sound-same}
use Rattle.mq_ledger.proofs.unstored.Unstored.forget.Goals as goal

pub invariant_of-self : goal.invariant_of-self
invariant_of-self c = sound-same c.self.inside _ c.self.invariant refl refl
    c.forget.ensures.are_true c.forget.ensures.count refl c.self.invariant.empty

pub returns-clause-keeps : goal.returns-clause-keeps
returns-clause-keeps c k apart has =
    let places : places_of c.self.inside.slots.items ≡ c.args.self.now.places =
    ap (λ (v : Seen). v.places) c.self.view_is in
    c.forget.ensures.keeps c.self.inside.past.past k c.self.invariant.kept
    (λ at. apart (ap (λ (v : Seen). home v.records k) (sym c.self.view_is) ∙ at))
    (subst (λ ps. HasPlace ps k) (sym places) has)
