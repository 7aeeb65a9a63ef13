use Rattle.std.proofs.Common.{sym, ap, subst}
use Rattle.mq_ledger.specs.Seen.{Seen, HasPlace}
use Rattle.mq_ledger.proofs.unstored.Unstored.prepay.Goals as goal

pub returns-in_err-reserve-clause-keeps : goal.returns-in_err-reserve-clause-keeps
returns-in_err-reserve-clause-keeps c k has = subst (λ ps. HasPlace ps k)
    (sym (ap (λ (v : Seen). v.places) c.self-2.view_is))
    (c.loop-class.invariant.3 k (subst (λ ps. HasPlace ps k)
    (sym (ap (λ (v : Seen). v.places) c.self.view_is)) has))

pub returns-in_ok-reserve-clause-keeps : goal.returns-in_ok-reserve-clause-keeps
returns-in_ok-reserve-clause-keeps c k has = subst (λ ps. HasPlace ps k)
    (sym (ap (λ (v : Seen). v.places) c.self-2.view_is))
    (c.loop-class.invariant.3 k (subst (λ ps. HasPlace ps k)
    (sym (ap (λ (v : Seen). v.places) c.self.view_is)) has))

pub returns-else-bytes-capacity-clause-keeps : goal.returns-else-bytes-capacity-clause-keeps
returns-else-bytes-capacity-clause-keeps c k has =
    c.loop-class.invariant.3 k (subst (λ ps. HasPlace ps k)
    (sym (ap (λ (v : Seen). v.places) c.self.view_is)) has)
