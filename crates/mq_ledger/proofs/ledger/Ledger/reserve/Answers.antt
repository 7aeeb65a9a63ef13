use Rattle.std.proofs.Common.{inl, ap, sym, ◌∙◌}
use Rattle.mq_ledger.specs.Ledgers.{Shown}
use Rattle.mq_ledger.specs.LedgerModel.{kind_shown, shown}
use Rattle.mq_ledger.specs.declared.ledger.Ledger.TheInside.{Inside}
use Rattle.mq_ledger.proofs.Reading.{reads-fewer}
use Rattle.mq_ledger.proofs.ledger.Ledger.reserve.Goals.{in-Stored, in-Unstored}
use Rattle.mq_ledger.proofs.ledger.Ledger.reserve.Goals as goal

pub returns-clause-keeps : goal.returns-clause-keeps
returns-clause-keeps c k can = elim c.match-self.branch [
  | in-Stored w ↦ inl (ap (λ (a : Inside). (shown a).stored) w.self-inside-is)
  | in-Unstored w ↦ reads-fewer c.args.self.now (shown c.match-self.self-inside)
      w.in-Unstored.unstored.places w.reserve-in-Unstored.new.self.places k
      (ap (λ (s : Shown). s.stored) (sym c.self.view_is) ∙ ap (λ kind. (kind_shown kind).stored)
      w.in-Unstored.is)
      (ap (λ (s : Shown). s.places) (sym c.self.view_is) ∙ ap (λ kind. (kind_shown kind).places)
      w.in-Unstored.is)
      (ap (λ (a : Inside). (shown a).places) w.self-inside-is)
      (w.reserve-in-Unstored.ensures.keeps k) can
]
