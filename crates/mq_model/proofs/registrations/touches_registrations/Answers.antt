use Rattle.std.proofs.Common.{◌∙◌, sym, ap}
use Rattle.std.specs.Option.{is_some}
use Rattle.mq_model.proofs.Untouched.{touched-done, touched-notified}
use Rattle.mq_model.proofs.registrations.touches_registrations.Goals as goal

pub returns-in-Done-clause-some : goal.returns-in-Done-clause-some
returns-in-Done-clause-some c = λ is. touched-done c.args.entry c.in-Done.is
    (sym c.is_about_registrations.ensures ∙ is)

pub returns-in_default-clause-some : goal.returns-in_default-clause-some
returns-in_default-clause-some c = λ is. touched-notified c.args.entry
    (ap is_some (sym c.notified.ensures) ∙ sym c.is_some.ensures ∙ is)
