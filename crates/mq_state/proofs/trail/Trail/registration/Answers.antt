use Rattle.std.proofs.Common.{◌∙◌, ap}
use Rattle.mq_model.specs.Descriptors.{alive}
use Rattle.mq_model.specs.Messages.{is_in}
use Rattle.mq_model.specs.Notices.{registered}
use Rattle.mq_state.specs.Queues.{registration_in}
use Rattle.mq_state.proofs.Reading.{registration-read}
use Rattle.mq_state.proofs.trail.Trail.registration.Goals as goal

pub returns : goal.returns
returns c =
    let q = c.args.q in
    let there = ap (λ past. is_in (alive past) q) c.self.view_is ∙ c.requires in
    c.registration.ensures ∙ ap (λ xs. registration_in xs q) c.deref.ensures.value
    ∙ registration-read _ _ c.self.invariant.0.mirror.existing q there ∙
    ap (λ past. registered past q) c.self.view_is
