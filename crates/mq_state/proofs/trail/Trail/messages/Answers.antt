use Rattle.std.proofs.Common.{◌∙◌, ap, map}
use Rattle.mq_model.specs.Descriptors.{alive}
use Rattle.mq_model.specs.Messages.{is_in, present}
use Rattle.mq_state.specs.Queues.{slots_in}
use Rattle.mq_state.proofs.Listing.{messages-read}
use Rattle.mq_state.proofs.trail.Trail.messages.Goals as goal

pub returns : goal.returns
returns c =
    let q = c.args.q in
    let there = ap (λ past. is_in (alive past) q) c.self.view_is ∙ c.requires in
    c.in_ok-places.ensures ∙ ap (λ ms. map (λ m. m.1) ms) (c.deref-2.ensures.value ∙
    c.in_ok-messages.ensures ∙ ap (λ xs. slots_in xs q) c.deref.ensures.value)
    ∙ messages-read _ _ c.self.invariant.0.mirror.existing q there ∙
    ap (λ past. present past q) c.self.view_is
