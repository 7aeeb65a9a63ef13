use Rattle.std.proofs.Common.{◌≡◌, ◌∙◌, ap, length, List, subst, sym}
use Rattle.mq_model.specs.Callers.{CallersMirror}
use Rattle.mq_model.specs.Legality.{Legal}
use Rattle.mq_model.specs.declared.callers.Caller.{Caller}
use Rattle.mq_state.proofs.Waiting.{waiting-done, waiting-more, waiting-start}
use Rattle.mq_state.proofs.trail.Trail.waiting.Goals as goal

pub loop-place-init : goal.loop-place-init
loop-place-init c =
    rw c.new-places.ensures.items (waiting-start c.args.self.now c.args.kind c.args.q
    c.len-bound.result (c.len-bound.ensures.count ∙ ap length c.self.view_is))

pub loop-place-preserved : goal.loop-place-preserved
loop-place-preserved c =
    let past = c.args.self.now in
    let legal = subst Legal c.self.view_is c.self.invariant.0.legal in
    let those = subst (λ p. CallersMirror p c.self.inside.tables.callers.items) c.self.view_is
    c.self.invariant.0.mirror.waits in
    let mirror = subst (λ (xs : List Caller). CallersMirror past xs)
    (sym c.deref.ensures.value) those in
    rw c.in_ok-push.ensures.items (waiting-more past c.deref.result.now mirror legal c.args.q
    c.args.kind c.loop-place.bound c.in-Some.place c.loop-place.places.items
    c.in-Some.ensures.some c.loop-place.invariant)

pub returns : goal.returns
returns c =
    let past = c.args.self.now in
    let legal = subst Legal c.self.view_is c.self.invariant.0.legal in
    let those = subst (λ p. CallersMirror p c.self.inside.tables.callers.items) c.self.view_is
    c.self.invariant.0.mirror.waits in
    let mirror = subst (λ (xs : List Caller). CallersMirror past xs)
    (sym c.deref.ensures.value) those in
    waiting-done past c.deref.result.now mirror legal c.args.q c.args.kind c.loop-place.bound
    c.loop-place.places.items (c.last_wait.ensures.none c.in_default.is) c.loop-place.invariant
