use Rattle.std.proofs.Common.{◌≡◌, ◌≤◌, ◌∙◌, sym, subst, length, Some}
use Rattle.mq_state.specs.Buffers.{waiting_call, room_of, FitsOutcome}
use Rattle.mq_state.specs.Kept.{IsKeptBy}
use Rattle.mq_state.specs.declared.books.Inner.{Inner}
use Rattle.mq_model.specs.Waits.{answered_by}
use Rattle.mq_state.proofs.Collecting.{collect-fits}
use Rattle.mq_state.proofs.Reachable.{collect-readable}
use Rattle.mq_state.proofs.books.Books.collect.Goals as goal

pub outcome-outcome-requires : goal.outcome-outcome-requires
outcome-outcome-requires c =
    let inner = c.deref_mut.result.now in
    let same : c.self.inside.inner.value ≡ inner = sym c.deref_mut.ensures.value in
    let kept : IsKeptBy inner.journal inner.tables =
    subst (λ (s : Inner). IsKeptBy s.journal s.tables) same c.self.invariant.kept in
    let answered : answered_by inner.journal.records c.args.p ≡ Some c.in_ok-by.by =
    sym (kept.tables.mirror.waits.answers c.args.p) ∙ sym c.answer.ensures ∙ c.in_ok-by.was in
    let inside = subst (λ v. room_of (waiting_call v.records c.args.p) ≤ length c.args.buf.now)
    (sym c.self.view_is) c.requires.room in
    let room = subst (λ (s : Inner). room_of (waiting_call s.journal.records c.args.p) ≤ length
    c.args.buf.now) same inside in
    let fits = collect-fits inner.journal.records kept.tables.legal c.args.p c.in_ok-by.by
    (length c.args.buf.now) answered room in
    record {
      readable = λ receives. collect-readable inner.journal kept.readable kept.tables.legal c.args.p
          c.in_ok-by.by answered (rw c.waiting_call-call.ensures at receives);
      room = subst (λ call. FitsOutcome inner.journal.records call c.in_ok-by.by
          (length c.args.buf.now)) (sym c.waiting_call-call.ensures) fits;
    }
