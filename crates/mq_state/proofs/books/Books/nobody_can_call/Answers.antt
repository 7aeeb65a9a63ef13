use Rattle.std.proofs.Common.{◌≡◌, ◌↔◌, IsTrue, subst}
use Rattle.mq_state.specs.Kept.{Kept}
use Rattle.mq_state.specs.Room.{NobodyCanCall}
use Rattle.mq_state.specs.declared.books.Inner.{Inner}
use Rattle.mq_state.proofs.books.Books.nobody_can_call.Goals as goal

pub returns : goal.returns
returns c =
    let said = c.nobody_can_call.result in
    let same : c.deref.result.now ≡ c.self.inside.inner.value = c.deref.ensures in
    let inside = subst (λ (s : Inner). IsTrue said ↔ NobodyCanCall s.tables.bounds s.journal.records
    s.tables.n) same c.nobody_can_call.ensures in
    subst (λ (v : Kept). IsTrue said ↔ NobodyCanCall v.bounds v.records v.n) c.self.view_is inside
