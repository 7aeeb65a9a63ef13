use Rattle.mq_state.proofs.Raising.{raised-whole}
use Rattle.mq_state.proofs.books.Books.raise.Goals as goal

pub invariant_of-self : goal.invariant_of-self
invariant_of-self c = rw c.deref_mut.ensures.value (raised-whole _ c.self.inside.inner.value.tables
    c.raise.new.self c.self.invariant (rw c.deref_mut.ensures.value at c.raise.ensures.raised))
