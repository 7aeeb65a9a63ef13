use Rattle.std.proofs.Common.{◌≡◌, None, ℕ, sym, ap, ◌∙◌}
use Rattle.std.proofs.lemmas.List.{get_or_default}
use Rattle.mq_ledger.specs.Seen.{Seen}
use Rattle.mq_model.specs.Record.{Past}
use Rattle.mq_model.specs.Messages.{priority}
use Rattle.mq_ledger.proofs.Keeping.{within}
use Rattle.mq_ledger.proofs.unstored.Unstored.message.Goals as goal

-- the entry is in the slot that is looked at first
pub returns-then-is_there-clause-priority : goal.returns-then-is_there-clause-priority
returns-then-is_there-clause-priority c has =
    let slots = c.self.inside.slots.items in
    let found = c.is_there.ensures.some c.if-is_there.true in
    let there = rw c.deref.ensures.value at found.1 in
    let says = c.self.invariant.kept c.self.inside.last found.0 there in
    let records : c.self.inside.past.past ≡ c.args.self.now.records =
    ap (λ (v : Seen). v.records) c.self.view_is in
    let read = c.index-slot.ensures ∙ get_or_default slots c.self.inside.last
    c.index-slot.result.now None (within slots c.self.inside.last found.0 there) ∙ there in
    c.prio.ensures found.0 read ∙ sym says.1 ∙ ap (λ (k : ℕ). priority c.self.inside.past.past k)
    found.2 ∙ ap (λ (past : Past). priority past c.args.place) records
