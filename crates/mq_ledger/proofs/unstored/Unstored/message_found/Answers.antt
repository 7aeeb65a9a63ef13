use Rattle.std.proofs.Common.{◌≡◌, None, ℕ, sym, ap, subst, ◌∙◌}
use Rattle.std.proofs.lemmas.List.{get_or_default}
use Rattle.mq_ledger.specs.Seen.{Seen, HasPlace}
use Rattle.mq_ledger.specs.Keeping.{places_of}
use Rattle.mq_model.specs.Record.{Past}
use Rattle.mq_model.specs.Messages.{priority}
use Rattle.mq_ledger.proofs.Keeping.{held, within}
use Rattle.mq_ledger.proofs.unstored.Unstored.message_found.Goals as goal

-- the entry is in some slot, so it was found
pub returns-in-None-clause-payload : goal.returns-in-None-clause-payload
returns-in-None-clause-payload c has =
    let places : places_of c.self.inside.slots.items ≡ c.args.self.now.places =
    ap (λ (v : Seen). v.places) c.self.view_is in
    let h = held c.self.inside.slots.items c.args.place (subst (λ ps. HasPlace ps c.args.place)
    (sym places) has) in
    absurd (c.find.ensures.none c.in-None.is h.0 h.1 (rw c.deref.ensures.value h.2) h.3)

pub returns-in-None-clause-priority : goal.returns-in-None-clause-priority
returns-in-None-clause-priority c has =
    let places : places_of c.self.inside.slots.items ≡ c.args.self.now.places =
    ap (λ (v : Seen). v.places) c.self.view_is in
    let h = held c.self.inside.slots.items c.args.place (subst (λ ps. HasPlace ps c.args.place)
    (sym places) has) in
    absurd (c.find.ensures.none c.in-None.is h.0 h.1 (rw c.deref.ensures.value h.2) h.3)

pub returns-in-Some-clause-priority : goal.returns-in-Some-clause-priority
returns-in-Some-clause-priority c has =
    let slots = c.self.inside.slots.items in
    let found = c.in-Some.ensures.some in
    let there = rw c.deref.ensures.value at found.1 in
    let says = c.self.invariant.kept c.in-Some.key found.0 there in
    let records : c.self.inside.past.past ≡ c.args.self.now.records =
    ap (λ (v : Seen). v.records) c.self.view_is in
    let read = c.index-slot.ensures ∙ get_or_default slots c.in-Some.key c.index-slot.result.now
    None (within slots c.in-Some.key found.0 there) ∙ there in
    c.prio.ensures found.0 read ∙ sym says.1 ∙ ap (λ (k : ℕ). priority c.self.inside.past.past k)
    found.2 ∙ ap (λ (past : Past). priority past c.args.place) records
