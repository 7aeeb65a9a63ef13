use Rattle.std.proofs.Common.{◌≡◌, arith, ap}
use Rattle.mq_model.specs.Record.{first}
use Rattle.mq_model.proofs.Prefixes.{record_at-first}
use Rattle.mq_ledger.specs.Ledgers.{Shown}
use Rattle.mq_state.proofs.Wholes.{none-beyond}
use Rattle.mq_state.proofs.prefixes.Prefix.payload.Goals as goal

pub returns-then-place-self : goal.returns-then-place-self
returns-then-place-self c = grind (arith, none-beyond)

pub returns-in-Journal : goal.returns-in-Journal
returns-in-Journal c can =
    let records : first c.self.inside.len c.in-Journal.journal.now.records ≡
    c.args.self.now.records = rw c.in-Journal.is at
    (ap (λ (s : Shown). s.records) c.self.view_is) in
    let there = c.payload.ensures in
    grind (arith, record_at-first, records, there)

pub returns-in-Ledger : goal.returns-in-Ledger
returns-in-Ledger c can =
    let l = c.in-Ledger.ledger.now in
    let records : first c.self.inside.len l.records ≡ c.args.self.now.records = rw c.in-Ledger.is at
    (ap (λ (s : Shown). s.records) c.self.view_is) in
    let stored : l.stored ≡ c.args.self.now.stored = rw c.in-Ledger.is at
    (ap (λ (s : Shown). s.stored) c.self.view_is) in
    let places : l.places ≡ c.args.self.now.places = rw c.in-Ledger.is at
    (ap (λ (s : Shown). s.places) c.self.view_is) in
    let there = c.message.ensures.payload (rw (stored, places) can) in
    grind (arith, record_at-first, records, there)
