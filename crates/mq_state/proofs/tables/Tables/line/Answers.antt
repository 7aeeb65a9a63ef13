use Rattle.std.proofs.Common.{ℕ, ◌∙◌, sym, ap, subst, length}
use Rattle.std.specs.Option.{option_map}
use Rattle.mq_state.specs.Order.{best_slot}
use Rattle.mq_state.specs.Queues.{slots_in, registration_in, attributes_in, HaveRisingPlaces}
use Rattle.mq_state.proofs.Reading.{count-read, best-read, registration-read, attributes-read}
use Rattle.mq_state.proofs.Rising.{rising-places}
use Rattle.mq_state.proofs.tables.Tables.line.Goals as goal

pub line-requires : goal.line-requires
line-requires c = subst HaveRisingPlaces (sym c.deref.ensures.value)
    (rising-places c.args.journal.now.records c.args.self.now.queues.items
    c.requires.mirror.existing)

pub returns-clause-count : goal.returns-clause-count
returns-clause-count c = c.line.ensures.count ∙ ap (λ xs. length (slots_in xs c.args.q))
    c.deref.ensures.value ∙ count-read c.args.journal.now.records c.args.self.now.queues.items
    c.requires.mirror.existing c.args.q c.requires.alive

pub returns-clause-best : goal.returns-clause-best
returns-clause-best c =
    ap (option_map (λ (m : ℕ × ℕ). m.1)) (c.line.ensures.best ∙
    ap (λ xs. best_slot (slots_in xs c.args.q)) c.deref.ensures.value)
    ∙ best-read c.args.journal.now.records c.args.self.now.queues.items c.requires.mirror.existing
    c.args.q c.requires.alive

pub returns-clause-registered : goal.returns-clause-registered
returns-clause-registered c = c.line.ensures.registration ∙ ap (λ xs. registration_in xs c.args.q)
    c.deref.ensures.value ∙ registration-read c.args.journal.now.records
    c.args.self.now.queues.items c.requires.mirror.existing c.args.q c.requires.alive

pub returns-clause-attributes : goal.returns-clause-attributes
returns-clause-attributes c = c.line.ensures.attributes ∙ ap (λ xs. attributes_in xs c.args.q)
    c.deref.ensures.value ∙ attributes-read c.args.journal.now.records c.args.self.now.queues.items
    c.requires.mirror.existing c.args.q c.requires.alive
