use Rattle.std.proofs.Common.{◌≡◌, ◌∙◌, sym, []}
use Rattle.std.proofs.lemmas.List.Elements.{All-same, All-map, All-weaker}
use Rattle.fast_mutex.specs.Items.{Grows}
use Rattle.mq.specs.Calls.{author}
use Rattle.mq.proofs.Seats.{all-unmap}
use Rattle.mq.proofs.system.Mq.retire.Goals as goal

pub finish-requires : goal.finish-requires
finish-requires g c =
    All-weaker (λ s. (g.L.Lock.ticket s).lock ≡ c.args.self) (λ s. (g.L.Lock.ticket s).lock ≡
    g.L.Lock.id c.self.inside.lock) (λ s is. is ∙ sym c.self.view_is) c.seats_of.result.items
    (all-unmap (λ t. t.lock ≡ c.args.self) g.L.Lock.ticket c.seats_of.result.items
    (All-same (λ t. t.lock ≡ c.args.self) _ _ c.seats_of.ensures.items c.requires))

pub returns-clause-grows : goal.returns-clause-grows
returns-clause-grows g c =
    All-same (λ t. Grows author t.number t.left c.in-Ok.state.books.records []) _ _
    (sym c.seats_of.ensures.items)
    (All-map (λ t. Grows author t.number t.left c.in-Ok.state.books.records []) g.L.Lock.ticket
    c.seats_of.result.items c.in-Ok.ensures.grows)
