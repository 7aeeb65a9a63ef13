use Rattle.std.proofs.Common.{◌≡◌, ◌<◌, ℕ, Some, slice_get, subst, sym, arith}
use Rattle.std.proofs.lemmas.List.Elements.{All-same}
use Rattle.mq_state.specs.Buffers.{waiting_room}
use Rattle.mq_state.specs.Kept.{Kept}
use Rattle.mq.specs.Calls.{IsRoomOf}
use Rattle.mq.proofs.Seats.{rooms-fit, tickets-count, all-unmap}
use Rattle.mq.proofs.system.Mq.over.Goals as goal

pub processes_of-requires-clause-room : goal.processes_of-requires-clause-room
processes_of-requires-clause-room g c = grind (arith, tickets-count)

pub processes_of-requires-clause-waits : goal.processes_of-requires-clause-waits
processes_of-requires-clause-waits g c =
    let rooms = c.rooms_of-rooms.result in
    let fit = subst (λ (b : Kept). (p : ℕ) → p < 33 → slice_get rooms p ≡
    Some (waiting_room b.records p)) (sym c.holding.ensures) c.rooms_of-rooms.ensures in
    all-unmap (IsRoomOf rooms) g.L.Lock.ticket c.in-Ok-new.seats.items
    (All-same (IsRoomOf rooms) _ _ c.in-Ok-new.ensures.seats
    (rooms-fit rooms (g.L.Lock.id c.in-Ok-new.lock) c.holding.result.books.records fit 1
    c.args.n (omega arith)))
