use Rattle.std.proofs.Common.{◌≡◌, ◌++◌, map}
use Rattle.std.specs.List.{All}
use Rattle.fast_mutex.specs.Seats.{claim_of, made_with, lock_id, ticket_of}
use Rattle.fast_mutex.proofs.seats.join_all.Given as goal

abbrev pub invariant-loop-seat : goal.invariant-loop-seat
invariant-loop-seat g l = record {
  own : l.all.table_id ≡ l.shared.table_id;
  claims : l.all.me.0 ≡ g.V.RestView.resting.rest l.all.me.0
      (made_with g.S.Logged.fixed l.shared.key) (g.V.RestView.resting.claims l.all.me.0);
  all : map (λ s. claim_of g.V.RestView.resting s.number s.seat.me.0) l.seats.items ++
      g.V.RestView.resting.claims l.all.me.0 ≡
      map (λ s. claim_of g.V.RestView.resting s.number s.seat.me.0) l.fn.seats.items;
  seats : All (λ s. (ticket_of g.V.RestView.resting s.number s.seat).lock ≡
      lock_id l.shared.table_id (made_with g.S.Logged.fixed l.shared.key)) l.seats.items;
}

abbrev pub decreases-loop-seat : goal.decreases-loop-seat
decreases-loop-seat g l = goal.left-loop-seat g l
