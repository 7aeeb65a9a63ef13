use Rattle.std.proofs.Common.{◌≡◌, ◌≤◌, ◌-◌, suc, [], map, vec_len, vec_capacity}
use Rattle.fast_mutex.specs.Items.{tickets_with}
use Rattle.fast_mutex.specs.Seats.{fresh, new_claims, made_with, lock_id, ticket_of}
use Rattle.fast_mutex.proofs.seats.deal.Given as goal

abbrev pub invariant-loop-number : goal.invariant-loop-number
invariant-loop-number g l = record {
  own : l.first.table_id ≡ l.shared.table_id;
  claims : l.first.me ≡ (
    fresh g.V.RestView.resting (made_with g.S.Logged.fixed l.shared.key)
        (new_claims (g.S.Logged.items l.shared.key.state.value) l.number
        (suc (l.count - l.number))),
    [],
  );
  low : 1 ≤ l.number;
  high : l.number ≤ l.count;
  many : suc (vec_len l.seats) ≡ l.number;
  room : l.count ≤ vec_capacity l.seats;
  tickets : map (λ s. ticket_of g.V.RestView.resting s.number s.seat) l.seats.items ≡
      tickets_with (lock_id l.shared.table_id (made_with g.S.Logged.fixed l.shared.key))
      (g.S.Logged.items l.shared.key.state.value) 1 (l.number - 1);
}

abbrev pub decreases-loop-number : goal.decreases-loop-number
decreases-loop-number g l = l.count - l.number
