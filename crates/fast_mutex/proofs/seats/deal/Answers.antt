use Rattle.std.proofs.Common.{rules, length, map, ◌∙◌, [], ◌+◌, ◌-◌, ◌≡◌, ℕ, suc, arith, sym, ap}
use Rattle.std.proofs.lemmas.List.{nil_from_length}
use Rattle.fast_mutex.specs.Items.{LockId, ticket_with, tickets_with}
use Rattle.fast_mutex.specs.Seats.{Fixed, fresh, new_claims, made_with, lock_id, ticket_of}
use Rattle.fast_mutex.proofs.SeatsKeep.{tickets_pushed, last_ticket}
use Rattle.fast_mutex.proofs.seats.deal.Goals as goal

pub loop-number-init : goal.loop-number-init
loop-number-init g c =
    let F : Fixed = made_with g.S.Logged.fixed c.args.shared.now.key in
    let left = g.S.Logged.items c.args.shared.now.key.state.value in
    let n : c.args.shared.now.key.count ≡ suc (c.args.count - 1) =
    omega (arith, c.requires.count) in
    let z : length c.args.seats.items ≡ 0 = omega arith in
    let none_yet : c.args.seats.items ≡ [] = nil_from_length c.args.seats.items z in record {
      own = c.requires.first.0;
      claims = c.requires.first.1 ∙
          ap (λ (k : ℕ). (fresh g.V.RestView.resting F (new_claims left 1 k), [])) n;
      low = omega arith;
      high = omega (arith, c.requires.count);
      many = omega arith;
      room = c.requires.room.1;
      tickets = ap (map (λ s. ticket_of g.V.RestView.resting s.number s.seat)) none_yet;
    }

pub loop-number-preserved : goal.loop-number-preserved
loop-number-preserved g c =
    let F : Fixed = made_with g.S.Logged.fixed c.args.shared.now.key in
    let left = g.S.Logged.items c.args.shared.now.key.state.value in
    let lock : LockId = lock_id c.args.shared.now.table_id F in
    let k : ℕ = c.loop-number.number in
    let n : ℕ = c.args.count in
    let b : c.args.shared.now.key.count - k ≡ suc (n - (k + 1)) = omega (arith, c.requires.count) in
    let d : k + 1 - 1 ≡ k = omega arith in record {
      own = c.deal_one-seat.ensures.own ∙ c.loop-number.invariant.own;
      claims = c.deal_one-seat.ensures.claims ∙
          ap (λ (p : ℕ). (fresh g.V.RestView.resting F (new_claims left (k + 1) p), [])) b;
      low = omega arith;
      high = omega arith;
      many = search rules;
      room = search rules;
      tickets = tickets_pushed lock left (λ s. ticket_of g.V.RestView.resting s.number s.seat) _ _ _
          k c.loop-number.invariant.low c.push_reserved.ensures.items c.deal_one-seat.ensures.ticket
          c.loop-number.invariant.tickets ∙ ap (tickets_with lock left 1) (sym d);
    }

pub returns : goal.returns
returns g c =
    let F : Fixed = made_with g.S.Logged.fixed c.args.shared.now.key in
    let left = g.S.Logged.items c.args.shared.now.key.state.value in
    let lock : LockId = lock_id c.args.shared.now.table_id F in
    let k : ℕ = c.loop-number.number in
    let n : ℕ = c.args.count in
    let all : k ≡ n = omega arith in
    let last : ticket_of g.V.RestView.resting n c.loop-number.first ≡ ticket_with lock left k =
    ap (λ (z : ℕ). ticket_of g.V.RestView.resting z c.loop-number.first) (sym all) ∙
    last_ticket g.V.RestView.resting c.loop-number.first _ F left k _
    c.loop-number.invariant.own c.loop-number.invariant.claims in
    record {
      tickets = tickets_pushed lock left (λ s. ticket_of g.V.RestView.resting s.number
          s.seat) _ _ _ k c.loop-number.invariant.low c.push_reserved-2.ensures.items last
          c.loop-number.invariant.tickets ∙ ap (tickets_with lock left 1) all;
    }
