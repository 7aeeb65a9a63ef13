use Rattle.std.proofs.Common.{◌∙◌, ◌++◌, [], Some, ◌≡◌, map, length, arith, sym, ap, append-nil}
use Rattle.std.proofs.lemmas.List.{nil_from_length}
use Rattle.std.proofs.lemmas.List.Elements.{All-pop}
use Rattle.fast_mutex.specs.Items.{LockId}
use Rattle.fast_mutex.specs.Seats.{claim_of, made_with, lock_id, ticket_of}
use Rattle.fast_mutex.proofs.SeatsKeep.{alone_is, alone_claims, joined_is, joined_claims, pop_claims}
use Rattle.fast_mutex.proofs.seats.join_all.Goals as goal

pub loop-seat-init : goal.loop-seat-init
loop-seat-init g c =
    let r = g.V.RestView.resting in
    let x = c.in-Some.field-0 in
    let own = All-pop (λ s. (ticket_of r s.number s.seat).lock ≡ lock_id c.args.shared.now.table_id
    (made_with g.S.Logged.fixed c.args.shared.now.key)) _ _ (Some x) c.in-Some.ensures.items
    c.requires.own in record {
      own = ap (λ (l : LockId). l.table) own.1;
      claims = alone_is r x.seat.me _ x.number x.alone
          (ap (λ (l : LockId). (l.count, l.fixed)) own.1);
      all = ap (λ l. map (λ s. claim_of r s.number s.seat.me.0) c.pop.new.self.items ++ l)
          (sym (append-nil (r.claims x.seat.me.0))) ∙
          pop_claims (λ s. claim_of r s.number s.seat.me.0) _ c.pop.new.self.items x
          (r.claims x.seat.me.0) [] c.in-Some.ensures.items
          (alone_claims r x.seat.me x.number x.alone) ∙
          append-nil (map (λ s. claim_of r s.number s.seat.me.0) c.args.seats.items);
      seats = own.0;
    }

pub join_seat-requires : goal.join_seat-requires
join_seat-requires g c =
    let r = g.V.RestView.resting in
    let x = c.in-Some-pop.field-0 in
    let own = All-pop (λ s. (ticket_of r s.number s.seat).lock ≡ lock_id c.args.shared.now.table_id
    (made_with g.S.Logged.fixed c.args.shared.now.key)) _ _ (Some x) c.in-Some-pop.ensures.items
    c.loop-seat.invariant.seats in (
      c.loop-seat.invariant.own,
      ap (λ (l : LockId). l.table) own.1,
      ap (λ m. m.1) x.alone,
      c.requires.words,
      c.requires.rule.joins _ _ _ _ _ _ _ c.loop-seat.invariant.claims
          (alone_is r x.seat.me _ x.number x.alone (ap (λ (l : LockId). (l.count, l.fixed)) own.1)),
    )

pub returns-clause-claims : goal.returns-clause-claims
returns-clause-claims g c =
    let r = g.V.RestView.resting in
    let z : length c.loop-seat.seats.items ≡ 0 = omega (arith, c.in_default-pop.ensures.cases.0) in
    let none_left : c.loop-seat.seats.items ≡ [] = nil_from_length c.loop-seat.seats.items z in
    let all : r.claims c.loop-seat.all.me.0 ≡ map (λ s. claim_of r s.number s.seat.me.0)
    c.args.seats.items = sym (ap (λ l. map (λ s. claim_of r s.number s.seat.me.0) l ++
    r.claims c.loop-seat.all.me.0) none_left) ∙ c.loop-seat.invariant.all in
    c.loop-seat.invariant.claims ∙
    ap (r.rest c.loop-seat.all.me.0 (made_with g.S.Logged.fixed c.args.shared.now.key)) all

pub loop-seat-preserved : goal.loop-seat-preserved
loop-seat-preserved g c =
    let r = g.V.RestView.resting in
    let x = c.in-Some-pop.field-0 in
    let joined = ap (λ m. m.0) c.join_seat.ensures.2 in
    let own = All-pop (λ s. (ticket_of r s.number s.seat).lock ≡ lock_id c.args.shared.now.table_id
    (made_with g.S.Logged.fixed c.args.shared.now.key)) _ _ (Some x) c.in-Some-pop.ensures.items
    c.loop-seat.invariant.seats in record {
      own = c.join_seat.ensures.0 ∙ c.loop-seat.invariant.own;
      claims = joined_is r _ x.seat.me.0 _ _ c.loop-seat.invariant.claims joined;
      all = ap (λ l. map (λ s. claim_of r s.number s.seat.me.0) c.pop-in-loop-seat.new.self.items ++
          l) (joined_claims r _ x.seat.me.0 _ joined) ∙
          pop_claims (λ s. claim_of r s.number s.seat.me.0) _ c.pop-in-loop-seat.new.self.items x
          (r.claims x.seat.me.0) (r.claims c.loop-seat.all.me.0) c.in-Some-pop.ensures.items
          (alone_claims r x.seat.me x.number x.alone) ∙ c.loop-seat.invariant.all;
      seats = own.0;
    }
