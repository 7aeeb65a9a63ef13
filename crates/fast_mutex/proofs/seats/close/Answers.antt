use Rattle.std.proofs.Common.{[], ◌≤◌, map, length, refl, arith}
use Rattle.std.proofs.lemmas.List.{length-map}
use Rattle.fast_mutex.specs.Items.{Grows}
use Rattle.fast_mutex.specs.Seats.{claim_of}
use Rattle.fast_mutex.proofs.SeatsKeep.{all_claims, finishes}
use Rattle.fast_mutex.proofs.seats.close.Goals as goal

pub take_state-requires-clause-there : goal.take_state-requires-clause-there
take_state-requires-clause-there g c =
    let r = g.V.RestView.resting in
    let many : c.args.table.shared.key.count ≤ length (map (λ s. claim_of r s.number s.seat.me.0)
    c.args.seats.items) = let n = length-map c.args.seats.items
    (λ s. claim_of r s.number s.seat.me.0) in omega arith in
    let e = c.requires.rule.ends _ _ _ _ _ _ c.join_all-all.ensures.claims many
    c.close_with.ensures.values.2 in (e.0, e.1)

pub returns-clause-fixed : goal.returns-clause-fixed
returns-clause-fixed g c =
    let r = g.V.RestView.resting in
    let many : c.args.table.shared.key.count ≤ length (map (λ s. claim_of r s.number s.seat.me.0)
    c.args.seats.items) = let n = length-map c.args.seats.items
    (λ s. claim_of r s.number s.seat.me.0) in omega arith in
    (finishes _ _ _ _ _ _ c.requires.rule _ _ _ _ _ _ c.take_state.result
    c.join_all-all.ensures.claims many c.close_with.ensures.values.2 c.take_state.ensures).0

pub returns-clause-grows : goal.returns-clause-grows
returns-clause-grows g c =
    let r = g.V.RestView.resting in
    let many : c.args.table.shared.key.count ≤ length (map (λ s. claim_of r s.number s.seat.me.0)
    c.args.seats.items) = let n = length-map c.args.seats.items
    (λ s. claim_of r s.number s.seat.me.0) in omega arith in
    let e = finishes _ _ _ _ _ _ c.requires.rule _ _ _ _ _ _ c.take_state.result
    c.join_all-all.ensures.claims many c.close_with.ensures.values.2 c.take_state.ensures in
    all_claims (λ s. claim_of r s.number s.seat.me.0) (λ k. Grows g.S.Logged.author k.0 k.1
    (g.S.Logged.items c.take_state.result) []) c.args.seats.items _ refl e.1
