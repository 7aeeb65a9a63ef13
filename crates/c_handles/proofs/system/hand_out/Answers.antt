use Rattle.std.proofs.Common.{◌∙◌, List, inl, refl, ap, map, Some, arith}
use Rattle.std.proofs.lemmas.List.{length-map}
use Rattle.fast_mutex.specs.Items.{Ticket}
use Rattle.mq_model.specs.Record.{Record}
use Rattle.c_handles.specs.Standings.{ticket_of}
use Rattle.c_handles.proofs.Systems.{map-some}
use Rattle.c_handles.proofs.system.hand_out.Goals as goal

pub fill-requires-clause-count : goal.fill-requires-clause-count
fill-requires-clause-count c = grind (arith, length-map)

pub returns : goal.returns
returns c =
    let shown = map-some (λ b. ticket_of b.value.standing) c.in-Ok-members_of.members.items in
    inl (
      refl,
      c.fill.ensures ∙ shown ∙ ap (λ (ts : List (Ticket Record)). map
          (λ (t : Ticket Record). Some t) ts) c.in-Ok-members_of.ensures.ok,
    )
