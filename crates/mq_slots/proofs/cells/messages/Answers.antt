use Rattle.std.proofs.Common.{◌≡◌, ◌+◌, ◌-◌, ◌∙◌, ap, arith, drop, insert, refl, sym, slice_index_or}
use Rattle.mq_slots.specs.Messages.{messages}
use Rattle.mq_slots.proofs.Listing.{listed-more}
use Rattle.mq_slots.proofs.cells.messages.Goals as goal

pub loop-index-preserved-in-Continue-1 : goal.loop-index-preserved-in-Continue-1
loop-index-preserved-in-Continue-1 c =
    let back : c.loop-index.index ≡ (c.loop-index.index - 1) + 1 = omega arith in
    let value = c.deref.ensures.value in
    let before = value ∙ c.loop-index.invariant ∙ ap (λ k. messages (drop k c.args.cells.now)) back
    in
    listed-more c.args.cells.now _ _ (c.loop-index.index - 1) c.turn_of-turn.result
    c.deref.result.now _ before (omega arith) refl (omega arith) c.turn_of-turn.ensures.inside
    c.turn_of-turn.ensures.behind c.turn_of-turn.ensures.before
    (rw value c.in_ok-insert.ensures.items)
