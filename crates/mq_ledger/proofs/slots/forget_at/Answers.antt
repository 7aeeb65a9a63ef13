use Rattle.std.proofs.Common.{◌≡◌, ◌+◌, Some, None, false, is_none, List, slice_index_or, sym, ◌∙◌, subst, arith}
use Rattle.std.specs.declared.option.Option.{Option}
use Rattle.std.proofs.lemmas.List.{get_or_default}
use Rattle.mq_ledger.specs.Kept.{Kept}
use Rattle.mq_ledger.specs.Keeping.{Forgets}
use Rattle.mq_ledger.proofs.Keeping.{one-forgotten, some-in}
use Rattle.mq_ledger.proofs.slots.forget_at.Goals as goal

pub returns-then-is_lost_with : goal.returns-then-is_lost_with
returns-then-is_lost_with c =
    let slots = c.args.slots.now.items in
    let full : is_none c.index-slot.result.now ≡ false = grind arith in
    let x = some-in c.index-slot.result.now full in
    let there : slice_index_or slots c.args.key None ≡ Some x.0 = get_or_default slots c.args.key
    None c.index-slot.result.now c.requires.within ∙ sym c.index-slot.ensures ∙ x.1 in
    subst (λ (xs : List (Option Kept)). Forgets c.args.queue slots xs c.args.vacant.now
    (c.args.vacant.now + 1)) (sym c.vacate.ensures)
    (one-forgotten c.args.queue slots c.args.key x.0 c.args.vacant.now c.requires.count there
    (c.is_lost_with.ensures (grind arith) x.0 x.1))
