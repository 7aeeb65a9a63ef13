use Rattle.std.specs.declared.option.Option.{Option}
use Rattle.std.proofs.Common.{◌≡◌, ◌∷◌, subst, sym, slice_set}
use Rattle.mq_ledger.specs.Kept.{Kept}
use Rattle.mq_ledger.specs.Keeping.{places_of, AreTrue, vacant_in}
use Rattle.mq_ledger.specs.Seen.{HasPlace}
use Rattle.mq_ledger.proofs.Keeping.{has-put, keeps-set, true-put, count-same, some-in}
use Rattle.mq_ledger.proofs.slots.replace.Goals as goal

pub returns-clause-vacant : goal.returns-clause-vacant
returns-clause-vacant c =
    let slots = c.args.slots.now.items in
    let full = some-in _ c.requires.full in
    subst (λ (x : Option Kept). vacant_in (slice_set slots c.args.key x) ≡ vacant_in slots)
    (sym c.occupy.ensures.kept)
    (count-same slots c.args.key full.0 _ full.1)

pub returns-clause-has : goal.returns-clause-has
returns-clause-has c =
    subst (λ (x : Option Kept). HasPlace (places_of (slice_set c.args.slots.now.items c.args.key x))
    c.args.place) (sym c.occupy.ensures.kept)
    (has-put c.args.slots.now.items c.args.key _ c.requires.within)

pub returns-clause-keeps : goal.returns-clause-keeps
returns-clause-keeps c k other has =
    subst (λ (x : Option Kept). HasPlace (places_of (slice_set c.args.slots.now.items c.args.key x))
    k) (sym c.occupy.ensures.kept)
    (keeps-set c.args.slots.now.items c.args.key k _ other has)

pub returns-clause-are_true : goal.returns-clause-are_true
returns-clause-are_true c past r place prio lost bytes t =
    subst (λ (x : Option Kept). AreTrue (r ∷ past) (slice_set c.args.slots.now.items c.args.key x))
    (sym c.occupy.ensures.kept)
    (true-put past r c.args.slots.now.items c.args.key _ t c.requires.within place prio lost bytes)
