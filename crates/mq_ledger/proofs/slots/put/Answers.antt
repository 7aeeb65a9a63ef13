use Rattle.std.specs.declared.option.Option.{Option}
use Rattle.std.proofs.Common.{◌∷◌, subst, sym, slice_set}
use Rattle.mq_ledger.specs.Kept.{Kept}
use Rattle.mq_ledger.specs.Keeping.{places_of, AreTrue}
use Rattle.mq_ledger.specs.Seen.{HasPlace}
use Rattle.mq_ledger.proofs.Keeping.{has-put, keeps-put, true-put}
use Rattle.mq_ledger.proofs.slots.put.Goals as goal

pub returns-clause-has : goal.returns-clause-has
returns-clause-has c =
    subst (λ (x : Option Kept). HasPlace
    (places_of (slice_set c.args.slots.now.items c.vacant_slot-key.result x)) c.args.place)
    (sym c.occupy.ensures.kept)
    (has-put c.args.slots.now.items c.vacant_slot-key.result _
    (rw c.deref.ensures.value at c.vacant_slot-key.ensures.within))

pub returns-clause-keeps : goal.returns-clause-keeps
returns-clause-keeps c k has =
    subst (λ (x : Option Kept). HasPlace
    (places_of (slice_set c.args.slots.now.items c.vacant_slot-key.result x)) k)
    (sym c.occupy.ensures.kept)
    (keeps-put c.args.slots.now.items c.vacant_slot-key.result k _
    (rw c.deref.ensures.value at c.vacant_slot-key.ensures.vacant) has)

pub returns-clause-are_true : goal.returns-clause-are_true
returns-clause-are_true c past r place prio lost bytes t =
    subst (λ (x : Option Kept). AreTrue (r ∷ past)
    (slice_set c.args.slots.now.items c.vacant_slot-key.result x)) (sym c.occupy.ensures.kept)
    (true-put past r c.args.slots.now.items c.vacant_slot-key.result _ t
    (rw c.deref.ensures.value at c.vacant_slot-key.ensures.within) place prio lost bytes)
