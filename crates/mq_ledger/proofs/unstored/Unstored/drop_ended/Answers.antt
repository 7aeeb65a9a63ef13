use Rattle.std.proofs.Common.{◌≡◌, ◌+◌, true, false, Some, None, List, refl, sym, ap, ◌∙◌, subst, arith}
use Rattle.std.specs.declared.option.Option.{Option}
use Rattle.mq_model.specs.Descriptors.{is_place}
use Rattle.mq_ledger.specs.Kept.{Kept}
use Rattle.mq_ledger.specs.Keeping.{AreTrue, places_of, vacant_in}
use Rattle.mq_ledger.specs.Seen.{Seen, HasPlace}
use Rattle.mq_laws.specs.Needed.{ended_last}
use Rattle.mq_ledger.proofs.Keeping.{true-less, keeps-set, within, count-less}
use Rattle.mq_ledger.proofs.Sound.{sound-same}
use Rattle.mq_ledger.proofs.unstored.Unstored.drop_ended.Goals as goal

pub invariant_of-self : goal.invariant_of-self
invariant_of-self c =
    let slots = c.self.inside.slots.items in
    let found = c.in-Some-guess.ensures in
    let there = rw c.deref.ensures.value at found.1 in
    let lt = within slots c.in-Some-guess.key found.0 there in
    let less = c.vacate.ensures in
    sound-same c.self.inside _ c.self.invariant refl refl
    (λ past t. subst (AreTrue past) (sym less) (true-less past slots c.in-Some-guess.key t lt))
    (ap (λ n. n + 1) c.self.invariant.vacant ∙
    sym (ap vacant_in less ∙ count-less slots c.in-Some-guess.key found.0 there)) refl
    c.self.invariant.empty

pub returns-in-Some-guess-clause-keeps : goal.returns-in-Some-guess-clause-keeps
returns-in-Some-guess-clause-keeps c k other has =
    let slots = c.self.inside.slots.items in
    let found = c.in-Some-guess.ensures in
    let places : places_of slots ≡ c.args.self.now.places =
    ap (λ (v : Seen). v.places) c.self.view_is in
    let ended : Some c.in-Some.place ≡ ended_last c.args.self.now.records = sym c.in-Some.is ∙
    c.self.invariant.ended ∙ ap (λ (v : Seen). ended_last v.records) c.self.view_is in
    subst (λ (xs : List (Option Kept)). HasPlace (places_of xs) k) (sym c.vacate.ensures)
    (keeps-set slots c.in-Some-guess.key k None
    (λ x there same.
    let one : Some x ≡ Some found.0 = sym there ∙ (rw c.deref.ensures.value at found.1) in
    let is : x ≡ found.0 = cc in
    let at : k ≡ c.in-Some.place = sym same ∙ ap (λ (y : Kept). y.place) is ∙ found.2 in
    let no : is_place k (Some c.in-Some.place) ≡ false = ap (is_place k) ended ∙ other in
    let yes : is_place k (Some c.in-Some.place) ≡ true = grind (arith, at) in
    let bad : true ≡ false = sym yes ∙ no in absurd (cc))
    (subst (λ ps. HasPlace ps k) (sym places) has))
