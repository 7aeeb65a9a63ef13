use Rattle.std.proofs.Common.{◌++◌, ◌∙◌, ap}
use Rattle.mq_model.specs.Record.{Past}
use Rattle.mq_equivalence.specs.Key.{listed}
use Rattle.mq_equivalence.specs.Kinds.{place_code}
use Rattle.mq_equivalence.proofs.Appends.{kind-done}
use Rattle.mq_equivalence.proofs.parts.push_kind.Goals as goal

pub returns : goal.returns
returns c =
    let kind = c.args.kind in
    let old = c.args.key.now.items in
    let places = c.deref.result.now in
    let all = c.deref.ensures.value ∙ c.in_ok-places.ensures in
    c.in_ok-push_places.ensures
    ∙ ap (λ (past : Past). old ++ listed (place_code c.args.received kind past) places)
    c.journal.ensures
    ∙ ap (λ ns. old ++ ns) (kind-done c.args.received kind c.args.trail.now c.args.q places all)
