use Rattle.std.proofs.Common.{◌≡◌, true, ◌∙◌, sym, arith}
use Rattle.std.proofs.lemmas.Bool.Decides.{Decides-eqb}
use Rattle.std.proofs.lemmas.Slice.Eq.{slice_eq-Decides}
use Rattle.mq_equivalence.specs.Key.{key_within}
use Rattle.mq_equivalence.proofs.SameKeys.{same-within}
use Rattle.mq_equivalence.proofs.keys.are_equivalent.Goals as goal

pub returns : goal.returns
returns c = λ is.
    let x = c.args.x.now.records in
    let y = c.args.y.now.records in
    let n = c.max-count.result in
    let w = c.max-width.result in
    let same = (slice_eq-Decides Decides-eqb c.as_slice.result.now c.as_slice-2.result.now
    c.eq.result c.eq.ensures).0 is in
    let one : c.as_slice.result.now ≡ key_within true n w x = c.as_slice.ensures.value ∙
    c.in_ok-one.ensures in
    let other : c.as_slice-2.result.now ≡ key_within true n w y = c.as_slice-2.ensures.value ∙
    c.in_ok-other.ensures in
    same-within true x y n n w w c.requires.0 c.requires.1
    (grind (arith, c.process_bound.ensures.value, c.max-count.ensures))
    (grind (arith, c.process_bound-2.ensures.value, c.max-count.ensures))
    (grind (arith, c.number_bound.ensures.value, c.max-width.ensures))
    (grind (arith, c.number_bound-2.ensures.value, c.max-width.ensures))
    (sym one ∙ same ∙ other)
