use Rattle.std.proofs.Common.{ap, ◌∙◌}
use Rattle.c_handles.specs.declared.seal.Seal.{Seal}
use Rattle.c_handles.proofs.seal.Seal.take.Goals as goal

pub into_parts-requires : goal.into_parts-requires
into_parts-requires c = (
  c.requires.0,
  ap (λ (s : Seal). s.member) c.replace-full.ensures.value ∙
      c.requires.1,
)
