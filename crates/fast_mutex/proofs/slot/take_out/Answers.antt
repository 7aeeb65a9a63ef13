use Rattle.std.proofs.Common.{◌∷◌, Some, ap, sym, ◌∙◌}
use Rattle.atomic_table.specs.Table.{rest}
use Rattle.fast_mutex.proofs.slot.take_out.Goals as goal

pub exchange-requires : goal.exchange-requires
exchange-requires g c = let e = c.requires.inside.1 in (
  c.requires.own,
  (
    Some c.requires.inside.0,
    e ∙ ap (λ z. (0, Some c.requires.inside.0) ∷
        rest z) (sym e),
  ),
)
