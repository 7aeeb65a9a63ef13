use Rattle.std.proofs.Common.{◌≡◌, ◌⊎◌, inl, inr, None, slice_index_or, ℕ, sym, ap, ◌∙◌, arith}
use Rattle.std.proofs.lemmas.Bool.{cases_eq}
use Rattle.mq_ledger.proofs.slots.search.Goals as goal

pub loop-key-preserved : goal.loop-key-preserved
loop-key-preserved c key x lt there same = by (cases_eq key c.loop-key.key)
  where
    by : (key ≡ c.loop-key.key) ⊎ (key ≡ c.loop-key.key → ⊥) → ⊥
    by (inl e) =
        let yes = c.is_there.ensures.none x (ap (λ (i : ℕ). slice_index_or c.args.slots.now i None)
        (sym e) ∙ there) same in
        let no = c.if-is_there.false in
        grind (arith, yes, no)
    by (inr ne) = c.loop-key.invariant key x (omega arith) there same
