use Rattle.std.proofs.Common.{◌∙◌, ap, inl, inr, subst, sym}
use Rattle.mq_model.specs.Legality.{Legal}
use Rattle.journal_views.specs.State.{state}
use Rattle.journal_views.specs.declared.form.Form.TheVariants.{Json}
use Rattle.journal_views.proofs.view.state_line.Goals as goal

pub returns-in-None : goal.returns-in-None
returns-in-None c =
    let same = c.in_ok-entries.ensures in
    inl (
      subst Legal same (c.in_ok-found.ensures.legal.0 c.in-None.is),
      c.in_ok-known-in-None.ensures ∙ ap (state Json) same,
    )

pub returns : goal.returns
returns c =
    let same = c.in_ok-entries.ensures in
    inr (
      λ legal. (let none = c.in_ok-found.ensures.legal.1 (subst Legal (sym same) legal) in
          let some = c.in-Some.is in cc),
      c.in_ok-none-in-Some.ensures.items,
    )
