-- A send whose message entered its queue after it waited succeeds, or has not returned.
use Rattle.std.proofs.Common.{◌≡◌, ℕ, ◌+◌, ◌==◌, true, false, [], ◌∷◌, length, Option, Some, is_none, ◌⊎◌, inl, inr, refl, sym, ◌∙◌, ap, subst, arith, eqb-true, unwrap_or}
use Rattle.mq_model.specs.Record.{Record, Past}
use Rattle.mq_model.specs.Waits.{answered_by, named_wait, open_wait}
use Rattle.mq_model.specs.Legality.{Legal, may_call}
use Rattle.mq_model.specs.declared.entries.Call.{Call}
use Rattle.mq_model.specs.declared.entries.Call.TheVariants.{Collect, Withdraw}
use Rattle.mq_model.specs.declared.entries.Reply.{Reply}
use Rattle.mq_model.specs.declared.entries.Reply.TheVariants as reply
use Rattle.mq_model.proofs.Cases.{Says}
use Rattle.mq_model.proofs.Frames.{record_at-older}
use Rattle.mq_model.proofs.LegalReplies.{legal_says}
use Rattle.mq_model.proofs.Places.{split}
use Rattle.mq_model.proofs.Prefixes.{record_at-below}
use Rattle.mq_laws.specs.Laws.{cause, withdrawn_wait, Has}
use Rattle.mq_laws.proofs.EndedWaits.{has-older, named-once, withdrawn-unnamed}
use Rattle.mq_laws.proofs.GivenOnce.{answered-named, collected}
use Rattle.mq_laws.proofs.LegalPlaces.{has-here, has-record}
use Rattle.histories.specs.declared.operation.Operation.{Operation}
use Rattle.histories.specs.declared.operation.Outcome.{Outcome}
use Rattle.histories.specs.Histories.{Histories, current_of, is_pending, is_through}
use Rattle.histories.specs.Linearizations.{ComesFrom, IsLinearization}
use Rattle.histories.specs.Outcomes.{fits, is_handed}
use Rattle.histories.specs.NotFull.{may_enter}
use Rattle.histories.proofs.Cutting.{Ends}
use Rattle.histories.proofs.Tracing.{current-other, legal-linear}

-- the operation waits, and the entry at place m served it without handing over a message
pub record IsAdmitted (histories : Histories) (past : Past) (index w m : ℕ)
    (o : Operation) : Type 0 where
  pub opened : open_wait past (index + 1) ≡ Some w
  pub is : current_of histories past index ≡ Some o
  pub named : Has named_wait past m w
  pub kept : is_handed past m ≡ false

kept-older : (past : Past) (r : Record) (m w : ℕ) → Has named_wait past m w →
    is_handed past m ≡ false → is_handed (r ∷ past) m ≡ false
kept-older past r m w named e = grind (arith, has-record, record_at-older, record_at-below)

pub some-not-none : (past : Past) (p w : ℕ) → open_wait past p ≡ Some w →
    is_none (open_wait past p) ≡ true → ⊥
some-not-none past p w is none = let bad : false ≡ true = rw is at none in cc

collected-enters : (past : Past) (m : ℕ) (x : Outcome) → is_handed past m ≡ false →
    fits past (reply.Collected m) x ≡ true → may_enter x ≡ true
collected-enters past m x kept fit = grind arith

admitted-step : (histories : Histories) (past : Past) (r : Record)
    (linear : IsLinearization histories (r ∷ past)) (index w m : ℕ) (o : Operation) →
    IsAdmitted histories past index w m o →
    IsAdmitted histories (r ∷ past) index w m o ⊎ (may_enter o.outcome ≡ true)
admitted-step histories past r linear index w m o x = split (r.entry.process == index + 1)
    (λ own. inr (ended (eqb-true _ _ own)))
    (λ other. inl (record {
      opened = rw other x.opened;
      is = current-other histories past r index other ∙ x.is;
      named = has-older named_wait past r m w x.named;
      kept = kept-older past r m w x.named x.kept;
    }))
  where
    legal : Legal past
    legal = legal-linear histories past linear.0

    by : (call : Call) → r.entry.process ≡ index + 1 → may_call past (index + 1) call ≡ true →
        Says past (index + 1) call r.entry.reply → may_enter o.outcome ≡ true
    by Collect mine turn says =
        let b : ℕ = unwrap_or (answered_by past (index + 1)) 0 in
        let from : ComesFrom histories past r = linear.2 in
        let is : r.entry.reply ≡ reply.Collected b = says in
        let a = collected past r linear.1 b (ap cause is) in
        let named = answered-named past r.entry.process b a.answered in
        let opened : open_wait past (index + 1) ≡ Some named.w =
        subst (λ (k : ℕ). open_wait past k ≡ Some named.w) mine named.opened in
        let both : Some named.w ≡ Some w = sym opened ∙ x.opened in
        let wait : named.w ≡ w = cc in
        let same : b ≡ m = named-once past legal b m w (subst (λ (k : ℕ). Has named_wait past b k)
        wait named.named) x.named in
        let reply_is : r.entry.reply ≡ reply.Collected m = is ∙ ap reply.Collected same in
        let at : from.index ≡ index = let p = from.process in omega (arith, p, mine) in
        let there : current_of histories past index ≡ Some from.operation =
        subst (λ (n : ℕ). current_of histories past n ≡ Some from.operation) at from.is in
        let ops : Some from.operation ≡ Some o = sym there ∙ x.is in
        let op : from.operation ≡ o = cc in
        let fit : fits past r.entry.reply o.outcome ≡ true =
        subst (λ (y : Operation). fits past r.entry.reply y.outcome ≡ true) op from.fits in
        let fit_it : fits past (reply.Collected m) o.outcome ≡ true =
        subst (λ (y : Reply). fits past y o.outcome ≡ true) reply_is fit in
        collected-enters past m o.outcome x.kept fit_it
    by (Withdraw now) mine turn says =
        let w0 : ℕ = unwrap_or (open_wait past (index + 1)) 0 in
        let is : r.entry.reply ≡ reply.Withdrawn w0 = says in
        let same : w0 ≡ w = rw x.opened refl in
        let here : Has withdrawn_wait (r ∷ past) (length past) w = has-here withdrawn_wait past r w
        (ap withdrawn_wait is ∙ ap Some same) in
        absurd (withdrawn-unnamed (r ∷ past) (legal, linear.1) (length past) m w here
        (has-older named_wait past r m w x.named))
    by _ mine turn says = absurd (some-not-none past (index + 1) w x.opened turn)

    ended : r.entry.process ≡ index + 1 → may_enter o.outcome ≡ true
    ended mine = by r.entry.call mine
        (subst (λ (k : ℕ). may_call past k r.entry.call ≡ true) mine linear.1.turn)
        (subst (λ (k : ℕ). Says past k r.entry.call r.entry.reply) mine
        (legal_says past r linear.1))

admitted-later : (histories : Histories) (base full : Past) → IsLinearization histories full →
    Ends base full → (index w m : ℕ) (o : Operation) →
    IsAdmitted histories base index w m o →
    IsAdmitted histories full index w m o ⊎ (may_enter o.outcome ≡ true)
admitted-later histories base [] linear ends index w m o x =
    inl (subst (λ (p : Past). IsAdmitted histories p index w m o) ends x)
admitted-later histories base (r ∷ full) linear ends index w m o x = elim ends [
  | inl same ↦ inl (subst (λ (p : Past). IsAdmitted histories p index w m o) same x)
  | inr older ↦ elim (admitted-later histories base full linear.0 older index w m o x) [
    | inr may ↦ inr may
    | inl still ↦ admitted-step histories full r linear index w m o still
  ]
]

pending-enters : (x : Outcome) → is_pending x ≡ true → may_enter x ≡ true
pending-enters x e = grind arith

-- in a complete linearization the operation succeeds, or has not returned
pub admitted-enters : (histories : Histories) (base full : Past) → IsLinearization histories full →
    Ends base full → (index w m : ℕ) (o : Operation) →
    is_through (current_of histories full index) ≡ true →
    IsAdmitted histories base index w m o → may_enter o.outcome ≡ true
admitted-enters histories base full linear ends index w m o through x =
    elim (admitted-later histories base full linear ends index w m o x) [
      | inr may ↦ may
      | inl still ↦ pending-enters o.outcome (subst (λ (y : Option Operation). is_through y ≡ true)
          still.is through)
    ]
