-- A caller has one open wait at most, and ends it before any other call.
use Rattle.std.proofs.Common.{◌≡◌, ℕ, ◌+◌, ◌<◌, ◌≤◌, ◌==◌, true, false, List, [], ◌∷◌, length, Some, None, refl, sym, ◌∙◌, ap, arith, eqb-true, eq-eqb, ◌⊎◌, inl, inr}
use Rattle.mq_model.specs.Record.{Record, Past, record_at, first}
use Rattle.mq_model.specs.Waits.{open_wait, is_wait}
use Rattle.mq_model.specs.Legality.{Legal, IsLegalNext, may_call, reply_to}
use Rattle.mq_laws.specs.Laws.{ends_wait, EndsWait, IsEndAt, WaitsOneAtATime}
use Rattle.mq_model.specs.declared.entries.Call.{Call}
use Rattle.mq_model.specs.declared.entries.Call.TheVariants.{Collect, Withdraw}
use Rattle.mq_model.specs.declared.entries.Reply.{Reply}
use Rattle.mq_model.specs.declared.entries.Reply.TheVariants.{Waits}
use Rattle.mq_model.proofs.Places.{split}
use Rattle.mq_model.proofs.Prefixes.{record_at-below, first-more, record_at-first, length-first}
use Rattle.mq_model.proofs.Frames.{record_at-older}
use Rattle.mq_laws.proofs.LegalPlaces.{LegalAt, legal-at}

-- the end of a wait -------------------------------------------------------------------------------

ends-by : (past : Past) (p w : ℕ) (call : Call) (payload : List ℕ) → open_wait past p ≡ Some w →
    may_call past p call ≡ true → EndsWait past p w call (reply_to past p call payload)
ends-by past p w Collect payload e may = grind arith
ends-by past p w (Withdraw now) payload e may = grind arith
ends-by past p w call payload e may = absurd (let bad : false ≡ true = rw e at may in cc)

ends-next : (past : Past) (r : Record) (w : ℕ) → IsLegalNext past r →
    open_wait past r.entry.process ≡ Some w →
    EndsWait past r.entry.process w r.entry.call r.entry.reply
ends-next past r w next e = rw next.reply (ends-by past r.entry.process w r.entry.call
    r.payload e next.turn)

quiet : (past : Past) (p w : ℕ) (call : Call) (reply : Reply) → EndsWait past p w call reply →
    (ends_wait call ≡ true) × (is_wait reply ≡ false)
quiet past p w Collect reply ends = (refl, ap is_wait ends.2)
quiet past p w (Withdraw now) reply ends = (refl, ap is_wait ends.1)
quiet past p w call reply ends = absurd ends

only-ends : (past : Past) → Legal past → (k w : ℕ) (r : Record) → record_at past k ≡ Some r →
    open_wait (first k past) r.entry.process ≡ Some w →
    EndsWait (first k past) r.entry.process w r.entry.call r.entry.reply
only-ends past legal k w r at e = ends-next (first k past) r w (legal-at past legal k r at).next e

none-after : (past : Past) → Legal past → (k w : ℕ) (r : Record) → record_at past k ≡ Some r →
    open_wait (first k past) r.entry.process ≡ Some w →
    open_wait (first (k + 1) past) r.entry.process ≡ None
none-after past legal k w r at e =
    let still = (quiet (first k past) r.entry.process w r.entry.call r.entry.reply
    (only-ends past legal k w r at e)).1 in
    rw (first-more past k r at, eq-eqb r.entry.process r.entry.process refl, still) refl

-- since an entry that waits -----------------------------------------------------------------------

-- the wait that began at place j is open, or its caller ended a wait after it
abbrev OpenOrEnded : Past → ℕ → ℕ → Type 0
OpenOrEnded past j p = (open_wait past p ≡ Some j) ⊎ ((m : ℕ) × (j < m) × IsEndAt past m p)

end-older : (past : Past) (r : Record) (m p : ℕ) → IsEndAt past m p → IsEndAt (r ∷ past) m p
end-older past r m p x = record {
  r = x.r;
  at = record_at-older past r m
      (record_at-below past m x.r x.at) ∙ x.at;
  caller = x.caller;
  call = x.call;
}

since-wait : (past : Past) → Legal past → (j p : ℕ) (r : Record) → record_at past j ≡ Some r →
    r.entry.process ≡ p → r.entry.reply ≡ Waits → OpenOrEnded past j p
since-wait [] legal j p r at own waits = absurd (cc)
since-wait (s ∷ past) legal j p r at own waits = split (j == length past)
    (λ t.
    let here : Some s ≡ Some r = rw t at at in
    let same : s ≡ r = cc in
    let place : j ≡ length past = eqb-true j (length past) t in
    let caller : (s.entry.process == p) ≡ true = eq-eqb s.entry.process p
    (ap (λ (x : Record). x.entry.process) same ∙ own) in
    let still : is_wait s.entry.reply ≡ true = ap (λ (x : Record). is_wait x.entry.reply) same ∙
    ap is_wait waits in
    inl (rw (caller, still) (ap Some (sym place))))
    (λ f.
    let old : record_at past j ≡ Some r = rw f at at in
    by old (since-wait past legal.0 j p r old own waits))
  where
    by : record_at past j ≡ Some r → OpenOrEnded past j p → OpenOrEnded (s ∷ past) j p
    by old (inr x) = inr (x.0, x.1, end-older past s x.0 p x.2)
    by old (inl still) = split (s.entry.process == p)
        (λ mine.
        let caller : s.entry.process ≡ p = eqb-true s.entry.process p mine in
        let ends = quiet past s.entry.process j s.entry.call s.entry.reply
        (ends-next past s j legal.1 (rw caller still)) in
        inr (
          length past,
          record_at-below past j r old,
          record {
            r = s;
            at = rw (eq-eqb (length past) (length past) refl) refl;
            caller = caller;
            call = ends.0;
          },
        ))
        (λ other. inl (rw other still))

between : (past : Past) → Legal past → (j k : ℕ) (r s : Record) → j < k →
    record_at past j ≡ Some r → r.entry.reply ≡ Waits → record_at past k ≡ Some s →
    s.entry.process ≡ r.entry.process → (m : ℕ) × (j < m) × (m ≤ k) × IsEndAt past m r.entry.process
between past legal j k r s lt first_at waits at same =
    by (since-wait (first k past) here.before j r.entry.process r (record_at-first past k j lt
    (omega (arith, below)) ∙ first_at) refl waits)
  where
    here : LegalAt past k s
    here = legal-at past legal k s at

    below : k < length past
    below = record_at-below past k s at

    by : OpenOrEnded (first k past) j r.entry.process →
        (m : ℕ) × (j < m) × (m ≤ k) × IsEndAt past m r.entry.process
    by (inl still) =
        let ends = quiet (first k past) s.entry.process j s.entry.call s.entry.reply
        (ends-next (first k past) s j here.next (rw same still)) in
        (k, lt, omega arith, record { r = s; at = at; caller = same; call = ends.0 })
    by (inr x) =
        let long : length (first k past) ≡ k = length-first k past (omega (arith, below)) in
        let less = record_at-below (first k past) x.0 x.2.r x.2.at in
        let m_lt : x.0 < k = omega (arith, long, less) in (
          x.0,
          x.1,
          omega (arith, m_lt),
          record {
            r = x.2.r;
            at = sym (record_at-first past k x.0 m_lt (omega (arith, below))) ∙ x.2.at;
            caller =
                x.2.caller;
            call = x.2.call;
          },
        )

pub waits-one-at-a-time : (past : Past) → Legal past → WaitsOneAtATime past
waits-one-at-a-time past legal = record {
  only_ends = only-ends past legal;
  none_after = none-after past legal;
  between = between past legal;
}
