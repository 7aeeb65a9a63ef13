-- Whatever the code asks for is needed.
use Rattle.std.proofs.lemmas.Bool.Decides.{nat_tests}
use Rattle.std.proofs.Common.{◌≡◌, ℕ, ◌<◌, ◌==◌, ◌||◌, not, ◌⊎◌, inl, inr, Bool, true, false, [], ◌∷◌, length, Option, Some, None, refl, sym, ◌∙◌, ap, arith, eqb-true, eq-eqb, ne_eqb}
use Rattle.std.proofs.lemmas.Bool.{false_from_ne_true, not-true}
use Rattle.std.specs.Option.{option_map}
use Rattle.mq_model.specs.Record.{Record, Past, record_at}
use Rattle.mq_model.specs.Descriptors.{alive, created, called_queue}
use Rattle.mq_model.specs.Messages.{is_in, with_place, present, admitted, taken, waiting_sends, ended_sends, ends_send, blocked_sends}
use Rattle.mq_model.specs.Waits.{answered_by, named_wait, ended_wait}
use Rattle.mq_model.specs.Legality.{Legal}
use Rattle.mq_model.specs.declared.entries.Reply.{Reply}
use Rattle.mq_model.specs.declared.entries.Reply.TheVariants.{Opened, Queued, Handed, Waits, Got, Collected, Attrs, Notice, Done, Refused, Withdrawn}
use Rattle.mq_model.proofs.Places.{split, clash, is_in-filter, is_in-with_place}
use Rattle.mq_model.proofs.Frames.{created-below}
use Rattle.mq_model.proofs.Presence.{sent_to, admitted-to, present-admitted, blocked-on, waiting-not_taken, taken-cases}
use Rattle.mq_laws.specs.Laws.{reply_at, message_given, withdrawn_wait, cause, Has}
use Rattle.mq_laws.proofs.LegalPlaces.{has-here, has-cases, record-of}
use Rattle.mq_laws.proofs.EndedWaits.{has-older, withdrawn-not_accepted, ended-blocked, has-also, admitted-not_handed}
use Rattle.mq_laws.proofs.SentMessages.{IsSentTo, is_sent, admitted-sent, blocked-sent}
use Rattle.mq_model.specs.Names.{creates}
use Rattle.mq_laws.proofs.GivenOnce.{gives-once, collected, answered-named, closed, given-taken}
use Rattle.mq_laws.specs.Needed.{is_kept_at, ended_by, ended, home_of, home, IsThere, IsNeeded}
use Rattle.mq_laws.proofs.Needing.{not-before, alive-created}

-- how an entry was ended
abbrev Ways : Past → ℕ → Type 0
Ways past k = (j : ℕ) ×
    (Has message_given past j k ⊎ (Has cause past j k ⊎ Has withdrawn_wait past j k))

ended-ways : (past : Past) (k : ℕ) → is_in (ended past) k ≡ true → Ways past k
ended-ways [] k h = absurd (cc)
ended-ways (r ∷ past) k h = by (λ old. ended-ways past k old) (ended_by r.entry.reply) refl h
  where
    older : Ways past k → Ways (r ∷ past) k
    older (j, inl e) = (j, inl (has-older message_given past r j k e))
    older (j, inr (inl e)) = (j, inr (inl (has-older cause past r j k e)))
    older (j, inr (inr e)) = (j, inr (inr (has-older withdrawn_wait past r j k e)))

    here : (reply : Reply) → r.entry.reply ≡ reply → ended_by reply ≡ Some k → Ways (r ∷ past) k
    here (Got m a n) is e = (length past, inl (has-here message_given past r k (rw is e)))
    here (Collected b) is e = (length past, inr (inl (has-here cause past r k (rw is e))))
    here (Withdrawn b) is e = (length past, inr (inr (has-here withdrawn_wait past r k (rw is e))))
    here reply is e = absurd (cc)

    by : (is_in (ended past) k ≡ true → Ways past k) → (o : Option ℕ) → ended_by r.entry.reply ≡ o →
        is_in (with_place o (ended past)) k ≡ true → Ways (r ∷ past) k
    by rest None e h = older (rest h)
    by rest (Some m) e h = split (m == k)
        (λ t. here r.entry.reply refl (e ∙ ap Some (eqb-true _ _ t)))
        (λ f. let old : is_in (ended past) k ≡ true = rw f at h in older (rest old))

-- what was collected had answered a wait
cause-named : (past : Past) → Legal past → (j k : ℕ) → Has cause past j k →
    (w : ℕ) × Has named_wait past k w
cause-named [] legal j k e = absurd (cc)
cause-named (r ∷ past) legal j k e = has-cases cause past r j k e
    (λ here is. let x = answered-named past r.entry.process k
    (collected past r legal.1 k is).answered in
    (x.w, has-older named_wait past r k x.w x.named))
    (λ old lt. let x = cause-named past legal.0 j k old in
    (x.0, has-older named_wait past r k x.0 x.1))

-- an entry that answers no wait, and was neither taken nor withdrawn, has not ended
going : (past : Past) → Legal past → (k : ℕ) → ((w : ℕ) → Has named_wait past k w → ⊥) →
    is_in (taken past) k ≡ false → ((j : ℕ) → Has withdrawn_wait past j k → ⊥) →
    is_in (ended past) k ≡ false
going past legal k unnamed untaken open_still = false_from_ne_true _ (λ h. by (ended-ways past k h))
  where
    by : Ways past k → ⊥
    by (j, inl e) = clash _ (given-taken past j k e) untaken
    by (j, inr (inl e)) = let x = cause-named past legal j k e in unnamed x.0 x.1
    by (j, inr (inr e)) = open_still j e

-- a send that entered a queue, or still waits, is lost with that queue only
home-sent : (past : Past) (m q : ℕ) (reply : Reply) → sent_to past m ≡ Some q →
    reply_at past m ≡ Some reply → (((n : Option ℕ) × (reply ≡ Queued n)) ⊎ (reply ≡ Waits)) →
    home past m ≡ Some q
home-sent [] m q reply to at how = absurd (cc)
home-sent (r ∷ past) m q reply to at how = split (m == length past)
    (λ t. let is : Some r.entry.reply ≡ Some reply = rw t at at in let same : r.entry.reply ≡
    reply = cc in
    rw (t, same) (by reply how (rw t at to)))
    (λ f. rw f (home-sent past m q reply (rw f at to) (rw f at at) how))
  where
    by : (reply : Reply) → (((n : Option ℕ) × (reply ≡ Queued n)) ⊎ (reply ≡ Waits)) →
        called_queue past r.entry.process r.entry.call ≡ Some q → home_of past r reply ≡ Some q
    by (Queued n) how e = e
    by Waits how e = e
    by (Opened d new) (inl x) e = let bad : Opened d new ≡ Queued x.0 = x.1 in absurd (cc)
    by (Handed w) (inl x) e = let bad : Handed w ≡ Queued x.0 = x.1 in absurd (cc)
    by (Got m a n) (inl x) e = let bad : Got m a n ≡ Queued x.0 = x.1 in absurd (cc)
    by (Collected b) (inl x) e = let bad : Collected b ≡ Queued x.0 = x.1 in absurd (cc)
    by (Withdrawn b) (inl x) e = let bad : Withdrawn b ≡ Queued x.0 = x.1 in absurd (cc)
    by (Attrs s) (inl x) e = let bad : Attrs s ≡ Queued x.0 = x.1 in absurd (cc)
    by (Notice v) (inl x) e = let bad : Notice v ≡ Queued x.0 = x.1 in absurd (cc)
    by Done (inl x) e = let bad : Done ≡ Queued x.0 = x.1 in absurd (cc)
    by (Refused f) (inl x) e = let bad : Refused f ≡ Queued x.0 = x.1 in absurd (cc)
    by reply (inr x) e = absurd (cc)

-- an entry with such a reply answers no wait
queued-unnamed : (past : Past) (m w : ℕ) (reply : Reply) → reply_at past m ≡ Some reply →
    (((n : Option ℕ) × (reply ≡ Queued n)) ⊎ (reply ≡ Waits)) → Has named_wait past m w → ⊥
queued-unnamed past m w reply = grind arith

kept-sent : (past : Past) (q m : ℕ) (x : IsSentTo past q m) (reply : Reply) →
    reply_at past m ≡ Some reply → (((n : Option ℕ) × (reply ≡ Queued n)) ⊎ (reply ≡ Waits)) →
    is_kept_at past m ≡ true
kept-sent past q m x reply at how = grind arith

-- the reply of a send that entered a queue
entered-reply : (past : Past) → Legal past → (q m : ℕ) → is_in (admitted past q) m ≡ true →
    (reply : Reply) × (reply_at past m ≡ Some reply) × (((n : Option ℕ) × (reply ≡ Queued n)) ⊎
    (reply ≡ Waits))
entered-reply past legal q m h = let x = admitted-sent past q m h in
    let at : reply_at past m ≡ Some x.r.entry.reply =
    ap (option_map (λ (r : Record). r.entry.reply)) x.at in
    (x.r.entry.reply, at, by x.r.entry.reply at x.reply)
  where
    by : (reply : Reply) → reply_at past m ≡ Some reply → is_sent reply ≡ true →
        (((n : Option ℕ) × (reply ≡ Queued n)) ⊎ (reply ≡ Waits))
    by (Queued n) at s = inl (n, refl)
    by Waits at s = inr refl
    by (Handed w) at s = absurd (admitted-not_handed past legal q m w h at)
    by reply at s = absurd (cc)

untaken : (past : Past) (q m : ℕ) → is_in (present past q) m ≡ true → is_in (taken past) m ≡ false
untaken past q m h = not-true _ (is_in-filter (λ k. not (is_in (taken past) k))
    (admitted past q) m h).1

-- a message that is present has not ended, even after the latest entry
pub present-going : (past : Past) → Legal past → (q m : ℕ) → is_in (present past q) m ≡ true →
    is_in (ended past) m ≡ false
present-going past legal q m h =
    let inside = present-admitted past q m h in
    let x = entered-reply past legal q m inside in
    going past legal m (λ w. queued-unnamed past m w x.0 x.1 x.2) (untaken past q m h)
    (λ j e. let out = withdrawn-not_accepted past legal j q m e in clash (is_in (admitted past q) m)
    inside (or-false _ _ out))
  where
    or-false : (a b : Bool) → (a || b) ≡ false → a ≡ false
    or-false false b e = refl
    or-false true b e = absurd (let bad : true ≡ false = e in cc)

-- a message in a queue that exists is needed: the best one, which a receive returns
pub present-needed : (past : Past) → Legal past → (q m : ℕ) → is_in (alive past) q ≡ true →
    is_in (present past q) m ≡ true → IsNeeded past m
present-needed past legal q m exists h =
    let inside = present-admitted past q m h in
    let x = entered-reply past legal q m inside in
    let at = home-sent past m q x.0 (admitted-to past q m inside).to x.1 x.2 in
    record {
      kept = kept-sent past q m (admitted-sent past q m inside) x.0 x.1 x.2;
      going = not-before past m (present-going past legal q m h);
      there = rw at exists;
    }

withdrawn-ended : (past : Past) (j w : ℕ) → Has withdrawn_wait past j w →
    is_in (ended_sends past) w ≡ true
withdrawn-ended [] j w e = absurd (cc)
withdrawn-ended (r ∷ past) j w e = has-cases withdrawn_wait past r j w e
    (λ here is. by r.entry.reply is)
    (λ old lt. is_in-with_place (ends_send r.entry.reply) (ended_sends past) w
    (withdrawn-ended past j w old))
  where
    by : (reply : Reply) → withdrawn_wait reply ≡ Some w →
        is_in (with_place (ends_send reply) (ended_sends past)) w ≡ true
    by (Withdrawn v) e = let same : v ≡ w = cc in rw (eq-eqb v w same) refl
    by reply e = absurd (cc)

-- a send that waits on a queue that exists is needed: the one that a receive admits
pub waiting-needed : (past : Past) → Legal past → (q w : ℕ) → is_in (alive past) q ≡ true →
    is_in (waiting_sends past q) w ≡ true → IsNeeded past w
waiting-needed past legal q w exists h =
    let parts = is_in-filter (λ k. not (is_in (ended_sends past) k)) (blocked_sends past q) w h in
    let on = blocked-on past q w parts.0 in
    let how : ((n : Option ℕ) × (Waits ≡ Queued n)) ⊎ (Waits ≡ Waits) = inr refl in
    record {
      kept = kept-sent past q w (blocked-sent past q w parts.0) Waits on.reply how;
      going = not-before past w (going past legal w (λ v. queued-unnamed past w v Waits on.reply
          how) (waiting-not_taken past legal q w h)
          (λ j e. clash (is_in (ended_sends past) w) (withdrawn-ended past j w e)
          (not-true _ parts.1)));
      there = rw (home-sent past w q Waits on.to on.reply how) exists;
    }

withdrawn-has : (past : Past) (j w : ℕ) → Has withdrawn_wait past j w → Has ended_wait past j w
withdrawn-has past j w e = grind (arith, has-also)

-- the message that was handed to an open wait is needed, until it is collected
pub handed-needed : (past : Past) → Legal past → (p b w : ℕ) → answered_by past p ≡ Some b →
    reply_at past b ≡ Some (Handed w) → IsNeeded past b
handed-needed past legal p b w answers at =
    record {
      kept = kept (record-of past b (Handed w) at);
      going = not-before past b (false_from_ne_true _ (λ h. by (ended-ways past b h)));
      there = homeless past b at;
    }
  where
    kept : ((r : Record) × (record_at past b ≡ Some r) × (r.entry.reply ≡ Handed w)) →
        is_kept_at past b ≡ true
    kept x = rw (x.1, x.2) refl

    homeless : (past : Past) (k : ℕ) → reply_at past k ≡ Some (Handed w) →
        IsThere past (home past k)
    homeless past k at = rw (none past k at) tt
      where
        none : (past : Past) (k : ℕ) → reply_at past k ≡ Some (Handed w) → home past k ≡ None
        none [] k at = absurd (cc)
        none (r ∷ past) k at = split (k == length past)
            (λ t. let is : Some r.entry.reply ≡ Some (Handed w) = rw t at at in
            let same : r.entry.reply ≡ Handed w = cc in rw (t, same) refl)
            (λ f. rw f (none past k (rw f at at)))

    by : Ways past b → ⊥
    by (j, inl e) = (gives-once past legal).not_handed j b w e at
    by (j, inr (inl e)) = let x = answered-named past p b answers in closed past legal j b x.w p e
        x.named x.opened
    by (j, inr (inr e)) = let bad : Some Waits ≡ Some (Handed w) =
        sym (ended-blocked past legal j b (withdrawn-has past j b e)) ∙ at in cc

-- the open that created a queue
record IsMadeAt (past : Past) (q : ℕ) : Type 0 where
  d : ℕ
  reply : reply_at past q ≡ Some (Opened d true)
  at_home : home past q ≡ Some q

made-at : (past : Past) (q : ℕ) → is_in (created past) q ≡ true → IsMadeAt past q
made-at [] q h = absurd (cc)
made-at (r ∷ past) q h = split (creates r.entry.call r.entry.reply)
    (λ t. let new : (length past == q || is_in (created past) q) ≡ true = rw t at h in
    split (length past == q)
    (λ e. let same : length past ≡ q = eqb-true _ _ e in here same r.entry.reply refl t)
    (λ f. older (made-at past q (rw f at new)) (created-below past q (rw f at new))))
    (λ f. older (made-at past q (rw f at h)) (created-below past q (rw f at h)))
  where
    older : IsMadeAt past q → q < length past → IsMadeAt (r ∷ past) q
    older x lt = let old : (q == length past) ≡ false = ne_eqb q (length past)
        (λ e. omega (arith, e, lt)) in
        record { d = x.d; reply = rw old x.reply; at_home = rw old x.at_home }

    here : length past ≡ q → (reply : Reply) → r.entry.reply ≡ reply →
        creates r.entry.call reply ≡ true → IsMadeAt (r ∷ past) q
    here same (Opened d true) is t = let now : (q == length past) ≡ true =
        eq-eqb q (length past) (sym same) in
        record { d = d; reply = rw now (ap Some is); at_home = rw (now, is) (ap Some same) }
    here same reply is t = absurd (cc)

-- a queue that exists is needed, for its name
pub alive-needed : (past : Past) → Legal past → (q : ℕ) → is_in (alive past) q ≡ true →
    IsNeeded past q
alive-needed past legal q exists =
    let x = made-at past q (alive-created past q exists) in
    let y = record-of past q (Opened x.d true) x.reply in
    record {
      kept = rw (y.1, y.2) refl;
      going = not-before past q (going past legal q
          (λ w e. let bad : None ≡ Some w = rw x.reply at e in cc)
          (false_from_ne_true _ (λ h. by x.d x.reply (taken-cases past legal q h)))
          (λ j e. let bad : Some Waits ≡ Some (Opened x.d true) = sym (ended-blocked past legal j q
          (withdrawn-has past j q e)) ∙ x.reply in cc));
      there = rw x.at_home exists;
    }
  where
    by : (d : ℕ) → reply_at past q ≡ Some (Opened d true) →
        ((w : ℕ) × (reply_at past q ≡ Some (Handed w))) ⊎
        ((k : ℕ) × (is_in (admitted past k) q ≡ true)) → ⊥
    by d at (inl x) = let bad : Some (Handed x.0) ≡ Some (Opened d true) = sym x.1 ∙ at in cc
    by d at (inr x) = grind (arith, nat_tests, entered-reply)
