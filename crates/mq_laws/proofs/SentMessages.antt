-- The sends of the messages of a queue.
use Rattle.std.proofs.lemmas.Bool.Decides.{nat_tests}
use Rattle.std.proofs.Common.{◌≡◌, ℕ, ◌==◌, Bool, true, false, ◌&&◌, ◌||◌, [], ◌∷◌, length, Option, Some, None, refl, sym, ◌∙◌, ap, subst, arith, eqb-true, eq-eqb}
use Rattle.std.proofs.lemmas.Bool.{and_parts}
use Rattle.mq_model.specs.Record.{Record, Past, record_at, first}
use Rattle.mq_model.specs.Descriptors.{called_queue, is_on}
use Rattle.mq_model.specs.Messages.{is_in, with_place, if_in, is_accepted, is_send, queues, hands_over, blocks_send, blocked_sends, admits, handed, admitted, entered, taken, taken_by}
use Rattle.mq_model.proofs.Places.{split, is_in-with_place}
use Rattle.mq_model.proofs.Prefixes.{record_at-below, first-all}
use Rattle.mq_model.proofs.Frames.{record_at-older}
use Rattle.mq_model.proofs.Steps.{if_in-inside}
use Rattle.mq_model.proofs.Presence.{place-is}
use Rattle.mq_laws.proofs.LegalPlaces.{first-older}
use Rattle.mq_model.specs.declared.entries.Call.{Call}
use Rattle.mq_model.specs.declared.entries.Reply.{Reply}
use Rattle.mq_model.specs.declared.entries.Reply.TheVariants.{Queued, Handed, Waits}

-- replies of a send whose message is accepted at once or later
abbrev pub is_sent : Reply → Bool
is_sent (Queued n) = true
is_sent (Handed w) = true
is_sent Waits = true
is_sent _ = false

-- the entry at place m is a send to queue q that did not fail
pub record IsSentTo (past : Past) (q m : ℕ) : Type 0 where
  pub r : Record
  pub at : record_at past m ≡ Some r
  pub on : called_queue (first m past) r.entry.process r.entry.call ≡ Some q
  pub send : is_send r.entry.call ≡ true
  pub reply : is_sent r.entry.reply ≡ true

pub sent-older : (past : Past) (r : Record) (q m : ℕ) → IsSentTo past q m → IsSentTo (r ∷ past) q m
sent-older past r q m x = grind (arith, record_at-below, record_at-older, first-older)

sent-newest : (past : Past) (r : Record) (q : ℕ) → is_on past r.entry q ≡ true →
    is_send r.entry.call ≡ true → is_sent r.entry.reply ≡ true → IsSentTo (r ∷ past) q (length past)
sent-newest past r q on send reply = grind (arith, eq-eqb, first-older, first-all, place-is)

blocks-sent : (call : Call) (reply : Reply) → blocks_send call reply ≡ true →
    (is_send call ≡ true) × (is_sent reply ≡ true)
blocks-sent call reply e = grind arith

hands-sent : (here : ℕ) (call : Call) (reply : Reply) → hands_over call reply ≡ true →
    (is_send call ≡ true) × (is_sent reply ≡ true) × (taken_by here reply ≡ Some here)
hands-sent here call reply e = grind arith

pub blocked-sent : (past : Past) (q m : ℕ) → is_in (blocked_sends past q) m ≡ true →
    IsSentTo past q m
blocked-sent [] q m h = absurd (cc)
blocked-sent (r ∷ past) q m h =
    split (blocks_send r.entry.call r.entry.reply && is_on past r.entry q)
    (λ t. let new : (length past == m || is_in (blocked_sends past q) m) ≡ true = rw t at h in
    let parts = and_parts (blocks_send r.entry.call r.entry.reply) (is_on past r.entry q) t in
    let sent = blocks-sent r.entry.call r.entry.reply parts.0 in
    split (length past == m)
    (λ e. subst (IsSentTo (r ∷ past) q) (eqb-true _ _ e)
    (sent-newest past r q parts.1 sent.0 sent.1))
    (λ n. sent-older past r q m (blocked-sent past q m (rw n at new))))
    (λ f. sent-older past r q m (blocked-sent past q m (rw f at h)))

pub admitted-sent : (past : Past) (q m : ℕ) → is_in (admitted past q) m ≡ true → IsSentTo past q m
admitted-sent [] q m h = absurd (cc)
admitted-sent (r ∷ past) q m h = by (λ old. admitted-sent past q m old)
    (entered past r.entry q) refl h
  where
    here : entered past r.entry q ≡ Some m → IsSentTo (r ∷ past) q m
    here e = split (queues r.entry.call r.entry.reply && is_on past r.entry q)
        (λ t. grind (arith, nat_tests, and_parts, sent-newest))
        (λ f. let is : if_in (blocked_sends past q) (admits r.entry.reply) ≡ Some m = rw f at e in
        sent-older past r q m (blocked-sent past q m (if_in-inside (blocked_sends past q)
        (admits r.entry.reply) m is).0))

    by : (is_in (admitted past q) m ≡ true → IsSentTo past q m) → (o : Option ℕ) →
        entered past r.entry q ≡ o → is_in (with_place o (admitted past q)) m ≡ true →
        IsSentTo (r ∷ past) q m
    by rest None e h = sent-older past r q m (rest h)
    by rest (Some k) e h = split (k == m)
        (λ t. here (e ∙ ap Some (eqb-true _ _ t)))
        (λ f. let old : is_in (admitted past q) m ≡ true = rw f at h in
        sent-older past r q m (rest old))

pub handed-sent : (past : Past) (q m : ℕ) → is_in (handed past q) m ≡ true → IsSentTo past q m
handed-sent [] q m h = absurd (cc)
handed-sent (r ∷ past) q m h = split (hands_over r.entry.call r.entry.reply && is_on past r.entry q)
    (λ t. let new : (length past == m || is_in (handed past q) m) ≡ true = rw t at h in
    let parts = and_parts (hands_over r.entry.call r.entry.reply) (is_on past r.entry q) t in
    let sent = hands-sent (length past) r.entry.call r.entry.reply parts.0 in
    split (length past == m)
    (λ e. subst (IsSentTo (r ∷ past) q) (eqb-true _ _ e)
    (sent-newest past r q parts.1 sent.0 sent.1))
    (λ n. sent-older past r q m (handed-sent past q m (rw n at new))))
    (λ f. sent-older past r q m (handed-sent past q m (rw f at h)))

-- an accepted message was sent to its queue
pub accepted-sent : (past : Past) (q m : ℕ) → is_accepted past q m ≡ true → IsSentTo past q m
accepted-sent past q m h = split (is_in (admitted past q) m) (λ t. admitted-sent past q m t)
    (λ f. handed-sent past q m (rw f at h))

-- a message that was handed over is taken
pub handed-taken : (past : Past) (q m : ℕ) → is_in (handed past q) m ≡ true →
    is_in (taken past) m ≡ true
handed-taken [] q m h = absurd (cc)
handed-taken (r ∷ past) q m h =
    split (hands_over r.entry.call r.entry.reply && is_on past r.entry q)
    (λ t. let new : (length past == m || is_in (handed past q) m) ≡ true = rw t at h in
    let takes = (hands-sent (length past) r.entry.call r.entry.reply
    (and_parts (hands_over r.entry.call r.entry.reply) (is_on past r.entry q) t).0).2 in
    split (length past == m)
    (λ e. rw takes (rw e refl))
    (λ n. is_in-with_place (taken_by (length past) r.entry.reply) (taken past) m
    (handed-taken past q m (rw n at new))))
    (λ f. is_in-with_place (taken_by (length past) r.entry.reply) (taken past) m
    (handed-taken past q m (rw f at h)))

-- the cases of a send that did not fail
pub record SentStatus (past : Past) (q m : ℕ) (reply : Reply) : Type 0 where
  pub queued : (n : Option ℕ) → reply ≡ Queued n → is_in (admitted past q) m ≡ true
  pub handed : (w : ℕ) → reply ≡ Handed w → is_in (taken past) m ≡ true
  pub waits : reply ≡ Waits → is_in (blocked_sends past q) m ≡ true

pub sent-status : (past : Past) (q m : ℕ) (x : IsSentTo past q m) →
    SentStatus past q m x.r.entry.reply
sent-status [] q m x = absurd (let bad : None ≡ Some x.r = x.at in cc)
sent-status (s ∷ past) q m x = split (m == length past)
    (λ t.
    grind (arith, nat_tests, eqb-true, first-older, first-all))
    (λ f.
    let old : record_at past m ≡ Some x.r = rw f at x.at in
    let lt = record_at-below past m x.r old in
    let y : IsSentTo past q m = record {
      r = x.r;
      at = old;
      on = ap (λ b. called_queue b x.r.entry.process x.r.entry.call)
          (sym (first-older past s m (omega (arith, lt)))) ∙ x.on;
      send = x.send;
      reply = x.reply;
    } in
    grind (arith, nat_tests, is_in-with_place, sent-status past q m y))
  where
    blocked-more : is_in (blocked_sends past q) m ≡ true → is_in (blocked_sends (s ∷ past) q) m ≡
        true
    blocked-more h = split (blocks_send s.entry.call s.entry.reply && is_on past s.entry q)
        (λ t. rw t (split (length past == m) (λ e. rw e refl) (λ n. rw (n, h) refl))) (λ f. rw f h)

    newest : called_queue past s.entry.process s.entry.call ≡ Some q → is_send s.entry.call ≡ true →
        SentStatus (s ∷ past) q (length past) s.entry.reply
    newest on send = record {
      queued = λ n e. rw (e, send, on, eq-eqb q q refl)
          (rw (eq-eqb (length past) (length past) refl) refl);
      handed = λ w e. rw e (rw (eq-eqb (length past) (length past) refl) refl);
      waits = λ e. rw (e, send, on, eq-eqb q q refl)
          (rw (eq-eqb (length past) (length past) refl) refl);
    }
