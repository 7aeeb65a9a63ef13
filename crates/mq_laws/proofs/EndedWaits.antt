-- No wait ends twice, whether an entry serves it or a withdrawal ends it.
use Rattle.std.proofs.lemmas.Bool.Decides.{nat_tests}
use Rattle.std.proofs.Common.{◌≡◌, ℕ, ◌<◌, ◌==◌, true, false, ◌&&◌, ◌||◌, [], ◌∷◌, length, List, Option, Some, None, refl, sym, ◌∙◌, ap, arith, eqb-true, eq-eqb, ◌⊎◌, inl, inr}
use Rattle.std.specs.Option.{option_map}
use Rattle.std.proofs.lemmas.Bool.{and_parts, false_from_ne_true}
use Rattle.mq_model.specs.Record.{Record, Past}
use Rattle.mq_model.specs.Descriptors.{is_on}
use Rattle.mq_model.specs.Messages.{is_in, if_in, is_accepted, with_place, queues, hands_over, blocked_sends, admits, ends_send, ends_receive, ended_sends, ended_receives, entered, admitted, handed, waiting_sends, waiting_receives}
use Rattle.mq_model.specs.Waits.{open_wait, named_wait, ended_wait, answered_by}
use Rattle.mq_model.specs.Legality.{Legal, IsLegalNext}
use Rattle.mq_laws.specs.Laws.{reply_at, withdrawn_wait, Has, IsOnce}
use Rattle.mq_model.proofs.Places.{split, clash, is_in-with_place}
use Rattle.mq_model.proofs.Prefixes.{record_at-below}
use Rattle.mq_model.proofs.Cases.{Says}
use Rattle.mq_model.proofs.LegalReplies.{legal_says}
use Rattle.mq_model.proofs.Frames.{record_at-older}
use Rattle.mq_model.proofs.NamedWaits.{least-in}
use Rattle.mq_model.proofs.OpenWaits.{withdrawn-open}
use Rattle.mq_model.proofs.OthersLeave.{open_wait-below}
use Rattle.mq_model.proofs.Presence.{queues-reply}
use Rattle.mq_model.proofs.Steps.{if_in-inside}
use Rattle.mq_model.proofs.Waiters.{ended_waits, waiter, unnamed, admits-least, hands-least}
use Rattle.mq_laws.proofs.LegalPlaces.{has-record, has-here, has-cases, record-of, once}
use Rattle.mq_model.specs.declared.entries.Call.{Call}
use Rattle.mq_model.specs.declared.entries.Reply.{Reply}
use Rattle.mq_model.specs.declared.entries.Reply.TheVariants.{Queued, Handed, Waits, Got, Withdrawn}
use Rattle.mq_model.specs.declared.callers.WaitKind.{WaitKind}
use Rattle.mq_model.specs.declared.callers.WaitKind.TheVariants.{Send, Receive}

pub with-first : (k : ℕ) (xs : List ℕ) → is_in (with_place (Some k) xs) k ≡ true
with-first k xs = rw (eq-eqb k k refl) refl

pub has-older : (part : Reply → Option ℕ) (past : Past) (r : Record) (k m : ℕ) → Has part past k m →
    Has part (r ∷ past) k m
has-older part past r k m e = grind (arith, has-record, record_at-older, record_at-below)

-- a part that implies another
pub has-also : (part other : Reply → Option ℕ) →
    ((reply : Reply) (m : ℕ) → part reply ≡ Some m → other reply ≡ Some m) →
    (past : Past) (k m : ℕ) → Has part past k m → Has other past k m
has-also part other implies past k m e = grind (arith, has-record)

named-ends : (reply : Reply) (w : ℕ) → named_wait reply ≡ Some w → ended_wait reply ≡ Some w
named-ends reply w e = grind arith

withdrawn-ends : (reply : Reply) (w : ℕ) → withdrawn_wait reply ≡ Some w → ended_wait reply ≡ Some w
withdrawn-ends reply w e = grind arith

admits-names : (reply : Reply) (w : ℕ) → admits reply ≡ Some w → named_wait reply ≡ Some w
admits-names reply w e = grind arith

pub has-named : (past : Past) (k w : ℕ) → Has named_wait past k w → Has ended_wait past k w
has-named = has-also named_wait ended_wait named-ends

pub has-admits : (past : Past) (k w : ℕ) → Has admits past k w → Has ended_wait past k w
has-admits past k w e = has-named past k w (has-also admits named_wait admits-names past k w e)

-- a legal record ends only the open wait of a process that no entry answers
record IsUnanswered (past : Past) (w : ℕ) : Type 0 where
  p : ℕ
  opened : open_wait past p ≡ Some w
  free : answered_by past p ≡ None

ended-open : (past : Past) (r : Record) → Legal past → IsLegalNext past r → (w : ℕ) →
    ended_wait r.entry.reply ≡ Some w → IsUnanswered past w
ended-open past r legal next w e = by r.entry.reply (legal_says past r next) e
  where
    by : (reply : Reply) → Says past r.entry.process r.entry.call reply →
        ended_wait reply ≡ Some w → IsUnanswered past w
    by (Handed k) says e =
        let same : k ≡ w = cc in
        let x = hands-least past r.entry.process r.entry.call k says in
        let y = waiter past legal Receive x.0 w (least-in (waiting_receives past x.0) w
        (x.1 ∙ ap Some same)) in
        record { p = y.0; opened = y.1; free = y.2 }
    by (Got m a n) says e =
        let x = admits-least past r.entry.process r.entry.call m a n says in
        let y = waiter past legal Send x.0 w (least-in (waiting_sends past x.0) w (sym x.1 ∙ e)) in
        record { p = y.0; opened = y.1; free = y.2 }
    by (Withdrawn k) says e =
        let same : k ≡ w = cc in
        let x = withdrawn-open past r.entry.process r.entry.call k says next.turn in
        record { p = r.entry.process; opened = x.0 ∙ ap Some same; free = x.1 }
    by reply says e = absurd (cc)

pub ended-below : (past : Past) → Legal past → (k w : ℕ) → Has ended_wait past k w → w < length past
ended-below [] legal k w e = absurd (cc)
ended-below (r ∷ past) legal k w e = has-cases ended_wait past r k w e
    (λ here is. let x = ended-open past r legal.0 legal.1 w is in let lt = open_wait-below past x.p
    w x.opened in omega (arith, lt))
    (λ old lt. let le = ended-below past legal.0 k w old in omega (arith, le))

-- a wait that ended is in the list of sends or of receives that ended
ended-listed : (past : Past) (k w : ℕ) → Has ended_wait past k w →
    (s : WaitKind) × (is_in (ended_waits past s) w ≡ true)
ended-listed [] k w e = absurd (cc)
ended-listed (r ∷ past) k w e = has-cases ended_wait past r k w e
    (λ here is. by r.entry.reply is)
    (λ old lt. let x = ended-listed past k w old in (x.0, more x.0 x.1))
  where
    more : (s : WaitKind) → is_in (ended_waits past s) w ≡ true →
        is_in (ended_waits (r ∷ past) s) w ≡ true
    more Send h = is_in-with_place (ends_send r.entry.reply) (ended_sends past) w h
    more Receive h = is_in-with_place (ends_receive r.entry.reply) (ended_receives past) w h

    by : (reply : Reply) → ended_wait reply ≡ Some w →
        (s : WaitKind) ×
        (is_in (ended_waits (record {
          entry = record {
            process = r.entry.process;
            call = r.entry.call;
            reply = reply;
          };
          payload = r.payload;
        } ∷ past) s) w ≡ true)
    by (Handed v) is = let same : v ≡ w =
        cc in (Receive, rw same (with-first w (ended_receives past)))
    by (Got m a n) is = (Send, rw is (with-first w (ended_sends past)))
    by (Withdrawn v) is = let same : v ≡ w = cc in (Send, rw same (with-first w (ended_sends past)))
    by reply is = absurd (cc)

ended-fresh : (past : Past) (r : Record) → Legal past → IsLegalNext past r → (j w : ℕ) →
    ended_wait r.entry.reply ≡ Some w → Has ended_wait past j w → ⊥
ended-fresh past r legal next j w e old =
    let x = ended-open past r legal next w e in
    let listed = ended-listed past j w old in
    clash (is_in (ended_waits past listed.0) w) listed.1
    (unnamed past legal x.p w x.opened x.free listed.0)

-- no wait ends twice, so no two entries name one wait
pub ended-once : (past : Past) → Legal past → IsOnce ended_wait past
ended-once = once ended_wait ended-fresh

pub named-once : (past : Past) → Legal past → IsOnce named_wait past
named-once past legal j k w hj hk = ended-once past legal j k w (has-named past j w hj)
    (has-named past k w hk)

-- no wait is both withdrawn and served
pub withdrawn-unnamed : (past : Past) → Legal past → (j k w : ℕ) → Has withdrawn_wait past j w →
    Has named_wait past k w → ⊥
withdrawn-unnamed past legal j k w hj hk = grind (arith, has-record, ended-once, has-named)

-- what ended had blocked --------------------------------------------------------------------------

opened-blocked : (past : Past) (p w : ℕ) → open_wait past p ≡ Some w → reply_at past w ≡ Some Waits
opened-blocked [] p w e = absurd (cc)
opened-blocked (r ∷ past) p w e = split (r.entry.process == p)
    (λ own. grind (arith, nat_tests, eq-eqb))
    (λ other. let old : open_wait past p ≡ Some w = rw other at e in
    ap (option_map (λ (x : Record). x.entry.reply)) (record_at-older past r w
    (open_wait-below past p w old)) ∙ opened-blocked past p w old)

pub ended-blocked : (past : Past) → Legal past → (k w : ℕ) → Has ended_wait past k w →
    reply_at past w ≡ Some Waits
ended-blocked [] legal k w e = absurd (cc)
ended-blocked (r ∷ past) legal k w e = has-cases ended_wait past r k w e
    (λ here is. let x = ended-open past r legal.0 legal.1 w is in
    older (open_wait-below past x.p w x.opened) (opened-blocked past x.p w x.opened))
    (λ old lt. older (ended-below past legal.0 k w old) (ended-blocked past legal.0 k w old))
  where
    older : w < length past → reply_at past w ≡ Some Waits → reply_at (r ∷ past) w ≡ Some Waits
    older lt e = ap (option_map (λ (x : Record). x.entry.reply)) (record_at-older past r w lt) ∙ e

-- a send whose wait ended was admitted or withdrawn by an entry
pub send-ended : (past : Past) (w : ℕ) → is_in (ended_sends past) w ≡ true →
    (k : ℕ) × (Has admits past k w ⊎ Has withdrawn_wait past k w)
send-ended [] w h = absurd (cc)
send-ended (r ∷ past) w h = by (λ old. send-ended past w old) (ends_send r.entry.reply) refl h
  where
    older : (k : ℕ) × (Has admits past k w ⊎ Has withdrawn_wait past k w) →
        (k : ℕ) × (Has admits (r ∷ past) k w ⊎ Has withdrawn_wait (r ∷ past) k w)
    older (k, inl e) = (k, inl (has-older admits past r k w e))
    older (k, inr e) = (k, inr (has-older withdrawn_wait past r k w e))

    ways : (reply : Reply) → ends_send reply ≡ Some w →
        (admits reply ≡ Some w) ⊎ (withdrawn_wait reply ≡ Some w)
    ways (Got m a n) e = inl e
    ways (Withdrawn v) e = inr e
    ways reply e = absurd (cc)

    here : (admits r.entry.reply ≡ Some w) ⊎ (withdrawn_wait r.entry.reply ≡ Some w) →
        (k : ℕ) × (Has admits (r ∷ past) k w ⊎ Has withdrawn_wait (r ∷ past) k w)
    here (inl e) = (length past, inl (has-here admits past r w e))
    here (inr e) = (length past, inr (has-here withdrawn_wait past r w e))

    by : (is_in (ended_sends past) w ≡ true → (k : ℕ) ×
        (Has admits past k w ⊎ Has withdrawn_wait past k w)) → (o : Option ℕ) →
        ends_send r.entry.reply ≡ o → is_in (with_place o (ended_sends past)) w ≡ true →
        (k : ℕ) × (Has admits (r ∷ past) k w ⊎ Has withdrawn_wait (r ∷ past) k w)
    by rest None e h = older (rest h)
    by rest (Some v) e h = split (v == w)
        (λ t. here (ways r.entry.reply (e ∙ ap Some (eqb-true _ _ t))))
        (λ f. let old : is_in (ended_sends past) w ≡ true = rw f at h in older (rest old))

-- a message that entered a queue was queued at once, or an entry names its send
abbrev IsEntered : Past → ℕ → Type 0
IsEntered past m = ((n : Option ℕ) × (reply_at past m ≡ Some (Queued n))) ⊎
    ((k : ℕ) × Has named_wait past k m)

reply-older : (past : Past) (r : Record) (m : ℕ) (reply : Reply) → reply_at past m ≡ Some reply →
    reply_at (r ∷ past) m ≡ Some reply
reply-older past r m reply e = grind (arith, record-of, record_at-older, record_at-below)

handed-reply : (call : Call) (reply : Reply) → hands_over call reply ≡ true →
    (w : ℕ) × (reply ≡ Handed w)
handed-reply call reply e = grind arith

admitted-entered : (past : Past) (q m : ℕ) → is_in (admitted past q) m ≡ true → IsEntered past m
admitted-entered [] q m h = absurd (cc)
admitted-entered (r ∷ past) q m h = by (λ old. admitted-entered past q m old)
    (entered past r.entry q) refl h
  where
    older : IsEntered past m → IsEntered (r ∷ past) m
    older (inl x) = inl (x.0, reply-older past r m (Queued x.0) x.1)
    older (inr x) = inr (x.0, has-older named_wait past r x.0 m x.1)

    here : entered past r.entry q ≡ Some m → IsEntered (r ∷ past) m
    here e = split (queues r.entry.call r.entry.reply && is_on past r.entry q)
        (λ t. let is : Some (length past) ≡ Some m = rw t at e in let same : length past ≡ m = cc in
        let reply = queues-reply r.entry.call r.entry.reply
        (and_parts (queues r.entry.call r.entry.reply) (is_on past r.entry q) t).0 in
        inl (reply.0, rw (← same, eq-eqb (length past) (length past) refl) (ap Some reply.1)))
        (λ f. let is : if_in (blocked_sends past q) (admits r.entry.reply) ≡ Some m = rw f at e in
        inr (
          length past,
          has-here named_wait past r m (admits-names r.entry.reply m
              (if_in-inside (blocked_sends past q) (admits r.entry.reply) m is).1),
        ))

    by : (is_in (admitted past q) m ≡ true → IsEntered past m) → (o : Option ℕ) →
        entered past r.entry q ≡ o → is_in (with_place o (admitted past q)) m ≡ true →
        IsEntered (r ∷ past) m
    by rest None e h = older (rest h)
    by rest (Some k) e h = split (k == m)
        (λ t. here (e ∙ ap Some (eqb-true _ _ t)))
        (λ f. let old : is_in (admitted past q) m ≡ true = rw f at h in older (rest old))

handed-at : (past : Past) (q m : ℕ) → is_in (handed past q) m ≡ true →
    (w : ℕ) × (reply_at past m ≡ Some (Handed w))
handed-at [] q m h = absurd (cc)
handed-at (r ∷ past) q m h = split (hands_over r.entry.call r.entry.reply && is_on past r.entry q)
    (λ t. let new : (length past == m || is_in (handed past q) m) ≡ true = rw t at h in
    split (length past == m)
    (λ e. let same : length past ≡ m = eqb-true _ _ e in
    let reply = handed-reply r.entry.call r.entry.reply
    (and_parts (hands_over r.entry.call r.entry.reply) (is_on past r.entry q) t).0 in
    (reply.0, rw (← same, eq-eqb (length past) (length past) refl) (ap Some reply.1)))
    (λ n. older (handed-at past q m (rw n at new))))
    (λ f. older (handed-at past q m (rw f at h)))
  where
    older : (w : ℕ) × (reply_at past m ≡ Some (Handed w)) →
        (w : ℕ) × (reply_at (r ∷ past) m ≡ Some (Handed w))
    older x = (x.0, reply-older past r m (Handed x.0) x.1)

-- a message that entered a queue was not handed over
pub admitted-not_handed : (past : Past) → Legal past → (q m w : ℕ) →
    is_in (admitted past q) m ≡ true → reply_at past m ≡ Some (Handed w) → ⊥
admitted-not_handed past legal q m w h e = grind (arith, admitted-entered, ended-blocked, has-named)

-- a send that is withdrawn is not accepted
pub withdrawn-not_accepted : (past : Past) → Legal past → (k q w : ℕ) →
    Has withdrawn_wait past k w → is_accepted past q w ≡ false
withdrawn-not_accepted past legal k q w e = grind (
  arith,
  ended-blocked,
  false_from_ne_true,
  admitted-entered,
  handed-at,
  withdrawn-unnamed,
)
