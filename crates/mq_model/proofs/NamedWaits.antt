-- Which waits the entries of a legal journal end.
use Rattle.std.proofs.lemmas.Bool.Decides.{nat_tests}
use Rattle.std.proofs.Common.{◌≡◌, ℕ, ◌<◌, ◌==◌, Bool, true, false, ◌&&◌, List, [], ◌∷◌, length, min, Option, Some, None, if◌then◌else◌, refl, ◌∙◌, ap, arith, eqb-true, eq-eqb, unwrap_or}
use Rattle.std.proofs.lemmas.Bool.{and_parts, eqb-false}
use Rattle.mq_model.specs.Record.{Record, Past}
use Rattle.mq_model.specs.Descriptors.{is_on}
use Rattle.mq_model.specs.Messages.{is_in, with_place, ends_receive, least, blocks_send, blocks_receive, blocked_sends, blocked_receives, waiting_receives, ended_receives}
use Rattle.mq_model.specs.Waits.{is_wait, names_wait, open_wait, answered_by}
use Rattle.mq_model.specs.Legality.{Legal, IsLegalNext, may_call}
use Rattle.mq_model.proofs.Places.{split, clash, is_in-filter}
use Rattle.mq_model.proofs.Cases.{Says}
use Rattle.mq_model.proofs.LegalReplies.{legal_says}
use Rattle.mq_model.proofs.Steps.{Below, not-below}
use Rattle.mq_model.proofs.OpenWaits.{withdrawn-open, withdrawn-other}
use Rattle.mq_model.proofs.OthersLeave.{open_wait-below}
use Rattle.mq_model.specs.declared.entries.Call.{Call}
use Rattle.mq_model.specs.declared.entries.Call.TheVariants.{MqOpen, MqClose, MqUnlink, MqSend, MqReceive, MqGetattr, MqSetattr, MqNotify, NextNotice, Collect, MqTimedSend, MqTimedReceive, Withdraw}
use Rattle.mq_model.specs.declared.entries.Reply.{Reply}
use Rattle.mq_model.specs.declared.entries.Reply.TheVariants.{Handed, Withdrawn}
use Rattle.mq_model.specs.Callers.{blocked}
use Rattle.mq_model.specs.declared.callers.WaitKind.{WaitKind}
use Rattle.mq_model.specs.declared.callers.WaitKind.TheVariants.{Send, Receive}

abbrev pub blocks : WaitKind → Call → Reply → Bool
blocks Send call reply = blocks_send call reply
blocks Receive call reply = blocks_receive call reply

-- a blocked call is the newest record, or one of the older ones
pub blocked-cases : (past : Past) (r : Record) (s : WaitKind) (q w : ℕ) →
    is_in (blocked (r ∷ past) s q) w ≡ true →
    (length past ≡ w → (blocks s r.entry.call r.entry.reply && is_on past r.entry q) ≡ false →
    is_in (blocked past s q) w ≡ true) × ((length past ≡ w → ⊥) → is_in (blocked past s q) w ≡ true)
blocked-cases past r s q w h = grind (arith, clash)

pub blocked-below : (past : Past) (s : WaitKind) (q w : ℕ) → is_in (blocked past s q) w ≡ true →
    w < length past
blocked-below [] Send q w h = absurd (cc)
blocked-below [] Receive q w h = absurd (cc)
blocked-below (r ∷ past) s q w h = split (length past == w)
    (λ e. let same : length past ≡ w = eqb-true _ _ e in omega arith)
    (λ n. let lt = blocked-below past s q w ((blocked-cases past r s q w h).1 (eqb-false _ _ n)) in
    omega (arith, lt))

-- the newest record is the blocked call
newest-is : (past : Past) (r : Record) (s : WaitKind) (q : ℕ) →
    is_in (blocked (r ∷ past) s q) (length past) ≡ true →
    (blocks s r.entry.call r.entry.reply && is_on past r.entry q) ≡ true
newest-is past r s q h = grind (arith, blocked-cases, blocked-below)

pub newest-receive : (past : Past) (r : Record) (q : ℕ) →
    is_in (blocked_receives (r ∷ past) q) (length past) ≡ true →
    (blocks_receive r.entry.call r.entry.reply && is_on past r.entry q) ≡ true
newest-receive past r q h = newest-is past r Receive q h

pub newest-send : (past : Past) (r : Record) (q : ℕ) →
    is_in (blocked_sends (r ∷ past) q) (length past) ≡ true →
    (blocks_send r.entry.call r.entry.reply && is_on past r.entry q) ≡ true
newest-send past r q h = newest-is past r Send q h

not-both-blocked : (call : Call) (reply : Reply) → blocks_send call reply ≡ true →
    blocks_receive call reply ≡ true → ⊥
not-both-blocked call reply h g = grind arith

-- a call blocked on one queue, as a send or as a receive
pub blocked-once : (past : Past) (s t : WaitKind) (q k w : ℕ) → is_in (blocked past s q) w ≡ true →
    is_in (blocked past t k) w ≡ true → (s ≡ t) × (q ≡ k)
blocked-once [] Send t q k w h g = absurd (cc)
blocked-once [] Receive t q k w h g = absurd (cc)
blocked-once (r ∷ past) s t q k w h g = split (length past == w)
    (λ e. grind (arith, nat_tests, eqb-true, newest-is, and_parts))
    (λ n. let ne = eqb-false (length past) w n in blocked-once past s t q k w
    ((blocked-cases past r s q w h).1 ne) ((blocked-cases past r t k w g).1 ne))

pub least-in : (xs : List ℕ) (m : ℕ) → least xs ≡ Some m → is_in xs m ≡ true
least-in [] m e = absurd (cc)
least-in (x ∷ xs) m e = by (λ k f. least-in xs k f) (least xs) refl e
  where
    by : ((k : ℕ) → least xs ≡ Some k → is_in xs k ≡ true) → (o : Option ℕ) → least xs ≡ o →
        Some (min x (unwrap_or o x)) ≡ Some m → is_in (x ∷ xs) m ≡ true
    by rest None f g = let same : min x x ≡ m = cc in let here : x ≡ m = omega arith in
        rw (eq-eqb x m here) refl
    by rest (Some k) f g =
        let same : min x k ≡ m = cc in
        split (x == m) (λ t. rw t refl) (λ n. let ne : x ≡ m → ⊥ = eqb-false _ _ n in let old : k ≡
        m = omega arith in let inside : is_in xs m ≡ true = rw old at (rest k f) in
        rw (n, inside) refl)

ends_receive-below : (past : Past) (r : Record) (k : ℕ) → IsLegalNext past r →
    ends_receive r.entry.reply ≡ Some k → k < length past
ends_receive-below past r k legal e = by r.entry.call r.entry.reply
    (legal_says past r legal) legal.turn e
  where
    waits : (q : ℕ) → least (waiting_receives past q) ≡ Some k → k < length past
    waits q e = blocked-below past Receive q k (is_in-filter _ (blocked_receives past q) k
        (least-in (waiting_receives past q) k e)).0

    by : (call : Call) (reply : Reply) → Says past r.entry.process call reply →
        may_call past r.entry.process call ≡ true → ends_receive reply ≡ Some k → k < length past
    by (MqSend d prio len) (Handed w) says turn e = let same : w ≡ k = cc in waits says.0.queue
        (says.3 ∙ ap Some same)
    by (MqTimedSend d prio len until now) (Handed w) says turn e = let same : w ≡ k =
        cc in waits says.0.queue (says.3 ∙ ap Some same)
    by call (Withdrawn b) says turn e = let same : b ≡ k =
        cc in open_wait-below past r.entry.process k
        ((withdrawn-open past r.entry.process call b says turn).0 ∙ ap Some same)
    by (MqReceive d room) (Handed w) says turn e = absurd says.3
    by (MqTimedReceive d room until now) (Handed w) says turn e = absurd says.3
    by (MqOpen flags attr) (Handed w) says turn e = absurd says
    by (MqClose d) (Handed w) says turn e = absurd says.0
    by MqUnlink (Handed w) says turn e = absurd says
    by (MqGetattr d) (Handed w) says turn e = absurd says
    by (MqSetattr d nonblock) (Handed w) says turn e = absurd says
    by (MqNotify d value) (Handed w) says turn e = absurd says
    by NextNotice (Handed w) says turn e = absurd (cc)
    by Collect (Handed w) says turn e = absurd (cc)
    by (Withdraw now) (Handed w) says turn e = absurd (cc)
    by call reply says turn e = absurd (cc)

ended_receives-below : (past : Past) → Legal past → Below (length past) (ended_receives past)
ended_receives-below [] legal = λ m h. absurd (cc)
ended_receives-below (r ∷ past) legal = λ m h. step (ends_receive r.entry.reply) refl
    (ended_receives-below past legal.0) m h
  where
    step : (o : Option ℕ) → ends_receive r.entry.reply ≡ o →
        Below (length past) (ended_receives past) → (m : ℕ) →
        is_in (with_place o (ended_receives past)) m ≡ true → m < length (r ∷ past)
    step None e before m h = let lt = before m h in omega (arith, lt)
    step (Some k) e before m h = split (k == m)
        (λ t. let same : k ≡ m = eqb-true _ _ t in let lt = ends_receive-below past r k legal.1 e in
        omega (arith, lt))
        (λ f. let old : is_in (ended_receives past) m ≡ true = rw f at h in let lt = before m old in
        omega (arith, lt))

-- no entry ended an open wait that is not answered
pub unended-receive : (past : Past) → Legal past → (p w : ℕ) → open_wait past p ≡ Some w →
    answered_by past p ≡ None → is_in (ended_receives past) w ≡ false
unended-receive [] legal p w e a = absurd (cc)
unended-receive (r ∷ past) legal p w e a = split (r.entry.process == p)
    (λ own. let last : (if is_wait r.entry.reply then Some (length past) else None) ≡
    Some w = rw own at e in own-case (is_wait r.entry.reply) refl last)
    (λ other.
    let old : open_wait past p ≡ Some w = rw other at e in
    let rest : (if names_wait r.entry.reply (open_wait past p) then Some (length past) else
    answered_by past p) ≡ None = rw other at a in
    let rest' : (if names_wait r.entry.reply (Some w) then Some (length past) else answered_by past
    p) ≡ None = rw old at rest in
    split (names_wait r.entry.reply (Some w))
    (λ t. absurd (let bad : Some (length past) ≡ None = rw t at rest' in cc))
    (λ f. let free : answered_by past p ≡ None = rw f at rest' in unlisted r.entry.reply
    (λ k is. withdrawn-other past r p w k legal.1 other old is) f
    (unended-receive past legal.0 p w old free)))
  where
    own-case : (b : Bool) → is_wait r.entry.reply ≡ b → (if b then Some (length past) else None) ≡
        Some w → is_in (ended_receives (r ∷ past)) w ≡ false
    own-case true is e = let place : length past ≡ w = cc in waits r.entry.reply is
        (rw (← place) (not-below (length past) (ended_receives past)
        (ended_receives-below past legal.0)))
      where
        waits : (reply : Reply) → is_wait reply ≡ true → is_in (ended_receives past) w ≡ false →
            is_in (with_place (ends_receive reply) (ended_receives past)) w ≡ false
        waits (Handed k) is f = absurd (cc)
        waits (Withdrawn b) is f = absurd (cc)
        waits reply is f = f
    own-case false is e = absurd (cc)

    unlisted : (reply : Reply) → ((k : ℕ) → reply ≡ Withdrawn k → (k == w) ≡ false) →
        names_wait reply (Some w) ≡ false → is_in (ended_receives past) w ≡ false →
        is_in (with_place (ends_receive reply) (ended_receives past)) w ≡ false
    unlisted (Handed k) gone f g = rw (f, g) refl
    unlisted (Withdrawn b) gone f g = rw (gone b refl, g) refl
    unlisted reply gone f g = g
