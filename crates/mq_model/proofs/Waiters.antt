-- Whose open wait a call is that still waits.
use Rattle.std.proofs.lemmas.Bool.Decides.{nat_tests}
use Rattle.std.proofs.Common.{◌≡◌, ℕ, ◌<◌, ◌≤◌, ◌==◌, Bool, true, false, not, List, [], ◌∷◌, length, Option, Some, None, if◌then◌else◌, refl, sym, ◌∙◌, ap, subst, arith, eqb-true, eq-eqb, min, unwrap_or}
use Rattle.std.specs.List.{filter}
use Rattle.std.proofs.lemmas.Bool.{and_parts, eqb-false}
use Rattle.mq_model.specs.Record.{Record, Past}
use Rattle.mq_model.specs.Messages.{is_in, with_place, ends_receive, ends_send, blocked_sends, blocked_receives, least, waiting_sends, waiting_receives, ended_sends, ended_receives}
use Rattle.mq_model.specs.Waits.{is_wait, names_wait, open_wait, answered_by}
use Rattle.mq_model.specs.Legality.{Legal, IsLegalNext, may_call}
use Rattle.mq_model.proofs.Places.{split, is_in-filter, is_in-with_place}
use Rattle.mq_model.proofs.Cases.{Says}
use Rattle.mq_model.proofs.LegalReplies.{legal_says}
use Rattle.mq_model.proofs.Steps.{Below, not-below}
use Rattle.mq_model.specs.Callers.{blocked, waiting}
use Rattle.mq_model.proofs.OpenWaits.{withdrawn-open, withdrawn-other}
use Rattle.mq_model.proofs.OthersLeave.{open_wait-below}
use Rattle.mq_model.proofs.NamedWaits.{blocked-once, blocked-cases, blocked-below, newest-receive, newest-send, unended-receive, least-in}
use Rattle.mq_model.specs.declared.entries.Call.{Call}
use Rattle.mq_model.specs.declared.entries.Reply.{Reply}
use Rattle.mq_model.specs.declared.entries.Reply.TheVariants.{Opened, Queued, Handed, Waits, Got, Collected, Attrs, Notice, Done, Refused, Withdrawn}
use Rattle.mq_model.specs.declared.callers.WaitKind.{WaitKind}
use Rattle.mq_model.specs.declared.callers.WaitKind.TheVariants.{Send, Receive}
use Rattle.mq_model.proofs.HeldQueues.{in-filter}

-- the waits of a kind that ended
abbrev pub ended_waits : Past → WaitKind → List ℕ
ended_waits past Send = ended_sends past
ended_waits past Receive = ended_receives past

pub waiting-filter : (past : Past) (kind : WaitKind) (q : ℕ) →
    waiting past kind q ≡ filter (λ w. not (is_in (ended_waits past kind) w)) (blocked past kind q)
waiting-filter past kind q = grind arith

-- a process with an open wait that is not answered may only withdraw it
no-call : (past : Past) (p w : ℕ) (call : Call) (reply : Reply) → Says past p call reply →
    may_call past p call ≡ true → open_wait past p ≡ Some w → answered_by past p ≡ None →
    (reply ≡ Withdrawn w → ⊥) → ⊥
no-call past p w call reply says h e a not = grind arith

-- a Got admits the first waiting send of a queue
pub admits-least : (past : Past) (p : ℕ) (call : Call) (m : ℕ) (a n : Option ℕ) →
    Says past p call (Got m a n) → (q : ℕ) × (a ≡ least (waiting_sends past q))
admits-least past p call m a n says = grind arith

-- a receive that still waits is named by no reply
not-named : (past : Past) (p q w : ℕ) (call : Call) (reply : Reply) → Says past p call reply →
    is_in (blocked_receives past q) w ≡ true →
    not (is_in (with_place (ends_receive reply) (ended_receives past)) w) ≡ true →
    names_wait reply (Some w) ≡ false
not-named past p q w call (Handed k) says stands free = split (k == w) (λ t. let bad : false ≡
    true = rw t at free in absurd (cc)) (λ f. f)
not-named past p q w call (Got m (Some v) n) says stands free = split (v == w)
    (λ t. let same : v ≡ w = eqb-true _ _ t in
    let got = admits-least past p call m (Some v) n says in
    let inside = is_in-filter _ (blocked_sends past got.0) v
    (least-in (waiting_sends past got.0) v (sym got.1)) in
    let P : ℕ → Type 0 = λ k. is_in (blocked_sends past got.0) k ≡ true in
    let both = blocked-once past Send Receive got.0 q w (subst P same inside.0) stands in
    let bad : Send ≡ Receive = both.0 in absurd (cc))
    (λ f. f)
not-named past p q w call _ says stands free = refl

-- a wait that a reply ends is among those that ended
ended-now : (w : ℕ) (ended : List ℕ) (o : Option ℕ) → o ≡ Some w →
    not (is_in (with_place o ended) w) ≡ true → ⊥
ended-now w ended o e free = grind (arith, eq-eqb)

waiter-receive : (past : Past) → Legal past → (q w : ℕ) → is_in (waiting_receives past q) w ≡ true →
    (p : ℕ) × (open_wait past p ≡ Some w) × (answered_by past p ≡ None)
waiter-receive [] legal q w h = absurd (cc)
waiter-receive (r ∷ past) legal q w h =
    let parts = is_in-filter _ (blocked_receives (r ∷ past) q) w h in
    split (length past == w)
    (λ e. grind (arith, nat_tests, eqb-true, newest-receive, and_parts, eq-eqb))
    (λ n. let old : is_in (blocked_receives past q) w ≡
    true = (blocked-cases past r Receive q w parts.0).1 (eqb-false _ _ n) in
    let free : is_in (ended_receives past) w ≡ false = split (is_in (ended_receives past) w)
    (λ t. let more : is_in (with_place (ends_receive r.entry.reply) (ended_receives past)) w ≡
    true = is_in-with_place (ends_receive r.entry.reply) (ended_receives past) w t in
    let bad : false ≡ true = rw more at parts.1 in absurd (cc)) (λ f. f) in
    let x = waiter-receive past legal.0 q w (in-filter _ (blocked_receives past q) w old
    (rw free refl)) in
    split (r.entry.process == x.0)
    (λ own. let mine : r.entry.process ≡ x.0 = eqb-true _ _ own in
    absurd (no-call past r.entry.process w r.entry.call r.entry.reply (legal_says past r legal.1)
    legal.1.turn (rw mine x.1) (rw mine x.2)
    (λ is. ended-now w (ended_receives past) (ends_receive r.entry.reply) (rw is refl) parts.1)))
    (λ other. (
      x.0,
      rw other x.1,
      rw (
        other,
        x.1,
        not-named past r.entry.process q w r.entry.call
            r.entry.reply (legal_says past r legal.1) old parts.1,
      ) x.2,
    )))

-- a Handed hands to the first waiting receive of a queue
pub hands-least : (past : Past) (p : ℕ) (call : Call) (k : ℕ) → Says past p call (Handed k) →
    (q : ℕ) × (least (waiting_receives past q) ≡ Some k)
hands-least past p call k says = grind arith

-- a send that still waits is named by no reply
not-named-send : (past : Past) (p q w : ℕ) (call : Call) (reply : Reply) → Says past p call reply →
    is_in (blocked_sends past q) w ≡ true →
    not (is_in (with_place (ends_send reply) (ended_sends past)) w) ≡ true →
    names_wait reply (Some w) ≡ false
not-named-send past p q w call (Got m (Some v) n) says stands free =
    split (v == w) (λ t. let bad : false ≡ true = rw t at free in absurd (cc)) (λ f. f)
not-named-send past p q w call (Handed v) says stands free = split (v == w)
    (λ t. let same : v ≡ w = eqb-true _ _ t in
    let least_one = hands-least past p call v says in
    let inside = is_in-filter _ (blocked_receives past least_one.0) v
    (least-in (waiting_receives past least_one.0) v least_one.1) in
    let P : ℕ → Type 0 = λ k. is_in (blocked_receives past least_one.0) k ≡ true in
    let both = blocked-once past Receive Send least_one.0 q w (subst P same inside.0) stands in
    let bad : Receive ≡ Send = both.0 in absurd (cc))
    (λ f. f)
not-named-send past p q w call _ says stands free = refl

waiter-send : (past : Past) → Legal past → (q w : ℕ) → is_in (waiting_sends past q) w ≡ true →
    (p : ℕ) × (open_wait past p ≡ Some w) × (answered_by past p ≡ None)
waiter-send [] legal q w h = absurd (cc)
waiter-send (r ∷ past) legal q w h =
    let parts = is_in-filter _ (blocked_sends (r ∷ past) q) w h in
    split (length past == w)
    (λ e. grind (arith, nat_tests, eqb-true, newest-send, and_parts, eq-eqb))
    (λ n. let old : is_in (blocked_sends past q) w ≡
    true = (blocked-cases past r Send q w parts.0).1 (eqb-false _ _ n) in
    let free : is_in (ended_sends past) w ≡ false = split (is_in (ended_sends past) w)
    (λ t. let more : is_in (with_place (ends_send r.entry.reply) (ended_sends past)) w ≡
    true = is_in-with_place (ends_send r.entry.reply) (ended_sends past) w t in
    let bad : false ≡ true = rw more at parts.1 in absurd (cc)) (λ f. f) in
    let x = waiter-send past legal.0 q w (in-filter _ (blocked_sends past q) w old (rw free refl))
    in
    split (r.entry.process == x.0)
    (λ own. let mine : r.entry.process ≡ x.0 = eqb-true _ _ own in
    absurd (no-call past r.entry.process w r.entry.call r.entry.reply (legal_says past r legal.1)
    legal.1.turn (rw mine x.1) (rw mine x.2)
    (λ is. ended-now w (ended_sends past) (ends_send r.entry.reply) (rw is refl) parts.1)))
    (λ other. (
      x.0,
      rw other x.1,
      rw (
        other,
        x.1,
        not-named-send past r.entry.process q w
            r.entry.call r.entry.reply (legal_says past r legal.1) old parts.1,
      ) x.2,
    )))

ends_send-below : (past : Past) (r : Record) (k : ℕ) → IsLegalNext past r →
    ends_send r.entry.reply ≡ Some k → k < length past
ends_send-below past r k legal e = by r.entry.reply (legal_says past r legal) e
  where
    by : (reply : Reply) → Says past r.entry.process r.entry.call reply → ends_send reply ≡ Some k →
        k < length past
    by (Got m a n) says e =
        let least_one = admits-least past r.entry.process r.entry.call m a n says in
        blocked-below past Send least_one.0 k (is_in-filter _ (blocked_sends past least_one.0) k
        (least-in (waiting_sends past least_one.0) k (sym least_one.1 ∙ e))).0
    by (Withdrawn b) says e = let same : b ≡ k = cc in open_wait-below past r.entry.process k
        ((withdrawn-open past r.entry.process r.entry.call b says legal.turn).0 ∙ ap Some same)
    by reply says e = absurd (cc)

ended_sends-below : (past : Past) → Legal past → Below (length past) (ended_sends past)
ended_sends-below [] legal = λ m h. absurd (cc)
ended_sends-below (r ∷ past) legal = grind (
  arith,
  Below,
  eqb-true,
  ends_send-below,
  ended_sends-below past legal.0,
)

unended-send : (past : Past) → Legal past → (p w : ℕ) → open_wait past p ≡ Some w →
    answered_by past p ≡ None → is_in (ended_sends past) w ≡ false
unended-send [] legal p w e a = absurd (cc)
unended-send (r ∷ past) legal p w e a = split (r.entry.process == p)
    (λ own. let last : (if is_wait r.entry.reply then Some (length past) else None) ≡
    Some w = rw own at e in own-case (is_wait r.entry.reply) refl last)
    (λ other.
    let old : open_wait past p ≡ Some w = rw other at e in
    let rest : (if names_wait r.entry.reply (open_wait past p) then Some (length past) else
    answered_by past p) ≡ None = rw other at a in
    let rest' : (if names_wait r.entry.reply (Some w) then Some (length past) else answered_by past
    p) ≡ None = rw old at rest in
    split (names_wait r.entry.reply (Some w))
    (λ t. absurd (let bad : Some (length past) ≡ None = rw t at rest' in cc))
    (λ f. let free : answered_by past p ≡ None = rw f at rest' in unlisted r.entry.reply
    (λ k is. withdrawn-other past r p w k legal.1 other old is) f
    (unended-send past legal.0 p w old free)))
  where
    own-case : (b : Bool) → is_wait r.entry.reply ≡ b → (if b then Some (length past) else None) ≡
        Some w → is_in (ended_sends (r ∷ past)) w ≡ false
    own-case true is e = let place : length past ≡ w = cc in waits r.entry.reply is
        (rw (← place) (not-below (length past) (ended_sends past) (ended_sends-below past legal.0)))
      where
        waits : (reply : Reply) → is_wait reply ≡ true → is_in (ended_sends past) w ≡ false →
            is_in (with_place (ends_send reply) (ended_sends past)) w ≡ false
        waits (Got m a n) is f = absurd (cc)
        waits (Withdrawn b) is f = absurd (cc)
        waits reply is f = f
    own-case false is e = absurd (cc)

    unlisted : (reply : Reply) → ((k : ℕ) → reply ≡ Withdrawn k → (k == w) ≡ false) →
        names_wait reply (Some w) ≡ false → is_in (ended_sends past) w ≡ false →
        is_in (with_place (ends_send reply) (ended_sends past)) w ≡ false
    unlisted (Handed k) gone f g = g
    unlisted Waits gone f g = g
    unlisted (Opened d created) gone f g = g
    unlisted (Queued n) gone f g = g
    unlisted (Got m None n) gone f g = g
    unlisted (Got m (Some k) n) gone f g = rw (f, g) refl
    unlisted (Collected b) gone f g = g
    unlisted (Withdrawn b) gone f g = rw (gone b refl, g) refl
    unlisted (Attrs s) gone f g = g
    unlisted (Notice v) gone f g = g
    unlisted Done gone f g = g
    unlisted (Refused x) gone f g = g

-- a wait that no entry names is the open wait of its process, which no entry answers
pub waiter : (past : Past) → Legal past → (kind : WaitKind) (q w : ℕ) →
    is_in (waiting past kind q) w ≡ true → (p : ℕ) × (open_wait past p ≡ Some w) ×
    (answered_by past p ≡ None)
waiter past legal kind q w h = grind (arith, waiter-receive, waiter-send)

-- no entry names an open wait that is not answered
pub unnamed : (past : Past) → Legal past → (p w : ℕ) → open_wait past p ≡ Some w →
    answered_by past p ≡ None → (kind : WaitKind) → is_in (ended_waits past kind) w ≡ false
unnamed past legal p w e a kind = grind (arith, unended-receive, unended-send)

pub least-none : (xs : List ℕ) → ((k : ℕ) → is_in xs k ≡ true → ⊥) → least xs ≡ None
least-none [] none = refl
least-none (x ∷ xs) none = absurd (none x (rw (eq-eqb x x refl) refl))

pub least-some : (xs : List ℕ) (m : ℕ) → is_in xs m ≡ true → ((k : ℕ) → is_in xs k ≡ true → m ≤ k) →
    least xs ≡ Some m
least-some [] m h below = absurd (cc)
least-some (x ∷ xs) m h below =
    by (λ rest. least-some xs m rest
    (λ k g. below k (split (x == k) (λ e. rw e refl) (λ n. rw (n, g) refl)))) (least xs) refl
  where
    in_rest : (k : ℕ) → is_in xs k ≡ true → is_in (x ∷ xs) k ≡ true
    in_rest k g = split (x == k) (λ e. rw e refl) (λ n. rw (n, g) refl)

    by : (is_in xs m ≡ true → least xs ≡ Some m) → (o : Option ℕ) → least xs ≡ o →
        Some (min x (unwrap_or o x)) ≡ Some m
    by inner None e = split (x == m)
        (λ t. let same : x ≡ m = eqb-true _ _ t in ap Some (omega (arith, same)))
        (λ f. let rest : is_in xs m ≡ true = rw f at h in let some : least xs ≡
        Some m = inner rest in absurd (cc))
    by inner (Some k) e =
        let le : m ≤ x = below x (rw (eq-eqb x x refl) refl) in
        split (x == m)
        (λ t. let same : x ≡ m = eqb-true _ _ t in let above : m ≤ k = below k
        (in_rest k (least-in xs k e)) in ap Some (omega arith))
        (λ f. let rest : is_in xs m ≡ true = rw f at h in let some : least xs ≡
        Some m = inner rest in let same : k ≡ m = cc in ap Some (omega arith))
