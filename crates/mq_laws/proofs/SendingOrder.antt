-- Messages of one queue and one priority leave it in the order in which they were sent.
use Rattle.std.proofs.Common.{◌≡◌, ℕ, ◌<◌, ◌≤◌, ◌==◌, Bool, true, false, ◌&&◌, ◌||◌, not, List, [], ◌∷◌, length, min, Option, Some, None, refl, sym, ◌∙◌, ap, subst, arith, eqb-true, eq-eqb, ne_eqb, ◌⊎◌, inl, inr, ℤ, int_le, pos}
use Rattle.std.specs.List.{list_all}
use Rattle.std.specs.Option.{option_map, option_and_then, unwrap_or}
use Rattle.std.proofs.lemmas.Bool.{and_parts, not-true}
use Rattle.std.proofs.lemmas.Bool.Decides.{nat_tests}
use Rattle.mq_model.specs.Record.{Record, Past, record_at, first}
use Rattle.mq_model.specs.Names.{attributes}
use Rattle.mq_model.specs.Descriptors.{called_queue, is_on}
use Rattle.mq_model.specs.Messages.{is_in, with_place, is_accepted, is_send, queues, blocks_send, admits, blocked_sends, ended_sends, waiting_sends, waiting_receives, entered, admitted, handed, taken, taken_by, present, priority, priority_given, goes_first, least}
use Rattle.mq_model.specs.Legality.{Legal, IsLegalNext}
use Rattle.mq_laws.specs.Laws.{message_given, withdrawn_wait, Has, IsTakenAt, LeavesInOrder}
use Rattle.mq_model.proofs.Places.{split, clash, is_in-filter, find-in, is_in-with_place}
use Rattle.mq_model.proofs.Cases.{Says}
use Rattle.mq_model.proofs.LegalReplies.{legal_says, got_says}
use Rattle.mq_model.proofs.Prefixes.{record_at-below, length-first, record_at-first}
use Rattle.mq_model.proofs.Frames.{record_at-older}
use Rattle.mq_model.proofs.NamedWaits.{least-in, blocked-once}
use Rattle.mq_model.proofs.Waiters.{admits-least}
use Rattle.mq_laws.proofs.Waiting.{waiting-empty}
use Rattle.mq_model.proofs.Steps.{without, filter-both}
use Rattle.mq_model.proofs.Presence.{present-admitted, present-below}
use Rattle.mq_model.proofs.PresentFew.{attributes-within, within-positive_maxmsg, called-on}
use Rattle.mq_laws.proofs.WaitCauses.{waiting-full, waiting-created, still-waits}
use Rattle.mq_laws.proofs.LegalPlaces.{legal-at, has-record, has-here, has-cases, first-first}
use Rattle.mq_laws.proofs.GivenOnce.{given-reply, given-present}
use Rattle.mq_laws.proofs.EndedWaits.{has-admits, ended-below, send-ended, withdrawn-not_accepted}
use Rattle.mq_laws.proofs.SentMessages.{IsSentTo, SentStatus, accepted-sent, admitted-sent, sent-status, is_sent}
use Rattle.mq_laws.proofs.GoneQueues.{same-queue, sent-first}
use Rattle.mq_model.specs.declared.entries.Call.{Call}
use Rattle.mq_model.specs.declared.entries.Reply.{Reply}
use Rattle.mq_model.specs.declared.entries.Reply.TheVariants.{Queued, Handed, Waits, Got, Withdrawn}
use Rattle.mq_model.specs.declared.callers.WaitKind.TheVariants.{Send}
use Rattle.mq_model.proofs.HeldQueues.{in-filter}

abbrev rec : ℕ → Call → Reply → List ℕ → Record
rec p call reply payload = record {
  entry = record { process = p; call = call; reply = reply };
  payload = payload;
}

least-le : (xs : List ℕ) (m k : ℕ) → least xs ≡ Some m → is_in xs k ≡ true → m ≤ k
least-le [] m k e h = absurd (cc)
least-le (x ∷ xs) m k e h = by (λ j f g. least-le xs j k f g) (least xs) refl e
  where
    by : ((j : ℕ) → least xs ≡ Some j → is_in xs k ≡ true → j ≤ k) → (o : Option ℕ) → least xs ≡ o →
        Some (min x (unwrap_or o x)) ≡ Some m → m ≤ k
    by rest None f g =
        let same : min x x ≡ m = cc in
        split (x == k)
        (λ t. let at : x ≡ k = eqb-true _ _ t in omega (arith, at, same))
        (λ n. let there : is_in xs k ≡ true = rw n at h in absurd (nothing xs f there))
      where
        nothing : (xs : List ℕ) → least xs ≡ None → is_in xs k ≡ true → ⊥
        nothing [] f there = cc
        nothing (y ∷ ys) f there = cc
    by rest (Some j) f g =
        grind (arith, nat_tests, eqb-true)

handed-waits : (past : Past) (p q : ℕ) (call : Call) (w : ℕ) → Says past p call (Handed w) →
    is_on past (record { process = p; call = call; reply = Handed w }) q ≡ true →
    is_in (waiting_receives past q) w ≡ true
handed-waits past p q call w says on = grind (arith, called-on, least-in)

not-zero : (a : ℤ) → int_le (pos 1) a ≡ true → int_le a (pos 0) ≡ true → ⊥
not-zero a h g = grind arith

-- when a receive waits no send waits
pub not-both : (past : Past) → Legal past → (q v w : ℕ) → is_in (waiting_receives past q) v ≡ true →
    is_in (waiting_sends past q) w ≡ true → ⊥
not-both past legal q v w h g =
    let empty = waiting-empty past legal q v h in
    let full : int_le (attributes past q).maxmsg (pos (length (present past q))) ≡ true =
    waiting-full past legal q w g in
    let zero_full : int_le (attributes past q).maxmsg (pos 0) ≡ true =
    ap (λ xs. int_le (attributes past q).maxmsg (pos (length xs))) (sym empty) ∙ full in
    not-zero (attributes past q).maxmsg (within-positive_maxmsg (attributes past q)
    (attributes-within past legal q (waiting-created past legal q w g))) zero_full

accepted-below : (past : Past) (q n : ℕ) → is_accepted past q n ≡ true → n < length past
accepted-below past q n h = let x = accepted-sent past q n h in record_at-below past n x.r x.at

-- the sends that wait after a call that waits
waits-more : (past : Past) (p : ℕ) (call : Call) (payload : List ℕ) (q w : ℕ) →
    is_in (waiting_sends (rec p call Waits payload ∷ past) q) w ≡ true →
    (length past ≡ w) ⊎ (is_in (waiting_sends past q) w ≡ true)
waits-more past p call payload q w h = grind (arith, is_in-filter, eqb-true, in-filter)

-- accepted messages were sent before the sends that wait
abbrev Older : Past → ℕ → Type 0
Older past q = (n w : ℕ) → is_accepted past q n ≡ true → is_in (waiting_sends past q) w ≡ true →
    n < w

older-queued : (past : Past) → Legal past →
    (p : ℕ) (call : Call) (k : Option ℕ) (payload : List ℕ) (q : ℕ) → Says past p call (Queued k) →
    Older past q → Older (rec p call (Queued k) payload ∷ past) q
older-queued past legal p call k payload q says before n w h g =
    grind (arith, and_parts, clash, waiting-full)

older-handed : (past : Past) → Legal past →
    (p : ℕ) (call : Call) (v : ℕ) (payload : List ℕ) (q : ℕ) → Says past p call (Handed v) →
    Older past q → Older (rec p call (Handed v) payload ∷ past) q
older-handed past legal p call v payload q says before n w h g =
    split (is_send call && is_on past (record { process = p; call = call; reply = Handed v }) q)
    (λ t. let waits = handed-waits past p q call v says (and_parts (is_send call)
    (is_on past (record { process = p; call = call; reply = Handed v }) q) t).1 in
    absurd (not-both past legal q v w waits g))
    (λ f. let old : is_accepted past q n ≡ true = rw f at h in before n w old g)

older-waits : (past : Past) (p : ℕ) (call : Call) (payload : List ℕ) (q : ℕ) → Older past q →
    Older (rec p call Waits payload ∷ past) q
older-waits past p call payload q before n w h g = grind (arith, waits-more, accepted-below)

older-got : (past : Past) → Legal past →
    (p : ℕ) (call : Call) (m : ℕ) (a k : Option ℕ) (payload : List ℕ) (q : ℕ) →
    Says past p call (Got m a k) → Older past q → Older (rec p call (Got m a k) payload ∷ past) q
older-got past legal p call m None k payload q says before n w h g = before n w h g
older-got past legal p call m (Some v) k payload q says before n w h g =
    let still : is_in (without v (waiting_sends past q)) w ≡ true =
    rw (← filter-both (λ j. v == j) (is_in (ended_sends past)) (blocked_sends past q)) g in
    let parts = is_in-filter (λ j. not (v == j)) (waiting_sends past q) w still in
    split (is_in (blocked_sends past q) v)
    (λ t.
    let h' : ((v == n || is_in (admitted past q) n) || is_in (handed past q) n) ≡ true =
    rw t at h in
    split (v == n)
    (λ e. let first = admits-least past p call m (Some v) k says in
    let waits = least-in (waiting_sends past first.0) v (sym first.1) in
    let there = (is_in-filter (λ j. not (is_in (ended_sends past) j))
    (blocked_sends past first.0) v waits).0 in
    let same : first.0 ≡ q = (blocked-once past Send Send first.0 q v there t).1 in
    grind (arith, nat_tests, least-le, clash, eq-eqb, not-true, eqb-true))
    (λ f. let old : is_accepted past q n ≡ true = rw f at h' in before n w old parts.0))
    (λ f. let old : is_accepted past q n ≡ true = rw f at h in before n w old parts.0)

older-next : (past : Past) → Legal past →
    (p : ℕ) (call : Call) (reply : Reply) (payload : List ℕ) (q : ℕ) → Says past p call reply →
    Older past q → Older (rec p call reply payload ∷ past) q
older-next past legal p call (Queued k) payload q says before = older-queued past legal p call k
    payload q says before
older-next past legal p call (Handed v) payload q says before = older-handed past legal p call v
    payload q says before
older-next past legal p call Waits payload q says before = older-waits past p call payload q before
older-next past legal p call (Got m a k) payload q says before = older-got past legal p call m a k
    payload q says before
older-next past legal p call (Withdrawn v) payload q says before = λ n w h g. before n w h
    (still-waits past v q w g)
older-next past legal p call reply payload q says before = before

pub accepted-older : (past : Past) → Legal past → (q n w : ℕ) → is_accepted past q n ≡ true →
    is_in (waiting_sends past q) w ≡ true → n < w
accepted-older [] legal q n w h g = absurd (cc)
accepted-older (r ∷ past) legal q n w h g = older-next past legal.0 r.entry.process r.entry.call
    r.entry.reply r.payload q (legal_says past r legal.1) (λ x y a b. accepted-older past legal.0 q
    x y a b) n w h g

-- a waiting send that was admitted entered its queue
admits-queues : (call : Call) (reply : Reply) (k : ℕ) → admits reply ≡ Some k →
    (queues call reply ≡ false) × (blocks_send call reply ≡ false)
admits-queues call reply k e = grind arith

admitted-enters : (past : Past) → Legal past → (q m k : ℕ) → is_in (blocked_sends past q) m ≡ true →
    Has admits past k m → is_in (admitted past q) m ≡ true
admitted-enters [] legal q m k h e = absurd (cc)
admitted-enters (r ∷ past) legal q m k h e = has-cases admits past r k m e
    (λ here is.
    let quiet = admits-queues r.entry.call r.entry.reply m is in
    let blocked : is_in (blocked_sends past q) m ≡ true = rw quiet.1 at h in
    rw (quiet.0, is, blocked) (rw (eq-eqb m m refl) refl))
    (λ old lt. is_in-with_place (entered past r.entry q) (admitted past q) m
    (admitted-enters past legal.0 q m k
    (older (ended-below past legal.0 k m (has-admits past k m old))) old))
  where
    older : m < length past → is_in (blocked_sends past q) m ≡ true
    older lt = split (blocks_send r.entry.call r.entry.reply && is_on past r.entry q)
        (λ t. let new : (length past == m || is_in (blocked_sends past q) m) ≡ true = rw t at h in
        let other : (length past == m) ≡ false = ne_eqb (length past) m
        (λ e. omega (arith, lt, e)) in rw other at new)
        (λ f. rw f at h)

-- the send at place m is not withdrawn
abbrev IsKept : Past → ℕ → Type 0
IsKept past m = (k : ℕ) → Has withdrawn_wait past k m → ⊥

-- the message at place m was admitted to queue q, or taken
abbrev Entered : Past → ℕ → ℕ → Type 0
Entered past q m = (is_in (admitted past q) m ≡ true) ⊎ (is_in (taken past) m ≡ true)

entered-unless : (past : Past) → Legal past → (q m : ℕ) → IsSentTo past q m → IsKept past m →
    (is_in (waiting_sends past q) m ≡ true → ⊥) → Entered past q m
entered-unless past legal q m x kept waits = by x.r.entry.reply x.reply (sent-status past q m x)
  where
    ended : is_in (blocked_sends past q) m ≡ true →
        (k : ℕ) × (Has admits past k m ⊎ Has withdrawn_wait past k m) → Entered past q m
    ended blocked (k, inl e) = inl (admitted-enters past legal q m k blocked e)
    ended blocked (k, inr e) = absurd (kept k e)

    by : (reply : Reply) → is_sent reply ≡ true → SentStatus past q m reply → Entered past q m
    by (Queued n) s z = inl (z.queued n refl)
    by (Handed w) s z = inr (z.handed w refl)
    by Waits s z = split (is_in (ended_sends past) m)
        (λ t. ended (z.waits refl) (send-ended past m t))
        (λ f. absurd (waits (in-filter (λ w. not (is_in (ended_sends past) w))
        (blocked_sends past q) m (z.waits refl) (rw f refl))))
    by reply s z = absurd (let bad : false ≡ true = s in cc)

pub all-in : (t : ℕ → Bool) (xs : List ℕ) (m : ℕ) → list_all t xs ≡ true → is_in xs m ≡ true →
    t m ≡ true
all-in t [] m all h = absurd (cc)
all-in t (x ∷ xs) m all h =
    let parts = and_parts (t x) (list_all t xs) all in
    split (x == m)
    (λ e. let same : x ≡ m = eqb-true _ _ e in rw (← same) parts.0)
    (λ f. let rest : is_in xs m ≡ true = rw f at h in all-in t xs m parts.1 rest)

not-first : (past : Past) (m n : ℕ) → m < n → priority past m ≡ priority past n →
    goes_first past n m ≡ true → ⊥
not-first past m n lt same e = grind arith

-- a message that was taken was taken by an entry
pub taken-at : (past : Past) (m : ℕ) → is_in (taken past) m ≡ true →
    (j : ℕ) × (j < length past) × IsTakenAt past m j
taken-at [] m h = absurd (cc)
taken-at (r ∷ past) m h = by (λ old. taken-at past m old) (taken_by (length past) r.entry.reply)
    refl h
  where
    older : (j : ℕ) × (j < length past) × IsTakenAt past m j →
        (j : ℕ) × (j < length (r ∷ past)) × IsTakenAt (r ∷ past) m j
    older x =
        let lt = x.1 in (
          x.0,
          omega (arith, lt),
          ap (λ (o : Option Record). option_and_then (taken_by x.0)
              (option_map (λ (s : Record). s.entry.reply) o)) (record_at-older past r x.0 lt) ∙ x.2,
        )

    by : (is_in (taken past) m ≡ true → (j : ℕ) × (j < length past) × IsTakenAt past m j) →
        (o : Option ℕ) → taken_by (length past) r.entry.reply ≡ o →
        is_in (with_place o (taken past)) m ≡ true →
        (j : ℕ) × (j < length (r ∷ past)) × IsTakenAt (r ∷ past) m j
    by rest None e h = older (rest h)
    by rest (Some k) e h = split (k == m)
        (λ t. (
          length past,
          (omega arith),
          has-here (taken_by (length past)) past r m
              (e ∙ ap Some (eqb-true _ _ t)),
        ))
        (λ f. let old : is_in (taken past) m ≡ true = rw f at h in older (rest old))

priority-first : (past : Past) (k m : ℕ) → m < k → k ≤ length past →
    priority (first k past) m ≡ priority past m
priority-first past k m lt le =
    ap (λ o. unwrap_or (option_map (λ (x : Record). priority_given x.entry.call) o) 0)
    (record_at-first past k m lt le)

sent-back : (past : Past) (k q m : ℕ) → IsSentTo past q m → m < k → k ≤ length past →
    IsSentTo (first k past) q m
sent-back past k q m x lt le = grind (arith, record_at-first, first-first)

-- before a message is taken, each earlier one of its queue and priority was taken
taken-first : (past : Past) → Legal past → (r : Record) → IsLegalNext past r → (q m n : ℕ) →
    IsSentTo past q m → IsKept past m → m < n →
    (n < length past → priority past m ≡ priority past n) →
    (message_given r.entry.reply ≡ Some n) × (is_accepted past q n ≡ true) ⊎ (length past ≡ n) ×
    ((v : ℕ) × (is_in (waiting_receives past q) v ≡ true)) → is_in (taken past) m ≡ true
taken-first past legal r next q m n sent kept lt prio (inl x) =
    let is = given-reply r.entry.reply n x.0 in
    let says : Says past r.entry.process r.entry.call (Got n is.0 is.1) =
    rw is.2 at (legal_says past r next) in
    let got = got_says past r.entry.process r.entry.call n is.0 is.1 says in
    let there = find-in _ (present past got.2.queue) n got.6 in
    let below = present-below past got.2.queue n there.0 in
    let mine : got.2.queue ≡ q = same-queue past got.2.queue q n (admitted-sent past got.2.queue n
    (present-admitted past got.2.queue n there.0)) (accepted-sent past q n x.1) in
    let P : ℕ → Type 0 = λ k. list_all (goes_first past n) (present past k) ≡ true in
    let all : list_all (goes_first past n) (present past q) ≡ true = subst P mine there.1 in
    by all below (entered-unless past legal q m sent kept (λ waits. let bad = accepted-older past
    legal q n m x.1 waits in omega (arith, lt, bad)))
  where
    by : list_all (goes_first past n) (present past q) ≡ true → n < length past → Entered past q m →
        is_in (taken past) m ≡ true
    by all below (inr t) = t
    by all below (inl entered) = split (is_in (taken past) m)
        (λ t. t)
        (λ f. let there = in-filter (λ k. not (is_in (taken past) k)) (admitted past q) m
        entered (rw f refl) in
        absurd (not-first past m n lt (prio below) (all-in (goes_first past n)
        (present past q) m all there)))
taken-first past legal r next q m n sent kept lt prio (inr x) =
    by (entered-unless past legal q m sent kept
    (λ waits. not-both past legal q x.1.0 m x.1.1 waits))
  where
    by : Entered past q m → is_in (taken past) m ≡ true
    by (inr t) = t
    by (inl entered) = split (is_in (taken past) m)
        (λ t. t)
        (λ f. let there = in-filter (λ k. not (is_in (taken past) k)) (admitted past q) m
        entered (rw f refl) in
        let empty = waiting-empty past legal q x.1.0 x.1.1 in
        let bad : false ≡ true = ap (λ xs. is_in xs m) (sym empty) ∙ there in absurd (cc))

-- the reply that takes a message: that of a receive, or that of the send itself
taken-by-reply : (k m : ℕ) (reply : Reply) → taken_by k reply ≡ Some m →
    (message_given reply ≡ Some m) ⊎ ((k ≡ m) × ((w : ℕ) × (reply ≡ Handed w)))
taken-by-reply k m reply e = grind arith

back-taken : (past : Past) (k m j : ℕ) → j < k → k ≤ length past → IsTakenAt (first k past) m j →
    IsTakenAt past m j
back-taken past k m j lt le e = ap (λ (o : Option Record). option_and_then (taken_by j)
    (option_map (λ (s : Record). s.entry.reply) o)) (sym (record_at-first past k j lt le)) ∙ e

pub leaves-in-order : (past : Past) → Legal past → LeavesInOrder past
leaves-in-order past legal q m n k hm hn lt prio e =
    let x = has-record (taken_by k) past k n e in
    let at = legal-at past legal k x.r x.at in
    let below = record_at-below past k x.r x.at in
    by at.before at.next below x.at (accepted-sent past q m hm) (accepted-sent past q n hn)
    (taken-by-reply k n x.r.entry.reply x.is)
  where
    found : k < length past → is_in (taken (first k past)) m ≡ true →
        (j : ℕ) × (j < k) × IsTakenAt past m j
    found below t =
        let x = taken-at (first k past) m t in
        let long = length-first k past (omega (arith, below)) in
        let sooner : x.0 < k = (let lt = x.1 in omega (arith, lt, long)) in
        (x.0, sooner, back-taken past k m x.0 sooner (omega (arith, below)) x.2)

    -- an accepted message is not withdrawn
    kept : k < length past → IsKept (first k past) m
    kept below j w =
        let x = has-record withdrawn_wait (first k past) j m w in
        let short = record_at-below (first k past) j x.r x.at in
        let long = length-first k past (omega (arith, below)) in
        let there : Has withdrawn_wait past j m =
        ap (λ (o : Option Record). option_and_then withdrawn_wait
        (option_map (λ (s : Record). s.entry.reply) o))
        (sym (record_at-first past k j (omega (arith, short, long)) (omega (arith, below)))) ∙
        w in
        clash (is_accepted past q m) hm (withdrawn-not_accepted past legal j q m there)

    same-prio : k < length past → n < k → priority (first k past) m ≡ priority (first k past) n
    same-prio below sooner = priority-first past k m (omega (arith, lt, sooner))
        (omega (arith, below)) ∙ prio ∙ sym (priority-first past k n sooner (omega (arith, below)))

    by : {r : Record} → Legal (first k past) → IsLegalNext (first k past) r → k < length past →
        record_at past k ≡ Some r → IsSentTo past q m → IsSentTo past q n →
        (message_given r.entry.reply ≡ Some n) ⊎
        ((k ≡ n) × ((w : ℕ) × (r.entry.reply ≡ Handed w))) → (j : ℕ) × (j < k) × IsTakenAt past m j
    by {r} before next below at sm sn (inl got) =
        let there = given-present (first k past) r next n got in
        let long = length-first k past (omega (arith, below)) in
        let low = present-below (first k past) there.0 n there.1 in
        let sooner : n < k = omega (arith, low, long) in
        let entered = present-admitted (first k past) there.0 n there.1 in
        let mine : there.0 ≡ q = same-queue past there.0 q n (sent-first past k there.0 n
        (admitted-sent (first k past) there.0 n entered) sooner (omega (arith, below))) sn in
        let P : ℕ → Type 0 = λ i. is_in (admitted (first k past) i) n ≡ true in
        let entered_q : is_in (admitted (first k past) q) n ≡ true = subst P mine entered in
        let accepted : is_accepted (first k past) q n ≡ true = rw entered_q refl in
        found below (taken-first (first k past) before r next q m n
        (sent-back past k q m sm (omega (arith, lt, sooner)) (omega (arith, below)))
        (kept below) lt (λ _. same-prio below sooner) (inl (got, accepted)))
    by {r} before next below at sm sn (inr here) =
        let long = length-first k past (omega (arith, below)) in
        let place = here.0 in
        let one : Some sn.r ≡ Some r = sym sn.at ∙ ap (record_at past) (sym place) ∙ at in
        let is : sn.r ≡ r = cc in
        let on : called_queue (first k past) r.entry.process r.entry.call ≡ Some q =
        ap (λ b. called_queue (first b past) r.entry.process r.entry.call) place ∙
        ap (λ (s : Record). called_queue (first n past) s.entry.process s.entry.call) (sym is) ∙
        sn.on in
        let says : Says (first k past) r.entry.process r.entry.call (Handed here.1.0) =
        rw here.1.1 at (legal_says (first k past) r next) in
        let waits = handed-waits (first k past) r.entry.process q r.entry.call here.1.0 says
        (rw on (eq-eqb q q refl)) in
        found below (taken-first (first k past) before r next q m n
        (sent-back past k q m sm (omega (arith, lt, place)) (omega (arith, below))) (kept below)
        lt (λ short. absurd (omega (arith, short, long, place)))
        (inr (omega (arith, long, place), (here.1.0, waits))))
