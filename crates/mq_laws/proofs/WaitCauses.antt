-- When a send waits, its queue is full.
use Rattle.std.proofs.Common.{◌≡◌, ℕ, suc, ◌<◌, ◌==◌, Bool, true, false, ◌&&◌, not, List, [], ◌∷◌, length, Option, Some, None, refl, sym, ◌∙◌, ap, subst, arith, eqb-true, eq-eqb, ne_eqb, rules, ℤ, int_le, pos}
use Rattle.std.specs.List.{filter}
use Rattle.std.specs.Option.{option_map}
use Rattle.std.proofs.lemmas.Bool.{eqb-false, and_parts, false_from_ne_true}
use Rattle.mq_model.specs.Record.{Record, Past}
use Rattle.mq_model.specs.Descriptors.{held, called_queue, created, is_place, is_on}
use Rattle.mq_model.specs.Messages.{is_in, with_place, if_in, queues, admits, is_send, best, blocked_sends, ended_sends, waiting_sends, entered, admitted, taken, present, is_full, least}
use Rattle.mq_model.specs.Legality.{Legal, IsLegalNext}
use Rattle.mq_laws.specs.Laws.{WaitsForCause}
use Rattle.mq_model.proofs.Places.{split, clash, is_in-filter, find-in}
use Rattle.mq_model.proofs.Cases.{Says}
use Rattle.mq_model.proofs.LegalReplies.{legal_says}
use Rattle.mq_model.proofs.NamedWaits.{least-in}
use Rattle.mq_laws.proofs.Waiting.{waiting-empty}
use Rattle.mq_model.proofs.Steps.{without, filter-both, not-below, admitted-below, if_in-inside, present-queued_elsewhere}
use Rattle.mq_model.proofs.Presence.{place-is, blocked-on, waiting-not_admitted, without-absent, present-got_here, present-got_elsewhere, present-handed}
use Rattle.mq_model.proofs.PresentFew.{sent-created, present-few, called-on, called-created}
use Rattle.mq_model.proofs.Frames.{created-below, attributes-older}
use Rattle.mq_model.proofs.Waiters.{admits-least}
use Rattle.mq_model.specs.declared.entries.Description.{Description}
use Rattle.mq_model.specs.declared.entries.Call.{Call}
use Rattle.mq_model.specs.declared.entries.Call.TheVariants.{MqClose, MqSend, MqReceive, NextNotice, Collect, MqTimedSend, MqTimedReceive, Withdraw}
use Rattle.mq_model.specs.declared.entries.Reply.{Reply}
use Rattle.mq_model.specs.declared.entries.Reply.TheVariants.{Opened, Queued, Handed, Waits, Got, Collected, Attrs, Notice, Done, Refused, Withdrawn}

abbrev rec : ℕ → Call → Reply → List ℕ → Record
rec p call reply payload = record {
  entry = record { process = p; call = call; reply = reply };
  payload = payload;
}

-- no place stands twice ---------------------------------------------------------------------------

abbrev pub is_distinct : List ℕ → Bool
is_distinct [] = true
is_distinct (x ∷ xs) = not (is_in xs x) && is_distinct xs

distinct-filter : (t : ℕ → Bool) (xs : List ℕ) → is_distinct xs ≡ true →
    is_distinct (filter t xs) ≡ true
distinct-filter t [] e = refl
distinct-filter t (x ∷ xs) e =
    let parts = and_parts (not (is_in xs x)) (is_distinct xs) e in
    let out : is_in (filter t xs) x ≡ false = false_from_ne_true _ (λ h. let bad : is_in xs x ≡
    true = (is_in-filter t xs x h).0 in let clashes : false ≡ true = rw bad at parts.0 in cc) in
    split (t x) (λ y. rw (y, out) (distinct-filter t xs parts.1))
    (λ n. rw n (distinct-filter t xs parts.1))

distinct-with : (o : Option ℕ) (xs : List ℕ) → is_distinct xs ≡ true →
    ((k : ℕ) → o ≡ Some k → is_in xs k ≡ false) → is_distinct (with_place o xs) ≡ true
distinct-with o xs e out = grind arith

-- the message that enters was in no queue before
entered-fresh : (past : Past) → Legal past → (r : Record) → IsLegalNext past r → (q k : ℕ) →
    entered past r.entry q ≡ Some k → is_in (admitted past q) k ≡ false
entered-fresh past legal r next q k e =
    split (queues r.entry.call r.entry.reply && is_on past r.entry q)
    (λ t. let here : Some (length past) ≡ Some k = rw t at e in let same : length past ≡ k = cc in
    rw (← same) (not-below (length past) (admitted past q) (admitted-below past q)))
    (λ f. let there : if_in (blocked_sends past q) (admits r.entry.reply) ≡ Some k = rw f at e in
    let inside = if_in-inside (blocked_sends past q) (admits r.entry.reply) k there in
    by r.entry.reply (legal_says past r next) inside.1)
  where
    by : (reply : Reply) → Says past r.entry.process r.entry.call reply → admits reply ≡ Some k →
        is_in (admitted past q) k ≡ false
    by (Got m a n) says e =
        let first = admits-least past r.entry.process r.entry.call m a n says in
        waiting-not_admitted past first.0 k q (least-in (waiting_sends past first.0) k
        (sym first.1 ∙ e))
    by reply says e = absurd (cc)

admitted-distinct : (past : Past) → Legal past → (q : ℕ) → is_distinct (admitted past q) ≡ true
admitted-distinct [] legal q = refl
admitted-distinct (r ∷ past) legal q = distinct-with (entered past r.entry q) (admitted past q)
    (admitted-distinct past legal.0 q) (λ k e. entered-fresh past legal.0 r legal.1 q k e)

pub present-distinct : (past : Past) → Legal past → (q : ℕ) → is_distinct (present past q) ≡ true
present-distinct past legal q = distinct-filter (λ m. not (is_in (taken past) m)) (admitted past q)
    (admitted-distinct past legal q)

-- distinct places without one of them are one fewer
pub length-without : (m : ℕ) (xs : List ℕ) → is_distinct xs ≡ true → is_in xs m ≡ true →
    suc (length (without m xs)) ≡ length xs
length-without m [] d h = absurd (cc)
length-without m (x ∷ xs) d h =
    let parts = and_parts (not (is_in xs x)) (is_distinct xs) d in
    split (x == m)
    (λ t. let same : x ≡ m = eqb-true _ _ t in
    let out : is_in xs m ≡ false = split (is_in xs m) (λ y. let there : is_in xs x ≡
    true = rw same y in let bad : false ≡ true = rw there at parts.0 in absurd (cc)) (λ n. n) in
    rw (eq-eqb m x (sym same)) (ap suc (ap length (without-absent m xs out))))
    (λ f. let rest : is_in xs m ≡ true = rw f at h in
    rw (ne_eqb m x (λ e. eqb-false _ _ f (sym e))) (ap suc (length-without m xs parts.1 rest)))

-- where a send waits ------------------------------------------------------------------------------

abbrev FullWhereWaiting : Past → ℕ → Type 0
FullWhereWaiting past q = (w : ℕ) → is_in (waiting_sends past q) w ≡ true → is_full past q ≡ true

none-waits : (past : Past) (q : ℕ) → FullWhereWaiting past q → is_full past q ≡ false → (w : ℕ) →
    is_in (waiting_sends past q) w ≡ true → ⊥
none-waits past q full room w h = clash (is_full past q) (full w h) room

-- the queue of a waiting send was created
pub waiting-created : (past : Past) → Legal past → (q w : ℕ) →
    is_in (waiting_sends past q) w ≡ true → is_in (created past) q ≡ true
waiting-created past legal q w h = grind (arith, is_in-filter, sent-created, blocked-on)

same-full : (past : Past) (r : Record) (q : ℕ) → q < length past →
    length (present (r ∷ past) q) ≡ length (present past q) → is_full past q ≡ true →
    is_full (r ∷ past) q ≡ true
same-full past r q lt same full = rw (attributes-older past r q lt, same) full

-- a record after which the same sends wait and equally many messages are present
full-same : (past : Past) → Legal past → (r : Record) (q : ℕ) → FullWhereWaiting past q →
    waiting_sends (r ∷ past) q ≡ waiting_sends past q →
    length (present (r ∷ past) q) ≡ length (present past q) → FullWhereWaiting (r ∷ past) q
full-same past legal r q before waits same w h = grind (
  arith,
  same-full,
  created-below,
  waiting-created,
)

full-blocked : (past : Past) → Legal past →
    (p d : ℕ) (call : Call) (h : Description) (payload : List ℕ) (q : ℕ) → is_send call ≡ true →
    called_queue past p call ≡ option_map (λ h. h.queue) (held past p d) → held past p d ≡ Some h →
    is_full past h.queue ≡ true → FullWhereWaiting past q →
    FullWhereWaiting (rec p call Waits payload ∷ past) q
full-blocked past legal p d call h payload q sends calls is full before w waits =
    let r : Record = rec p call Waits payload in
    split (is_place q (called_queue past p call))
    (λ on. let same : h.queue ≡ q = called-on past p d q h is (rw (← calls) on) in
    let here : is_full past q ≡ true = rw same at full in
    same-full past r q (created-below past q (called-created past legal p q call
    (place-is (called_queue past p call) q on))) refl here)
    (λ off. full-same past legal r q before (rw (sends, off) refl) refl w waits)

full-waits : (past : Past) → Legal past → (p : ℕ) (call : Call) (payload : List ℕ) (q : ℕ) →
    Says past p call Waits → FullWhereWaiting past q →
    FullWhereWaiting (rec p call Waits payload ∷ past) q
full-waits past legal p (MqSend d prio len) payload q says before w h = full-blocked past legal p d
    (MqSend d prio len) says.0 payload q refl refl says.1 says.3.1 before w h
full-waits past legal p (MqTimedSend d prio len until now) payload q says before w h =
    full-blocked past legal p d (MqTimedSend d prio len until now) says.0 payload q refl refl says.1
    says.3.1 before w h
full-waits past legal p (MqReceive d room) payload q says before w h = full-same past legal
    (rec p (MqReceive d room) Waits payload) q before refl refl w h
full-waits past legal p (MqTimedReceive d room until now) payload q says before w h =
    full-same past legal (rec p (MqTimedReceive d room until now) Waits payload) q
    before refl refl w h
full-waits past legal p (MqClose d) payload q says before w h = absurd says.0
full-waits past legal p NextNotice payload q says before w h = absurd (cc)
full-waits past legal p Collect payload q says before w h = absurd (cc)
full-waits past legal p (Withdraw now) payload q says before w h = absurd (cc)
full-waits past legal p call payload q says before w h = absurd says

full-sent : (past : Past) → Legal past →
    (p d : ℕ) (call : Call) (h : Description) (n : Option ℕ) (payload : List ℕ) (q : ℕ) →
    called_queue past p call ≡ option_map (λ h. h.queue) (held past p d) → held past p d ≡ Some h →
    is_full past h.queue ≡ false → FullWhereWaiting past q →
    FullWhereWaiting (rec p call (Queued n) payload ∷ past) q
full-sent past legal p d call h n payload q calls is free before w waits =
    split (is_place q (called_queue past p call))
    (λ on. let same : h.queue ≡ q = called-on past p d q h is (rw (← calls) on) in
    let room : is_full past q ≡ false = rw same at free in
    absurd (none-waits past q before room w waits))
    (λ off. full-same past legal (rec p call (Queued n) payload) q before refl
    (ap length (present-queued_elsewhere past p call q n payload off)) w waits)

full-queued : (past : Past) → Legal past →
    (p : ℕ) (call : Call) (n : Option ℕ) (payload : List ℕ) (q : ℕ) → Says past p call (Queued n) →
    FullWhereWaiting past q → FullWhereWaiting (rec p call (Queued n) payload ∷ past) q
full-queued past legal p call n payload q says before w h = grind (arith, full-sent)

-- the sends that wait after a reply that ends one waited before it
pub still-waits : (past : Past) (v q w : ℕ) →
    is_in (filter (λ k. not (is_in (v ∷ ended_sends past) k)) (blocked_sends past q)) w ≡ true →
    is_in (waiting_sends past q) w ≡ true
still-waits past v q w h =
    let still : is_in (without v (waiting_sends past q)) w ≡ true =
    rw (← filter-both (λ k. v == k) (is_in (ended_sends past)) (blocked_sends past q)) h in
    (is_in-filter (λ k. not (v == k)) (waiting_sends past q) w still).0

waits-got : (past : Past) (p : ℕ) (call : Call) (m : ℕ) (a n : Option ℕ) (payload : List ℕ)
    (q w : ℕ) → is_in (waiting_sends (rec p call (Got m a n) payload ∷ past) q) w ≡ true →
    is_in (waiting_sends past q) w ≡ true
waits-got past p call m None n payload q w h = h
waits-got past p call m (Some v) n payload q w h = still-waits past v q w h

full-taken : (past : Past) → Legal past →
    (p : ℕ) (call : Call) (m : ℕ) (a n : Option ℕ) (payload : List ℕ) (q k : ℕ) →
    best past k ≡ Some m → a ≡ least (waiting_sends past k) → FullWhereWaiting past q →
    FullWhereWaiting (rec p call (Got m a n) payload ∷ past) q
full-taken past legal p call m a n payload q k gives admits before w h =
    let r : Record = rec p call (Got m a n) payload in
    let old = waits-got past p call m a n payload q w h in
    let lt = created-below past q (waiting-created past legal q w old) in
    split (q == k)
    (λ t. let same : q ≡ k = eqb-true _ _ t in
    let P : ℕ → Type 0 = λ j. length (present (r ∷ past) j) ≡ length (present past j) in
    let first : a ≡ least (waiting_sends past q) = rw same admits in
    same-full past r q lt
    (subst P (sym same) (here a admits (no-none (least (waiting_sends past q)) a first refl
    old))) (before w old))
    (λ f. same-full past r q lt (ap length (present-got_elsewhere past p call m a n payload k q
    (record { inside = inside; admitted = admits }) (eqb-false _ _ f))) (before w old))
  where
    inside : is_in (present past k) m ≡ true
    inside = (find-in _ (present past k) m gives).0

    no-none : (o a : Option ℕ) → a ≡ o → least (waiting_sends past q) ≡ o →
        is_in (waiting_sends past q) w ≡ true → (v : ℕ) × (a ≡ Some v)
    no-none (Some v) a e is there = (v, e)
    no-none None a e is there = absurd (none (waiting_sends past q) is there)
      where
        none : (xs : List ℕ) → least xs ≡ None → is_in xs w ≡ true → ⊥
        none [] is there = cc
        none (x ∷ xs) is there = cc

    here : (a : Option ℕ) → a ≡ least (waiting_sends past k) → (v : ℕ) × (a ≡ Some v) →
        length (present (rec p call (Got m a n) payload ∷ past) k) ≡ length (present past k)
    here (Some v) first some =
        ap length (present-got_here past legal p call m (Some v) n payload k
        (record { inside = inside; admitted = first }))
        ∙ length-without m (present past k) (present-distinct past legal k) inside
    here None first some = absurd (let bad : None ≡ Some some.0 = some.1 in cc)

full-got : (past : Past) → Legal past →
    (p : ℕ) (call : Call) (m : ℕ) (a n : Option ℕ) (payload : List ℕ) (q : ℕ) →
    Says past p call (Got m a n) → FullWhereWaiting past q →
    FullWhereWaiting (rec p call (Got m a n) payload ∷ past) q
full-got past legal p call m a n payload q says before w h = grind (arith, full-taken)

full-next : (past : Past) → Legal past →
    (p : ℕ) (call : Call) (reply : Reply) (payload : List ℕ) (q : ℕ) → Says past p call reply →
    FullWhereWaiting past q → FullWhereWaiting (rec p call reply payload ∷ past) q
full-next past legal p call (Queued n) payload q says before = full-queued past legal p call n
    payload q says before
full-next past legal p call (Got m a n) payload q says before = full-got past legal p call m a n
    payload q says before
full-next past legal p call Waits payload q says before =
    full-waits past legal p call payload q says before
full-next past legal p call (Handed w) payload q says before = full-same past legal
    (rec p call (Handed w) payload) q before refl
    (ap length (present-handed past p call w payload q))
full-next past legal p call (Opened d created) payload q says before = full-same past legal
    (rec p call (Opened d created) payload) q before refl refl
full-next past legal p call (Collected b) payload q says before = full-same past legal
    (rec p call (Collected b) payload) q before refl refl
full-next past legal p call (Withdrawn v) payload q says before =
    λ w h. let old = still-waits past v q w h in same-full past (rec p call (Withdrawn v) payload) q
    (created-below past q (waiting-created past legal q w old)) refl (before w old)
full-next past legal p call (Attrs s) payload q says before = full-same past legal
    (rec p call (Attrs s) payload) q before refl refl
full-next past legal p call (Notice v) payload q says before = full-same past legal
    (rec p call (Notice v) payload) q before refl refl
full-next past legal p call Done payload q says before = full-same past legal
    (rec p call Done payload) q before refl refl
full-next past legal p call (Refused f) payload q says before = full-same past legal
    (rec p call (Refused f) payload) q before refl refl

-- when a send waits, the queue is full
pub waiting-full : (past : Past) → Legal past → (q w : ℕ) → is_in (waiting_sends past q) w ≡ true →
    is_full past q ≡ true
waiting-full [] legal q w h = absurd (cc)
waiting-full (r ∷ past) legal q w h = full-next past legal.0 r.entry.process r.entry.call
    r.entry.reply r.payload q (legal_says past r legal.1) (λ v e. waiting-full past legal.0 q v e) w
    h

both-ways : (a : ℤ) (n : ℕ) → int_le (pos n) a ≡ true → int_le a (pos n) ≡ true → pos n ≡ a
both-ways a n h g = grind arith

-- when a send waits, the queue holds mq_maxmsg messages
pub waits-for-cause : (past : Past) → Legal past → WaitsForCause past
waits-for-cause past legal = search (
  rules,
  waiting-empty,
  both-ways,
  present-few,
  waiting-created,
  waiting-full,
)
