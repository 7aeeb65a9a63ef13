-- The contents of a queue, and the waits on it, after a record.
use Rattle.std.proofs.Common.{◌≡◌, ℕ, ◌<◌, ◌≤◌, ◌==◌, Bool, true, false, ◌&&◌, ◌||◌, not, List, [], ◌∷◌, length, map, Option, Some, None, if◌then◌else◌, refl, sym, ◌∙◌, ap, arith, eq-eqb, ◌⊎◌, nat_lt, nat_le}
use Rattle.std.specs.List.{list_all}
use Rattle.std.specs.Option.{option_map, unwrap_or}
use Rattle.std.proofs.lemmas.Bool.{eqb-false, eqb-true, and_parts, false_from_ne_true}
use Rattle.std.proofs.lemmas.Bool.Decides.{nat_tests}
use Rattle.mq_model.specs.Record.{Record, Past}
use Rattle.mq_model.specs.Descriptors.{called_queue, is_place}
use Rattle.mq_model.specs.Messages.{best, blocked_receives, blocked_sends, ended_receives, ended_sends, goes_first, is_in, is_send, is_receive, least, present, priority, priority_given, waiting_receives, waiting_sends, with_place}
use Rattle.mq_model.specs.Waits.{answered_by, named_wait, names_wait, open_wait}
use Rattle.mq_model.specs.Legality.{Legal}
use Rattle.mq_model.specs.declared.entries.Call.{Call}
use Rattle.mq_model.specs.declared.entries.Reply.{Reply}
use Rattle.mq_model.specs.declared.entries.Reply.TheVariants.{Opened, Queued, Handed, Waits, Got, Collected, Attrs, Notice, Done, Refused, Withdrawn}
use Rattle.mq_model.specs.declared.callers.WaitKind.TheVariants.{Send, Receive}
use Rattle.mq_model.proofs.Places.{split, is_in-filter, find-in}
use Rattle.mq_model.proofs.Cases.{Says}
use Rattle.mq_model.proofs.Frames.{answered_by-step}
use Rattle.mq_model.proofs.NamedWaits.{blocked-once, least-in}
use Rattle.mq_model.proofs.OpenWaits.{open_wait-process, same-waiter}
use Rattle.mq_model.proofs.Presence.{GotFacts, present-below, present-got_elsewhere, present-got_here, present-handed, without-absent}
use Rattle.mq_model.proofs.Steps.{filter-both, present-queued, present-queued_elsewhere, without}
use Rattle.mq_model.proofs.Waiters.{unnamed, waiter}
use Rattle.mq_equivalence.specs.Views.{Message, Sender, answer, at, author, contents, joined, lined, prio_of, receivers, sender, senders, sent, told}
use Rattle.mq_equivalence.proofs.Falling.{IsBest, best-first, least-newer, least-oldest, map-newer, newer, oldest, others}
use Rattle.mq_equivalence.proofs.Changes.{at-newest, at-older, falls-present, falls-receivers, falls-senders, got-all, handed-all, map-older, rec, waiting_receives-below, waiting_sends-below}
use Rattle.mq_laws.proofs.SendingOrder.{all-in}

-- the best message --------------------------------------------------------------------------------

pub prio-is : (past : Past) (k : ℕ) → prio_of (at sent past k) ≡ priority past k
prio-is past k = grind arith

order-of : (a b m k : ℕ) → (nat_lt b a || (a == b && nat_le m k)) ≡ true →
    (b < a) ⊎ ((b ≡ a) × (m ≤ k))
order-of a b m k h = grind (arith, and_parts, eqb-true)

pub is-best : (past : Past) (q m : ℕ) → best past q ≡ Some m →
    IsBest (at sent past) (present past q) m
is-best past q m e =
    let found = find-in (λ k. list_all (goes_first past k) (present past q)) (present past q) m e in
    record {
      inside = found.0;
      first = λ k h.
          let one : goes_first past m k ≡ true = all-in (goes_first past m)
          (present past q) k found.1 h in
          rw (prio-is past k, prio-is past m) (order-of (priority past m)
          (priority past k) m k one);
    }

-- the contents ------------------------------------------------------------------------------------

abbrev pub message_of : Call → List ℕ → Message
message_of call payload = record { prio = priority_given call; bytes = payload }

-- a send that waited is admitted
abbrev pub with_admitted : Option ℕ → List (Option Sender) → List (Option Message) →
    List (Option Message)
with_admitted None ss cs = cs
with_admitted (Some w) ss cs = joined prio_of (option_map (λ (x : Sender). x.message) (oldest ss))
    cs

abbrev pub after_contents : Call → List ℕ → Bool → Reply → List (Option Sender) →
    List (Option Message) → List (Option Message)
after_contents call payload on (Queued n) ss cs = if on && is_send call
    then joined prio_of (Some (message_of call payload)) cs else cs
after_contents call payload on (Got m a n) ss cs = if on then with_admitted a ss (others cs) else cs
after_contents call payload on reply ss cs = cs

contents-same : (past : Past) (r : Record) (q : ℕ) → present (r ∷ past) q ≡ present past q →
    contents (r ∷ past) q ≡ contents past q
contents-same past r q same = grind (arith, map-older, present-below)

contents-queued : (past : Past) → Legal past →
    (p : ℕ) (call : Call) (n : Option ℕ) (payload : List ℕ) (q : ℕ) →
    contents (rec p call (Queued n) payload ∷ past) q ≡ after_contents call payload
    (is_place q (called_queue past p call)) (Queued n) (senders past q) (contents past q)
contents-queued past legal p call n payload q =
    let r = rec p call (Queued n) payload in
    split (is_place q (called_queue past p call))
    (λ on. split (is_send call)
    (λ sends.
    grind (arith, nat_tests, present-queued, at-newest, map-older, present-below))
    (λ other.
    let same : present (r ∷ past) q ≡ present past q = rw other refl in
    let both : (is_place q (called_queue past p call) && is_send call) ≡ false =
    rw (on, other) refl in
    rw both (contents-same past r q same)))
    (λ off. let both : (is_place q (called_queue past p call) && is_send call) ≡
    false = rw off refl in
    rw both (contents-same past r q (present-queued_elsewhere past p call q n payload off)))

lined-admitted : (past : Past) (r : Record) (q : ℕ) (a : Option ℕ) (ks : List ℕ) →
    a ≡ least (waiting_sends past q) →
    lined prio_of (map (at sent (r ∷ past)) (with_place a ks)) ≡ with_admitted a (senders past q)
    (lined prio_of (map (at sent (r ∷ past)) ks))
lined-admitted past r q None ks e = refl
lined-admitted past r q (Some w) ks e =
    let below : w < length past = waiting_sends-below past q w
    (least-in (waiting_sends past q) w (sym e)) in
    grind (arith, nat_tests, oldest, at-older, least-oldest, falls-senders)

contents-got : (past : Past) → Legal past →
    (p : ℕ) (call : Call) (m : ℕ) (a n : Option ℕ) (payload : List ℕ) (q : ℕ) →
    Says past p call (Got m a n) →
    contents (rec p call (Got m a n) payload ∷ past) q ≡ after_contents call payload
    (is_place q (called_queue past p call)) (Got m a n) (senders past q) (contents past q)
contents-got past legal p call m a n payload q says =
    let r = rec p call (Got m a n) payload in
    let got = got-all past p call m a n says in
    let facts : GotFacts past got.queue m a =
    record { inside = (is-best past got.queue m got.best).inside; admitted = got.admitted } in
    let f = at sent past in
    let old : map (at sent (r ∷ past)) (without m (present past q)) ≡
    map f (without m (present past q)) =
    map-older sent past r (without m (present past q)) (λ j h. present-below past q j
    (is_in-filter (λ k. not (m == k)) (present past q) j h).0)
    in
    split (got.queue == q)
    (λ t. grind (
      arith,
      nat_tests,
      eqb-true,
      GotFacts,
      is-best,
      best-first,
      falls-present,
      present-got_here,
      lined-admitted,
      without,
    ))
    (λ d. let off : is_place q (called_queue past p call) ≡ false = rw got.on d in
    rw off (contents-same past r q (present-got_elsewhere past p call m a n payload got.queue q
    facts (λ is. eqb-false got.queue q d (sym is)))))

pub contents-step : (past : Past) → Legal past →
    (p : ℕ) (call : Call) (reply : Reply) (payload : List ℕ) (q : ℕ) → Says past p call reply →
    contents (rec p call reply payload ∷ past) q ≡ after_contents call payload
    (is_place q (called_queue past p call)) reply (senders past q) (contents past q)
contents-step past legal p call (Queued n) payload q says =
    contents-queued past legal p call n payload q
contents-step past legal p call (Got m a n) payload q says = contents-got past legal p call m a
    n payload q says
contents-step past legal p call (Handed w) payload q says =
    contents-same past (rec p call (Handed w) payload) q (present-handed past p call w payload q)
contents-step past legal p call (Opened d created) payload q says =
    contents-same past (rec p call (Opened d created) payload) q refl
contents-step past legal p call Waits payload q says =
    contents-same past (rec p call Waits payload) q refl
contents-step past legal p call (Collected b) payload q says =
    contents-same past (rec p call (Collected b) payload) q refl
contents-step past legal p call (Withdrawn w) payload q says =
    contents-same past (rec p call (Withdrawn w) payload) q refl
contents-step past legal p call (Attrs s) payload q says =
    contents-same past (rec p call (Attrs s) payload) q refl
contents-step past legal p call (Notice v) payload q says =
    contents-same past (rec p call (Notice v) payload) q refl
contents-step past legal p call Done payload q says =
    contents-same past (rec p call Done payload) q refl
contents-step past legal p call (Refused f) payload q says =
    contents-same past (rec p call (Refused f) payload) q refl

-- waits
-- ----------------------------------------------------------------------------------------------

-- a wait was withdrawn
abbrev pub is_withdrawn : Reply → Bool
is_withdrawn (Withdrawn w) = true
is_withdrawn _ = false

abbrev pub left : {X : Type 0} → Option ℕ → List X → List X
left None xs = xs
left (Some w) xs = newer xs

abbrev pub after_senders : ℕ → Call → List ℕ → Bool → Reply → List (Option Sender) →
    List (Option Sender)
after_senders p call payload on Waits ss = if is_send call && on
    then Some (record { process = p; message = message_of call payload }) ∷ ss else ss
after_senders p call payload on (Got m a n) ss = if on then left a ss else ss
after_senders p call payload on reply ss = ss

senders-same : (past : Past) (r : Record) (q : ℕ) →
    waiting_sends (r ∷ past) q ≡ waiting_sends past q → senders (r ∷ past) q ≡ senders past q
senders-same past r q same = ap (λ (ks : List ℕ). map (at sender (r ∷ past)) ks) same ∙
    map-older sender past r (waiting_sends past q) (waiting_sends-below past q)

-- a wait that begins has not ended
pub fresh-wait : (past : Past) (p : ℕ) (call : Call) (payload : List ℕ) →
    Legal (rec p call Waits payload ∷ past) → (is_in (ended_sends past) (length past) ≡ false) ×
    (is_in (ended_receives past) (length past) ≡ false)
fresh-wait past p call payload legal =
    let own : (p == p) ≡ true = eq-eqb p p refl in
    let opens : open_wait (rec p call Waits payload ∷ past) p ≡ Some (length past) = rw own refl in
    let unanswered : answered_by (rec p call Waits payload ∷ past) p ≡ None = rw own refl in (
      unnamed (rec p call Waits payload ∷ past) legal p (length past) opens unanswered Send,
      unnamed (rec p call Waits payload ∷ past) legal p (length past) opens unanswered Receive,
    )

senders-waits : (past : Past) (p : ℕ) (call : Call) (payload : List ℕ) (q : ℕ) →
    Legal (rec p call Waits payload ∷ past) →
    senders (rec p call Waits payload ∷ past) q ≡ after_senders p call payload
    (is_place q (called_queue past p call)) Waits (senders past q)
senders-waits past p call payload q legal =
    let r = rec p call Waits payload in
    let free = (fresh-wait past p call payload legal).0 in
    let first : at sender (r ∷ past) (length past) ≡ Some (sender r) = at-newest sender past r in
    split (is_send call && is_place q (called_queue past p call))
    (λ t.
    grind (arith, nat_tests, map-older, waiting_sends-below))
    (λ f.
    let is : waiting_sends (r ∷ past) q ≡ waiting_sends past q = rw f refl in
    let right : after_senders p call payload (is_place q (called_queue past p call)) Waits
    (senders past q) ≡ senders past q = rw f refl in
    senders-same past r q is ∙ sym right)

senders-got : (past : Past) → (p : ℕ) (call : Call) (m : ℕ) (a n : Option ℕ) (payload : List ℕ)
    (q : ℕ) → Says past p call (Got m a n) →
    senders (rec p call (Got m a n) payload ∷ past) q ≡ after_senders p call payload
    (is_place q (called_queue past p call)) (Got m a n) (senders past q)
senders-got past p call m None n payload q says =
    let same = senders-same past (rec p call (Got m None n) payload) q refl in
    split (is_place q (called_queue past p call)) (λ t. rw t same) (λ f. rw f same)
senders-got past p call m (Some w) n payload q says =
    let r = rec p call (Got m (Some w) n) payload in
    let got = got-all past p call m (Some w) n says in
    let is : waiting_sends (r ∷ past) q ≡ without w (waiting_sends past q) =
    filter-both (λ k. w == k) (is_in (ended_sends past)) (blocked_sends past q) in
    split (got.queue == q)
    (λ t. grind (
      arith,
      nat_tests,
      eqb-true,
      waiting_sends-below,
      falls-senders,
      map-older,
      without,
      is_in-filter,
      least-newer,
      map-newer,
    ))
    (λ d. let off : is_place q (called_queue past p call) ≡ false = rw got.on d in
    let mine = is_in-filter _ (blocked_sends past got.queue) w
    (least-in (waiting_sends past got.queue) w (sym got.admitted)) in
    let out : is_in (waiting_sends past q) w ≡ false =
    false_from_ne_true _ (λ there.
    let its = is_in-filter _ (blocked_sends past q) w there in
    eqb-false got.queue q d (blocked-once past Send Send got.queue q w mine.0 its.0).1)
    in
    rw off (senders-same past r q (is ∙ without-absent w (waiting_sends past q) out)))

pub senders-step : (past : Past) (p : ℕ) (call : Call) (reply : Reply) (payload : List ℕ) (q : ℕ) →
    Legal (rec p call reply payload ∷ past) → Says past p call reply → is_withdrawn reply ≡ false →
    senders (rec p call reply payload ∷ past) q ≡ after_senders p call payload
    (is_place q (called_queue past p call)) reply (senders past q)
senders-step past p call Waits payload q legal says kept = senders-waits past p call payload q legal
senders-step past p call (Got m a n) payload q legal says kept =
    senders-got past p call m a n payload q says
senders-step past p call (Withdrawn w) payload q legal says kept = absurd (cc)
senders-step past p call (Queued n) payload q legal says kept =
    senders-same past (rec p call (Queued n) payload) q refl
senders-step past p call (Handed w) payload q legal says kept =
    senders-same past (rec p call (Handed w) payload) q refl
senders-step past p call (Opened d created) payload q legal says kept =
    senders-same past (rec p call (Opened d created) payload) q refl
senders-step past p call (Collected b) payload q legal says kept =
    senders-same past (rec p call (Collected b) payload) q refl
senders-step past p call (Attrs s) payload q legal says kept =
    senders-same past (rec p call (Attrs s) payload) q refl
senders-step past p call (Notice v) payload q legal says kept =
    senders-same past (rec p call (Notice v) payload) q refl
senders-step past p call Done payload q legal says kept =
    senders-same past (rec p call Done payload) q refl
senders-step past p call (Refused f) payload q legal says kept =
    senders-same past (rec p call (Refused f) payload) q refl

abbrev pub after_receivers : ℕ → Call → Bool → Reply → List (Option ℕ) → List (Option ℕ)
after_receivers p call on Waits rs = if is_receive call && on then Some p ∷ rs else rs
after_receivers p call on (Handed w) rs = if on then newer rs else rs
after_receivers p call on reply rs = rs

receivers-same : (past : Past) (r : Record) (q : ℕ) →
    waiting_receives (r ∷ past) q ≡ waiting_receives past q →
    receivers (r ∷ past) q ≡ receivers past q
receivers-same past r q same = ap (λ (ks : List ℕ). map (at author (r ∷ past)) ks) same ∙
    map-older author past r (waiting_receives past q) (waiting_receives-below past q)

receivers-waits : (past : Past) (p : ℕ) (call : Call) (payload : List ℕ) (q : ℕ) →
    Legal (rec p call Waits payload ∷ past) →
    receivers (rec p call Waits payload ∷ past) q ≡ after_receivers p call
    (is_place q (called_queue past p call)) Waits (receivers past q)
receivers-waits past p call payload q legal =
    let r = rec p call Waits payload in
    let free = (fresh-wait past p call payload legal).1 in
    let first : at author (r ∷ past) (length past) ≡ Some p = at-newest author past r in
    split (is_receive call && is_place q (called_queue past p call))
    (λ t.
    grind (arith, nat_tests, map-older, waiting_receives-below))
    (λ f.
    let is : waiting_receives (r ∷ past) q ≡ waiting_receives past q = rw f refl in
    let right : after_receivers p call (is_place q (called_queue past p call)) Waits
    (receivers past q) ≡ receivers past q = rw f refl in
    receivers-same past r q is ∙ sym right)

receivers-handed : (past : Past) → (p : ℕ) (call : Call) (w : ℕ) (payload : List ℕ) (q : ℕ) →
    Says past p call (Handed w) →
    receivers (rec p call (Handed w) payload ∷ past) q ≡ after_receivers p call
    (is_place q (called_queue past p call)) (Handed w) (receivers past q)
receivers-handed past p call w payload q says =
    let r = rec p call (Handed w) payload in
    let hands = handed-all past p call w says in
    let is : waiting_receives (r ∷ past) q ≡ without w (waiting_receives past q) =
    filter-both (λ k. w == k) (is_in (ended_receives past)) (blocked_receives past q) in
    split (hands.queue == q)
    (λ t. grind (
      arith,
      nat_tests,
      eqb-true,
      waiting_receives-below,
      falls-receivers,
      map-older,
      without,
      is_in-filter,
      least-newer,
      map-newer,
    ))
    (λ d. let off : is_place q (called_queue past p call) ≡ false = rw hands.on d in
    let mine = is_in-filter _ (blocked_receives past hands.queue) w
    (least-in (waiting_receives past hands.queue) w hands.first) in
    let out : is_in (waiting_receives past q) w ≡ false =
    false_from_ne_true _ (λ there.
    let its = is_in-filter _ (blocked_receives past q) w there in
    eqb-false hands.queue q d (blocked-once past Receive Receive hands.queue q w mine.0 its.0).1)
    in
    rw off (receivers-same past r q (is ∙ without-absent w (waiting_receives past q) out)))

pub receivers-step : (past : Past) (p : ℕ) (call : Call) (reply : Reply) (payload : List ℕ)
    (q : ℕ) → Legal (rec p call reply payload ∷ past) → Says past p call reply →
    is_withdrawn reply ≡ false →
    receivers (rec p call reply payload ∷ past) q ≡ after_receivers p call
    (is_place q (called_queue past p call)) reply (receivers past q)
receivers-step past p call Waits payload q legal says kept =
    receivers-waits past p call payload q legal
receivers-step past p call (Handed w) payload q legal says kept =
    receivers-handed past p call w payload q says
receivers-step past p call (Withdrawn w) payload q legal says kept = absurd (cc)
receivers-step past p call (Queued n) payload q legal says kept =
    receivers-same past (rec p call (Queued n) payload) q refl
receivers-step past p call (Got m a n) payload q legal says kept =
    receivers-same past (rec p call (Got m a n) payload) q refl
receivers-step past p call (Opened d created) payload q legal says kept =
    receivers-same past (rec p call (Opened d created) payload) q refl
receivers-step past p call (Collected b) payload q legal says kept =
    receivers-same past (rec p call (Collected b) payload) q refl
receivers-step past p call (Attrs s) payload q legal says kept =
    receivers-same past (rec p call (Attrs s) payload) q refl
receivers-step past p call (Notice v) payload q legal says kept =
    receivers-same past (rec p call (Notice v) payload) q refl
receivers-step past p call Done payload q legal says kept =
    receivers-same past (rec p call Done payload) q refl
receivers-step past p call (Refused f) payload q legal says kept =
    receivers-same past (rec p call (Refused f) payload) q refl

-- answers -----------------------------------------------------------------------------------------

abbrev pub told_of : Call → List ℕ → Option Message
told_of call payload = if is_send call then Some (message_of call payload) else None

-- the oldest sender of a wait that is admitted
abbrev pub admitted_process : Option ℕ → List (Option Sender) → Option ℕ
admitted_process None ss = None
admitted_process (Some w) ss = option_map (λ (x : Sender). x.process) (oldest ss)

-- the process whose wait a reply answers
abbrev pub answers : Reply → List (Option Sender) → List (Option ℕ) → Option ℕ
answers (Handed w) ss rs = oldest rs
answers (Got m a n) ss rs = admitted_process a ss
answers reply ss rs = None

abbrev pub after_answer : ℕ → Call → List ℕ → Reply → List (Option Sender) → List (Option ℕ) → ℕ →
    Option (Option (Option Message)) → Option (Option (Option Message))
after_answer p call payload (Collected b) ss rs k before = if p == k then None else before
after_answer p call payload reply ss rs k before = if is_place k (answers reply ss rs)
    then Some (Some (told_of call payload)) else before

abbrev pub called : Past → ℕ → Call → ℕ
called past p call = unwrap_or (called_queue past p call) 0

pub answered-below : (past : Past) (k b : ℕ) → answered_by past k ≡ Some b → b < length past
answered-below [] k b e = absurd (cc)
answered-below (r ∷ past) k b e = split (r.entry.process == k)
    (λ t. let bad : None ≡ Some b = rw t at e in absurd (cc))
    (λ f. split (names_wait r.entry.reply (open_wait past k))
    (λ n. let is : Some (length past) ≡ Some b = rw (f, n) at e in let same : length past ≡
    b = cc in omega (arith, same))
    (λ n. let is : answered_by past k ≡ Some b = rw (f, n) at e in let lt = answered-below past k b
    is in omega (arith, lt)))

pub answer-older : (past : Past) (r : Record) (k : ℕ) →
    option_map (at told (r ∷ past)) (answered_by past k) ≡ answer past k
answer-older past r k = grind (arith, at-older, answered-below)

-- a wait is served if its process is
named-by : (past : Past) (reply : Reply) (w p k : ℕ) → named_wait reply ≡ Some w →
    open_wait past p ≡ Some w → names_wait reply (open_wait past k) ≡ (p == k)
named-by past reply w p k named opens = grind (arith, eqb-true, eq-eqb, eqb-false, same-waiter)

author-of : (past : Past) (w p : ℕ) → open_wait past p ≡ Some w → at author past w ≡ Some p
author-of past w p opens = open_wait-process past p w opens

pub sender-process : (past : Past) (w : ℕ) →
    option_map (λ (x : Sender). x.process) (at sender past w) ≡ at author past w
sender-process past w = grind arith

names-handed : (past : Past) → Legal past → (p : ℕ) (call : Call) (w : ℕ) (k : ℕ) →
    Says past p call (Handed w) → names_wait (Handed w) (open_wait past k) ≡
    is_place k (oldest (receivers past (called past p call)))
names-handed past legal p call w k says =
    let hands = handed-all past p call w says in
    let same : called past p call ≡ hands.queue = ap (λ (o : Option ℕ). unwrap_or o 0) hands.on in
    let waits = waiter past legal Receive hands.queue w
    (least-in (waiting_receives past hands.queue) w hands.first) in
    grind (arith, nat_tests, oldest, least-oldest, falls-receivers, author-of, named-by)

none-named : (reply : Reply) (o : Option ℕ) → named_wait reply ≡ None → names_wait reply o ≡ false
none-named reply o e = grind arith

names-got : (past : Past) → Legal past → (p : ℕ) (call : Call) (m : ℕ) (a n : Option ℕ) (k : ℕ) →
    Says past p call (Got m a n) → names_wait (Got m a n) (open_wait past k) ≡
    is_place k (admitted_process a (senders past (called past p call)))
names-got past legal p call m None n k says = none-named (Got m None n) (open_wait past k) refl
names-got past legal p call m (Some w) n k says =
    let got = got-all past p call m (Some w) n says in
    let same : called past p call ≡ got.queue = ap (λ (o : Option ℕ). unwrap_or o 0) got.on in
    let first : least (waiting_sends past got.queue) ≡ Some w = sym got.admitted in
    let waits = waiter past legal Send got.queue w (least-in (waiting_sends past got.queue) w first)
    in
    let last : option_map (λ (x : Sender). x.process) (oldest (senders past got.queue)) ≡
    Some waits.0 =
    ap (λ (o : Option Sender). option_map (λ (x : Sender). x.process) o)
    (sym (least-oldest (at sender past) (waiting_sends past got.queue) w
    (falls-senders past got.queue) first))
    ∙ sender-process past w ∙ author-of past w waits.0 waits.1
    in
    rw (same, last) (named-by past (Got m (Some w) n) w waits.0 k refl waits.1)

answer-if : (past : Past) (p : ℕ) (call : Call) (reply : Reply) (payload : List ℕ) (k : ℕ)
    (b : Bool) → open_wait past p ≡ None → names_wait reply (open_wait past k) ≡ b →
    answer (rec p call reply payload ∷ past) k ≡
    (if b then Some (Some (told_of call payload)) else answer past k)
answer-if past p call reply payload k true free names =
    grind (arith, rec, answered_by-step, at-newest)
answer-if past p call reply payload k false free names =
    let r = rec p call reply payload in
    let is : answered_by (r ∷ past) k ≡ answered_by past k = answered_by-step past r free k ∙
    rw names refl in
    rw is (answer-older past r k)

abbrev pub is_collected : Reply → Bool
is_collected (Collected b) = true
is_collected _ = false

pub answer-step : (past : Past) → Legal past →
    (p : ℕ) (call : Call) (reply : Reply) (payload : List ℕ) (k : ℕ) → Says past p call reply →
    (is_collected reply ≡ false → open_wait past p ≡ None) →
    answer (rec p call reply payload ∷ past) k ≡ after_answer p call payload reply
    (senders past (called past p call)) (receivers past (called past p call)) k (answer past k)
answer-step past legal p call reply payload k says free = grind (
  arith,
  answer-if,
  names-handed,
  names-got,
  none-named,
  rec,
  answer-older,
)
