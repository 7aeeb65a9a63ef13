-- After calls of first threads alone, each definition gives what it gives for processes with one
-- thread.
use Rattle.std.proofs.Common.{◌≡◌, ℕ, ◌+◌, ◌≤◌, ◌==◌, Bool, ◌&&◌, ◌||◌, not, List, [], ◌∷◌, ◌++◌, drop, length, Option, Some, None, is_some, is_none, if◌then◌else◌, slice_get, refl, ◌∙◌, ap, arith}
use Rattle.std.specs.List.{filter, find, list_any, list_all}
use Rattle.std.specs.Option.{option_map, option_and_then, option_to_list}
use Rattle.std.proofs.lemmas.List.Elements.{All-head, All-tail}
use Rattle.mq_model.specs.Record.{Record, Past, record_at}
use Rattle.mq_model.specs.Names.{attributes, bound_queue}
use Rattle.mq_model.specs.Descriptors.{held, held_after, lowest_free, lowest_held, descriptor_numbers, called_queue, descriptor_of, is_on, is_place, is_held, is_named, alive, created, openers, opened_number, with_holder, Holder}
use Rattle.mq_model.specs.Messages.{is_in, queues, hands_over, handed, is_accepted, is_full, blocks_send, blocks_receive, blocked_sends, blocked_receives, ended_sends, ended_receives, waiting_sends, waiting_receives, entered, if_in, admits, with_place, admitted, taken, present, goes_first, best, least}
use Rattle.mq_model.specs.Notices.{registered, registered_place, registration_after, registration_of, only_if, or_else, unless, ends, notified, removes, closes, notices, notices_given, values_notified, value_notified, value_given, value_of_notify, gives_notice}
use Rattle.mq_model.specs.ErrorOrder.{is_full_with, open_reply, close_reply, send_reply, receive_reply, status_reply, timed_reply, is_of}
use Rattle.mq_model.specs.Legality.{reply_to, reply_to_send, reply_to_receive, reply_to_attributes, reply_to_notify, open_facts, send_facts, receive_facts, status_facts}
use Rattle.mq_laws.specs.Before as one
use Rattle.mq_laws.specs.Sharing.{AreFirst, IsAsBefore}
use Rattle.mq_model.specs.declared.error_order.OpenFacts.{OpenFacts}
use Rattle.mq_model.specs.declared.error_order.SendFacts.{SendFacts}
use Rattle.mq_model.specs.declared.error_order.ReceiveFacts.{ReceiveFacts}
use Rattle.mq_model.specs.declared.error_order.StatusFacts.{StatusFacts}
use Rattle.mq_model.specs.declared.faults.Fault.TheVariants.{Busy, Invalid}
use Rattle.mq_model.specs.declared.entries.Description.{Description}
use Rattle.mq_model.specs.declared.entries.Registration.{Registration}
use Rattle.mq_model.specs.declared.entries.Entry.{Entry}
use Rattle.mq_model.specs.declared.entries.Call.{Call}
use Rattle.mq_model.specs.declared.entries.Call.TheVariants.{MqOpen, MqClose, MqUnlink, MqSend, MqReceive, MqTimedSend, MqTimedReceive, MqGetattr, MqSetattr, MqNotify, NextNotice, Collect, Withdraw}
use Rattle.mq_model.specs.declared.entries.Reply.{Reply}
use Rattle.mq_model.specs.declared.entries.Reply.TheVariants.{Refused, Done, Notice}
use Rattle.mq_model.proofs.Places.{split}
use Rattle.mq_model.proofs.Frames.{filter-same}
use Rattle.mq_model.proofs.Mates.{shares_own}

-- tests that agree find the same
pub find-same : (s t : ℕ → Bool) (xs : List ℕ) → ((x : ℕ) → s x ≡ t x) → find s xs ≡ find t xs
find-same s t [] same = refl
find-same s t (x ∷ xs) same = rw (same x, find-same s t xs same) refl

pub head : (r : Record) (past : Past) → AreFirst (r ∷ past) → r.entry.process ≤ 32
head r past all = All-head (λ (r : Record). r.entry.process ≤ 32) r past all

pub tail : (r : Record) (past : Past) → AreFirst (r ∷ past) → AreFirst past
tail r past all = All-tail (λ (r : Record). r.entry.process ≤ 32) r past all

-- descriptors and queues --------------------------------------------------------------------------

pub held-as : (past : Past) → AreFirst past → (p d : ℕ) → p ≤ 32 → held past p d ≡ one.held past p d
held-as [] all p d few = refl
held-as (r ∷ past) all p d few =
    ap (λ (b : Bool). if b then held_after past r.entry.call r.payload r.entry.reply d
    (held past p d) else held past p d) (shares_own r.entry.process p (head r past all) few)
    ∙ ap (λ (o : Option Description). if r.entry.process == p then held_after past r.entry.call
    r.payload r.entry.reply d o else o) (held-as past (tail r past all) p d few)

free-as : (past : Past) → AreFirst past → (p : ℕ) → p ≤ 32 →
    lowest_free past p ≡ one.lowest_free past p
free-as past all p few = find-same (λ d. is_none (held past p d)) (λ d. is_none (one.held past p d))
    descriptor_numbers (λ d. ap is_none (held-as past all p d few))

held_numbers-as : (past : Past) → AreFirst past → (p : ℕ) → p ≤ 32 →
    lowest_held past p ≡ one.lowest_held past p
held_numbers-as past all p few = find-same (λ d. is_some (held past p d))
    (λ d. is_some (one.held past p d)) descriptor_numbers
    (λ d. ap is_some (held-as past all p d few))

called-as : (past : Past) → AreFirst past → (p : ℕ) (call : Call) → p ≤ 32 →
    called_queue past p call ≡ one.called_queue past p call
called-as past all p call few = by (descriptor_of call)
  where
    by : (o : Option ℕ) → option_map (λ h. h.queue) (option_and_then (held past p) o) ≡
        option_map (λ h. h.queue) (option_and_then (one.held past p) o)
    by None = refl
    by (Some d) = ap (option_map (λ (h : Description). h.queue)) (held-as past all p d few)

pub on-as : (past : Past) → AreFirst past → (e : Entry) → e.process ≤ 32 → (q : ℕ) →
    is_on past e q ≡ one.is_on past e q
on-as past all e few q = ap (is_place q) (called-as past all e.process e.call few)

abbrev holds_at : Past → ℕ → Holder → Bool
holds_at past q x = is_place q (option_map (λ h. h.queue) (held past x.process x.d))

abbrev one_holds_at : Past → ℕ → Holder → Bool
one_holds_at past q x = is_place q (option_map (λ h. h.queue) (one.held past x.process x.d))

any-as : (past : Past) → AreFirst past → (q : ℕ) (more : Past) → AreFirst more →
    list_any (holds_at past q) (openers more) ≡ list_any (one_holds_at past q) (openers more)
any-as past all q [] few = refl
any-as past all q (r ∷ more) few = by (any-as past all q more (tail r more few))
    (opened_number r.entry.call r.entry.reply)
  where
    by : list_any (holds_at past q) (openers more) ≡ list_any (one_holds_at past q) (openers more) →
        (o : Option ℕ) → list_any (holds_at past q) (with_holder r.entry.process o (openers more)) ≡
        list_any (one_holds_at past q) (with_holder r.entry.process o (openers more))
    by rest None = rest
    by rest (Some d) =
        ap (λ (o : Option Description). is_place q (option_map (λ (h : Description). h.queue) o)
        || list_any (holds_at past q) (openers more)) (held-as past all r.entry.process d
        (head r more few))
        ∙ ap (λ (b : Bool). is_place q (option_map (λ (h : Description). h.queue)
        (one.held past r.entry.process d)) || b) rest

alive-as : (past : Past) → AreFirst past → alive past ≡ one.alive past
alive-as past all = filter-same (λ q. is_named past q || is_held past q)
    (λ q. is_named past q || one.is_held past q) (created past)
    (λ q is. ap (λ (b : Bool). is_named past q || b) (any-as past all q past all))

-- messages and waits ------------------------------------------------------------------------------

blocked_sends-as : (past : Past) → AreFirst past → (q : ℕ) →
    blocked_sends past q ≡ one.blocked_sends past q
blocked_sends-as [] all q = refl
blocked_sends-as (r ∷ past) all q =
    ap (λ (b : Bool). if blocks_send r.entry.call r.entry.reply && b then length past ∷
    blocked_sends past q else blocked_sends past q) (on-as past (tail r past all) r.entry
    (head r past all) q)
    ∙ ap (λ (xs : List ℕ). if blocks_send r.entry.call r.entry.reply && one.is_on past r.entry q
    then length past ∷ xs else xs) (blocked_sends-as past (tail r past all) q)

blocked_receives-as : (past : Past) → AreFirst past → (q : ℕ) →
    blocked_receives past q ≡ one.blocked_receives past q
blocked_receives-as [] all q = refl
blocked_receives-as (r ∷ past) all q =
    ap (λ (b : Bool). if blocks_receive r.entry.call r.entry.reply && b then length past ∷
    blocked_receives past q else blocked_receives past q) (on-as past (tail r past all) r.entry
    (head r past all) q)
    ∙ ap (λ (xs : List ℕ). if blocks_receive r.entry.call r.entry.reply && one.is_on past r.entry q
    then length past ∷ xs else xs) (blocked_receives-as past (tail r past all) q)

sends-as : (past : Past) → AreFirst past → (q : ℕ) → waiting_sends past q ≡ one.waiting_sends past q
sends-as past all q = ap (filter (λ (w : ℕ). not (is_in (ended_sends past) w)))
    (blocked_sends-as past all q)

receives-as : (past : Past) → AreFirst past → (q : ℕ) →
    waiting_receives past q ≡ one.waiting_receives past q
receives-as past all q = ap (filter (λ (w : ℕ). not (is_in (ended_receives past) w)))
    (blocked_receives-as past all q)

entered-as : (past : Past) → AreFirst past → (e : Entry) → e.process ≤ 32 → (q : ℕ) →
    entered past e q ≡ one.entered past e q
entered-as past all e few q =
    ap (λ (b : Bool). if queues e.call e.reply && b then Some (length past) else if_in
    (blocked_sends past q) (admits e.reply)) (on-as past all e few q)
    ∙ ap (λ (xs : List ℕ). if queues e.call e.reply && one.is_on past e q then Some (length past)
    else if_in xs (admits e.reply)) (blocked_sends-as past all q)

admitted-as : (past : Past) → AreFirst past → (q : ℕ) → admitted past q ≡ one.admitted past q
admitted-as [] all q = refl
admitted-as (r ∷ past) all q =
    ap (λ (o : Option ℕ). with_place o (admitted past q)) (entered-as past (tail r past all) r.entry
    (head r past all) q)
    ∙ ap (with_place (one.entered past r.entry q)) (admitted-as past (tail r past all) q)

handed-as : (past : Past) → AreFirst past → (q : ℕ) → handed past q ≡ one.handed past q
handed-as [] all q = refl
handed-as (r ∷ past) all q =
    ap (λ (b : Bool). if hands_over r.entry.call r.entry.reply && b then length past ∷
    handed past q else handed past q) (on-as past (tail r past all) r.entry (head r past all) q)
    ∙ ap (λ (xs : List ℕ). if hands_over r.entry.call r.entry.reply && one.is_on past r.entry q then
    length past ∷ xs else xs) (handed-as past (tail r past all) q)

accepted-as : (past : Past) → AreFirst past → (q m : ℕ) →
    is_accepted past q m ≡ one.is_accepted past q m
accepted-as past all q m =
    ap (λ (xs : List ℕ). is_in xs m || is_in (handed past q) m) (admitted-as past all q)
    ∙ ap (λ (xs : List ℕ). is_in (one.admitted past q) m || is_in xs m) (handed-as past all q)

present-as : (past : Past) → AreFirst past → (q : ℕ) → present past q ≡ one.present past q
present-as past all q = ap (filter (λ (m : ℕ). not (is_in (taken past) m))) (admitted-as past all q)

full-as : (past : Past) → AreFirst past → (q : ℕ) → is_full past q ≡ one.is_full past q
full-as past all q = ap (λ (xs : List ℕ). is_full_with (attributes past q) (length xs))
    (present-as past all q)

best-as : (past : Past) → AreFirst past → (q : ℕ) → best past q ≡ one.best past q
best-as past all q = ap (λ (xs : List ℕ). find (λ m. list_all (goes_first past m) xs) xs)
    (present-as past all q)

-- registrations and notices -----------------------------------------------------------------------

made-few : (on : Bool) (here p : ℕ) (call : Call) (reply : Reply) (n : Registration) →
    only_if on (registration_of here p call reply) ≡ Some n → p ≡ n.process
made-few on here p call reply n e = grind arith

unless-some : (ended : Registration → Bool) (o : Option Registration) (n : Registration) →
    unless ended o ≡ Some n → o ≡ Some n
unless-some ended o n e = grind arith

or-else-cases : {C : Type 0} (a b : Option Registration) (n : Registration) → or_else a b ≡ Some n →
    (a ≡ Some n → C) → (b ≡ Some n → C) → C
or-else-cases None b n e here old = old e
or-else-cases (Some m) b n e here old = here e

-- a registration is one of a first thread
registered-few : (past : Past) → AreFirst past → (q : ℕ) (n : Registration) →
    registered past q ≡ Some n → n.process ≤ 32
registered-few [] all q n e = absurd (cc)
registered-few (r ∷ past) all q n e =
    or-else-cases (only_if (is_on past r.entry q) (registration_of (length past) r.entry.process
    r.entry.call r.entry.reply)) (unless (ends (is_on past r.entry q) r.entry)
    (registered past q)) n e
    (λ here. let same : r.entry.process ≡ n.process = made-few (is_on past r.entry q) (length past)
    r.entry.process r.entry.call r.entry.reply n here in let few : r.entry.process ≤ 32 =
    head r past all in rw (← same) few)
    (λ old. registered-few past (tail r past all) q n
    (unless-some (ends (is_on past r.entry q) r.entry) (registered past q) n old))

ends-as : (on : Bool) (e : Entry) (n : Registration) → e.process ≤ 32 → n.process ≤ 32 →
    ends on e n ≡ one.ends on e n
ends-as on e n x y = ap (λ (b : Bool). is_place n.place (notified e.reply) ||
    ((removes e.call e.reply && on || closes e.call e.reply n.d) && b))
    (shares_own e.process n.process x y)

after-as : (on : Bool) (here : ℕ) (e : Entry) (o : Option Registration) → e.process ≤ 32 →
    ((n : Registration) → o ≡ Some n → n.process ≤ 32) →
    registration_after on here e o ≡ one.registration_after on here e o
after-as on here e None few each = refl
after-as on here e (Some n) few each =
    ap (λ (b : Bool). or_else (only_if on (registration_of here e.process e.call e.reply))
    (if b then None else Some n)) (ends-as on e n few (each n refl))

pub registered-as : (past : Past) → AreFirst past → (q : ℕ) →
    registered past q ≡ one.registered past q
registered-as [] all q = refl
registered-as (r ∷ past) all q =
    after-as (is_on past r.entry q) (length past) r.entry (registered past q) (head r past all)
    (λ n is. registered-few past (tail r past all) q n is)
    ∙ ap (λ (b : Bool). one.registration_after b (length past) r.entry (registered past q))
    (on-as past (tail r past all) r.entry (head r past all) q)
    ∙ ap (one.registration_after (one.is_on past r.entry q) (length past) r.entry)
    (registered-as past (tail r past all) q)

place-as : (past : Past) → AreFirst past → (q : ℕ) →
    registered_place past q ≡ one.registered_place past q
place-as past all q = ap (option_map (λ (n : Registration). n.place)) (registered-as past all q)

at-first : (past : Past) → AreFirst past → (k : ℕ) (r : Record) → record_at past k ≡ Some r →
    r.entry.process ≤ 32
at-first [] all k r e = absurd (cc)
at-first (s ∷ past) all k r e = split (k == length past)
    (λ t. let here : Some s ≡ Some r = rw t at e in let same : s ≡ r = cc in
    let few : s.entry.process ≤ 32 = head s past all in rw (← same) few)
    (λ f. let old : record_at past k ≡ Some r = rw f at e in at-first past
    (tail s past all) k r old)

given-as : (past : Past) → AreFirst past → (p : ℕ) → p ≤ 32 →
    notices_given past p ≡ one.notices_given past p
given-as [] all p few = refl
given-as (r ∷ past) all p few =
    ap (λ (b : Bool). if gives_notice r.entry.reply && b then notices_given past p + 1 else
    notices_given past p) (shares_own r.entry.process p (head r past all) few)
    ∙ ap (λ (n : ℕ). if gives_notice r.entry.reply && r.entry.process == p then n + 1 else n)
    (given-as past (tail r past all) p few)

value-as : (past : Past) → AreFirst past → (p : ℕ) → p ≤ 32 → (o : Option ℕ) →
    value_notified past p o ≡ one.value_notified past p o
value-as past all p few None = refl
value-as past all p few (Some k) = by (record_at past k) refl
  where
    by : (o : Option Record) → record_at past k ≡ o → value_given p o ≡ one.value_given p o
    by None is = refl
    by (Some r) is = ap (λ (b : Bool). if b then value_of_notify r.entry.call else None)
        (shares_own r.entry.process p (at-first past all k r is) few)

values-as : (past : Past) → AreFirst past → (p : ℕ) → p ≤ 32 →
    values_notified past p ≡ one.values_notified past p
values-as [] all p few = refl
values-as (r ∷ past) all p few =
    ap (λ (xs : List ℕ). xs ++ option_to_list (value_notified past p (notified r.entry.reply)))
    (values-as past (tail r past all) p few)
    ∙ ap (λ (o : Option ℕ). one.values_notified past p ++ option_to_list o)
    (value-as past (tail r past all) p few (notified r.entry.reply))

notices-as : (past : Past) → AreFirst past → (p : ℕ) → p ≤ 32 → notices past p ≡ one.notices past p
notices-as past all p few = ap (λ (k : ℕ). drop k (values_notified past p))
    (given-as past all p few) ∙ ap (drop (one.notices_given past p)) (values-as past all p few)

-- replies -----------------------------------------------------------------------------------------

of-as : (p : ℕ) → p ≤ 32 → (o : Option Registration) →
    ((n : Registration) → o ≡ Some n → n.process ≤ 32) → is_of p o ≡ one.is_of p o
of-as p few None each = refl
of-as p few (Some n) each = shares_own n.process p (each n refl) few

notify-as : (past : Past) → AreFirst past → (p : ℕ) → p ≤ 32 →
    (o : Option Description) (value : Option ℕ) →
    reply_to_notify past p o value ≡ one.reply_to_notify past p o value
notify-as past all p few None value = refl
notify-as past all p few (Some h) (Some v) =
    ap (λ (o : Option Registration). if is_some o then Refused Busy else Done)
    (registered-as past all h.queue)
notify-as past all p few (Some h) None =
    ap (λ (b : Bool). if b then Done else Refused Invalid) (of-as p few (registered past h.queue)
    (registered-few past all h.queue) ∙ ap (one.is_of p) (registered-as past all h.queue))

open-as : (past : Past) → AreFirst past → (p : ℕ) (name : List ℕ) → p ≤ 32 →
    open_facts past p name ≡ one.open_facts past p name
open-as past all p name few =
    ap (λ (o : Option ℕ). of o (length (alive past))) (free-as past all p few) ∙
    ap (λ (xs : List ℕ). of (one.lowest_free past p) (length xs)) (alive-as past all)
  where
    of : Option ℕ → ℕ → OpenFacts
    of free queues = record {
      bound = is_some (bound_queue past name);
      free = free;
      queues = queues;
    }

abbrev sent : Past → Description → ℕ → Option ℕ → Option ℕ → SendFacts
sent past h count waiting registered = record {
  description = h;
  attributes = attributes past h.queue;
  count = count;
  waiting = waiting;
  registered =
      registered;
}

abbrev got : Past → Description → ℕ → Option ℕ → Option ℕ → Option ℕ → ReceiveFacts
got past h count best waiting registered = record {
  description = h;
  attributes = attributes past h.queue;
  count = count;
  best = best;
  waiting = waiting;
  registered = registered;
}

abbrev status : Past → Description → ℕ → StatusFacts
status past h count = record {
  description = h;
  attributes = attributes past h.queue;
  count = count;
}

sent-as : (past : Past) → AreFirst past → (h : Description) →
    send_facts past h ≡ one.send_facts past h
sent-as past all h =
    ap (λ (xs : List ℕ). sent past h (length xs) (least (waiting_receives past h.queue))
    (registered_place past h.queue)) (present-as past all h.queue)
    ∙ ap (λ (xs : List ℕ). sent past h (length (one.present past h.queue)) (least xs)
    (registered_place past h.queue)) (receives-as past all h.queue)
    ∙ ap (λ (o : Option ℕ). sent past h (length (one.present past h.queue))
    (least (one.waiting_receives past h.queue)) o) (place-as past all h.queue)

got-as : (past : Past) → AreFirst past → (h : Description) →
    receive_facts past h ≡ one.receive_facts past h
got-as past all h =
    ap (λ (xs : List ℕ). got past h (length xs) (best past h.queue)
    (least (waiting_sends past h.queue)) (registered_place past h.queue))
    (present-as past all h.queue)
    ∙ ap (λ (o : Option ℕ). got past h (length (one.present past h.queue)) o
    (least (waiting_sends past h.queue)) (registered_place past h.queue))
    (best-as past all h.queue)
    ∙ ap (λ (xs : List ℕ). got past h (length (one.present past h.queue)) (one.best past h.queue)
    (least xs) (registered_place past h.queue)) (sends-as past all h.queue)
    ∙ ap (λ (o : Option ℕ). got past h (length (one.present past h.queue)) (one.best past h.queue)
    (least (one.waiting_sends past h.queue)) o) (place-as past all h.queue)

status-as : (past : Past) → AreFirst past → (h : Description) →
    status_facts past h ≡ one.status_facts past h
status-as past all h = ap (λ (xs : List ℕ). status past h (length xs)) (present-as past all h.queue)

send-by : (past : Past) → AreFirst past → (o : Option Description) (prio len : ℕ) →
    reply_to_send past o prio len ≡ one.reply_to_send past o prio len
send-by past all None prio len = refl
send-by past all (Some h) prio len = ap (λ (f : SendFacts). send_reply prio len (Some f))
    (sent-as past all h)

receive-by : (past : Past) → AreFirst past → (o : Option Description) (room : ℕ) →
    reply_to_receive past o room ≡ one.reply_to_receive past o room
receive-by past all None room = refl
receive-by past all (Some h) room = ap (λ (f : ReceiveFacts). receive_reply room (Some f))
    (got-as past all h)

attributes-by : (past : Past) → AreFirst past → (o : Option Description) →
    reply_to_attributes past o ≡ one.reply_to_attributes past o
attributes-by past all None = refl
attributes-by past all (Some h) = ap (λ (f : StatusFacts). status_reply (Some f))
    (status-as past all h)

send-as : (past : Past) → AreFirst past → (p d prio len : ℕ) → p ≤ 32 →
    reply_to_send past (held past p d) prio len ≡ one.reply_to_send past
    (one.held past p d) prio len
send-as past all p d prio len few = ap (λ (o : Option Description). reply_to_send past o prio len)
    (held-as past all p d few) ∙ send-by past all (one.held past p d) prio len

receive-as : (past : Past) → AreFirst past → (p d room : ℕ) → p ≤ 32 →
    reply_to_receive past (held past p d) room ≡ one.reply_to_receive past (one.held past p d) room
receive-as past all p d room few = ap (λ (o : Option Description). reply_to_receive past o room)
    (held-as past all p d few) ∙ receive-by past all (one.held past p d) room

attributes-as : (past : Past) → AreFirst past → (p d : ℕ) → p ≤ 32 →
    reply_to_attributes past (held past p d) ≡ one.reply_to_attributes past (one.held past p d)
attributes-as past all p d few = ap (reply_to_attributes past) (held-as past all p d few) ∙
    attributes-by past all (one.held past p d)

pub replies-as : (past : Past) → AreFirst past → (p : ℕ) (call : Call) (name : List ℕ) → p ≤ 32 →
    reply_to past p call name ≡ one.reply_to past p call name
replies-as past all p (MqOpen flags attr) name few = ap (open_reply flags attr)
    (open-as past all p name few)
replies-as past all p (MqClose d) name few = ap close_reply (held-as past all p d few)
replies-as past all p MqUnlink name few = refl
replies-as past all p (MqSend d prio len) name few = send-as past all p d prio len few
replies-as past all p (MqReceive d room) name few = receive-as past all p d room few
replies-as past all p (MqTimedSend d prio len until now) name few = ap (timed_reply until now)
    (send-as past all p d prio len few)
replies-as past all p (MqTimedReceive d room until now) name few = ap (timed_reply until now)
    (receive-as past all p d room few)
replies-as past all p (MqGetattr d) name few = attributes-as past all p d few
replies-as past all p (MqSetattr d nonblock) name few = attributes-as past all p d few
replies-as past all p (MqNotify d value) name few =
    ap (λ (o : Option Description). reply_to_notify past p o value) (held-as past all p d few) ∙
    notify-as past all p few (one.held past p d) value
replies-as past all p NextNotice name few = ap (λ (xs : List ℕ). Notice (slice_get xs 0))
    (notices-as past all p few)
replies-as past all p Collect name few = refl
replies-as past all p (Withdraw now) name few = refl

pub is-as-before : (past : Past) → AreFirst past → IsAsBefore past
is-as-before past all = record {
  descriptors = held-as past all;
  free_numbers = free-as past all;
  held_numbers = held_numbers-as past all;
  existing = alive-as past all;
  accepted = accepted-as past all;
  messages = present-as past all;
  fullness = full-as past all;
  next_message = best-as past all;
  sends = sends-as past all;
  receives = receives-as past all;
  registrations = registered-as past all;
  pending = notices-as past all;
  replies = replies-as past all;
}
