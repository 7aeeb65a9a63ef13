-- After each entry there is room for the notice of each registration.
use Rattle.std.proofs.Common.{◌≡◌, ◌≢◌, ℕ, ◌+◌, ◌<◌, ◌≤◌, Bool, true, false, List, [], ◌∷◌, ◌==◌, length, map, cond, Option, Some, None, is_some, refl, arith, eq-eqb, eqb-true}
use Rattle.std.proofs.lemmas.List.{length-map}
use Rattle.std.proofs.lemmas.List.Sums.{sum_by-cons, sum_by_push, count_by-le-length}
use Rattle.mq_model.specs.Record.{Past}
use Rattle.mq_model.specs.Threads.{owner_of, shares}
use Rattle.mq_model.specs.Notices.{registration_of, notified, only_if, or_else, unless, ends}
use Rattle.mq_model.specs.Legality.{Legal}
use Rattle.mq_model.specs.declared.owners.Owner.{Owner}
use Rattle.mq_model.specs.declared.callers.Caller.{Caller}
use Rattle.mq_model.specs.declared.entries.Entry.{Entry}
use Rattle.mq_model.specs.declared.entries.Attr.{Attr}
use Rattle.mq_model.specs.declared.entries.Registration.{Registration}
use Rattle.mq_model.specs.declared.entries.Call.{Call}
use Rattle.mq_model.specs.declared.entries.Reply.{Reply}
use Rattle.mq_model.specs.declared.entries.Reply.TheVariants.{Queued, Got, Done}
use Rattle.mq_model.proofs.Places.{split}
use Rattle.mq_model.proofs.NoticeSteps.{made-of}
use Rattle.mq_slots.specs.Held.{Held}
use Rattle.mq_state.specs.declared.moves.LineMove.{LineMove}
use Rattle.mq_state.specs.declared.moves.Moves.{Moves}
use Rattle.mq_state.specs.QueueShown.{QueueShown}
use Rattle.mq_state.specs.InboxShown.{InboxShown}
use Rattle.mq_state.specs.Inboxes.{room_in}
use Rattle.mq_model.specs.ErrorOrder.{is_of}
use Rattle.mq_state.specs.WaitCounts.{waits_noted}
use Rattle.mq_state.specs.Queues.{queue_in, registration_in, registrations_in, changed, without_queue, reregistered, renewed, noted_queues, QueuesMirror}
use Rattle.mq_state.specs.Tables.{HasNoticeRoom, HasRoomToRegister, notices_brought, with_fresh}
use Rattle.mq_state.proofs.Moving.{EntryOn, notifies-alive, notifies-registered}
use Rattle.mq_state.proofs.Reading.{registration-read}
use Rattle.mq_state.proofs.QueueLines.{mapped}

abbrev one_if : Bool → ℕ
one_if b = cond b 1 0

registrations-cons : (x : QueueShown) (queues : List QueueShown) (p : ℕ) →
    registrations_in (x ∷ queues) p ≡ one_if (is_of p x.registration) + registrations_in queues p
unfolding registrations_in
registrations-cons x queues p = sum_by-cons (λ (y : QueueShown). one_if (is_of p y.registration)) x
    queues

pub registrations-none : (p : ℕ) → registrations_in [] p ≡ 0
unfolding registrations_in
registrations-none p = refl

few : (queues : List QueueShown) (p : ℕ) → registrations_in queues p ≤ length queues
unfolding registrations_in
few queues p = count_by-le-length (λ (y : QueueShown). is_of p y.registration) queues

-- a queue with a registration counts for its process
pub registered-counts : (queues : List QueueShown) (q : ℕ) (n : Registration) →
    registration_in queues q ≡ Some n → 0 < registrations_in queues n.process
unfolding registration_in queue_in
registered-counts [] q n e = absurd (cc)
registered-counts (x ∷ queues) q n e = grind (
  arith,
  eq-eqb,
  registrations-cons,
  registered-counts queues q n,
)

-- one registration after an entry -----------------------------------------------------------------

-- the entry makes no registration of caller p's process
abbrev MakesNone : ℕ → Entry → ℕ → Type 0
MakesNone here e p = (n : Registration) → registration_of here e.process e.call e.reply ≡ Some n →
    shares n.process p ≢ true

-- all registrations after an entry ----------------------------------------------------------------

one-fewer : (o : Option Registration) (on : Bool) (ended : Registration → Bool)
    (before : Option Registration) (p : ℕ) →
    ((n : Registration) → o ≡ Some n → shares n.process p ≢ true) →
    one_if (is_of p (or_else (only_if on o) (unless ended before))) ≤ one_if (is_of p before)
one-fewer None on ended before p none = grind arith
one-fewer (Some m) on ended before p none = let other = none m refl in grind arith

map-fewer : (q here : ℕ) (e : Entry) (queues : List QueueShown) (p : ℕ) → MakesNone here e p →
    registrations_in (map (reregistered q here e) queues) p ≤ registrations_in queues p
map-fewer q here e [] p none = let z = registrations-none p in omega arith
map-fewer q here e (x ∷ queues) p none = let here-fewer =
    one-fewer (registration_of here e.process e.call e.reply) (q == x.place) (ends (q == x.place) e)
    x.registration p none in grind (arith, registrations-cons, map-fewer q here e queues p none)

-- a notified registration ends
map-notified : (q here : ℕ) (e : Entry) (queues : List QueueShown) (n : Registration) (p : ℕ) →
    ((m : Registration) → registration_of here e.process e.call e.reply ≢ Some m) →
    shares n.process p ≡ true → registration_in queues q ≡ Some n →
    notified e.reply ≡ Some n.place →
    registrations_in (map (reregistered q here e) queues) p + 1 ≤ registrations_in queues p
unfolding registration_in queue_in
map-notified q here e [] n p none own stands is = absurd (cc)
map-notified q here e (x ∷ queues) n p none own stands is =
    grind (
      arith,
      split,
      eq-eqb,
      registrations-cons,
      map-fewer q here e queues p,
      map-notified q here e queues n p none own,
    )

registrations-changed : (f : QueueShown → QueueShown) (queues : List QueueShown) (q p : ℕ) →
    ((x : QueueShown) → (f x).registration ≡ x.registration) →
    registrations_in (changed f queues q) p ≡ registrations_in queues p
registrations-changed f [] q p same = refl
registrations-changed f (x ∷ queues) q p same =
    grind (arith, registrations-cons, registrations-changed f queues q p same)

registrations-without : (queues : List QueueShown) (q p : ℕ) →
    registrations_in (without_queue queues q) p ≤ registrations_in queues p
unfolding without_queue
registrations-without [] q p = let z = registrations-none p in omega arith
registrations-without (x ∷ queues) q p = grind (
  arith,
  split,
  registrations-cons,
  registrations-without queues q p,
)

registrations-fresh : (brought : Option Held) (given : Attr) (here : ℕ) (queues : List QueueShown)
    (p : ℕ) → registrations_in (with_fresh brought given here queues) p ≡ registrations_in queues p
unfolding registrations_in
registrations-fresh brought given here queues p = grind (arith, sum_by_push)

-- what is changed in one line leaves the registrations of all
lines-registrations : (q here : ℕ) (e : Entry) (m : LineMove) (queues : List QueueShown) (p : ℕ) →
    registrations_in (map (reregistered q here e) (changed (renewed m) queues q)) p ≡
    registrations_in (map (reregistered q here e) queues) p
lines-registrations q here e m [] p = refl
lines-registrations q here e m (x ∷ queues) p =
    grind (arith, registrations-cons, lines-registrations q here e m queues p)

-- but for the registrations that the entry makes and ends no process has more
noted-fewer : (brought : Option Held) (given : Attr) (owners : List Owner) (here : ℕ) (e : Entry)
    (q : ℕ) (moves : Moves) (queues : List QueueShown) (p : ℕ) →
    registrations_in (with_fresh brought given here (noted_queues owners here e q moves queues)) p ≤
    registrations_in (map (reregistered q here e) queues) p
noted-fewer brought given owners here e q moves queues p = grind (
  arith,
  lines-registrations,
  registrations-fresh,
  registrations-without,
  split,
)

-- there is room after each entry ------------------------------------------------------------------

-- threads of one process have the same room
room-mates : (inboxes : List InboxShown) (a b : ℕ) → owner_of a ≡ owner_of b →
    room_in inboxes a ≡ room_in inboxes b
unfolding room_in
room-mates inboxes a b e = rw e refl

-- the room that a process keeps, if the entry adds notices for the registered process
abbrev KeepsRoom : List QueueShown → List InboxShown → List InboxShown → ℕ → Bool → Type 0
KeepsRoom queues inboxes after q notified = (p : ℕ) →
    room_in inboxes p ≤ room_in after p + notices_brought (registration_in queues q) notified p

-- after an entry that notifies no process, and makes no registration of caller p's process
quiet-room : (here : ℕ) (e : Entry) (queues : List QueueShown) (inboxes after : List InboxShown)
    (q : ℕ) → HasNoticeRoom queues inboxes → KeepsRoom queues inboxes after q false → (p : ℕ) →
    MakesNone here e p →
    registrations_in (map (reregistered q here e) queues) p ≤ room_in after p
quiet-room here e queues inboxes after q has kept p none = grind (arith, map-fewer)

done-room : (past : Past) (p : ℕ) (call : Call) (queues : List QueueShown)
    (inboxes after : List InboxShown) (q : ℕ) → HasNoticeRoom queues inboxes →
    KeepsRoom queues inboxes after q false → HasRoomToRegister queues inboxes p call Done →
    (k : ℕ) →
    registrations_in
    (map (reregistered q (length past) (record { process = p; call = call; reply = Done }))
    queues) k ≤ room_in after k
done-room past p call queues inboxes after q has kept room k = split (shares p k)
    (λ own. let same = room-mates inboxes p k (eqb-true _ _ own) in grind (
      arith,
      quiet-room,
      few,
      length-map,
    ))
    (λ other. grind (arith, quiet-room, made-of))

notified-room : (past : Past) → Legal past → (queues : List QueueShown) → QueuesMirror past queues →
    (p : ℕ) (call : Call) (reply : Reply) (payload : List ℕ) (q : ℕ) →
    EntryOn past p call payload reply q → (inboxes after : List InboxShown) →
    HasNoticeRoom queues inboxes → KeepsRoom queues inboxes after q true → (j : ℕ) →
    notified reply ≡ Some j →
    ((n : Registration) → registration_of (length past) p call reply ≢ Some n) → (k : ℕ) →
    registrations_in
    (map (reregistered q (length past) (record { process = p; call = call; reply = reply }))
    queues) k ≤ room_in after k
notified-room past legal queues m p call reply payload q on inboxes after has kept j is none k =
    grind (
      arith,
      mapped,
      notifies-registered,
      registration-read,
      notifies-alive,
      map-notified,
      map-fewer,
    )

lines-room : (past : Past) → Legal past → (queues : List QueueShown) → QueuesMirror past queues →
    (p : ℕ) (call : Call) (reply : Reply) (payload : List ℕ) (q : ℕ) →
    EntryOn past p call payload reply q → (inboxes after : List InboxShown) →
    HasNoticeRoom queues inboxes → KeepsRoom queues inboxes after q (is_some (notified reply)) →
    HasRoomToRegister queues inboxes p call reply → (k : ℕ) →
    registrations_in
    (map (reregistered q (length past) (record { process = p; call = call; reply = reply }))
    queues) k ≤ room_in after k
lines-room past legal queues m p call (Queued (Some j)) payload q on inboxes after has kept room k =
    notified-room past legal _ m p call (Queued (Some j)) payload q on _ _ has kept j
    refl (λ n e. cc) k
lines-room past legal queues m p call (Got i a (Some j)) payload q on inboxes after has kept room
    k = notified-room past legal _ m p call (Got i a (Some j)) payload q on _ _ has kept j
    refl (λ n e. cc) k
lines-room past legal queues m p call Done payload q on inboxes after has kept room k =
    done-room past p call queues inboxes after q has kept room k
lines-room past legal queues m p call reply payload q on inboxes after has kept room k =
    grind (arith, quiet-room)

-- after an entry the tables have room for the notice of each registration, if there was room for
-- the one that it makes
pub notice-room-keeps : (past : Past) → Legal past → (queues : List QueueShown) →
    QueuesMirror past queues → (p : ℕ) (call : Call) (reply : Reply) (payload : List ℕ) (q : ℕ) →
    EntryOn past p call payload reply q → (inboxes after : List InboxShown) →
    HasNoticeRoom queues inboxes → KeepsRoom queues inboxes after q (is_some (notified reply)) →
    HasRoomToRegister queues inboxes p call reply →
    (brought : Option Held) (given : Attr) (owners : List Owner) (moves : Moves) →
    HasNoticeRoom (with_fresh brought given (length past) (noted_queues owners (length past)
    (record { process = p; call = call; reply = reply }) q moves queues)) after
notice-room-keeps past legal queues m p call reply payload q on inboxes after has kept room brought
    given owners moves k = grind (arith, lines-room, noted-fewer)

-- a registration has room for its notice
pub room-to-notify : (queues : List QueueShown) (inboxes : List InboxShown) →
    HasNoticeRoom queues inboxes → (q : ℕ) (n : Registration) → registration_in queues q ≡ Some n →
    0 < room_in inboxes n.process
room-to-notify queues inboxes has q n stands = grind (arith, registered-counts)

-- after the update of the number of those that wait
pub notice-room-waiting : (moved : Option ℕ) (callers : List Caller) (queues : List QueueShown)
    (inboxes : List InboxShown) → HasNoticeRoom queues inboxes →
    HasNoticeRoom (waits_noted moved callers queues) inboxes
notice-room-waiting moved callers queues inboxes has = grind (arith, registrations-changed)
