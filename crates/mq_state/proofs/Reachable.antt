-- What a reply hands out and admits can be read before its entry, and everything that is needed can
-- be read after it.
use Rattle.std.proofs.Common.{◌≡◌, ◌≢◌, ◌≤◌, ◌+◌, arith, true, false, length, ℕ, List, [], ◌∷◌, Option, Some, None, refl, sym, ap, ◌∙◌, subst}
use Rattle.mq_model.specs.Record.{Record, Past, record_at, first}
use Rattle.mq_laws.specs.Needed.{IsNeeded, home, GoesTo}
use Rattle.mq_laws.proofs.Needing.{enough-forget}
use Rattle.mq_state.specs.Tables.{entry_queue}
use Rattle.mq_state.specs.Queues.{queue_in, QueuesMirror}
use Rattle.mq_state.specs.QueueShown.{QueueShown}
use Rattle.mq_state.specs.declared.tables.Tables.{Tables}
use Rattle.mq_state.proofs.QueuesKeep.{alive-line}
use Rattle.mq_state.proofs.Moving.{rec, EntryOn, entry-on}
use Rattle.mq_model.specs.Descriptors.{alive}
use Rattle.mq_model.specs.Messages.{is_in, is_send, is_receive, blocked_sends, present, admits, waiting_sends, least}
use Rattle.mq_model.specs.Legality.{Legal, IsLegalNext, reply_to}
use Rattle.mq_model.specs.declared.entries.Call.{Call}
use Rattle.mq_model.specs.declared.entries.Reply.{Reply}
use Rattle.mq_model.specs.declared.entries.Reply.TheVariants.{Opened, Queued, Handed, Waits, Got, Collected, Attrs, Notice, Done, Refused, Withdrawn}
use Rattle.mq_model.proofs.Cases.{Says, reply_says}
use Rattle.mq_model.proofs.LegalReplies.{legal_says, got_says}
use Rattle.mq_model.proofs.Places.{find-in, is_in-filter}
use Rattle.mq_model.proofs.NamedWaits.{least-in}
use Rattle.mq_model.proofs.HeldQueues.{held-alive}
use Rattle.mq_model.specs.declared.bounds.Bounds.{Bounds}
use Rattle.mq_state.specs.Kept.{HasRoomWithin, IsKeptBy}
use Rattle.mq_state.proofs.Bounded.{room-keeps}
use Rattle.mq_model.specs.Waits.{open_wait, answered_by, names_wait}
use Rattle.mq_model.proofs.Waiters.{admits-least}
use Rattle.mq_model.proofs.Presence.{place-is}
use Rattle.mq_model.proofs.Prefixes.{record_at-first, record_at-below}
use Rattle.mq_laws.specs.Laws.{reply_at}
use Rattle.mq_laws.proofs.LegalPlaces.{legal-at}
use Rattle.mq_laws.proofs.SentMessages.{blocked-sent}
use Rattle.mq_state.specs.Buffers.{waiting_call}
use Rattle.mq_state.proofs.Fitting.{answered-at}
use Rattle.mq_laws.proofs.Needs.{present-needed, waiting-needed, handed-needed}
use Rattle.mq_ledger.specs.Ledgers.{Shown, CanRead, CanReadGiven, CanReadAdmitted, IsReadable}

-- the message that a reply hands out
pub given-readable : (s : Shown) → IsReadable s → Legal s.records →
    (p : ℕ) (call : Call) (reply : Reply) → Says s.records p call reply → CanReadGiven s reply
given-readable s reads legal p call (Got m a n) says =
    let got = got_says s.records p call m a n says in
    reads m (present-needed s.records legal got.2.queue m (held-alive s.records legal p got.0 got.2
    got.4) (find-in _ (present s.records got.2.queue) m got.6).0)
given-readable s reads legal p call _ says = tt

pub reply-readable : (s : Shown) → IsReadable s → Legal s.records →
    (p : ℕ) (call : Call) (name : List ℕ) (reply : Reply) → reply ≡ reply_to s.records p call name →
    CanReadGiven s reply
reply-readable s reads legal p call name reply is =
    let P = λ (y : Reply). Says s.records p call y in
    given-readable s reads legal p call reply (subst P (sym is) (reply_says s.records p call name))

-- a receive's queue, and the send that it admits
admitted-queue : (past : Past) → Legal past → (p : ℕ) (call : Call) (m : ℕ) (a n : Option ℕ) →
    Says past p call (Got m a n) → (q : ℕ) × (is_in (alive past) q ≡ true) ×
    (a ≡ least (waiting_sends past q))
admitted-queue past legal p call m a n says = grind (arith, held-alive)

-- the send that a reply admits
pub admitted-readable : (s : Shown) → IsReadable s → Legal s.records → (r : Record) →
    IsLegalNext s.records r → CanReadAdmitted s (admits r.entry.reply)
admitted-readable s reads legal r next = by r.entry.reply (legal_says s.records r next)
  where
    one : (a : Option ℕ) (q : ℕ) → is_in (alive s.records) q ≡ true →
        a ≡ least (waiting_sends s.records q) → CanReadAdmitted s a
    one None q exists e = tt
    one (Some w) q exists e = reads w (waiting-needed s.records legal q w exists
        (least-in (waiting_sends s.records q) w (sym e)))

    by : (reply : Reply) → Says s.records r.entry.process r.entry.call reply →
        CanReadAdmitted s (admits reply)
    by (Got m a n) says = let x = admitted-queue s.records legal r.entry.process r.entry.call m a n
        says in one a x.0 x.1 x.2
    by (Opened d new) says = tt
    by (Queued n) says = tt
    by (Handed w) says = tt
    by Waits says = tt
    by (Collected b) says = tt
    by (Withdrawn b) says = tt
    by (Attrs x) says = tt
    by (Notice v) says = tt
    by Done says = tt
    by (Refused f) says = tt

-- the room that bounds ask for is there after one more record
pub room-stays : (bounds : Option Bounds) (j j' : Shown) (r : Record) →
    (bounds ≢ None → j.stored ≡ true) → HasRoomWithin bounds j → j'.records ≡ r ∷ j.records →
    j.entry_room ≤ j'.entry_room + 1 →
    (j.stored ≡ true → j.byte_room ≤ j'.byte_room + length r.payload) → HasRoomWithin bounds j'
room-stays bounds j j' r stored room records entries bytes = grind (arith, room-keeps)

-- the same room, shown by another
pub room-same : (bounds : Option Bounds) (j j' : Shown) → j'.records ≡ j.records →
    j'.entry_room ≡ j.entry_room → j'.byte_room ≡ j.byte_room → HasRoomWithin bounds j →
    HasRoomWithin bounds j'
room-same bounds j j' records entries bytes room = grind arith

one-kind : (call : Call) → is_send call ≡ true → is_receive call ≡ true → ⊥
one-kind call s r = grind arith

-- what answers a waiting receive hands it a message
handed-is : (past : Past) → Legal past → (p w b : ℕ) → open_wait past p ≡ Some w →
    answered_by past p ≡ Some b → (r : Record) → record_at past w ≡ Some r →
    is_receive r.entry.call ≡ true → (v : ℕ) × (reply_at past b ≡ Some (Handed v))
handed-is past legal p w b open_at answered r at receives =
    let x = answered-at past p w b open_at answered in
    let y = legal-at past legal b x.0 x.1 in
    let before : record_at (first b past) w ≡ Some r = grind (
      arith,
      record_at-first past b w,
      record_at-below past b x.0,
      x.1,
      x.3,
      at,
    ) in
    let z = by x.0.entry.process x.0.entry.call before x.0.entry.reply
    (legal_says (first b past) x.0 y.next) x.2 in
    (z.0, rw x.1 (ap Some z.1))
  where
    by : (k : ℕ) (call : Call) → record_at (first b past) w ≡ Some r → (reply : Reply) →
        Says (first b past) k call reply → names_wait reply (Some w) ≡ true →
        (v : ℕ) × (reply ≡ Handed v)
    by k call before (Handed v) says named = (v, refl)
    by k call before (Got m a n) says named =
        let l = admits-least (first b past) k call m a n says in
        let is : a ≡ Some w = place-is a w named in
        let inside = least-in (waiting_sends (first b past) l.0) w (sym l.1 ∙ is) in
        let sent = blocked-sent (first b past) l.0 w
        (is_in-filter _ (blocked_sends (first b past) l.0) w inside).0 in
        let same : Some sent.r ≡ Some r = sym sent.at ∙ before in let one : sent.r ≡ r = cc in
        absurd (one-kind r.entry.call (rw one at sent.send) receives)
    by k call before (Opened d new) says named = absurd (cc)
    by k call before (Queued n) says named = absurd (cc)
    by k call before Waits says named = absurd (cc)
    by k call before (Collected c) says named = absurd (cc)
    by k call before (Withdrawn c) says named = absurd (cc)
    by k call before (Attrs x) says named = absurd (cc)
    by k call before (Notice v) says named = absurd (cc)
    by k call before Done says named = absurd (cc)
    by k call before (Refused f) says named = absurd (cc)

-- the message that a collect returns can be read
pub collect-readable : (s : Shown) → IsReadable s → Legal s.records → (p b : ℕ) →
    answered_by s.records p ≡ Some b → is_receive (waiting_call s.records p) ≡ true → CanRead s b
collect-readable s reads legal p b answered receives = grind (arith, handed-is, handed-needed)

-- of no record is anything needed
pub none-needed : (k : ℕ) → IsNeeded [] k → ⊥
none-needed k needed = let bad : false ≡ true = needed.kept in cc

-- the same records, with as much room at least, of which what is needed can be read
pub kept-again : (j j' : Shown) (t : Tables) → IsKeptBy j t → j'.records ≡ j.records →
    j.entry_room ≤ j'.entry_room → j.byte_room ≤ j'.byte_room → j'.stored ≡ j.stored →
    IsReadable j' → IsKeptBy j' t
kept-again j j' t kept records entries bytes stored reads = grind arith

-- the same, of which as much can be read
pub kept-roomier : (j j' : Shown) (t : Tables) → IsKeptBy j t → j'.records ≡ j.records →
    j.entry_room ≤ j'.entry_room → j.byte_room ≤ j'.byte_room → j'.stored ≡ j.stored →
    ((k : ℕ) → CanRead j k → CanRead j' k) → IsKeptBy j' t
kept-roomier j j' t kept records entries bytes stored keeps = kept-again j j' t kept records entries
    bytes stored (λ k needed. keeps k (kept.readable k (rw records at needed)))

-- a queue whose line is not there exists no longer
pub gone-line : (past : Past) (queues : List QueueShown) → QueuesMirror past queues → (q : ℕ) →
    queue_in queues q ≡ None → is_in (alive past) q ≡ false
gone-line past queues mirror q none = grind (arith, alive-line)

-- what is lost with such a queue is forgotten
pub kept-forgotten : (j j' : Shown) (t : Tables) (q : ℕ) → IsKeptBy j t →
    queue_in t.queues.items q ≡ None → j'.records ≡ j.records → j.entry_room ≤ j'.entry_room →
    j'.byte_room ≡ j.byte_room → j'.stored ≡ j.stored →
    ((k : ℕ) → home j.records k ≢ Some q → CanRead j k → CanRead j' k) → IsKeptBy j' t
kept-forgotten j j' t q kept none records entries bytes stored keeps =
    grind (arith, kept-again, enough-forget, gone-line)

-- the queue that a send, or a call that waits, is made on
pub goes-to : (past : Past) (p : ℕ) (call : Call) (reply : Reply) (payload : List ℕ) (q : ℕ) →
    q ≡ entry_queue past p call payload → IsLegalNext past (rec p call reply payload) →
    GoesTo past (rec p call reply payload) q
goes-to past p call reply payload q is next = grind (arith, EntryOn, entry-on, rec)
