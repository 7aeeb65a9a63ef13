-- A message that was accepted fits the buffers of its queue.
use Rattle.std.proofs.Common.{◌≡◌, ℕ, ◌<◌, ◌≤◌, true, false, List, [], ◌∷◌, length, Option, Some, arith, ◌&&◌, ◌==◌, int_lt, pos, unwrap_or}
use Rattle.mq_model.specs.Record.{Record, Past, record_at, first}
use Rattle.mq_model.specs.Names.{attributes}
use Rattle.mq_model.specs.Descriptors.{called_queue, is_on}
use Rattle.mq_model.specs.Messages.{is_in, is_send, is_receive, blocked_receives, waiting_sends, waiting_receives, least, blocks_receive, blocked_sends}
use Rattle.mq_model.specs.Waits.{open_wait, names_wait, answered_by}
use Rattle.mq_model.specs.Legality.{Legal, IsLegalNext, reply_to, is_payload}
use Rattle.mq_model.specs.declared.entries.Call.{Call}
use Rattle.mq_model.specs.declared.entries.Reply.{Reply}
use Rattle.mq_model.specs.declared.entries.Reply.TheVariants.{Got}
use Rattle.mq_model.proofs.Places.{find-in, is_in-filter, split}
use Rattle.mq_model.proofs.Cases.{Says, reply_says}
use Rattle.mq_model.proofs.LegalReplies.{legal_says}
use Rattle.mq_model.proofs.Presence.{present-admitted}
use Rattle.mq_model.proofs.NamedWaits.{blocked-cases, least-in, newest-receive}
use Rattle.mq_model.specs.Callers.{blocked}
use Rattle.mq_model.specs.declared.callers.WaitKind.{WaitKind}
use Rattle.mq_model.specs.declared.callers.WaitKind.TheVariants.{Receive}
use Rattle.mq_model.proofs.Prefixes.{record_at-below, length-first, record_at-first, first-all}
use Rattle.mq_model.proofs.HeldQueues.{called-alive}
use Rattle.mq_state.specs.Buffers.{message_at, room_of, Fits}
use Rattle.mq_state.proofs.QueuesKeep.{alive-below}
use Rattle.mq_model.proofs.OthersLeave.{open_wait-below}
use Rattle.mq_laws.proofs.SentMessages.{IsSentTo, is_sent, blocked-sent, admitted-sent}
use Rattle.mq_laws.proofs.LegalPlaces.{legal-at, first-older}

-- the message of a send that did not fail is at most as long as the msgsize of its queue
send-fits : (past : Past) (p : ℕ) (call : Call) (reply : Reply) (payload : List ℕ) (q : ℕ) →
    Says past p call reply → is_payload call reply payload ≡ true → is_send call ≡ true →
    is_sent reply ≡ true → called_queue past p call ≡ Some q →
    int_lt (attributes past q).msgsize (pos (length payload)) ≡ false
send-fits past p call reply payload q says paid sends goes on = grind arith

-- a message that was sent to a queue is at most its msgsize long
pub sent-fits : (past : Past) → Legal past → (q m : ℕ) → IsSentTo past q m →
    int_lt (attributes past q).msgsize (pos (length (message_at past m))) ≡ false
sent-fits past legal q m x = let y = legal-at past legal m x.r x.at in
    grind (
      arith,
      x,
      legal_says (first m past) x.r y.next,
      called-alive (first m past) y.before
          x.r.entry.process x.r.entry.call q,
      alive-below,
      record_at-first past m q,
      length-first,
      record_at-below past m x.r,
    )

-- the message that a receive gets fits its buffer
pub received-fits : (past : Past) → Legal past → (p : ℕ) (call : Call) (m : ℕ) (a n : Option ℕ) →
    Says past p call (Got m a n) → is_receive call ≡ true →
    length (message_at past m) ≤ room_of call
received-fits past legal p call m a n says receives = let q =
    unwrap_or (called_queue past p call) 0 in
    grind (
      arith,
      find-in,
      present-admitted past q m,
      sent-fits past legal q m,
      admitted-sent past q m,
    )

pub reply-fits : (past : Past) → Legal past →
    (p : ℕ) (call : Call) (reply : Reply) (given : List ℕ) → reply ≡ reply_to past p call given →
    Fits past reply (room_of call)
reply-fits past legal p call reply given is = let says = reply_says past p call given in
    grind (arith, is, says, received-fits past legal p call)

-- what answers a waiting receive ------------------------------------------------------------------

-- a call blocks on a queue that was created before
pub blocked-on-below : (past : Past) → Legal past → (kind : WaitKind) (q w : ℕ) →
    is_in (blocked past kind q) w ≡ true → q < length past
blocked-on-below [] legal kind q w h = grind arith
blocked-on-below (s ∷ past) legal kind q w h =
    grind (
      arith,
      alive-below,
      called-alive past legal.0 s.entry.process s.entry.call q,
      blocked-cases past s kind q w,
      blocked-on-below past legal.0 kind q w,
    )

blocked-at : (past : Past) (q w : ℕ) → is_in (blocked_receives past q) w ≡ true → (r : Record) →
    record_at past w ≡ Some r →
    (blocks_receive r.entry.call r.entry.reply && is_on (first w past) r.entry q) ≡ true
blocked-at [] q w h r at = absurd (cc)
blocked-at (s ∷ past) q w h r at = split (w == length past)
    (λ t. grind (arith, newest-receive past s q, first-older past s w, first-all past w))
    (λ n. grind (
      arith,
      blocked-cases past s Receive q w,
      record_at-below past w,
      first-older past s w,
      blocked-at past q w,
    ))

-- a receive that blocked on queue q has a buffer as long as its msgsize
blocked-roomy : (past : Past) → Legal past → (q w : ℕ) → is_in (blocked_receives past q) w ≡ true →
    (r : Record) → record_at past w ≡ Some r →
    int_lt (pos (room_of r.entry.call)) (attributes past q).msgsize ≡ false
blocked-roomy past legal q w h r at =
    let y = legal-at past legal w r at in
    let alive = called-alive (first w past) y.before r.entry.process r.entry.call q in
    grind (
      arith,
      legal_says (first w past) r y.next,
      blocked-at past q w h r at,
      alive,
      alive-below
          (first w past) q,
      record_at-first past w q,
      length-first w past,
      record_at-below past w r,
    )

pub answered-at : (past : Past) (p w b : ℕ) → open_wait past p ≡ Some w →
    answered_by past p ≡ Some b → (s : Record) × (record_at past b ≡ Some s) ×
    (names_wait s.entry.reply (Some w) ≡ true) × (w < b)
answered-at [] p w b open_at answered = absurd (cc)
answered-at (s ∷ past) p w b open_at answered = grind (
  arith,
  open_wait-below past p w,
  record_at-below past b,
  answered-at past p w b,
)

-- the entry that names a waiting receive hands it a message that fits
handed-here : (past : Past) → Legal past → (s : Record) → IsLegalNext past s → (w : ℕ) →
    names_wait s.entry.reply (Some w) ≡ true → (r : Record) → record_at past w ≡ Some r →
    is_receive r.entry.call ≡ true → length s.payload ≤ room_of r.entry.call
handed-here past legal s next w named r at receives =
    let q = unwrap_or (called_queue past s.entry.process s.entry.call) 0 in
    let roomy = λ (e : least (waiting_receives past q) ≡ Some w). blocked-roomy past legal q w
    (is_in-filter _ (blocked_receives past q) w (least-in _ w e)).0 r at in
    let sent = λ (e : least (waiting_sends past q) ≡ Some w). blocked-sent past q w
    (is_in-filter _ (blocked_sends past q) w (least-in _ w e)).0 in
    grind (
      arith,
      legal_says past s next,
      roomy,
      sent,
      send-fits past s.entry.process s.entry.call
          s.entry.reply s.payload q,
    )

-- the message that a waiting receive was handed fits its buffer
pub handed-fits : (past : Past) → Legal past → (p w b : ℕ) → open_wait past p ≡ Some w →
    answered_by past p ≡ Some b → (r : Record) → record_at past w ≡ Some r →
    is_receive r.entry.call ≡ true → length (message_at past b) ≤ room_of r.entry.call
handed-fits past legal p w b open_at answered r at receives =
    let x = answered-at past p w b open_at answered in
    let y = legal-at past legal b x.0 x.1 in
    grind (
      arith,
      x,
      handed-here (first b past) y.before x.0 y.next w x.2 r,
      record_at-first past b
          w,
      record_at-below past b x.0,
    )
