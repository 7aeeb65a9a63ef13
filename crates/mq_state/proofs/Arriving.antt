-- The message that an entry takes out of a queue is the one that is received next, and what it lets
-- in was sent after those that are there.
use Rattle.std.proofs.Common.{◌≡◌, ℕ, ◌<◌, true, List, [], ◌∷◌, Some, None, sym, arith, rules}
use Rattle.std.specs.List.{Contains}
use Rattle.mq_model.specs.Record.{Past, first}
use Rattle.mq_model.specs.Messages.{is_in, blocked_sends, waiting_sends, present, priority}
use Rattle.mq_model.specs.Legality.{Legal}
use Rattle.mq_model.specs.declared.entries.Call.{Call}
use Rattle.mq_model.specs.declared.entries.Reply.{Reply}
use Rattle.mq_model.specs.declared.entries.Reply.TheVariants.{Queued, Got}
use Rattle.mq_model.proofs.Places.{is_in-filter}
use Rattle.mq_model.proofs.LegalReplies.{legal_says}
use Rattle.mq_model.proofs.NamedWaits.{least-in}
use Rattle.mq_model.proofs.Presence.{present-admitted, present-below, without-fewer}
use Rattle.mq_laws.proofs.SendingOrder.{accepted-older}
use Rattle.mq_slots.specs.Messages.{without as without_place}
use Rattle.mq_state.specs.Moves.{line_move}
use Rattle.mq_state.specs.QueueShown.{QueueShown}
use Rattle.mq_state.specs.Queues.{slots_of, AllowsIn, QueuesMirror}
use Rattle.mq_state.proofs.QueueLines.{queue_in-place}
use Rattle.mq_state.proofs.Moving.{EntryOn}
use Rattle.mq_state.proofs.QueuesKeep.{length-slots_of, slots_of-without}
use Rattle.mq_state.proofs.Reading.{best-slots}
use Rattle.mq_laws.proofs.SentMessages.{blocked-sent}
use Rattle.mq_laws.proofs.LegalPlaces.{legal-at}

-- a send that blocked has a priority
blocked-low : (past : Past) → Legal past → (q w : ℕ) → is_in (blocked_sends past q) w ≡ true →
    priority past w < 32768
blocked-low past legal q w h = let x = blocked-sent past q w h in
    grind (arith, x, legal_says (first w past) x.r (legal-at past legal w x.r x.at).next)

slot-in : (past : Past) (xs : List ℕ) (m : ℕ × ℕ) → Contains (slots_of past xs) m →
    is_in xs m.1 ≡ true
slot-in past [] m there = grind arith
slot-in past (x ∷ xs) m there = grind (arith, slot-in past xs m)

-- what is present was sent before the sends that wait
waiting-newest : (past : Past) → Legal past → (q w m : ℕ) → is_in (waiting_sends past q) w ≡ true →
    is_in (present past q) m ≡ true → m < w
waiting-newest past legal q w m waits there = search (rules, accepted-older, present-admitted)

-- what an entry takes out of its queue is the message that is received next, and what it lets in
-- may come into the line
pub line-allows : (past : Past) → Legal past → (queues : List QueueShown) →
    QueuesMirror past queues → (p : ℕ) (call : Call) (reply : Reply) (payload : List ℕ) (q : ℕ) →
    EntryOn past p call payload reply q → AllowsIn queues q (line_move past call reply)
line-allows past legal queues m p call (Queued n) payload q on x found =
    let slots : x.slots ≡ slots_of past (present past q) = grind (
      arith,
      (m.lines q x found).slots,
      queue_in-place queues q x found,
    ) in
    let newest = λ (s : ℕ × ℕ) (there : Contains x.slots s). present-below past q s.1
    (slot-in past (present past q) s (rw (← slots) there)) in
    grind (
      arith,
      slots,
      length-slots_of,
      m.lines q x found,
      queue_in-place queues q x found,
      newest,
    )
line-allows past legal queues m p call (Got k None n) payload q on x found =
    grind (arith, best-slots, m.lines q x found, queue_in-place queues q x found)
line-allows past legal queues m p call (Got k (Some w) n) payload q on x found =
    let slots : x.slots ≡ slots_of past (present past q) = grind (
      arith,
      (m.lines q x found).slots,
      queue_in-place queues q x found,
    ) in
    let waits = least-in (waiting_sends past q) w (sym on.facts.admitted) in
    let newest = λ (s : ℕ × ℕ) (there : Contains (without_place k x.slots) s).
    waiting-newest past legal q w s.1 waits (is_in-filter _ (present past q) _
    (slot-in past _ s (rw (slots, slots_of-without past k (present past q)) at there))).0 in
    grind (
      arith,
      best-slots,
      slots,
      slots_of-without,
      waits,
      blocked-low past legal q w,
      is_in-filter,
      newest,
      without-fewer k (present past q),
      length-slots_of,
      (m.lines q x found).few,
    )
line-allows past legal queues m p call reply payload q on x found = grind arith
