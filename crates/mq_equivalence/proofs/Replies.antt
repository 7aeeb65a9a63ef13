-- After equivalent journals the replies to a call differ in places alone, and the same calls may be
-- made.
use Rattle.std.proofs.Common.{◌≡◌, ℕ, Bool, true, false, ◌&&◌, not, List, length, map, Option, Some, None, is_some, is_none, if◌then◌else◌, refl, sym, ◌∙◌, ap, arith, slice_get}
use Rattle.std.proofs.lemmas.List.{length-map}
use Rattle.std.specs.List.{find}
use Rattle.std.specs.Option.{option_map}
use Rattle.mq_model.specs.Record.{Past}
use Rattle.mq_model.specs.Threads.{shares}
use Rattle.mq_model.specs.Names.{attributes, bound_queue}
use Rattle.mq_model.specs.Descriptors.{alive, descriptor_numbers, held, lowest_free}
use Rattle.mq_model.specs.Messages.{best, is_in, least, present, waiting_receives, waiting_sends}
use Rattle.mq_model.specs.Notices.{registered, registered_place}
use Rattle.mq_model.specs.ErrorOrder.{found_reply, is_of, open_reply, receive_reply, send_reply, timed_reply}
use Rattle.mq_model.specs.Deadlines.{is_over}
use Rattle.mq_model.specs.Waits.{answered_by, open_wait}
use Rattle.mq_model.specs.Legality.{may_call, reply_to, reply_to_attributes, reply_to_notify, reply_to_open, reply_to_receive, reply_to_send}
use Rattle.mq_model.specs.declared.error_order.SendFacts.{SendFacts}
use Rattle.mq_model.specs.declared.error_order.ReceiveFacts.{ReceiveFacts}
use Rattle.mq_model.specs.declared.entries.Attr.{Attr}
use Rattle.mq_model.specs.declared.entries.OpenFlags.{OpenFlags}
use Rattle.mq_model.specs.declared.entries.Deadline.{Deadline}
use Rattle.mq_model.specs.declared.entries.Description.{Description}
use Rattle.mq_model.specs.declared.entries.Registration.{Registration}
use Rattle.mq_model.specs.declared.entries.Call.{Call}
use Rattle.mq_model.specs.declared.entries.Call.TheVariants.{MqOpen, MqClose, MqUnlink, MqSend, MqReceive, MqTimedSend, MqTimedReceive, MqGetattr, MqSetattr, MqNotify, NextNotice, Collect, Withdraw}
use Rattle.mq_model.specs.declared.faults.Fault.TheVariants.{BadDescriptor, Busy, Invalid, NoEntry}
use Rattle.mq_model.specs.declared.entries.Reply.{Reply}
use Rattle.mq_model.specs.declared.entries.Reply.TheVariants.{Notice, Done, Refused}
use Rattle.mq_model.proofs.Best.{best-none}
use Rattle.mq_model.proofs.HeldQueues.{held-alive}
use Rattle.mq_equivalence.specs.Views.{Message, Registered, Sender, at, author, contents, prio_of, registered_as, sender, senders, sent, told}
use Rattle.mq_equivalence.specs.Outline.{unnumbered, outline}
use Rattle.mq_equivalence.proofs.Falling.{any, any-least, any-lined, length-lined}
use Rattle.mq_equivalence.proofs.Effects.{is-best}
use Rattle.mq_equivalence.specs.Structure.{renumbered}
use Rattle.mq_equivalence.proofs.Correspondence.{as-many}
use Rattle.mq_equivalence.proofs.Structure.{falls-alive}
use Rattle.mq_equivalence.specs.Equivalence.{AgreeUnder}
use Rattle.mq_equivalence.proofs.Seen.{any-seen, any-seen_senders, length-seen}
use Rattle.mq_equivalence.proofs.SameKeys.{some-map}

pub shape-if : (b : Bool) (u v u' v' : Reply) → outline u ≡ outline u' → outline v ≡ outline v' →
    outline (if b then u else v) ≡ outline (if b then u' else v')
shape-if b u v u' v' d e = grind arith

-- of a send
pub hidden-same : (n m : Option ℕ) → is_some n ≡ is_some m → unnumbered n ≡ unnumbered m
hidden-same n m e = grind arith

abbrev pub send_with : Description → Attr → ℕ → Option ℕ → Option ℕ → SendFacts
send_with d a c w n = record {
  description = d;
  attributes = a;
  count = c;
  waiting = w;
  registered = n;
}

pub send-shape : (prio len : ℕ) (d : Description) (k : ℕ) (a : Attr) (c : ℕ) (w v n m : Option ℕ) →
    is_some w ≡ is_some v → is_some n ≡ is_some m →
    outline (send_reply prio len
    (Some (send_with (record { queue = k; access = d.access; nonblock = d.nonblock }) a c w n))) ≡
    outline (send_reply prio len (Some (send_with d a c v m)))
send-shape prio len d k a c w v n m e f = grind (arith, shape-if)

pub found-shape : (nonblock : Bool) (b c w v n m : Option ℕ) → is_some b ≡ is_some c →
    is_some w ≡ is_some v → is_some n ≡ is_some m → outline (found_reply nonblock b w n) ≡
    outline (found_reply nonblock c v m)
found-shape nonblock b c w v n m d e f = grind (arith, shape-if)

abbrev pub receive_with : Description → Attr → ℕ → Option ℕ → Option ℕ → Option ℕ → ReceiveFacts
receive_with d a c b w n = record {
  description = d;
  attributes = a;
  count = c;
  best = b;
  waiting = w;
  registered = n;
}

pub receive-shape : (room : ℕ) (d : Description) (q : ℕ) (a : Attr) (c : ℕ)
    (b k w v n m : Option ℕ) → is_some b ≡ is_some k → is_some w ≡ is_some v →
    is_some n ≡ is_some m →
    outline (receive_reply room
    (Some (receive_with (record { queue = q; access = d.access; nonblock = d.nonblock }) a c b w
    n))) ≡ outline (receive_reply room (Some (receive_with d a c k v m)))
receive-shape room d q a c b k w v n m e f g = grind (arith, shape-if, found-shape)

-- with a deadline
timed-flat : (until now : Deadline) (reply : Reply) → outline (timed_reply until now reply) ≡
    timed_reply until now (outline reply)
timed-flat until now reply = grind arith

pub timed-shape : (until now : Deadline) (a b : Reply) → outline a ≡ outline b →
    outline (timed_reply until now a) ≡ outline (timed_reply until now b)
timed-shape until now a b e = timed-flat until now a ∙ ap (timed_reply until now) e ∙
    sym (timed-flat until now b)

-- the facts ---------------------------------------------------------------------------------------

pub best-any : (past : Past) (q : ℕ) → is_some (best past q) ≡ any (present past q)
best-any past q = grind (arith, any, best-none, is-best)

pub any-map : {X Y : Type 0} (f : X → Y) (xs : List X) → any (map f xs) ≡ any xs
any-map f xs = grind arith

none-map : {X Y : Type 0} (f : X → Y) (o : Option X) → is_none (option_map f o) ≡ is_none o
none-map f o = grind arith

none-some : {X : Type 0} (o : Option X) → is_none o ≡ not (is_some o)
none-some _ = refl

pub count-contents : (past : Past) (q : ℕ) → length (present past q) ≡ length (contents past q)
count-contents past q = sym (length-map (present past q) (at sent past)) ∙
    sym (length-lined prio_of (map (at sent past) (present past q)))

pub best-contents : (past : Past) (q : ℕ) → is_some (best past q) ≡ any (contents past q)
best-contents past q = best-any past q ∙ sym (any-map (at sent past) (present past q)) ∙
    sym (any-lined prio_of (map (at sent past) (present past q)))

-- a queue of two equivalent journals, under its two numbers
pub record SameQueue (x y : Past) (q k : ℕ) : Type 0 where
  pub limits : attributes y k ≡ attributes x q
  pub count : length (present y k) ≡ length (present x q)
  pub best : is_some (best y k) ≡ is_some (best x q)
  pub sending : is_some (least (waiting_sends y k)) ≡ is_some (least (waiting_sends x q))
  pub receiving : is_some (least (waiting_receives y k)) ≡ is_some (least (waiting_receives x q))
  pub registration : registered_as y k ≡ registered_as x q

pub registered-some : (x y : Past) (q k : ℕ) → registered_as y k ≡ registered_as x q →
    is_some (registered y k) ≡ is_some (registered x q)
registered-some x y q k e =
    sym (some-map (λ (n : Registration). record { process = n.process; d = n.d; value = n.value })
    (registered y k)) ∙ ap (λ (o : Option Registered). is_some o) e ∙
    some-map (λ (n : Registration). record { process = n.process; d = n.d; value = n.value })
    (registered x q)

pub placed-some : (x y : Past) (q k : ℕ) → registered_as y k ≡ registered_as x q →
    is_some (registered_place y k) ≡ is_some (registered_place x q)
placed-some x y q k e = some-map (λ (n : Registration). n.place) (registered y k) ∙
    registered-some x y q k e ∙ sym (some-map (λ (n : Registration). n.place) (registered x q))

module _ {received : Bool} (to : ℕ → ℕ) (x y : Past) (equivalent : AgreeUnder received to x y) where
  same-queue : (q : ℕ) → is_in (alive x) q ≡ true → SameQueue x y q (to q)
  same-queue q inside = record {
    limits = equivalent.structure.limits q inside;
    count =
        count-contents y (to q) ∙ sym (length-seen received (contents y (to q))) ∙
        ap (λ (cs : List (Option Message)). length cs) (equivalent.messages q inside)
        ∙ length-seen received (contents x q) ∙ sym (count-contents x q);
    best =
        best-contents y (to q) ∙ sym (any-seen received (contents y (to q))) ∙
        ap (λ (cs : List (Option Message)). any cs) (equivalent.messages q inside)
        ∙ any-seen received (contents x q) ∙ sym (best-contents x q);
    sending =
        any-least (at sender y) (waiting_sends y (to q)) ∙
        sym (any-seen_senders received (senders y (to q))) ∙
        ap (λ (ss : List (Option Sender)). any ss) (equivalent.sending q inside)
        ∙ any-seen_senders received (senders x q) ∙
        sym (any-least (at sender x) (waiting_sends x q));
    receiving = any-least (at author y) (waiting_receives y (to q)) ∙
        ap (λ (rs : List (Option ℕ)). any rs) (equivalent.receiving q inside) ∙
        sym (any-least (at author x) (waiting_receives x q));
    registration = equivalent.registrations q inside;
  }

  held-queue : (p d : ℕ) (h : Description) → held x p d ≡ Some h →
      SameQueue x y h.queue (to h.queue)
  held-queue p d h e = same-queue h.queue (held-alive x equivalent.legal.0 p d h e)

  of-send : (p d prio len : ℕ) → outline (reply_to_send y (held y p d) prio len) ≡
      outline (reply_to_send x (held x p d) prio len)
  of-send p d prio len =
      let goes : (o : Option Description) → held x p d ≡ o →
      outline (reply_to_send y (option_map (renumbered to) o) prio len) ≡
      outline (reply_to_send x o prio len) =
      λ (o : Option Description). elim o as (λ o. held x p d ≡ o →
      outline (reply_to_send y (option_map (renumbered to) o) prio len) ≡
      outline (reply_to_send x o prio len)) [
        | None ↦ (λ e. refl)
        | Some h ↦ (λ e.
            let q = held-queue p d h e in
            rw (q.limits, q.count)
            (send-shape prio len h (to h.queue) (attributes x h.queue) (length (present x h.queue))
            (least (waiting_receives y (to h.queue))) (least (waiting_receives x h.queue))
            (registered_place y (to h.queue)) (registered_place x h.queue) q.receiving
            (placed-some x y h.queue (to h.queue) q.registration)))
      ]
      in
      ap (λ (o : Option Description). outline (reply_to_send y o prio len))
      (equivalent.structure.descriptors p d) ∙ goes (held x p d) refl

  of-receive : (p d room : ℕ) → outline (reply_to_receive y (held y p d) room) ≡
      outline (reply_to_receive x (held x p d) room)
  of-receive p d room =
      let goes : (o : Option Description) → held x p d ≡ o →
      outline (reply_to_receive y (option_map (renumbered to) o) room) ≡
      outline (reply_to_receive x o room) =
      λ (o : Option Description). elim o as (λ o. held x p d ≡ o →
      outline (reply_to_receive y (option_map (renumbered to) o) room) ≡
      outline (reply_to_receive x o room)) [
        | None ↦ (λ e. refl)
        | Some h ↦ (λ e.
            let q = held-queue p d h e in
            rw (q.limits, q.count)
            (receive-shape room h (to h.queue) (attributes x h.queue) (length (present x h.queue))
            (best y (to h.queue)) (best x h.queue) (least (waiting_sends y (to h.queue)))
            (least (waiting_sends x h.queue)) (registered_place y (to h.queue))
            (registered_place x h.queue) q.best q.sending (placed-some x y h.queue (to h.queue)
            q.registration)))
      ]
      in
      ap (λ (o : Option Description). outline (reply_to_receive y o room))
      (equivalent.structure.descriptors p d) ∙ goes (held x p d) refl

  of-attributes : (p d : ℕ) → outline (reply_to_attributes y (held y p d)) ≡
      outline (reply_to_attributes x (held x p d))
  of-attributes p d =
      let goes : (o : Option Description) → held x p d ≡ o →
      outline (reply_to_attributes y (option_map (renumbered to) o)) ≡
      outline (reply_to_attributes x o) =
      λ (o : Option Description). elim o as (λ o. held x p d ≡ o →
      outline (reply_to_attributes y (option_map (renumbered to) o)) ≡
      outline (reply_to_attributes x o)) [
        | None ↦ (λ e. refl)
        | Some h ↦ (λ e. let q = held-queue p d h e in rw (q.limits, q.count) refl)
      ]
      in
      ap (λ (o : Option Description). outline (reply_to_attributes y o))
      (equivalent.structure.descriptors p d) ∙ goes (held x p d) refl

  -- opens and unlinks
  some-bound : (name : List ℕ) → is_some (bound_queue y name) ≡ is_some (bound_queue x name)
  some-bound name = ap (λ (o : Option ℕ). is_some o) (equivalent.structure.names name) ∙ some-map to
      (bound_queue x name)

  none-held : (p d : ℕ) → is_none (held y p d) ≡ is_none (held x p d)
  none-held p d = ap (λ (o : Option Description). is_none o)
      (equivalent.structure.descriptors p d) ∙ none-map (renumbered to) (held x p d)

  same-free : (p : ℕ) → lowest_free y p ≡ lowest_free x p
  same-free p = λ i. find (λ d. none-held p d i) descriptor_numbers

  same-count : length (alive y) ≡ length (alive x)
  same-count = as-many to (alive x) (alive y) (falls-alive x) (falls-alive y)
      equivalent.structure.queues

  of-open : (p : ℕ) (flags : OpenFlags) (attr : Option Attr) (name : List ℕ) →
      reply_to_open y p flags attr name ≡ reply_to_open x p flags attr name
  of-open p flags attr name = λ i. open_reply flags attr (record {
    bound = some-bound name i;
    free = same-free p i;
    queues = same-count i;
  })

  -- notifies
  registered-of : (p q k : ℕ) → registered_as y k ≡ registered_as x q →
      is_of p (registered y k) ≡ is_of p (registered x q)
  registered-of p q k e = of-view (registered y k) ∙ ap view e ∙ sym (of-view (registered x q))
    where
      view : Option Registered → Bool
      view None = false
      view (Some n) = shares n.process p

      of-view : (o : Option Registration) →
          is_of p o ≡ view (option_map (λ (n : Registration). record {
            process = n.process;
            d = n.d;
            value = n.value;
          }) o)
      of-view None = refl
      of-view (Some n) = refl

  of-notify : (p d : ℕ) (value : Option ℕ) → outline (reply_to_notify y p (held y p d) value) ≡
      outline (reply_to_notify x p (held x p d) value)
  of-notify p d value =
      let goes : (o : Option Description) → held x p d ≡ o →
      outline (reply_to_notify y p (option_map (renumbered to) o) value) ≡
      outline (reply_to_notify x p o value) =
      λ (o : Option Description). elim o as (λ o. held x p d ≡ o →
      outline (reply_to_notify y p (option_map (renumbered to) o) value) ≡
      outline (reply_to_notify x p o value)) [
        | None ↦ (λ e. refl)
        | Some h ↦ (λ e. let q = held-queue p d h e in by h value q.registration)
      ]
      in
      ap (λ (o : Option Description). outline (reply_to_notify y p o value))
      (equivalent.structure.descriptors p d) ∙ goes (held x p d) refl
    where
      by : (h : Description) (value : Option ℕ) →
          registered_as y (to h.queue) ≡ registered_as x h.queue →
          outline (reply_to_notify y p (Some (renumbered to h)) value) ≡
          outline (reply_to_notify x p (Some h) value)
      by h (Some v) e = λ i. outline (if registered-some x y h.queue (to h.queue) e i then
          Refused Busy else Done)
      by h None e = λ i. outline (if registered-of p h.queue (to h.queue) e i then Done else
          Refused Invalid)

  -- the replies to each call differ in places alone
  pub reply-equivalent : (p : ℕ) (call : Call) (given : List ℕ) →
      outline (reply_to y p call given) ≡ outline (reply_to x p call given)
  reply-equivalent p (MqOpen flags attr) given = ap outline (of-open p flags attr given)
  reply-equivalent p (MqClose d) given =
      ap (λ (b : Bool). outline (if b then Done else Refused BadDescriptor))
      (ap (λ (o : Option Description). is_some o) (equivalent.structure.descriptors p d) ∙
      some-map (renumbered to) (held x p d))
  reply-equivalent p MqUnlink given =
      ap (λ (b : Bool). outline (if b then Done else Refused NoEntry)) (some-bound given)
  reply-equivalent p (MqSend d prio len) given = of-send p d prio len
  reply-equivalent p (MqReceive d room) given = of-receive p d room
  reply-equivalent p (MqTimedSend d prio len until now) given = timed-shape until now _ _
      (of-send p d prio len)
  reply-equivalent p (MqTimedReceive d room until now) given = timed-shape until now _ _
      (of-receive p d room)
  reply-equivalent p (MqGetattr d) given = of-attributes p d
  reply-equivalent p (MqSetattr d nonblock) given = of-attributes p d
  reply-equivalent p (MqNotify d value) given = of-notify p d value
  reply-equivalent p NextNotice given = ap (λ (vs : List ℕ). Notice (slice_get vs 0))
      (equivalent.values p)
  reply-equivalent p Collect given = refl
  reply-equivalent p (Withdraw now) given = refl

  free-equivalent : (p : ℕ) → is_none (open_wait y p) ≡ is_none (open_wait x p)
  free-equivalent p = none-some (open_wait y p) ∙ ap not (equivalent.waits p) ∙
      sym (none-some (open_wait x p))

  answered-equivalent : (p : ℕ) → is_some (answered_by y p) ≡ is_some (answered_by x p)
  answered-equivalent p = sym (some-map (at told y) (answered_by y p)) ∙
      ap (λ (o : Option (Option (Option Message))). is_some o) (equivalent.answered p) ∙
      some-map (at told x) (answered_by x p)

  unanswered-equivalent : (p : ℕ) → is_none (answered_by y p) ≡ is_none (answered_by x p)
  unanswered-equivalent p = none-some (answered_by y p) ∙ ap not (answered-equivalent p) ∙
      sym (none-some (answered_by x p))

  -- and it can be made after both, or after neither
  pub turn-equivalent : (p : ℕ) (call : Call) → may_call y p call ≡ may_call x p call
  turn-equivalent p Collect = answered-equivalent p
  turn-equivalent p (Withdraw now) = λ i. unanswered-equivalent p i &&
      is_over (equivalent.deadlines p i) now
  turn-equivalent p _ = free-equivalent p
