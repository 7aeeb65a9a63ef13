-- After two journals that agree on everything at a queue, the replies to a call on it differ only
-- in sequence numbers.
use Rattle.std.proofs.Common.{◌≡◌, ℕ, ◌==◌, Bool, true, false, List, length, Option, Some, None, is_some, if◌then◌else◌, refl, sym, ◌∙◌, ap, arith, slice_get}
use Rattle.std.specs.Option.{option_map, option_and_then}
use Rattle.mq_model.specs.Record.{Past}
use Rattle.mq_model.specs.Threads.{shares}
use Rattle.mq_model.specs.Names.{attributes}
use Rattle.mq_model.specs.Descriptors.{called_queue, descriptor_of, held}
use Rattle.mq_model.specs.Messages.{best, least, present, waiting_receives, waiting_sends}
use Rattle.mq_model.specs.Notices.{notices, registered, registered_place}
use Rattle.mq_model.specs.ErrorOrder.{close_reply, is_full_with, is_of, receive_reply, send_reply}
use Rattle.mq_model.specs.Legality.{reply_to, reply_to_attributes, reply_to_notify, reply_to_receive, reply_to_send}
use Rattle.mq_model.specs.declared.entries.Attr.{Attr}
use Rattle.mq_model.specs.declared.entries.Description.{Description}
use Rattle.mq_model.specs.declared.entries.Registration.{Registration}
use Rattle.mq_model.specs.declared.entries.Call.{Call}
use Rattle.mq_model.specs.declared.entries.Call.TheVariants.{MqClose, MqSend, MqReceive, MqTimedSend, MqTimedReceive, MqGetattr, MqSetattr, MqNotify, NextNotice, Collect}
use Rattle.mq_model.specs.declared.faults.Fault.TheVariants.{Busy, Invalid}
use Rattle.mq_model.specs.declared.entries.Reply.TheVariants.{Notice, Done, Refused}
use Rattle.mq_equivalence.specs.Views.{Message, Registered, Sender, at, author, contents, receivers, registered_as, sender, senders}
use Rattle.mq_equivalence.specs.Outline.{outline}
use Rattle.mq_equivalence.proofs.Falling.{any, any-least}
use Rattle.mq_equivalence.proofs.Replies.{registered-some}
use Rattle.mq_equivalence.proofs.Replies.{SameQueue, best-contents, count-contents, found-shape, hidden-same, placed-some, receive-shape, receive_with, send-shape, send_with, shape-if, timed-shape}
use Rattle.mq_commutation.specs.Commuting.{is_covered}

-- a receive when no send waits
pub receive-any : (room : ℕ) (d : Description) (a : Attr) (c j : ℕ) (b k n m : Option ℕ) →
    is_some b ≡ is_some k → outline (receive_reply room (Some (receive_with d a c b None n))) ≡
    outline (receive_reply room (Some (receive_with d a j k None m)))
receive-any room d a c j b k n m e = grind (arith, shape-if, found-shape)

-- a send when no receive waits, to a queue that is not full
pub send-any : (prio len : ℕ) (d : Description) (a : Attr) (c j : ℕ) (n m : Option ℕ) →
    is_full_with a c ≡ false → is_full_with a j ≡ false → is_some (if c == 0 then n else None) ≡
    is_some (if j == 0 then m else None) →
    outline (send_reply prio len (Some (send_with d a c None n))) ≡
    outline (send_reply prio len (Some (send_with d a j None m)))
send-any prio len d a c j n m e f g = grind (arith, shape-if, hidden-same)

-- everything at a queue is the same
pub record SameAt (x y : Past) (k : ℕ) : Type 0 where
  pub limits : attributes y k ≡ attributes x k
  pub messages : contents y k ≡ contents x k
  pub sending : senders y k ≡ senders x k
  pub receiving : receivers y k ≡ receivers x k
  pub registration : registered_as y k ≡ registered_as x k

pub same-back : (x y : Past) (k : ℕ) → SameAt x y k → SameAt y x k
same-back x y k s = record {
  limits = sym s.limits;
  messages = sym s.messages;
  sending = sym s.sending;
  receiving = sym s.receiving;
  registration = sym s.registration;
}

pub same-on : (x y z : Past) (k : ℕ) → SameAt x y k → SameAt y z k → SameAt x z k
same-on x y z k s t = record {
  limits = t.limits ∙ s.limits;
  messages = t.messages ∙ s.messages;
  sending = t.sending ∙ s.sending;
  receiving = t.receiving ∙ s.receiving;
  registration =
      t.registration ∙ s.registration;
}

same-queue : (x y : Past) (k : ℕ) → SameAt x y k → SameQueue x y k k
same-queue x y k s = record {
  limits = s.limits;
  count = count-contents y k ∙ ap (λ (cs : List (Option Message)). length cs) s.messages ∙
      sym (count-contents x k);
  best = best-contents y k ∙ ap (λ (cs : List (Option Message)). any cs) s.messages ∙
      sym (best-contents x k);
  sending = any-least (at sender y) (waiting_sends y k) ∙ ap (λ (ss : List (Option Sender)). any ss)
      s.sending ∙ sym (any-least (at sender x) (waiting_sends x k));
  receiving = any-least (at author y) (waiting_receives y k) ∙ ap (λ (rs : List (Option ℕ)). any rs)
      s.receiving ∙ sym (any-least (at author x) (waiting_receives x k));
  registration = s.registration;
}

module _ (x y : Past) (p : ℕ) (same : (d : ℕ) → held y p d ≡ held x p d) where
  pub called-same : (call : Call) → called_queue y p call ≡ called_queue x p call
  called-same call = by (descriptor_of call)
    where
      by : (o : Option ℕ) →
          option_map (λ (h : Description). h.queue) (option_and_then (held y p) o) ≡
          option_map (λ (h : Description). h.queue) (option_and_then (held x p) o)
      by None = refl
      by (Some d) = ap (option_map (λ (h : Description). h.queue)) (same d)

  abbrev At : ℕ → Type 0
  At d = (k : ℕ) → option_map (λ (h : Description). h.queue) (held x p d) ≡ Some k → SameAt x y k

  at-held : (d : ℕ) → At d → (h : Description) → held x p d ≡ Some h → SameQueue x y h.queue h.queue
  at-held d at h e = same-queue x y h.queue
      (at h.queue (ap (option_map (λ (h : Description). h.queue)) e))

  of-send : (d prio len : ℕ) → At d → outline (reply_to_send y (held y p d) prio len) ≡
      outline (reply_to_send x (held x p d) prio len)
  of-send d prio len at =
      let goes : (o : Option Description) → held x p d ≡ o → outline (reply_to_send y o prio len) ≡
      outline (reply_to_send x o prio len) =
      λ (o : Option Description). elim o as (λ o. held x p d ≡ o →
      outline (reply_to_send y o prio len) ≡ outline (reply_to_send x o prio len)) [
        | None ↦ (λ e. refl)
        | Some h ↦ (λ e.
            let q = at-held d at h e in
            rw (q.limits, q.count)
            (send-shape prio len h h.queue (attributes x h.queue) (length (present x h.queue))
            (least (waiting_receives y h.queue)) (least (waiting_receives x h.queue))
            (registered_place y h.queue) (registered_place x h.queue) q.receiving
            (placed-some x y h.queue h.queue q.registration)))
      ]
      in
      ap (λ (o : Option Description). outline (reply_to_send y o prio len)) (same d) ∙
      goes (held x p d) refl

  of-receive : (d room : ℕ) → At d → outline (reply_to_receive y (held y p d) room) ≡
      outline (reply_to_receive x (held x p d) room)
  of-receive d room at =
      let goes : (o : Option Description) → held x p d ≡ o → outline (reply_to_receive y o room) ≡
      outline (reply_to_receive x o room) =
      λ (o : Option Description). elim o as (λ o. held x p d ≡ o →
      outline (reply_to_receive y o room) ≡ outline (reply_to_receive x o room)) [
        | None ↦ (λ e. refl)
        | Some h ↦ (λ e.
            let q = at-held d at h e in
            rw (q.limits, q.count)
            (receive-shape room h h.queue (attributes x h.queue) (length (present x h.queue))
            (best y h.queue) (best x h.queue) (least (waiting_sends y h.queue))
            (least (waiting_sends x h.queue)) (registered_place y h.queue)
            (registered_place x h.queue) q.best q.sending
            (placed-some x y h.queue h.queue q.registration)))
      ]
      in
      ap (λ (o : Option Description). outline (reply_to_receive y o room)) (same d) ∙
      goes (held x p d) refl

  of-attributes : (d : ℕ) → At d → outline (reply_to_attributes y (held y p d)) ≡
      outline (reply_to_attributes x (held x p d))
  of-attributes d at =
      let goes : (o : Option Description) → held x p d ≡ o →
      outline (reply_to_attributes y o) ≡ outline (reply_to_attributes x o) =
      λ (o : Option Description). elim o as (λ o. held x p d ≡ o →
      outline (reply_to_attributes y o) ≡ outline (reply_to_attributes x o)) [
        | None ↦ (λ e. refl)
        | Some h ↦ (λ e. let q = at-held d at h e in rw (q.limits, q.count) refl)
      ]
      in
      ap (λ (o : Option Description). outline (reply_to_attributes y o)) (same d) ∙
      goes (held x p d) refl

  registered-of : (k q : ℕ) → registered_as y q ≡ registered_as x q →
      is_of k (registered y q) ≡ is_of k (registered x q)
  registered-of k q e = of-view (registered y q) ∙ ap view e ∙ sym (of-view (registered x q))
    where
      view : Option Registered → Bool
      view None = false
      view (Some n) = shares n.process k

      of-view : (o : Option Registration) →
          is_of k o ≡ view (option_map (λ (n : Registration). record {
            process = n.process;
            d = n.d;
            value = n.value;
          }) o)
      of-view None = refl
      of-view (Some n) = refl

  of-notify : (d : ℕ) (value : Option ℕ) → At d → outline (reply_to_notify y p (held y p d) value) ≡
      outline (reply_to_notify x p (held x p d) value)
  of-notify d value at =
      let goes : (o : Option Description) → held x p d ≡ o → outline (reply_to_notify y p o value) ≡
      outline (reply_to_notify x p o value) =
      λ (o : Option Description). elim o as (λ o. held x p d ≡ o →
      outline (reply_to_notify y p o value) ≡ outline (reply_to_notify x p o value)) [
        | None ↦ (λ e. refl)
        | Some h ↦ (λ e. let q = at-held d at h e in by h value q.registration)
      ]
      in
      ap (λ (o : Option Description). outline (reply_to_notify y p o value)) (same d) ∙
      goes (held x p d) refl
    where
      by : (h : Description) (value : Option ℕ) →
          registered_as y h.queue ≡ registered_as x h.queue →
          outline (reply_to_notify y p (Some h) value) ≡
          outline (reply_to_notify x p (Some h) value)
      by h (Some v) e = λ i. outline (if registered-some x y h.queue h.queue e i then
          Refused Busy else Done)
      by h None e = λ i. outline (if registered-of p h.queue e i then Done else Refused Invalid)

  -- the replies differ only in sequence numbers
  pub reply-same : (call : Call) (given : List ℕ) → is_covered call ≡ true →
      (call ≡ NextNotice → notices y p ≡ notices x p) →
      ((k : ℕ) → called_queue x p call ≡ Some k → SameAt x y k) →
      outline (reply_to y p call given) ≡ outline (reply_to x p call given)
  reply-same (MqSend d prio len) given on next at = of-send d prio len at
  reply-same (MqReceive d room) given on next at = of-receive d room at
  reply-same (MqTimedSend d prio len until now) given on next at = timed-shape until now _ _
      (of-send d prio len at)
  reply-same (MqTimedReceive d room until now) given on next at = timed-shape until now _ _
      (of-receive d room at)
  reply-same (MqGetattr d) given on next at = of-attributes d at
  reply-same (MqSetattr d nonblock) given on next at = of-attributes d at
  reply-same (MqNotify d value) given on next at = of-notify d value at
  reply-same NextNotice given on next at = ap (λ (vs : List ℕ). Notice (slice_get vs 0)) (next refl)
  reply-same (MqClose d) given on next at = ap (λ (o : Option Description). outline (close_reply o))
      (same d)
  reply-same Collect given on next at = refl
  reply-same call given on next at = absurd (let bad : false ≡ true = on in cc)
