-- The processes that wait, the answers to their waits, and the message that a call returns:
-- equivalent journals remain equivalent.
use Rattle.std.proofs.Common.{◌≡◌, ℕ, ◌==◌, Bool, true, false, List, [], ◌∷◌, length, Option, Some, None, if◌then◌else◌, refl, sym, ◌∙◌, ap, subst, arith}
use Rattle.std.specs.Option.{option_and_then, option_map, unwrap_or}
use Rattle.mq_model.specs.Record.{Past}
use Rattle.mq_model.specs.Descriptors.{alive, called_queue, descriptor_of, held, is_place}
use Rattle.mq_model.specs.Messages.{is_in}
use Rattle.mq_model.specs.Waits.{open_wait}
use Rattle.mq_model.specs.Legality.{IsLegalNext, Legal, may_call, payload_of, reply_to}
use Rattle.mq_model.specs.declared.entries.Description.{Description}
use Rattle.mq_model.specs.declared.entries.Call.{Call}
use Rattle.mq_model.specs.declared.entries.Reply.{Reply}
use Rattle.mq_model.specs.declared.entries.Reply.TheVariants.{Got}
use Rattle.mq_model.proofs.Places.{split}
use Rattle.mq_model.proofs.Cases.{Says}
use Rattle.mq_model.proofs.HeldQueues.{called-alive}
use Rattle.mq_model.proofs.OpenWaits.{withdrawn-open}
use Rattle.mq_model.proofs.Alive.{rec}
use Rattle.mq_equivalence.specs.Views.{Message, Sender, answer, contents, receivers, seen, seen_senders, senders}
use Rattle.mq_equivalence.specs.Steps.{message_given, record_of, shape}
use Rattle.mq_equivalence.proofs.Falling.{foremost}
use Rattle.mq_equivalence.proofs.Calls.{got-message}
use Rattle.mq_equivalence.proofs.Changes.{got-all, handed-all}
use Rattle.mq_equivalence.proofs.Effects.{after_answer, after_receivers, answer-step, called, is_collected, is_withdrawn, receivers-step, senders-step}
use Rattle.mq_equivalence.proofs.Alike.{answer-shape, receivers-shape, senders-shape}
use Rattle.mq_equivalence.specs.Structure.{extended, renumbered}
use Rattle.mq_equivalence.specs.Equivalence.{AgreeUnder, may_come}
use Rattle.mq_equivalence.proofs.Seen.{after_waiting, answer-seen, got-may, got-shape, is_got, seen-but, waiting-after}
use Rattle.mq_equivalence.proofs.Withdrawals.{answer-withdrawn, receivers-withdrawn, receivers_but, senders-withdrawn, senders_but}
use Rattle.mq_equivalence.proofs.Going.{called-both, contents-go, deadlines-go, notices-go, payloads, registrations-go, rooms-go, same-at, same-old, says_x, says_y, shapes, structure-goes, waits-go}

-- a call on no queue answers no wait
idle-answer : (past : Past) (p : ℕ) (call : Call) (reply : Reply) (payload : List ℕ)
    (ss : List (Option Sender)) (rs : List (Option ℕ)) (k : ℕ)
    (before : Option (Option (Option Message))) → Says past p call reply →
    called_queue past p call ≡ None →
    after_answer p call payload reply ss rs k before ≡
    after_answer p call payload reply [] [] k before
idle-answer past p call reply payload ss rs k before says none = grind (arith, handed-all, got-all)

pub none-given : (past : Past) (reply : Reply) → is_got reply ≡ false →
    message_given past reply ≡ None
none-given past reply e = grind arith

given-is : (past : Past) → Legal past → (p : ℕ) (call : Call) (reply : Reply) (payload : List ℕ) →
    is_got reply ≡ true → Says past p call reply →
    message_given (rec p call reply payload ∷ past) reply ≡
    foremost (contents past (called past p call))
given-is past legal p call reply payload e says = grind (arith, got-message)

withdrawn-shape : (r : Reply) → is_withdrawn (shape r) ≡ is_withdrawn r
withdrawn-shape r = grind arith

free-of : (past : Past) (p : ℕ) (call : Call) (reply : Reply) → is_withdrawn reply ≡ false →
    Says past p call reply → may_call past p call ≡ true → is_collected reply ≡ false →
    open_wait past p ≡ None
free-of past p call reply kept says turn not = grind (arith, is_collected, is_withdrawn)

-- the waits and the answers, after a withdrawal
senders-of : (past : Past) → Legal past → (p : ℕ) (call : Call) (reply : Reply) (payload : List ℕ) →
    is_withdrawn reply ≡ true → Says past p call reply → may_call past p call ≡ true → (q : ℕ) →
    senders (rec p call reply payload ∷ past) q ≡ senders_but p (senders past q)
senders-of past legal p call reply payload is says turn q = grind (
  arith,
  withdrawn-open,
  Says,
  rec,
  senders_but,
  senders-withdrawn,
)

receivers-of : (past : Past) → Legal past →
    (p : ℕ) (call : Call) (reply : Reply) (payload : List ℕ) → is_withdrawn reply ≡ true →
    Says past p call reply → may_call past p call ≡ true → (q : ℕ) →
    receivers (rec p call reply payload ∷ past) q ≡ receivers_but p (receivers past q)
receivers-of past legal p call reply payload is says turn q = grind (
  arith,
  withdrawn-open,
  Says,
  rec,
  receivers_but,
  receivers-withdrawn,
)

answer-of : (past : Past) (p : ℕ) (call : Call) (reply : Reply) (payload : List ℕ) →
    is_withdrawn reply ≡ true → (k : ℕ) → answer (rec p call reply payload ∷ past) k ≡
    (if p == k then None else answer past k)
answer-of past p call reply payload is k = grind (arith, rec, answer-withdrawn)

module _ {received : Bool} (to : ℕ → ℕ) (x y : Past) (equivalent : AgreeUnder received to x y)
    (p : ℕ) (call : Call) (given : List ℕ) (next_x : IsLegalNext x (record_of x p call given))
    (next_y : IsLegalNext y (record_of y p call given)) where
  abbrev a : Reply
  a = reply_to x p call given

  abbrev b : Reply
  b = reply_to y p call given

  abbrev px : List ℕ
  px = payload_of call a given

  abbrev py : List ℕ
  py = payload_of call b given

  abbrev onto : ℕ → ℕ
  onto = extended to (length x) (length y)

  abbrev inside_after : ℕ → Type 0
  inside_after q = is_in (alive (rec p call a px ∷ x)) q ≡ true

  says_a : Says x p call a
  says_a = says_x to x y equivalent p call given next_x next_y

  says_b : Says y p call b
  says_b = says_y to x y equivalent p call given next_x next_y

  shaped : shape b ≡ shape a
  shaped = shapes to x y equivalent p call given next_x next_y

  paid : py ≡ px
  paid = payloads to x y equivalent p call given next_x next_y

  both-withdrawn : is_withdrawn b ≡ is_withdrawn a
  both-withdrawn = sym (withdrawn-shape b) ∙ ap is_withdrawn shaped ∙ withdrawn-shape a

  senders-go : (q : ℕ) → inside_after q →
      seen_senders received (senders (rec p call b py ∷ y) (onto q)) ≡ seen_senders received
      (senders (rec p call a px ∷ x) q)
  senders-go q h =
      let s = same-at to x y equivalent p call given next_x next_y q h in
      split (is_withdrawn a)
      (λ t. ap (seen_senders received) (senders-of y equivalent.legal.1 p call b py
      (both-withdrawn ∙ t) says_b next_y.turn (onto q))
      ∙ seen-but received p (senders y (onto q))
      ∙ ap (senders_but p) s.sending
      ∙ sym (seen-but received p (senders x q))
      ∙ ap (seen_senders received)
      (sym (senders-of x equivalent.legal.0 p call a px t says_a next_x.turn q)))
      (λ f. ap (seen_senders received) (senders-step y p call b py (onto q) (
        equivalent.legal.1,
        next_y,
      ) says_b (both-withdrawn ∙ f)
      ∙ sym (senders-shape p call py (is_place (onto q) (called_queue y p call)) b
      (senders y (onto q))))
      ∙ waiting-after received p call py (is_place (onto q) (called_queue y p call)) (shape b)
      (senders y (onto q))
      ∙ (λ i. after_waiting received p call (paid i) (s.on i) (shaped i) (s.sending i))
      ∙ sym (waiting-after received p call px (is_place q (called_queue x p call))
      (shape a) (senders x q))
      ∙ ap (seen_senders received) (senders-shape p call px (is_place q (called_queue x p call)) a
      (senders x q)
      ∙ sym (senders-step x p call a px q (equivalent.legal.0, next_x) says_a f)))

  receivers-go : (q : ℕ) → inside_after q → receivers (rec p call b py ∷ y) (onto q) ≡
      receivers (rec p call a px ∷ x) q
  receivers-go q h =
      let s = same-at to x y equivalent p call given next_x next_y q h in
      split (is_withdrawn a)
      (λ t. receivers-of y equivalent.legal.1 p call b py (both-withdrawn ∙ t) says_b
      next_y.turn (onto q)
      ∙ ap (receivers_but p) s.receiving
      ∙ sym (receivers-of x equivalent.legal.0 p call a px t says_a next_x.turn q))
      (λ f. receivers-step y p call b py (onto q) (equivalent.legal.1, next_y) says_b
      (both-withdrawn ∙ f)
      ∙ sym (receivers-shape p call (is_place (onto q) (called_queue y p call)) b
      (receivers y (onto q)))
      ∙ (λ i. after_receivers p call (s.on i) (shaped i) (s.receiving i))
      ∙ receivers-shape p call (is_place q (called_queue x p call)) a (receivers x q)
      ∙ sym (receivers-step x p call a px q (equivalent.legal.0, next_x) says_a f))

  -- what the answers and messages come from, at the queue of the call
  answers-both : (o : Option ℕ) → called_queue x p call ≡ o → (k : ℕ) →
      after_answer p call py b (senders y (called y p call)) (receivers y (called y p call)) k
      (answer y k) ≡ after_answer p call px a (senders x (called x p call))
      (receivers x (called x p call)) k (answer x k)
  answers-both None e k =
      let on : called_queue y p call ≡ None = called-both to x y equivalent p call given next_x
      next_y ∙ ap (option_map to) e in
      idle-answer y p call b py (senders y (called y p call)) (receivers y (called y p call)) k
      (answer y k) says_b on
      ∙ sym (answer-shape p call py b [] [] k (answer y k))
      ∙ (λ i. after_answer p call (paid i) (shaped i) [] [] k (equivalent.answered k i))
      ∙ answer-shape p call px a [] [] k (answer x k)
      ∙ sym (idle-answer x p call a px (senders x (called x p call)) (receivers x (called x p call))
      k (answer x k) says_a e)
  answers-both (Some q) e k =
      let on : called_queue y p call ≡ Some (to q) = called-both to x y equivalent p call given
      next_x next_y ∙ ap (option_map to) e in
      let at_x : called x p call ≡ q = ap (λ (o : Option ℕ). unwrap_or o 0) e in
      let at_y : called y p call ≡ to q = ap (λ (o : Option ℕ). unwrap_or o 0) on in
      let s = same-old to x y equivalent p call given next_x next_y q
      (called-alive x equivalent.legal.0 p call q e) in
      let ss : seen_senders received (senders y (called y p call)) ≡ seen_senders received
      (senders x (called x p call)) =
      ap (λ (k : ℕ). seen_senders received (senders y k)) at_y ∙ s.sending ∙
      ap (λ (k : ℕ). seen_senders received (senders x k)) (sym at_x) in
      let rs : receivers y (called y p call) ≡ receivers x (called x p call) =
      ap (receivers y) at_y ∙ s.receiving ∙ ap (receivers x) (sym at_x) in
      sym (answer-shape p call py b (senders y (called y p call)) (receivers y (called y p call)) k
      (answer y k))
      ∙ sym (answer-seen received p call py (shape b) (senders y (called y p call))
      (receivers y (called y p call)) k (answer y k))
      ∙ (λ i. after_answer p call (paid i) (shaped i) (ss i) (rs i) k (equivalent.answered k i))
      ∙ answer-seen received p call px (shape a) (senders x (called x p call))
      (receivers x (called x p call)) k (answer x k)
      ∙ answer-shape p call px a (senders x (called x p call)) (receivers x (called x p call)) k
      (answer x k)

  answers-go : (k : ℕ) → answer (rec p call b py ∷ y) k ≡ answer (rec p call a px ∷ x) k
  answers-go k = split (is_withdrawn a)
      (λ t. answer-of y p call b py (both-withdrawn ∙ t) k ∙
      (λ i. if p == k then None else equivalent.answered k i) ∙
      sym (answer-of x p call a px t k))
      (λ f. answer-step y equivalent.legal.1 p call b py k says_b
      (free-of y p call b (both-withdrawn ∙ f) says_b next_y.turn)
      ∙ answers-both (called_queue x p call) refl k
      ∙ sym (answer-step x equivalent.legal.0 p call a px k says_a
      (free-of x p call a f says_a next_x.turn)))

  pub goes-equivalent : may_come received call ≡ true →
      AgreeUnder received onto (rec p call a px ∷ x) (rec p call b py ∷ y)
  goes-equivalent may = record {
    legal = ((equivalent.legal.0, next_x), (equivalent.legal.1, next_y));
    structure = structure-goes to x y equivalent p call given next_x next_y;
    messages = contents-go to x y equivalent p call given next_x next_y may;
    sending = senders-go;
    receiving = receivers-go;
    registrations = registrations-go to x y equivalent p call given next_x next_y;
    values = notices-go to x y equivalent p call given next_x next_y;
    waits = waits-go to x y equivalent p call given next_x next_y;
    rooms = rooms-go to x y equivalent p call given next_x next_y;
    deadlines = deadlines-go to x y equivalent p call given next_x next_y;
    answered = answers-go;
  }

-- the message that a call returns
-- ------------------------------------------------------------------

pub record IsGot (r : Reply) : Type 0 where
  pub place : ℕ
  pub admitted : Option ℕ
  pub notified : Option ℕ
  pub is : r ≡ Got place admitted notified

pub the-got : (r : Reply) → is_got r ≡ true → IsGot r
the-got r e = grind arith

module _ {received : Bool} (to : ℕ → ℕ) (x y : Past) (equivalent : AgreeUnder received to x y)
    (p : ℕ) (call : Call) (may : may_come received call ≡ true) where
  queue-both : called_queue y p call ≡ option_map to (called_queue x p call)
  queue-both = by (descriptor_of call)
    where
      queue-of : (o : Option Description) →
          option_map (λ (h : Description). h.queue) (option_map (renumbered to) o) ≡
          option_map to (option_map (λ (h : Description). h.queue) o)
      queue-of None = refl
      queue-of (Some h) = refl

      by : (o : Option ℕ) →
          option_map (λ (h : Description). h.queue) (option_and_then (held y p) o) ≡
          option_map to (option_map (λ (h : Description). h.queue) (option_and_then (held x p) o))
      by None = refl
      by (Some d) = ap (option_map (λ (h : Description). h.queue))
          (equivalent.structure.descriptors p d) ∙ queue-of (held x p d)

  found-both : (a : Reply) → is_got a ≡ true → Says x p call a →
      contents y (called y p call) ≡ contents x (called x p call)
  found-both a e says =
      let g = the-got a e in
      let got = got-all x p call g.place g.admitted g.notified (subst (Says x p call) g.is says) in
      let inside : is_in (alive x) got.queue ≡ true = called-alive x equivalent.legal.0 p call
      got.queue got.on in
      let at_x : called x p call ≡ got.queue = ap (λ (o : Option ℕ). unwrap_or o 0) got.on in
      let at_y : called y p call ≡ to got.queue = ap (λ (o : Option ℕ). unwrap_or o 0)
      (queue-both ∙ ap (option_map to) got.on) in
      let comes : received ≡ true = got-may received x p call a may says e in
      let full = subst (λ (b : Bool). seen b (contents y (to got.queue)) ≡
      seen b (contents x got.queue)) comes (equivalent.messages got.queue inside) in
      ap (contents y) at_y ∙ full ∙ ap (contents x) (sym at_x)

  pub message-equivalent : (a b : Reply) (px py : List ℕ) → shape b ≡ shape a → Says x p call a →
      Says y p call b → message_given (rec p call b py ∷ y) b ≡
      message_given (rec p call a px ∷ x) a
  message-equivalent a b px py e says_x says_y =
      let both : is_got b ≡ is_got a = sym (got-shape b) ∙ ap is_got e ∙ got-shape a in
      split (is_got a)
      (λ t. given-is y equivalent.legal.1 p call b py (both ∙ t) says_y ∙
      ap (λ (cs : List (Option Message)). foremost cs) (found-both a t says_x) ∙
      sym (given-is x equivalent.legal.0 p call a px t says_x))
      (λ f. none-given (rec p call b py ∷ y) b (both ∙ f) ∙
      sym (none-given (rec p call a px ∷ x) a f))
