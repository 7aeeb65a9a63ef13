-- Equivalent journals remain equivalent: contents, registrations, notices and waits.
use Rattle.std.proofs.Common.{◌||◌, ◌≡◌, ℕ, ◌<◌, ◌≤◌, ◌==◌, Bool, true, false, ◌&&◌, not, List, [], ◌∷◌, length, map, Option, Some, None, is_some, if◌then◌else◌, refl, sym, ◌∙◌, ap, subst, arith, eqb-true, eq-eqb, ne_eqb}
use Rattle.std.specs.List.{filter}
use Rattle.std.specs.Option.{option_map, option_and_then, unwrap_or}
use Rattle.std.proofs.lemmas.Bool.{eqb-false}
use Rattle.mq_model.specs.Record.{Record, Past, record_at}
use Rattle.mq_model.specs.Descriptors.{alive, called_queue, descriptor_of, held, is_on, is_place}
use Rattle.mq_model.specs.Messages.{blocked_receives, blocked_sends, ended_receives, ended_sends, is_in}
use Rattle.mq_model.specs.Notices.{gives_notice, notices, notified}
use Rattle.mq_model.specs.Deadlines.{deadline_of}
use Rattle.mq_model.specs.Waits.{is_wait, open_wait, wait_deadline}
use Rattle.mq_model.specs.Legality.{IsLegalNext, Legal, payload_of, reply_to}
use Rattle.mq_model.specs.declared.entries.Entry.{Entry}
use Rattle.mq_model.specs.declared.entries.Description.{Description}
use Rattle.mq_model.specs.declared.entries.Call.{Call}
use Rattle.mq_model.specs.declared.entries.Call.TheVariants.{Collect}
use Rattle.mq_model.specs.declared.entries.Reply.{Reply}
use Rattle.mq_model.proofs.Places.{split}
use Rattle.mq_model.proofs.Frames.{record_at-older}
use Rattle.mq_model.proofs.HeldQueues.{called-alive}
use Rattle.mq_model.proofs.LegalReplies.{legal_says}
use Rattle.mq_model.proofs.Cases.{Says}
use Rattle.mq_model.proofs.PresentFew.{present-new}
use Rattle.mq_model.proofs.Alive.{needed-alive, rec}
use Rattle.mq_state.specs.Buffers.{room_of, waiting_room}
use Rattle.mq_equivalence.specs.Views.{Registered, at, author, contents, lined, prio_of, receivers, registered_as, seen, seen_senders, sender, senders, sent}
use Rattle.mq_equivalence.specs.Steps.{record_of, shape}
use Rattle.mq_equivalence.proofs.Effects.{contents-step}
use Rattle.mq_equivalence.proofs.Alike.{contents-shape, payload-alike, wait-shape}
use Rattle.mq_equivalence.specs.Structure.{SameStructure, extended, renumbered}
use Rattle.mq_equivalence.specs.Outline.{outline}
use Rattle.mq_equivalence.specs.Equivalence.{AgreeUnder, may_come}
use Rattle.mq_equivalence.proofs.Seen.{after_seen, got-shape, is_got, no-got, seen-after}
use Rattle.mq_equivalence.proofs.Structure.{fewer-needed, needed-in, new-number, old-number, structure-stays}
use Rattle.mq_equivalence.proofs.Replies.{reply-equivalent}
use Rattle.mq_equivalence.proofs.Notified.{after_notices, notices-step, notified_as, viewed}
use Rattle.mq_equivalence.proofs.Registrations.{after_registered, registered-step}
use Rattle.mq_state.proofs.QueuesNoted.{registered-later}
use Rattle.mq_state.proofs.QueuesKeep.{alive-below}

-- a queue that is not yet created -----------------------------------------------------------------

pub off-new : (past : Past) → Legal past → (e : Entry) (q : ℕ) → length past ≤ q →
    is_on past e q ≡ false
off-new past legal e q le = by (called_queue past e.process e.call) refl
  where
    by : (o : Option ℕ) → called_queue past e.process e.call ≡ o →
        is_place q (called_queue past e.process e.call) ≡ false
    by None is = rw is refl
    by (Some k) is = let low : k < length past =
        alive-below past k (called-alive past legal e.process e.call k is) in
        rw is (ne_eqb k q (λ e. omega arith))

pub and-false : (b : Bool) → (b && false) ≡ false
and-false b = grind arith

pub blocked_sends-new : (past : Past) → Legal past → (q : ℕ) → length past ≤ q →
    blocked_sends past q ≡ []
blocked_sends-new [] legal q le = refl
blocked_sends-new (r ∷ past) legal q le = let off = off-new past legal.0 r.entry q (omega arith) in
    rw (off, and-false _) (blocked_sends-new past legal.0 q (omega arith))

pub blocked_receives-new : (past : Past) → Legal past → (q : ℕ) → length past ≤ q →
    blocked_receives past q ≡ []
blocked_receives-new [] legal q le = refl
blocked_receives-new (r ∷ past) legal q le = let off = off-new past legal.0 r.entry q
    (omega arith) in rw (off, and-false _) (blocked_receives-new past legal.0 q (omega arith))

contents-new : (past : Past) → Legal past → contents past (length past) ≡ []
contents-new past legal = ap (λ (ks : List ℕ). lined prio_of (map (at sent past) ks))
    (present-new past legal (length past) (omega arith))

senders-new : (past : Past) → Legal past → senders past (length past) ≡ []
senders-new past legal =
    ap (λ (ks : List ℕ). map (at sender past) (filter (λ m. not (is_in (ended_sends past) m)) ks))
    (blocked_sends-new past legal (length past) (omega arith))

receivers-new : (past : Past) → Legal past → receivers past (length past) ≡ []
receivers-new past legal =
    ap (λ (ks : List ℕ). map (at author past) (filter (λ m. not (is_in (ended_receives past) m))
    ks)) (blocked_receives-new past legal (length past) (omega arith))

-- outlines ----------------------------------------------------------------------------------------

pub shape-outline : (r : Reply) → shape (outline r) ≡ shape r
shape-outline r = grind arith

pub told-outline : (r : Reply) → is_some (notified (outline r)) ≡ is_some (notified r)
told-outline r = grind arith

pub given-outline : (r : Reply) → gives_notice (outline r) ≡ gives_notice r
given-outline r = grind arith

pub registered-outline : (on : Bool) (p : ℕ) (call : Call) (r : Reply)
    (before : Option Registered) → after_registered on p call (outline r) before ≡
    after_registered on p call r before
registered-outline on p call r before = grind arith

some-if : (b : Bool) (k : ℕ) → is_some (if b then Some k else None) ≡ b
some-if b k = grind arith

pub room-step : (past : Past) (p : ℕ) (call : Call) (reply : Reply) (payload : List ℕ) (k : ℕ) →
    waiting_room (rec p call reply payload ∷ past) k ≡
    (if p == k then (if is_wait reply then Some (room_of call) else None) else waiting_room past k)
room-step past p call reply payload k = split (p == k)
    (λ t. split (is_wait reply)
    (λ w. rw (t, w, eq-eqb (length past) (length past) refl) refl)
    (λ n. rw (t, n) refl))
    (λ f. rw f (by (open_wait past k) refl))
  where
    low : (past : Past) (k w : ℕ) → open_wait past k ≡ Some w → w < length past
    low [] k w e = absurd (cc)
    low (r ∷ past) k w e = split (r.entry.process == k)
        (λ t. split (is_wait r.entry.reply)
        (λ y. let here : Some (length past) ≡ Some w = rw (t, y) at e in let same : length past ≡
        w = cc in omega arith)
        (λ n. let bad : None ≡ Some w = rw (t, n) at e in absurd (cc)))
        (λ f. let old : open_wait past k ≡ Some w = rw f at e in let lt = low past k w old in
        omega arith)

    by : (o : Option ℕ) → open_wait past k ≡ o →
        option_map
        (λ w. room_of
        (unwrap_or (option_map (λ r. r.entry.call)
        (option_and_then (record_at (rec p call reply payload ∷ past)) (open_wait past k)))
        Collect)) (open_wait past k) ≡ waiting_room past k
    by None is = rw is refl
    by (Some w) is = rw (is, record_at-older past (rec p call reply payload) w (low past k w is))
        refl

-- the step ----------------------------------------------------------------------------------------

module _ {received : Bool} (to : ℕ → ℕ) (x y : Past) (equivalent : AgreeUnder received to x y)
    (p : ℕ) (call : Call) (given : List ℕ) (next_x : IsLegalNext x (record_of x p call given))
    (next_y : IsLegalNext y (record_of y p call given)) where
  abbrev a : Reply
  a = reply_to x p call given

  abbrev b : Reply
  b = reply_to y p call given

  abbrev px : List ℕ
  px = payload_of call a given

  abbrev py : List ℕ
  py = payload_of call b given

  abbrev rx : Record
  rx = rec p call a px

  abbrev ry : Record
  ry = rec p call b py

  abbrev onto : ℕ → ℕ
  onto = extended to (length x) (length y)

  pub same : outline b ≡ outline a
  same = reply-equivalent to x y equivalent p call given

  pub shapes : shape b ≡ shape a
  shapes = sym (shape-outline b) ∙ ap shape same ∙ shape-outline a

  pub payloads : py ≡ px
  payloads = payload-alike call b a given shapes

  told : is_some (notified b) ≡ is_some (notified a)
  told = sym (told-outline b) ∙ ap (λ (r : Reply). is_some (notified r)) same ∙ told-outline a

  gives : gives_notice b ≡ gives_notice a
  gives = sym (given-outline b) ∙ ap gives_notice same ∙ given-outline a

  waiting : is_wait b ≡ is_wait a
  waiting = sym (wait-shape b) ∙ ap is_wait shapes ∙ wait-shape a

  pub structure-goes : SameStructure onto (rx ∷ x) (ry ∷ y)
  structure-goes =
      subst (λ (bytes : List ℕ). SameStructure onto (rx ∷ x) (rec p call b bytes ∷ y))
      (sym payloads)
      (structure-stays to x y p call px a b (record {
        equivalent = equivalent.structure;
        same = shapes;
        legal_x = (equivalent.legal.0, next_x);
        legal_y = (
          equivalent.legal.1,
          subst (λ (bytes : List ℕ). IsLegalNext y (rec p call b bytes))
              payloads next_y,
        );
      }))

  -- the queue of the call
  pub called-both : called_queue y p call ≡ option_map to (called_queue x p call)
  called-both = by (descriptor_of call)
    where
      queue-of : (o : Option Description) →
          option_map (λ (h : Description). h.queue) (option_map (renumbered to) o) ≡
          option_map to (option_map (λ (h : Description). h.queue) o)
      queue-of None = refl
      queue-of (Some h) = refl

      by : (o : Option ℕ) →
          option_map (λ (h : Description). h.queue) (option_and_then (held y p) o) ≡
          option_map to (option_map (λ (h : Description). h.queue) (option_and_then (held x p) o))
      by None = refl
      by (Some d) = ap (option_map (λ (h : Description). h.queue))
          (equivalent.structure.descriptors p d) ∙ queue-of (held x p d)

  to-once : (i j : ℕ) → is_in (alive x) i ≡ true → is_in (alive x) j ≡ true → to i ≡ to j → i ≡ j
  to-once = equivalent.structure.queues.once

  on-old : (q : ℕ) → is_in (alive x) q ≡ true → is_place (to q) (called_queue y p call) ≡
      is_place q (called_queue x p call)
  on-old q inside = ap (is_place (to q)) called-both ∙ by (called_queue x p call) refl
    where
      by : (o : Option ℕ) → called_queue x p call ≡ o →
          is_place (to q) (option_map to o) ≡ is_place q o
      by None is = refl
      by (Some k) is = split (k == q)
          (λ t. rw t (eq-eqb (to k) (to q) (ap to (eqb-true _ _ t))))
          (λ f. rw f
          (ne_eqb (to k) (to q)
          (λ e. eqb-false _ _ f
          (to-once k q (called-alive x equivalent.legal.0 p call k is) inside e))))

  -- all that the entry finds at a queue
  pub record SameAt (q k : ℕ) : Type 0 where
    pub on : is_place k (called_queue y p call) ≡ is_place q (called_queue x p call)
    pub messages : seen received (contents y k) ≡ seen received (contents x q)
    pub sending : seen_senders received (senders y k) ≡ seen_senders received (senders x q)
    pub receiving : receivers y k ≡ receivers x q
    pub registration : registered_as y k ≡ registered_as x q

  pub same-old : (q : ℕ) → is_in (alive x) q ≡ true → SameAt q (to q)
  same-old q inside = record {
    on = on-old q inside;
    messages = equivalent.messages q inside;
    sending = equivalent.sending q inside;
    receiving = equivalent.receiving q inside;
    registration = equivalent.registrations q inside;
  }

  same-new : SameAt (length x) (length y)
  same-new = record {
    on = off-new y equivalent.legal.1 ry.entry (length y) (omega arith) ∙
        sym (off-new x equivalent.legal.0 rx.entry (length x) (omega arith));
    messages = ap (seen received) (contents-new y equivalent.legal.1 ∙
        sym (contents-new x equivalent.legal.0));
    sending = ap (seen_senders received) (senders-new y equivalent.legal.1 ∙
        sym (senders-new x equivalent.legal.0));
    receiving = receivers-new y equivalent.legal.1 ∙ sym (receivers-new x equivalent.legal.0);
    registration = ap (option_map viewed) (registered-later y equivalent.legal.1 (length y)
        (omega arith) ∙ sym (registered-later x equivalent.legal.0 (length x) (omega arith)));
  }

  pub same-at : (q : ℕ) → is_in (alive (rx ∷ x)) q ≡ true → SameAt q (onto q)
  same-at q h = split (q == length x)
      (λ t. let here : q ≡ length x = eqb-true _ _ t in
      subst (λ (j : ℕ). SameAt j (onto j)) (sym here) (subst (λ (k : ℕ). SameAt (length x) k)
      (sym (new-number to (length x) (length y))) same-new))
      (λ f. let more : q < length (rx ∷ x) = alive-below (rx ∷ x) q h in
      let ne : q ≡ length x → ⊥ = eqb-false _ _ f in
      let low : q < length x = omega (arith, ne) in
      let inside : is_in (alive x) q ≡ true = needed-in x equivalent.legal.0 q
      (fewer-needed x rx (equivalent.legal.0, next_x) q low (needed-alive (rx ∷ x) q h)) in
      subst (λ (k : ℕ). SameAt q k) (sym (old-number to (length x) (length y) q low))
      (same-old q inside))

  pub says_x : Says x p call a
  says_x = legal_says x rx next_x

  pub says_y : Says y p call b
  says_y = legal_says y ry next_y

  pub contents-go : may_come received call ≡ true → (q : ℕ) → is_in (alive (rx ∷ x)) q ≡ true →
      seen received (contents (ry ∷ y) (onto q)) ≡ seen received (contents (rx ∷ x) q)
  contents-go may q h =
      let s = same-at q h in
      let no : (r : Reply) → (received || not (is_got r)) ≡ true →
      (received || not (is_got (shape r))) ≡ true = λ r e. ap (λ (g : Bool). received || not g)
      (got-shape r) ∙ e in
      ap (seen received) (contents-step y equivalent.legal.1 p call b py (onto q) says_y
      ∙ sym (contents-shape call py (is_place (onto q) (called_queue y p call)) b
      (senders y (onto q)) (contents y (onto q))))
      ∙ seen-after received call py (is_place (onto q) (called_queue y p call)) (shape b)
      (senders y (onto q)) (contents y (onto q)) (no b (no-got received y p call b may says_y))
      ∙ (λ i. after_seen received call (payloads i) (s.on i) (shapes i)
      (s.sending i) (s.messages i))
      ∙ sym (seen-after received call px (is_place q (called_queue x p call)) (shape a)
      (senders x q) (contents x q) (no a (no-got received x p call a may says_x)))
      ∙ ap (seen received) (contents-shape call px (is_place q (called_queue x p call)) a
      (senders x q) (contents x q)
      ∙ sym (contents-step x equivalent.legal.0 p call a px q says_x))

  pub registrations-go : (q : ℕ) → is_in (alive (rx ∷ x)) q ≡ true →
      registered_as (ry ∷ y) (onto q) ≡ registered_as (rx ∷ x) q
  registrations-go q h =
      let s = same-at q h in
      registered-step y p call b py next_y (onto q)
      ∙ sym (registered-outline (is_place (onto q) (called_queue y p call)) p call b
      (registered_as y (onto q)))
      ∙ (λ i. after_registered (s.on i) p call (same i) (s.registration i))
      ∙ registered-outline (is_place q (called_queue x p call)) p call a (registered_as x q)
      ∙ sym (registered-step x p call a px next_x q)

  -- the registration that the reply notifies
  notified-both : notified_as y p call b ≡ notified_as x p call a
  notified-both = λ i. if told i then on-queue i else None
    where
      by : (o : Option ℕ) → called_queue x p call ≡ o →
          option_and_then (registered_as y) (option_map to o) ≡ option_and_then (registered_as x) o
      by None e = refl
      by (Some q) e = equivalent.registrations q (called-alive x equivalent.legal.0 p call q e)

      on-queue : option_and_then (registered_as y) (called_queue y p call) ≡
          option_and_then (registered_as x) (called_queue x p call)
      on-queue = ap (option_and_then (registered_as y)) called-both ∙
          by (called_queue x p call) refl

  pub notices-go : (k : ℕ) → notices (ry ∷ y) k ≡ notices (rx ∷ x) k
  notices-go k =
      notices-step y equivalent.legal.1 p call b py says_y k
      ∙ (λ i. after_notices p (gives i) (notified-both i) k (equivalent.values k i))
      ∙ sym (notices-step x equivalent.legal.0 p call a px says_x k)

  pub waits-go : (k : ℕ) → is_some (open_wait (ry ∷ y) k) ≡ is_some (open_wait (rx ∷ x) k)
  waits-go k = split (p == k)
      (λ t. rw t (some-if (is_wait b) (length y) ∙ waiting ∙ sym (some-if (is_wait a) (length x))))
      (λ f. rw f (equivalent.waits k))

  pub deadlines-go : (k : ℕ) → wait_deadline (ry ∷ y) k ≡ wait_deadline (rx ∷ x) k
  deadlines-go k = split (p == k)
      (λ t. rw t (λ i. if waiting i then deadline_of call else None))
      (λ f. rw f (equivalent.deadlines k))

  pub rooms-go : (k : ℕ) → waiting_room (ry ∷ y) k ≡ waiting_room (rx ∷ x) k
  rooms-go k = room-step y p call b py k ∙
      (λ i. if p == k then (if waiting i then Some (room_of call) else None) else equivalent.rooms k
      i) ∙ sym (room-step x p call a px k)
