-- The table of queues is that of the journal after each entry.
use Rattle.std.proofs.lemmas.Bool.Decides.{nat_tests}
use Rattle.std.proofs.Common.{◌≡◌, ℕ, ◌<◌, ◌≤◌, ◌==◌, Bool, true, false, ◌&&◌, ◌||◌, not, List, [], ◌∷◌, ◌++◌, length, map, reverse, Option, Some, None, if◌then◌else◌, refl, sym, ◌∙◌, ap, arith, eqb-true, eq-eqb, ne_eqb, inl, inr, int_le, pos}
use Rattle.std.specs.List.{filter}
use Rattle.std.proofs.lemmas.Bool.{eqb-false}
use Rattle.mq_model.specs.Record.{Past}
use Rattle.mq_model.specs.Names.{creates, bound_queue, attributes_given}
use Rattle.mq_model.specs.Descriptors.{held, created, alive, is_named, is_held, is_place}
use Rattle.mq_model.specs.Messages.{is_in}
use Rattle.mq_model.specs.Notices.{registered, registration_after}
use Rattle.mq_model.specs.Legality.{Legal}
use Rattle.mq_model.specs.Owners.{OwnersMirror, is_held_in}
use Rattle.mq_model.specs.declared.entries.Entry.{Entry}
use Rattle.mq_model.specs.declared.entries.Description.{Description}
use Rattle.mq_model.specs.declared.entries.Call.{Call}
use Rattle.mq_model.specs.declared.entries.Call.TheVariants.{MqClose, MqUnlink}
use Rattle.mq_model.specs.declared.entries.Reply.{Reply}
use Rattle.mq_model.specs.declared.entries.Reply.TheVariants.{Opened, Attrs, Done}
use Rattle.mq_model.specs.declared.owners.Owner.{Owner}
use Rattle.mq_model.proofs.Places.{split}
use Rattle.mq_model.proofs.HeldQueues.{bound-created, called-alive, in-filter}
use Rattle.mq_model.proofs.Presence.{sent_to}
use Rattle.mq_model.proofs.Alive.{is_needed, is_held-table, named-same, named-created, named-newest, named-unlinked, bound-named, alive-same_queues, alive-opened, alive-new, alive-closed, alive-unlinked}
use Rattle.mq_model.proofs.Frames.{attributes-older}
use Rattle.mq_state.specs.declared.moves.LineMove.{LineMove}
use Rattle.mq_state.specs.declared.moves.LineMove.TheVariants.{Rests}
use Rattle.mq_state.specs.Moves.{line_move, may_free, moves_of}
use Rattle.mq_state.specs.QueueShown.{QueueShown}
use Rattle.mq_state.specs.Queues.{queue_in, is_named_in, changed, renewed, named_after, Allows, AllowsIn, reregistered, noted_queues, fresh, LineMirror, QueuesMirror}
use Rattle.mq_state.proofs.QueueLines.{mapped, changed_line, changed-from, map-from, places-changed, places-map, queue_in-place, inside-queue_in, queue_in-without, places-without, queue_in-push}
use Rattle.mq_state.proofs.Moving.{rec, OpenedOn, EntryOn}
use Rattle.mq_state.proofs.QueuesKeep.{alive-below, reverse-cons, in-reverse, line-alive, slots-few, presence, same-slots}
use Rattle.std.proofs.lemmas.List.Elements.{filter-append}
use Rattle.std.proofs.lemmas.List.{map-append, append-nil}
use Rattle.mq_model.proofs.PresentFew.{present-new}

-- which queues are named after the entry
named-keeps : (past : Past) (p : ℕ) (call : Call) (reply : Reply) (payload : List ℕ) (q : ℕ) →
    EntryOn past p call payload reply q → (k : ℕ) → k < length past →
    is_named (rec p call reply payload ∷ past) k ≡
    (if q == k then named_after (line_move past call reply) (is_named past k) else
    is_named past k)
named-keeps past p call reply payload q on k lt = let r = rec p call reply payload in
    grind (arith, nat_tests, named-unlinked past r k q, named-created past r k, named-same past r k)

-- a row of the table, before a queue is removed, remains that of its queue
line-keeps : (past : Past) → Legal past →
    (p : ℕ) (call : Call) (reply : Reply) (payload : List ℕ) (q : ℕ) →
    EntryOn past p call payload reply q →
    (x : QueueShown) → LineMirror past x → x.place < length past →
    (q ≡ x.place → Allows (line_move past call reply) x) →
    LineMirror (rec p call reply payload ∷ past) (reregistered q (length past)
    (record { process = p; call = call; reply = reply })
    (changed_line (renewed (line_move past call reply)) q x))
line-keeps past legal p call reply payload q on x m lt allows =
    let there = presence past legal p call reply payload q on in
    let named = named-keeps past p call reply payload q on x.place lt in
    let e : Entry = record { process = p; call = call; reply = reply } in
    let registration : registration_after (q == x.place) (length past) e (registered past x.place) ≡
    registered (rec p call reply payload ∷ past) x.place = grind arith in
    split (q == x.place) (λ t. grind (arith, eqb-true, attributes-older, slots-few))
    (λ n. grind (
      arith,
      eqb-false,
      attributes-older,
      same-slots past
          (rec p call reply payload) x.place,
    ))

-- which queues the table has ----------------------------------------------------------------------

-- the table before a queue is given back
abbrev lines_after : ℕ → ℕ → Entry → LineMove → List QueueShown → List QueueShown
lines_after q here e m queues = map (reregistered q here e) (changed (renewed m) queues q)

lines-places : (q here : ℕ) (e : Entry) (m : LineMove) (queues : List QueueShown) →
    map (λ x. x.place) (lines_after q here e m queues) ≡ map (λ x. x.place) queues
lines-places q here e m queues = places-map (reregistered q here e) (changed (renewed m) queues q)
    (λ x. refl) ∙ places-changed (renewed m) queues q (λ x. refl)

-- all lines of the table, before a queue is given back
lines-keep : (past : Past) → Legal past → (queues : List QueueShown) → QueuesMirror past queues →
    (p : ℕ) (call : Call) (reply : Reply) (payload : List ℕ) (q : ℕ) →
    EntryOn past p call payload reply q → AllowsIn queues q (line_move past call reply) →
    (k : ℕ) (y : QueueShown) →
    queue_in (lines_after q (length past) (record { process = p; call = call; reply = reply })
    (line_move past call reply) queues) k ≡ Some y → LineMirror (rec p call reply payload ∷
    past) y
lines-keep past legal queues m p call reply payload q on allows k y found =
    let z = map-from _ _ k y (λ x. refl) found in
    let x = changed-from _ queues q k z.0 (λ x. refl) z.1 in
    let place = queue_in-place queues k x.0 x.1 in
    let inside = alive-below past k (line-alive past queues m k x.0 x.1) in
    rw (← z.2, ← x.2) (line-keeps past legal p call reply payload q on x.0 (m.lines k x.0 x.1)
    (grind arith) (λ same. allows x.0 (grind arith)))

-- the queues that exist after an entry that creates none: those before, or all but one that is
-- needed no longer
alive-noted : (past : Past) → Legal past →
    (p : ℕ) (call : Call) (reply : Reply) (payload : List ℕ) (q : ℕ) →
    EntryOn past p call payload reply q → creates call reply ≡ false →
    alive (rec p call reply payload ∷ past) ≡
    (if may_free call reply && not (is_needed (rec p call reply payload ∷ past) q) then filter
    (λ k. not (k == q)) (alive past) else alive past)
alive-noted past legal p call (Opened d true) payload q on c =
    absurd (let bad : true ≡ false = rw on.is at c in cc)
alive-noted past legal p call (Opened d false) payload q on c =
    rw on.is (alive-opened past p on.flags on.attr payload d on.facts)
alive-noted past legal p call (Attrs s) payload q on c = alive-same_queues past
    (rec p call (Attrs s) payload) refl refl (λ e. grind arith)
alive-noted past legal p (MqClose d) Done payload q on c = let h =
    mapped (λ (h : Description). h.queue) (held past p d) q on in alive-closed past legal p d
    payload h.0 h.1 ∙ grind arith
alive-noted past legal p MqUnlink Done payload q on c = alive-unlinked past p payload q on ∙
    grind arith
alive-noted past legal p call reply payload q on c = alive-same_queues past
    (rec p call reply payload) refl refl (λ e. refl)

filter-reverse : (t : ℕ → Bool) (xs : List ℕ) → filter t (reverse xs) ≡ reverse (filter t xs)
filter-reverse t [] = refl
filter-reverse t (x ∷ xs) = grind (
  arith,
  append-nil,
  filter-append,
  reverse-cons,
  filter-reverse t xs,
)

pub bound-alive : (past : Past) (name : List ℕ) (q : ℕ) → bound_queue past name ≡ Some q →
    is_in (alive past) q ≡ true
bound-alive past name q e = in-filter (λ q. is_named past q || is_held past q) (created past) q
    (bound-created past name q e) (rw (bound-named past name q e) refl)

read-named : (queues : List QueueShown) (q : ℕ) (y : QueueShown) → queue_in queues q ≡ Some y →
    is_named_in queues q ≡ y.named
unfolding is_named_in
read-named queues q y e = rw e refl

-- the table of queues remains that of the journal, if the entry creates no queue
pub noted-queues-keeps : (past : Past) → Legal past →
    (owners : List Owner) (queues : List QueueShown) → QueuesMirror past queues →
    (p : ℕ) (call : Call) (reply : Reply) (payload : List ℕ) (q : ℕ) →
    EntryOn past p call payload reply q →
    AllowsIn queues q (line_move past call reply) →
    OwnersMirror (rec p call reply payload ∷ past) owners → creates call reply ≡ false →
    QueuesMirror (rec p call reply payload ∷ past) (noted_queues owners (length past)
    (record { process = p; call = call; reply = reply }) q (moves_of past call reply) queues)
noted-queues-keeps past legal owners queues m p call reply payload q on allows om c =
    let now = alive-noted past legal p call reply payload q on c in
    let places = lines-places q (length past) (record { process = p; call = call; reply = reply })
    (line_move past call reply) queues ∙ m.places in
    let keep = lines-keep past legal queues m p call reply payload q on allows in
    let held = is_held-table (rec p call reply payload ∷ past) owners om q in
    -- the entry's queue exists, if the entry may take its last user
    let bound = bound-alive past payload q in
    let called = called-alive past legal p call q in
    let exists : may_free call reply ≡ true → is_in (alive past) q ≡ true = grind arith in
    let same : (may_free call reply && not (is_named_in lines q || is_held_in owners q)) ≡
    (may_free call reply && not (is_needed (rec p call reply payload ∷ past) q)) =
    split (may_free call reply)
    (λ t. let y = inside-queue_in lines q (ap (λ xs. is_in xs q) places ∙ in-reverse (alive past)
    q ∙ exists t) in
    let named = (keep q y.0 y.1).named in
    grind (arith, read-named lines q y.0 y.1, queue_in-place lines q y.0 y.1))
    (λ n. rw n refl) in
    split (may_free call reply && not (is_named_in lines q || is_held_in owners q))
    (λ t. let without = places-without lines q ∙ ap (filter (λ k. not (k == q))) places ∙
    filter-reverse (λ k. not (k == q)) (alive past) in
    rw t (record {
      places = without ∙ ap reverse (sym (rw (← same, t) at now));
      lines = λ k y found. keep k y (grind (arith, queue_in-without));
    }))
    (λ n. rw n (record {
      places = places ∙ ap reverse (sym (rw (← same, n) at now));
      lines = keep;
    }))
  where
    lines : List QueueShown
    lines = lines_after q (length past) (record { process = p; call = call; reply = reply })
        (line_move past call reply) queues

-- a queue that was just created -------------------------------------------------------------------

pub sent_to-below : (past : Past) → Legal past → (m q : ℕ) → sent_to past m ≡ Some q →
    q < length past
sent_to-below [] legal m q e = absurd (cc)
sent_to-below (r ∷ past) legal m q e = let here = called-alive past legal.0 r.entry.process
    r.entry.call q in grind (arith, split, alive-below past q, sent_to-below past legal.0 m q)

on-below : (past : Past) (q : ℕ) → length past ≤ q → (o : Option ℕ) →
    ((k : ℕ) → o ≡ Some k → is_in (alive past) k ≡ true) → is_place q o ≡ false
on-below past q le None exists = refl
on-below past q le (Some k) exists = ne_eqb k q (λ same. let lt = alive-below past k
    (exists k refl) in omega (arith, lt))

pub registered-later : (past : Past) → Legal past → (q : ℕ) → length past ≤ q →
    registered past q ≡ None
registered-later [] legal q le = refl
registered-later (r ∷ past) legal q le = grind (
  arith,
  on-below past q (omega arith) _
      (called-alive past legal.0 r.entry.process r.entry.call),
  registered-later past legal.0 q,
)

-- the table of queues with the queue that an open creates
pub noted-queues-creates : (past : Past) → Legal past →
    (owners : List Owner) (queues : List QueueShown) → QueuesMirror past queues →
    (p : ℕ) (call : Call) (d : ℕ) (payload : List ℕ) (q cap : ℕ) →
    OpenedOn past p call payload d true q →
    int_le (attributes_given call).maxmsg (pos cap) ≡ true →
    QueuesMirror (rec p call (Opened d true) payload ∷ past) (noted_queues owners (length past)
    (record { process = p; call = call; reply = Opened d true }) q
    (moves_of past call (Opened d true)) queues ++ fresh (length past) cap
    (attributes_given call) ∷ [])
noted-queues-creates past legal owners queues m p call d payload q cap on roomy = record {
  places =
      let now : alive (rec p call (Opened d true) payload ∷ past) ≡ length past ∷ alive past =
      rw on.is (alive-new past p on.flags on.attr payload d on.facts) in
      let before = lines-places q (length past) (record {
        process = p;
        call = call;
        reply = Opened d true;
      }) Rests queues ∙ m.places in
      grind (arith, map-append, reverse-cons);
  lines = λ k z found. elim (queue_in-push lines new k z found) [
    | inl found ↦ lines-keep past legal queues m p call (Opened d true) payload q on
        (λ x f. tt) k z found
    | inr same ↦ rw same new-line
  ];
}
  where
    lines : List QueueShown
    lines = lines_after q (length past) (record { process = p; call = call; reply = Opened d true })
        Rests queues

    new : QueueShown
    new = fresh (length past) cap (attributes_given call)

    new-line : LineMirror (rec p call (Opened d true) payload ∷ past) new
    new-line =
        let named = named-newest past (rec p call (Opened d true) payload) (rw on.is refl) in
        let registration = registered-later past legal (length past) (omega arith) in
        let slots = present-new past legal (length past) (omega arith) in
        grind (arith, eq-eqb)
