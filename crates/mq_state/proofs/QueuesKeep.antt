-- The table of queues remains that of the journal when it is updated for each entry.
use Rattle.std.proofs.lemmas.List.{length-map}
use Rattle.std.proofs.Common.{◌≡◌, ◌≢◌, ℕ, ◌<◌, ◌≤◌, ◌==◌, true, ◌||◌, not, List, [], ◌∷◌, ◌++◌, length, reverse, Option, Some, None, is_some, refl, sym, ◌∙◌, ap, arith, eq-eqb, ne_eqb}
use Rattle.std.proofs.lemmas.Grind.{common_steps}
use Rattle.std.specs.Option.{option_map}
use Rattle.mq_model.specs.Record.{Record, Past}
use Rattle.mq_model.specs.Descriptors.{alive, created, is_named, is_held}
use Rattle.mq_model.specs.Messages.{is_in, present, with_place, priority_given, waiting_sends, blocked_sends, ended_sends, least}
use Rattle.mq_model.specs.Legality.{Legal}
use Rattle.mq_model.specs.declared.entries.Call.{Call}
use Rattle.mq_model.specs.declared.entries.Reply.{Reply}
use Rattle.mq_model.specs.declared.entries.Reply.TheVariants.{Queued, Handed, Got}
use Rattle.mq_model.proofs.Places.{split, is_in-filter}
use Rattle.mq_model.proofs.Frames.{created-below}
use Rattle.mq_model.proofs.NamedWaits.{least-in}
use Rattle.mq_model.proofs.Steps.{Below, blocked_sends-below, without, present-queued, present-queued_elsewhere}
use Rattle.mq_model.proofs.Presence.{GotFacts, present-got_here, present-got_elsewhere, present-handed, priority-older, present-below}
use Rattle.mq_slots.specs.Messages.{without as without_place}
use Rattle.mq_state.specs.declared.moves.LineMove.{LineMove}
use Rattle.mq_state.specs.declared.moves.LineMove.TheVariants.{Rests, Enters, Leaves}
use Rattle.mq_state.specs.Moves.{line_move}
use Rattle.mq_state.specs.QueueShown.{QueueShown}
use Rattle.mq_state.specs.Queues.{queue_in, Allows, slots_after, slot_of, slots_of, QueuesMirror}
use Rattle.mq_state.proofs.QueueLines.{is_in-places, inside-queue_in}
use Rattle.mq_state.proofs.Moving.{rec, QueuedOn, EntryOn}

-- places that exist are below the journal's length ------------------------------------------------

pub alive-below : (past : Past) (q : ℕ) → is_in (alive past) q ≡ true → q < length past
alive-below past q h = created-below past q (is_in-filter (λ q. is_named past q || is_held past q)
    (created past) q h).0

pub in-append : (xs ys : List ℕ) (m : ℕ) → is_in (xs ++ ys) m ≡ (is_in xs m || is_in ys m)
in-append [] ys m = refl
in-append (x ∷ xs) ys m = grind (arith, in-append xs ys m)

pub reverse-cons : {X : Type 0} (x : X) (xs : List X) → reverse (x ∷ xs) ≡ reverse xs ++ x ∷ []
reverse-cons x xs = grind (arith, common_steps)

pub in-reverse : (xs : List ℕ) (m : ℕ) → is_in (reverse xs) m ≡ is_in xs m
in-reverse [] m = refl
in-reverse (x ∷ xs) m = grind (arith, reverse-cons, in-append, in-reverse xs m)

-- a row of the table is of a queue that exists
pub line-alive : (past : Past) (queues : List QueueShown) → QueuesMirror past queues →
    (q : ℕ) (x : QueueShown) → queue_in queues q ≡ Some x → is_in (alive past) q ≡ true
line-alive past queues m q x e = sym (in-reverse (alive past) q) ∙ ap (λ xs. is_in xs q)
    (sym m.places) ∙ is_in-places queues q ∙ ap is_some e

pub alive-line : (past : Past) (queues : List QueueShown) → QueuesMirror past queues → (q : ℕ) →
    is_in (alive past) q ≡ true → (x : QueueShown) × (queue_in queues q ≡ Some x)
alive-line past queues m q h = inside-queue_in queues q (ap (λ xs. is_in xs q) m.places ∙
    in-reverse (alive past) q ∙ h)

-- slots -------------------------------------------------------------------------------------------

slots_of-older : (past : Past) (r : Record) (xs : List ℕ) → Below (length past) xs →
    slots_of (r ∷ past) xs ≡ slots_of past xs
slots_of-older past r [] below = refl
slots_of-older past r (x ∷ xs) below = grind (arith, split, slots_of-older past r xs)

pub slots_of-without : (past : Past) (m : ℕ) (xs : List ℕ) →
    without_place m (slots_of past xs) ≡ slots_of past (without m xs)
slots_of-without past m [] = refl
slots_of-without past m (x ∷ xs) = grind (arith, split, slots_of-without past m xs)

length-without : (m : ℕ) (xs : List (ℕ × ℕ)) → length (without_place m xs) ≤ length xs
length-without m [] = omega arith
length-without m (s ∷ xs) = grind (arith, length-without m xs)

pub length-slots_of : (past : Past) (xs : List ℕ) → length (slots_of past xs) ≡ length xs
length-slots_of past xs = length-map xs (slot_of past)

-- room --------------------------------------------------------------------------------------------

pub slots-few : (m : LineMove) (x : QueueShown) → Allows m x → length x.slots ≤ x.cap →
    length (slots_after m x.slots) ≤ x.cap
slots-few m x ok few = grind (arith, length-without)

-- one line ----------------------------------------------------------------------------------------

-- the lines of other queues, and of this one, by what is present
pub record Presence (past : Past) (r : Record) (q : ℕ) (m : LineMove) : Type 0 where
  pub elsewhere : (k : ℕ) → k ≢ q → present (r ∷ past) k ≡ present past k
  pub here : slots_after m (slots_of past (present past q)) ≡
      slots_of (r ∷ past) (present (r ∷ past) q)

pub same-slots : (past : Past) (r : Record) (k : ℕ) → present (r ∷ past) k ≡ present past k →
    slots_of past (present past k) ≡ slots_of (r ∷ past) (present (r ∷ past) k)
same-slots past r k same = sym (slots_of-older past r (present past k) (present-below past k)) ∙
    ap (slots_of (r ∷ past)) (sym same)

presence-quiet : (past : Past) (r : Record) (q : ℕ) →
    ((k : ℕ) → present (r ∷ past) k ≡ present past k) → (m : LineMove) →
    ((xs : List (ℕ × ℕ)) → slots_after m xs ≡ xs) → Presence past r q m
presence-quiet past r q same m keeps = record {
  elsewhere = λ k ne. same k;
  here = keeps (slots_of past (present past q)) ∙ same-slots past r q (same q);
}

presence-sent : (past : Past) → Legal past →
    (p : ℕ) (call : Call) (n : Option ℕ) (payload : List ℕ) (q : ℕ) → QueuedOn past p call n q →
    Presence past (rec p call (Queued n) payload) q (Enters (priority_given call) (length past))
presence-sent past legal p call n payload q on = record {
  elsewhere = λ k ne. present-queued_elsewhere past p call k n payload
      (rw on.called (ne_eqb q k (λ e. ne (sym e))));
  here = grind (
    arith,
    eq-eqb,
    slots_of-older,
    present-below,
    present-queued past p call q n payload
        legal on.sends (rw on.called (eq-eqb q q refl)),
  );
}

presence-got : (past : Past) → Legal past →
    (p : ℕ) (call : Call) (m : ℕ) (a n : Option ℕ) (payload : List ℕ) (q : ℕ) →
    GotFacts past q m a →
    Presence past (rec p call (Got m a n) payload) q (Leaves m (option_map (slot_of past) a))
presence-got past legal p call m a n payload q facts = record {
  elsewhere = λ k ne. present-got_elsewhere past p call m a n payload q k facts ne;
  here = rw (present-got_here past legal p call m a n payload q facts) (by a facts.admitted);
}
  where
    rest : without_place m (slots_of past (present past q)) ≡
        slots_of (rec p call (Got m a n) payload ∷ past) (without m (present past q))
    rest =
        let below = λ (k : ℕ) (h : is_in (without m (present past q)) k ≡ true). present-below past
        q k (is_in-filter (λ j. not (m == j)) (present past q) k h).0 in
        slots_of-without past m (present past q) ∙
        sym (slots_of-older past (rec p call (Got m a n) payload)
        (without m (present past q)) below)

    by : (b : Option ℕ) → b ≡ least (waiting_sends past q) →
        slots_after (Leaves m (option_map (slot_of past) b)) (slots_of past (present past q)) ≡
        slots_of (rec p call (Got m a n) payload ∷ past) (with_place b (without m (present past q)))
    by None e = rest
    by (Some w) e =
        let below = blocked_sends-below past q w
        (is_in-filter (λ w. not (is_in (ended_sends past) w)) (blocked_sends past q) w
        (least-in (waiting_sends past q) w (sym e))).0 in
        rw (rest, priority-older past (rec p call (Got m a n) payload) w below) refl

pub presence : (past : Past) → Legal past →
    (p : ℕ) (call : Call) (reply : Reply) (payload : List ℕ) (q : ℕ) →
    EntryOn past p call payload reply q →
    Presence past (rec p call reply payload) q (line_move past call reply)
presence past legal p call (Queued n) payload q on = presence-sent past legal p call n payload q on
presence past legal p call (Got m a n) payload q on = presence-got past legal p call m a n
    payload q on.facts
presence past legal p call (Handed w) payload q on =
    presence-quiet past (rec p call (Handed w) payload) q (present-handed past p call w payload)
    Rests (λ xs. refl)
presence past legal p call reply payload q on = presence-quiet past (rec p call reply payload) q
    (λ k. refl) (line_move past call reply) (λ xs. grind arith)
