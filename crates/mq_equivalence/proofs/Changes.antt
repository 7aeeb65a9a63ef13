-- What a record changes of the messages and the waits of a queue.
use Rattle.std.proofs.Common.{◌≡◌, ℕ, ◌<◌, ◌==◌, Bool, true, not, List, [], ◌∷◌, length, map, Option, Some, if◌then◌else◌, refl, sym, ◌∙◌, ap, subst, eqb-true, eq-eqb, arith}
use Rattle.std.specs.List.{filter, list_all}
use Rattle.std.specs.Option.{option_map}
use Rattle.std.proofs.lemmas.Bool.{eqb-false, eqb-true}
use Rattle.mq_model.specs.Record.{Record, Past}
use Rattle.mq_model.specs.Descriptors.{called_queue}
use Rattle.mq_model.specs.Messages.{best, blocked_receives, blocked_sends, goes_first, is_in, least, present, waiting_receives, waiting_sends, with_place}
use Rattle.mq_model.specs.Legality.{Legal}
use Rattle.mq_model.specs.declared.entries.Call.{Call}
use Rattle.mq_model.specs.declared.entries.Reply.{Reply}
use Rattle.mq_model.specs.declared.entries.Reply.TheVariants.{Handed, Got}
use Rattle.mq_model.specs.declared.callers.WaitKind.TheVariants.{Receive}
use Rattle.mq_model.proofs.Places.{split, is_in-filter, find-in}
use Rattle.mq_model.proofs.Cases.{Says}
use Rattle.mq_model.proofs.Frames.{record_at-older}
use Rattle.mq_model.proofs.LegalReplies.{legal_says}
use Rattle.mq_model.proofs.NamedWaits.{blocked-below, least-in}
use Rattle.mq_model.proofs.Presence.{GotFacts, present-admitted, present-below, present-got_elsewhere, present-got_here, present-handed}
use Rattle.mq_model.proofs.Steps.{Below, blocked_sends-below, present-queued, present-queued_elsewhere, without}
use Rattle.mq_laws.proofs.SendingOrder.{accepted-older}
use Rattle.mq_equivalence.specs.Views.{at}
use Rattle.mq_equivalence.proofs.Falling.{Falls, falls-filter}

abbrev pub rec : ℕ → Call → Reply → List ℕ → Record
rec p call reply payload = record {
  entry = record { process = p; call = call; reply = reply };
  payload = payload;
}

-- the record at a place does not change
pub at-older : {X : Type 0} (f : Record → X) (past : Past) (r : Record) (k : ℕ) → k < length past →
    at f (r ∷ past) k ≡ at f past k
at-older f past r k lt = ap (λ (o : Option Record). option_map f o) (record_at-older past r k lt)

pub at-newest : {X : Type 0} (f : Record → X) (past : Past) (r : Record) →
    at f (r ∷ past) (length past) ≡ Some (f r)
at-newest f past r = rw (eq-eqb (length past) (length past) refl) refl

pub map-older : {X : Type 0} (f : Record → X) (past : Past) (r : Record) (ks : List ℕ) →
    Below (length past) ks → map (at f (r ∷ past)) ks ≡ map (at f past) ks
map-older f past r [] below = refl
map-older {X} f past r (k ∷ ks) below =
    let here : at f (r ∷ past) k ≡ at f past k =
    at-older f past r k (below k (rw (eq-eqb k k refl) refl)) in
    let rest : map (at f (r ∷ past)) ks ≡ map (at f past) ks = map-older f past r ks
    (λ j h. below j (split (k == j) (λ t. rw t refl) (λ n. rw (n, h) refl))) in
    rw (here, rest) refl

below-filter : (n : ℕ) (t : ℕ → Bool) (ks : List ℕ) → Below n ks → Below n (filter t ks)
below-filter n t ks below = λ j h. below j (is_in-filter t ks j h).0

pub waiting_sends-below : (past : Past) (q : ℕ) → Below (length past) (waiting_sends past q)
waiting_sends-below past q = below-filter (length past) _ (blocked_sends past q)
    (blocked_sends-below past q)

pub waiting_receives-below : (past : Past) (q : ℕ) → Below (length past) (waiting_receives past q)
waiting_receives-below past q = below-filter (length past) _ (blocked_receives past q)
    (λ j h. blocked-below past Receive q j h)

-- places fall -------------------------------------------------------------------------------------

falls-if : (b : Bool) (k : ℕ) (ks : List ℕ) → Falls ks → Below k ks →
    Falls (if b then k ∷ ks else ks)
falls-if b k ks falls below = grind arith

falls-blocked_sends : (past : Past) (q : ℕ) → Falls (blocked_sends past q)
falls-blocked_sends [] q = tt
falls-blocked_sends (r ∷ past) q = falls-if _ (length past) (blocked_sends past q)
    (falls-blocked_sends past q) (blocked_sends-below past q)

falls-blocked_receives : (past : Past) (q : ℕ) → Falls (blocked_receives past q)
falls-blocked_receives [] q = tt
falls-blocked_receives (r ∷ past) q = falls-if _ (length past) (blocked_receives past q)
    (falls-blocked_receives past q) (λ j h. blocked-below past Receive q j h)

pub falls-senders : (past : Past) (q : ℕ) → Falls (waiting_sends past q)
falls-senders past q = falls-filter _ (blocked_sends past q) (falls-blocked_sends past q)

pub falls-receivers : (past : Past) (q : ℕ) → Falls (waiting_receives past q)
falls-receivers past q = falls-filter _ (blocked_receives past q) (falls-blocked_receives past q)

-- what a Got says
pub record GotSays (past : Past) (p : ℕ) (call : Call) (m : ℕ) (a : Option ℕ) : Type 0 where
  pub queue : ℕ
  pub on : called_queue past p call ≡ Some queue
  pub best : best past queue ≡ Some m
  pub admitted : a ≡ least (waiting_sends past queue)

pub got-all : (past : Past) (p : ℕ) (call : Call) (m : ℕ) (a n : Option ℕ) →
    Says past p call (Got m a n) → GotSays past p call m a
got-all past p call m a n says = grind arith

-- what a Handed says
pub record HandedSays (past : Past) (p : ℕ) (call : Call) (w : ℕ) : Type 0 where
  pub queue : ℕ
  pub on : called_queue past p call ≡ Some queue
  pub first : least (waiting_receives past queue) ≡ Some w

pub handed-all : (past : Past) (p : ℕ) (call : Call) (w : ℕ) → Says past p call (Handed w) →
    HandedSays past p call w
handed-all past p call w says = grind arith

falls-with : (o : Option ℕ) (ks : List ℕ) → Falls ks → ((w : ℕ) → o ≡ Some w → Below w ks) →
    Falls (with_place o ks)
falls-with o ks falls below = grind arith

best-inside : (past : Past) (q m : ℕ) → best past q ≡ Some m → is_in (present past q) m ≡ true
best-inside past q m e = (find-in (λ k. list_all (goes_first past k) (present past q))
    (present past q) m e).0

falls-got : (past : Past) → Legal past →
    (p : ℕ) (call : Call) (m : ℕ) (a n : Option ℕ) (payload : List ℕ) (q : ℕ) →
    Says past p call (Got m a n) → Falls (present past q) →
    Falls (present (rec p call (Got m a n) payload ∷ past) q)
falls-got past legal p call m a n payload q says falls =
    let got = got-all past p call m a n says in
    let facts : GotFacts past got.queue m a =
    record { inside = best-inside past got.queue m got.best; admitted = got.admitted } in
    split (q == got.queue)
    (λ t. let same : q ≡ got.queue = eqb-true q got.queue t in
    let mine : GotFacts past q m a = subst (λ (k : ℕ). GotFacts past k m a) (sym same) facts in
    let is = present-got_here past legal p call m a n payload q mine in
    subst Falls (sym is) (falls-with a (without m (present past q))
    (falls-filter _ (present past q) falls)
    (λ w e j h. let there = is_in-filter (λ k. not (m == k)) (present past q) j h in
    accepted-older past legal q j w (rw (present-admitted past q j there.0) refl)
    (least-in (waiting_sends past q) w (sym mine.admitted ∙ e)))))
    (λ f. let is = present-got_elsewhere past p call m a n payload got.queue q facts
    (eqb-false q got.queue f) in subst Falls (sym is) falls)

falls-next : (past : Past) → Legal past →
    (p : ℕ) (call : Call) (reply : Reply) (payload : List ℕ) (q : ℕ) → Says past p call reply →
    Falls (present past q) → Falls (present (rec p call reply payload ∷ past) q)
falls-next past legal p call reply payload q says falls =
    grind (
      arith,
      falls-got,
      Falls,
      present-handed,
      present-queued,
      present-below,
      present-queued_elsewhere,
    )

pub falls-present : (past : Past) → Legal past → (q : ℕ) → Falls (present past q)
falls-present [] legal q = tt
falls-present (r ∷ past) legal q = falls-next past legal.0 r.entry.process r.entry.call
    r.entry.reply r.payload q (legal_says past r legal.1) (falls-present past legal.0 q)
