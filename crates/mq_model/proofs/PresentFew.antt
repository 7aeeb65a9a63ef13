-- A queue never holds more messages than its creator allowed.
use Rattle.std.proofs.Common.{◌≡◌, ℕ, ◌<◌, ◌≤◌, ◌==◌, Bool, true, false, ◌&&◌, List, [], ◌∷◌, length, Option, Some, refl, sym, ◌∙◌, subst, arith, eqb-true, eq-eqb, ℤ, int_le, pos}
use Rattle.std.specs.Option.{option_map}
use Rattle.std.proofs.lemmas.Bool.{eqb-false}
use Rattle.mq_model.specs.Record.{Record, Past}
use Rattle.mq_model.specs.Names.{creates, attributes, attributes_given, are_within_limits}
use Rattle.mq_model.specs.Descriptors.{held, called_queue, created, is_place}
use Rattle.mq_model.specs.Messages.{is_in, is_send, present, is_full}
use Rattle.mq_model.specs.Legality.{Legal, IsLegalNext}
use Rattle.mq_model.proofs.Places.{split, find-in}
use Rattle.mq_model.proofs.Cases.{Says, BestReply}
use Rattle.mq_model.proofs.LegalReplies.{legal_says}
use Rattle.mq_model.proofs.Frames.{created-below, attributes-older}
use Rattle.mq_model.proofs.HeldQueues.{created-held, created-more}
use Rattle.mq_model.proofs.Steps.{without, present-queued, present-queued_elsewhere}
use Rattle.mq_model.proofs.Presence.{sent_to, admitted-to, present-admitted, present-got_here, present-got_elsewhere, present-handed, without-fewer, GotFacts}
use Rattle.mq_model.specs.declared.entries.Attr.{Attr}
use Rattle.mq_model.specs.declared.entries.Description.{Description}
use Rattle.mq_model.specs.declared.entries.Call.{Call}
use Rattle.mq_model.specs.declared.entries.Call.TheVariants.{MqClose, MqSend, MqReceive, NextNotice, Collect, MqTimedSend, MqTimedReceive, Withdraw}
use Rattle.mq_model.specs.declared.entries.Reply.{Reply}
use Rattle.mq_model.specs.declared.entries.Reply.TheVariants.{Opened, Queued, Handed, Waits, Got, Collected, Attrs, Notice, Done, Refused, Withdrawn}

abbrev rec : ℕ → Call → Reply → List ℕ → Record
rec p call reply payload = record {
  entry = record { process = p; call = call; reply = reply };
  payload = payload;
}

-- attributes --------------------------------------------------------------------------------------

pub attributes-newest : (past : Past) (r : Record) → attributes (r ∷ past) (length past) ≡
    attributes_given r.entry.call
attributes-newest past r = rw (eq-eqb (length past) (length past) refl) refl

abbrev CreatedSays : Option Attr → Reply → Type 0
CreatedSays attr (Opened d true) = are_within_limits attr ≡ true
CreatedSays attr reply = Unit {0}

-- a record that creates its queue is an open within the limits
creates-within : (past : Past) (r : Record) → IsLegalNext past r →
    creates r.entry.call r.entry.reply ≡ true →
    are_within_limits (Some (attributes_given r.entry.call)) ≡ true
creates-within past r legal e = grind arith

-- a queue created is an older one, or the newest record created it
pub created-cases : {C : Type 0} (past : Past) (r : Record) (q : ℕ) →
    is_in (created (r ∷ past)) q ≡ true →
    (is_in (created past) q ≡ true → q < length past → C) →
    (creates r.entry.call r.entry.reply ≡ true → length past ≡ q → C) → C
created-cases past r q h older newest = grind (arith, eqb-true, created-below)

-- the attributes of each queue are within the limits
pub attributes-within : (past : Past) → Legal past → (q : ℕ) → is_in (created past) q ≡ true →
    are_within_limits (Some (attributes past q)) ≡ true
attributes-within [] legal q h = absurd (cc)
attributes-within (r ∷ past) legal q h = created-cases past r q h
    (λ old lt. rw (attributes-older past r q lt) (attributes-within past legal.0 q old))
    (λ new here. let is : attributes (r ∷ past) q ≡ attributes_given r.entry.call = rw (← here)
    (attributes-newest past r) in rw is (creates-within past r legal.1 new))

-- messages ----------------------------------------------------------------------------------------

place-some : (o : Option ℕ) (q : ℕ) → o ≡ Some q → (k : ℕ) → o ≡ Some k → q ≡ k
place-some o q e k f = let same : Some q ≡ Some k = sym e ∙ f in cc

-- what was called on is a queue
pub called-created : (past : Past) → Legal past → (p q : ℕ) (call : Call) →
    called_queue past p call ≡ Some q → is_in (created past) q ≡ true
called-created past legal p q call e = grind (arith, created-held)

pub sent-created : (past : Past) → Legal past → (m q : ℕ) → sent_to past m ≡ Some q →
    is_in (created past) q ≡ true
sent-created [] legal m q e = absurd (cc)
sent-created (r ∷ past) legal m q e = split (m == length past)
    (λ t. let here : called_queue past r.entry.process r.entry.call ≡ Some q = rw t at e in
    created-more past r q (called-created past legal.0 r.entry.process q r.entry.call here))
    (λ f. let old : sent_to past m ≡ Some q = rw f at e in created-more past r q
    (sent-created past legal.0 m q old))

-- messages are in queues that were created
pub present-created : (past : Past) → Legal past → (q m : ℕ) → is_in (present past q) m ≡ true →
    is_in (created past) q ≡ true
present-created past legal q m h = sent-created past legal m q
    (admitted-to past q m (present-admitted past q m h)).to

pub none-in : (xs : List ℕ) → ((m : ℕ) → is_in xs m ≡ true → ⊥) → xs ≡ []
none-in [] none = refl
none-in (x ∷ xs) none = absurd (none x (rw (eq-eqb x x refl) refl))

-- a queue not yet created is empty
pub present-new : (past : Past) → Legal past → (q : ℕ) → length past ≤ q → present past q ≡ []
present-new past legal q le = none-in (present past q) (λ m h. let lt = created-below past q
    (present-created past legal q m h) in omega arith)

le-one : (a : ℤ) → int_le (pos 1) a ≡ true → int_le (pos 0) a ≡ true
le-one a h = grind arith

le-less : (a : ℤ) (m n : ℕ) → m ≤ n → int_le (pos n) a ≡ true → int_le (pos m) a ≡ true
le-less a m n le h = grind arith

abbrev Few : Past → ℕ → Type 0
Few past q = int_le (pos (length (present past q))) (attributes past q).maxmsg ≡ true

-- the records after which the messages of a queue have not grown
not-more : (past : Past) (r : Record) (q : ℕ) → q < length past →
    length (present (r ∷ past) q) ≤ length (present past q) → Few past q → Few (r ∷ past) q
not-more past r q lt le before = rw (attributes-older past r q lt)
    (le-less (attributes past q).maxmsg (length (present (r ∷ past) q))
    (length (present past q)) le before)

without-le : (m : ℕ) (xs : List ℕ) → length (without m xs) ≤ length xs
without-le m [] = omega arith
without-le m (x ∷ xs) = let le = without-le m xs in split (m == x) (λ t. rw t (omega (arith, le)))
    (λ f. rw f (omega (arith, le)))

few-given : (past : Past) → Legal past →
    (p : ℕ) (call : Call) (m : ℕ) (a n : Option ℕ) (payload : List ℕ) (k : ℕ) →
    GotFacts past k m a → (q : ℕ) →
    length (present (rec p call (Got m a n) payload ∷ past) q) ≤ length (present past q)
few-given past legal p call m a n payload k facts q = grind (
  arith,
  eqb-true,
  present-got_here,
  without-fewer,
  without,
  present-got_elsewhere,
  eqb-false,
)

got-facts : (past : Past) (h : Description) (m : ℕ) (a n : Option ℕ) →
    BestReply past h (Got m a n) → GotFacts past h.queue m a
got-facts past h m a n says = record {
  inside = (find-in _ (present past h.queue) m says.0).0;
  admitted = says.1;
}

few-got : (past : Past) → Legal past →
    (p : ℕ) (call : Call) (m : ℕ) (a n : Option ℕ) (payload : List ℕ) →
    Says past p call (Got m a n) → (q : ℕ) →
    length (present (rec p call (Got m a n) payload ∷ past) q) ≤ length (present past q)
few-got past legal p (MqReceive d room) m a n payload says q = few-given past legal p
    (MqReceive d room) m a n payload says.0.queue (got-facts past says.0 m a n says.3) q
few-got past legal p (MqTimedReceive d room until now) m a n payload says q = few-given past legal p
    (MqTimedReceive d room until now) m a n payload says.0.queue
    (got-facts past says.0 m a n says.3) q
few-got past legal p (MqClose d) m a n payload says q = absurd says.0
few-got past legal p (MqSend d prio len) m a n payload says q = absurd says.3
few-got past legal p (MqTimedSend d prio len until now) m a n payload says q = absurd says.3
few-got past legal p NextNotice m a n payload says q = absurd (cc)
few-got past legal p Collect m a n payload says q = absurd (cc)
few-got past legal p (Withdraw now) m a n payload says q = absurd (cc)
few-got past legal p call m a n payload says q = absurd says

-- the descriptor of a call is of the queue that the call is made on
pub called-on : (past : Past) (p d q : ℕ) (h : Description) → held past p d ≡ Some h →
    is_place q (option_map (λ h. h.queue) (held past p d)) ≡ true → h.queue ≡ q
called-on past p d q h e on = let test : (h.queue == q) ≡ true = rw e at on in eqb-true _ _ test

few-sent : (past : Past) → Legal past →
    (p d : ℕ) (call : Call) (h : Description) (n : Option ℕ) (payload : List ℕ) →
    is_send call ≡ true → called_queue past p call ≡ option_map (λ h. h.queue) (held past p d) →
    held past p d ≡ Some h → is_full past h.queue ≡ false →
    (q : ℕ) → q < length past → Few past q → Few (rec p call (Queued n) payload ∷ past) q
few-sent past legal p d call h n payload sends calls is free q lt before =
    grind (arith, called-on, attributes-older, present-queued, present-queued_elsewhere)

few-queued : (past : Past) → Legal past → (p : ℕ) (call : Call) (n : Option ℕ) (payload : List ℕ) →
    Says past p call (Queued n) → (q : ℕ) → q < length past → Few past q →
    Few (rec p call (Queued n) payload ∷ past) q
few-queued past legal p call n payload says q lt before = grind (arith, few-sent)

few-next : (past : Past) → Legal past → (p : ℕ) (call : Call) (reply : Reply) (payload : List ℕ) →
    Says past p call reply → (q : ℕ) → q < length past → Few past q →
    Few (rec p call reply payload ∷ past) q
few-next past legal p call (Queued n) payload says q lt before =
    few-queued past legal p call n payload says q lt before
few-next past legal p call (Got m a n) payload says q lt before =
    not-more past (rec p call (Got m a n) payload) q lt
    (few-got past legal p call m a n payload says q) before
few-next past legal p call (Handed w) payload says q lt before =
    not-more past (rec p call (Handed w) payload) q lt (rw (present-handed past p call w payload q)
    (omega arith)) before
few-next past legal p call (Opened d created) payload says q lt before =
    not-more past (rec p call (Opened d created) payload) q lt (omega arith) before
few-next past legal p call Waits payload says q lt before = not-more past (rec p call Waits payload)
    q lt (omega arith) before
few-next past legal p call (Collected b) payload says q lt before =
    not-more past (rec p call (Collected b) payload) q lt (omega arith) before
few-next past legal p call (Withdrawn b) payload says q lt before =
    not-more past (rec p call (Withdrawn b) payload) q lt (omega arith) before
few-next past legal p call (Attrs s) payload says q lt before =
    not-more past (rec p call (Attrs s) payload) q lt (omega arith) before
few-next past legal p call (Notice v) payload says q lt before =
    not-more past (rec p call (Notice v) payload) q lt (omega arith) before
few-next past legal p call Done payload says q lt before = not-more past (rec p call Done payload) q
    lt (omega arith) before
few-next past legal p call (Refused f) payload says q lt before =
    not-more past (rec p call (Refused f) payload) q lt (omega arith) before

-- the record that creates a queue leaves it empty
creates-opened : (call : Call) (reply : Reply) → creates call reply ≡ true →
    (d : ℕ) × (reply ≡ Opened d true)
creates-opened call reply e = grind arith

first-two : (a b c d : Bool) → (a && b && c && d) ≡ true → (a ≡ true) × (b ≡ true)
first-two a b c d e = grind arith

within-both : (a : Attr) → are_within_limits (Some a) ≡ true →
    (int_le (pos 1) a.maxmsg ≡ true) × (int_le a.maxmsg (pos 4096) ≡ true)
within-both a e = first-two (int_le (pos 1) a.maxmsg) (int_le a.maxmsg (pos 4096))
    (int_le (pos 1) a.msgsize) (int_le a.msgsize (pos 65536)) e

pub within-positive_maxmsg : (a : Attr) → are_within_limits (Some a) ≡ true →
    int_le (pos 1) a.maxmsg ≡ true
within-positive_maxmsg a e = (within-both a e).0

within-positive : (a : Attr) → are_within_limits (Some a) ≡ true → int_le (pos 0) a.maxmsg ≡ true
within-positive a e = le-one a.maxmsg (within-both a e).0

within-most : (a : Attr) → are_within_limits (Some a) ≡ true → int_le a.maxmsg (pos 4096) ≡ true
within-most a e = (within-both a e).1

few-new : (past : Past) (r : Record) → Legal (r ∷ past) →
    creates r.entry.call r.entry.reply ≡ true → Few (r ∷ past) (length past)
few-new past r legal new =
    let is = creates-opened r.entry.call r.entry.reply new in
    let empty : present (r ∷ past) (length past) ≡ [] =
    rw is.1 (present-new past legal.0 (length past) (omega arith)) in
    rw (attributes-newest past r, empty) (within-positive (attributes_given r.entry.call)
    (creates-within past r legal.1 new))

-- a queue holds at most as many messages as its creator allowed
pub present-few : (past : Past) → Legal past → (q : ℕ) → is_in (created past) q ≡ true →
    int_le (pos (length (present past q))) (attributes past q).maxmsg ≡ true
present-few [] legal q h = absurd (cc)
present-few (r ∷ past) legal q h = created-cases past r q h
    (λ old lt. few-next past legal.0 r.entry.process r.entry.call r.entry.reply r.payload
    (legal_says past r legal.1) q lt (present-few past legal.0 q old))
    (λ new here. let P : ℕ → Type 0 = Few (r ∷ past) in subst P here (few-new past r legal new))

pub at-most : (a : ℤ) (n k : ℕ) → int_le (pos n) a ≡ true → int_le a (pos k) ≡ true → n ≤ k
at-most a n k h g = grind arith

pub created-bound : (past : Past) → Legal past → (q : ℕ) → is_in (created past) q ≡ true →
    length (present past q) ≤ 4096
created-bound past legal q h = at-most (attributes past q).maxmsg (length (present past q)) 4096
    (present-few past legal q h) (within-most (attributes past q)
    (attributes-within past legal q h))
