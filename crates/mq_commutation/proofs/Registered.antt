-- A registration is on the queue of the descriptor with which it was made, and that descriptor is
-- still held.
use Rattle.std.proofs.lemmas.Bool.Decides.{nat_tests}
use Rattle.std.proofs.Common.{◌≡◌, ℕ, ◌==◌, Bool, true, false, ◌&&◌, List, [], ◌∷◌, length, Option, Some, None, is_none, refl, sym, ◌∙◌, ap, subst, eqb-true, eq-eqb, arith}
use Rattle.std.specs.Option.{option_map}
use Rattle.std.proofs.lemmas.Bool.{and_parts}
use Rattle.mq_model.specs.Record.{Past}
use Rattle.mq_model.specs.Threads.{shares}
use Rattle.mq_model.specs.Descriptors.{called_queue, held, held_after, is_on, is_place}
use Rattle.mq_model.specs.Notices.{ends, only_if, registered, registration_of, unless}
use Rattle.mq_model.specs.Legality.{IsLegalNext, Legal}
use Rattle.mq_model.specs.declared.entries.Description.{Description}
use Rattle.mq_model.specs.declared.entries.Registration.{Registration}
use Rattle.mq_model.specs.declared.entries.Call.{Call}
use Rattle.mq_model.specs.declared.entries.Call.TheVariants.{MqOpen, MqClose, MqUnlink, MqSend, MqReceive, MqTimedSend, MqTimedReceive, MqGetattr, MqSetattr, MqNotify, NextNotice, Collect, Withdraw}
use Rattle.mq_model.specs.declared.entries.Reply.{Reply}
use Rattle.mq_model.specs.declared.entries.Reply.TheVariants.{Opened, Queued, Handed, Waits, Got, Collected, Attrs, Notice, Done, Refused, Withdrawn}
use Rattle.mq_model.proofs.Mates.{held-mates}
use Rattle.mq_model.proofs.Places.{split}
use Rattle.mq_model.proofs.Presence.{place-is}
use Rattle.mq_model.proofs.OpenReplies.{lowest_free-is, opened-says}
use Rattle.mq_equivalence.specs.Views.{Registered, registered_as}
use Rattle.mq_equivalence.proofs.Notified.{viewed}

-- the descriptor is held, and is for this queue
pub record HeldOn (o : Option Description) (q : ℕ) : Type 0 where
  pub description : Description
  pub is : o ≡ Some description
  pub on : description.queue ≡ q

record Stood (ended : Registration → Bool) (o : Option Registration)
    (n : Registration) : Type 0 where
  before : o ≡ Some n
  kept : ended n ≡ false

stood : (ended : Registration → Bool) (o : Option Registration) (n : Registration) →
    unless ended o ≡ Some n → Stood ended o n
stood ended o n e = grind arith

-- an entry that does not end the registration does not close its descriptor
keeps : (past : Past) (p : ℕ) (call : Call) (reply : Reply) (payload : List ℕ) (q : ℕ)
    (n : Registration) →
    IsLegalNext past (record {
      entry = record { process = p; call = call; reply = reply };
      payload = payload;
    }) → shares p n.process ≡ true → ends (is_place q (called_queue past p call))
    (record { process = p; call = call; reply = reply }) n ≡ false → HeldOn (held past p n.d) q →
    HeldOn (held_after past call payload reply n.d (held past p n.d)) q
keeps past p (MqSend d prio len) (Opened e new) payload q n next own kept h = h
keeps past p (MqReceive d room) (Opened e new) payload q n next own kept h = h
keeps past p (MqTimedSend d prio len until now) (Opened e new) payload q n next own kept h = h
keeps past p (MqTimedReceive d room until now) (Opened e new) payload q n next own kept h = h
keeps past p (MqGetattr d) (Opened e new) payload q n next own kept h = h
keeps past p (MqSetattr d nonblock) (Opened e new) payload q n next own kept h = h
keeps past p (MqNotify d value) (Opened e new) payload q n next own kept h = h
keeps past p (MqOpen flags attr) (Opened e new) payload q n next own kept h =
    split (e == n.d)
    (λ t. let same : e ≡ n.d = eqb-true e n.d t in
    let free =
    (lowest_free-is past p e (opened-says past p flags attr payload e new next.reply).free).0 in
    let there : held past p e ≡ Some h.description =
    subst (λ (j : ℕ). held past p j ≡ Some h.description) (sym same) h.is in
    let bad : true ≡ false = sym free ∙ ap (λ (o : Option Description). is_none o) there in
    absurd (cc))
    (λ f. rw f h)
keeps past p (MqClose d) (Opened e new) payload q n next own kept h = h
keeps past p MqUnlink (Opened e new) payload q n next own kept h = h
keeps past p NextNotice (Opened e new) payload q n next own kept h = h
keeps past p Collect (Opened e new) payload q n next own kept h = h
keeps past p (Withdraw now) (Opened e new) payload q n next own kept h = h
keeps past p call (Queued l) payload q n next own kept h = h
keeps past p call (Handed w) payload q n next own kept h = h
keeps past p call Waits payload q n next own kept h = h
keeps past p call (Got m a l) payload q n next own kept h = h
keeps past p call (Collected b) payload q n next own kept h = h
keeps past p call (Withdrawn w) payload q n next own kept h = h
keeps past p (MqSend d prio len) (Attrs s) payload q n next own kept h = h
keeps past p (MqReceive d room) (Attrs s) payload q n next own kept h = h
keeps past p (MqTimedSend d prio len until now) (Attrs s) payload q n next own kept h = h
keeps past p (MqTimedReceive d room until now) (Attrs s) payload q n next own kept h = h
keeps past p (MqGetattr d) (Attrs s) payload q n next own kept h = h
keeps past p (MqSetattr d nonblock) (Attrs s) payload q n next own kept h = grind arith
keeps past p (MqNotify d value) (Attrs s) payload q n next own kept h = h
keeps past p (MqOpen flags attr) (Attrs s) payload q n next own kept h = h
keeps past p (MqClose d) (Attrs s) payload q n next own kept h = h
keeps past p MqUnlink (Attrs s) payload q n next own kept h = h
keeps past p NextNotice (Attrs s) payload q n next own kept h = h
keeps past p Collect (Attrs s) payload q n next own kept h = h
keeps past p (Withdraw now) (Attrs s) payload q n next own kept h = h
keeps past p call (Notice v) payload q n next own kept h = h
keeps past p (MqSend d prio len) Done payload q n next own kept h = h
keeps past p (MqReceive d room) Done payload q n next own kept h = h
keeps past p (MqTimedSend d prio len until now) Done payload q n next own kept h = h
keeps past p (MqTimedReceive d room until now) Done payload q n next own kept h = h
keeps past p (MqGetattr d) Done payload q n next own kept h = h
keeps past p (MqSetattr d nonblock) Done payload q n next own kept h = h
keeps past p (MqNotify d value) Done payload q n next own kept h = h
keeps past p (MqOpen flags attr) Done payload q n next own kept h = h
keeps past p (MqClose d) Done payload q n next own kept h =
    split (d == n.d)
    (λ t. let bad : true ≡ false = rw (t, own) at kept in absurd (cc))
    (λ f. rw f h)
keeps past p MqUnlink Done payload q n next own kept h = h
keeps past p NextNotice Done payload q n next own kept h = h
keeps past p Collect Done payload q n next own kept h = h
keeps past p (Withdraw now) Done payload q n next own kept h = h
keeps past p call (Refused f) payload q n next own kept h = h

record MadeOn (past : Past) (p : ℕ) (call : Call) (reply : Reply) (n : Registration) : Type 0 where
  own : p ≡ n.process
  on : called_queue past p call ≡ option_map (λ (h : Description). h.queue) (held past p n.d)
  same : (payload : List ℕ) (before : Option Description) →
      held_after past call payload reply n.d before ≡ before

only-is : (b : Bool) (o : Option Registration) (n : Registration) → only_if b o ≡ Some n →
    (b ≡ true) × (o ≡ Some n)
only-is b o n e = grind arith

held-queue : (o : Option Description) (q : ℕ) → option_map (λ (h : Description). h.queue) o ≡
    Some q → HeldOn o q
held-queue o q e = grind arith

pub registered-held : (past : Past) → Legal past → (q : ℕ) (n : Registration) →
    registered past q ≡ Some n → HeldOn (held past n.process n.d) q
registered-held [] legal q n e = absurd (cc)
registered-held (r ∷ past) legal q n e =
    by (only_if (is_on past r.entry q) (registration_of (length past) r.entry.process r.entry.call
    r.entry.reply)) refl e (λ old. registered-held past legal.0 q n old)
  where
    by : (o : Option Registration) →
        only_if (is_on past r.entry q) (registration_of (length past) r.entry.process r.entry.call
        r.entry.reply) ≡ o → registered (r ∷ past) q ≡ Some n → (registered past q ≡ Some n →
        HeldOn (held past n.process n.d) q) → HeldOn (held (r ∷ past) n.process n.d) q
    by None is e rest =
        let old : unless (ends (is_on past r.entry q) r.entry) (registered past q) ≡ Some n =
        rw is at e in
        let x = stood (ends (is_on past r.entry q) r.entry) (registered past q) n old in
        let h = rest x.before in
        split (shares r.entry.process n.process)
        (λ t. let mates : held past r.entry.process n.d ≡ held past n.process n.d = held-mates past
        r.entry.process n.process (eqb-true _ _ t) n.d in
        let mine : HeldOn (held past r.entry.process n.d) q =
        subst (λ (o : Option Description). HeldOn o q) (sym mates) h in
        let after = keeps past r.entry.process r.entry.call r.entry.reply r.payload q n legal.1
        t x.kept mine in
        rw t (subst (λ (o : Option Description). HeldOn (held_after past r.entry.call r.payload
        r.entry.reply n.d o) q) mates after))
        (λ f. rw f h)
    by (Some m) is e rest =
        grind (arith, nat_tests, only-is, place-is, held-queue, eq-eqb)

-- a close of a descriptor for another queue ends no registration on this one
pub closed-elsewhere : (past : Past) → Legal past →
    (p : ℕ) (call : Call) (c k : ℕ) (x : Registered) → call ≡ MqClose c →
    registered_as past k ≡ Some x → is_place k (called_queue past p call) ≡ false →
    (c == x.d && shares p x.process) ≡ false
closed-elsewhere past legal p call c k x is stands off = split (c == x.d && shares p x.process)
    (λ t. by (registered past k) refl stands (and_parts (c == x.d) (shares p x.process) t))
    (λ f. f)
  where
    by : (o : Option Registration) → registered past k ≡ o → option_map viewed o ≡ Some x →
        ((c == x.d) ≡ true) × (shares p x.process ≡ true) → (c == x.d && shares p x.process) ≡ false
    by None e view both = absurd (cc)
    by (Some n) e view both =
        let same : viewed n ≡ x = cc in
        let h = registered-held past legal k n e in
        let mates = held-mates past p x.process (eqb-true _ _ both.1) x.d in
        grind (arith, nat_tests, eqb-true, eq-eqb)
