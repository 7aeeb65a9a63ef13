-- When a receive waits, its queue is empty.
use Rattle.std.proofs.lemmas.Bool.Decides.{nat_tests}
use Rattle.std.proofs.Common.{◌≡◌, ℕ, ◌==◌, true, false, ◌&&◌, ◌||◌, not, List, [], ◌∷◌, length, Option, Some, None, refl, sym, ◌∙◌, ap, subst, arith, eqb-true, ne_eqb}
use Rattle.std.specs.List.{filter}
use Rattle.std.specs.Option.{option_map}
use Rattle.std.proofs.lemmas.Bool.{eqb-false, and_parts}
use Rattle.mq_model.specs.Record.{Record, Past}
use Rattle.mq_model.specs.Descriptors.{is_place, is_on, called_queue, held}
use Rattle.mq_model.specs.Messages.{is_in, if_in, taken, present, admitted, least, blocked_sends, blocked_receives, blocks_send, is_receive, best, ended_receives, ended_sends, waiting_sends, waiting_receives}
use Rattle.mq_model.specs.Legality.{Legal}
use Rattle.mq_model.proofs.Places.{split, is_in-filter, find-in}
use Rattle.mq_model.proofs.Best.{best-none}
use Rattle.mq_model.proofs.Cases.{Says}
use Rattle.mq_model.proofs.LegalReplies.{legal_says}
use Rattle.mq_model.proofs.Steps.{without, filter-both, blocked_sends-below, if_in-inside, present-queued_elsewhere}
use Rattle.mq_model.proofs.PresentFew.{called-on}
use Rattle.mq_model.specs.declared.entries.Description.{Description}
use Rattle.mq_model.specs.declared.entries.Call.{Call}
use Rattle.mq_model.specs.declared.entries.Call.TheVariants.{MqClose, MqSend, MqReceive, NextNotice, Collect, MqTimedSend, MqTimedReceive, Withdraw}
use Rattle.mq_model.specs.declared.entries.Reply.{Reply}
use Rattle.mq_model.specs.declared.entries.Reply.TheVariants.{Queued, Handed, Waits, Got, Withdrawn}
use Rattle.mq_model.proofs.NamedWaits.{least-in}

least-none : (xs : List ℕ) → least xs ≡ None → xs ≡ []
least-none [] e = refl
least-none (x ∷ xs) e = absurd (cc)

same_queue : (o : Option ℕ) (q k : ℕ) → is_place q o ≡ true → is_place k o ≡ true → q ≡ k
same_queue o q k h g = grind (arith, eqb-true)

-- a waiting send is to one queue
blocked-one_queue : (past : Past) (q k w : ℕ) → is_in (blocked_sends past q) w ≡ true →
    is_in (blocked_sends past k) w ≡ true → q ≡ k
blocked-one_queue [] q k w h g = absurd (cc)
blocked-one_queue (r ∷ past) q k w h g =
    split (w == length past)
    (λ here. let e : w ≡ length past = eqb-true _ _ here in
    same_queue (called_queue past r.entry.process r.entry.call) q k (newest past r q w e h)
    (newest past r k w e g))
    (λ there. let ne : w ≡ length past → ⊥ = eqb-false _ _ there in
    blocked-one_queue past q k w (older past r q w ne h) (older past r k w ne g))
  where
    newest : (past : Past) (r : Record) (q w : ℕ) → w ≡ length past →
        is_in (blocked_sends (r ∷ past) q) w ≡ true →
        is_place q (called_queue past r.entry.process r.entry.call) ≡ true
    newest past r q w e h =
        split (blocks_send r.entry.call r.entry.reply && is_on past r.entry q)
        (λ t. (and_parts (blocks_send r.entry.call r.entry.reply) (is_on past r.entry q) t).1)
        (λ f. let old : is_in (blocked_sends past q) w ≡ true = rw f at h in
        absurd (omega (arith, blocked_sends-below past q w old)))

    older : (past : Past) (r : Record) (q w : ℕ) → (w ≡ length past → ⊥) →
        is_in (blocked_sends (r ∷ past) q) w ≡ true → is_in (blocked_sends past q) w ≡ true
    older past r q w ne h =
        split (blocks_send r.entry.call r.entry.reply && is_on past r.entry q)
        (λ t. let new : (length past == w || is_in (blocked_sends past q) w) ≡ true = rw t at h in
        let other : (length past == w) ≡ false = ne_eqb _ _ (λ e. ne (sym e)) in
        rw other at new)
        (λ f. rw f at h)

abbrev rec : ℕ → Call → Reply → List ℕ → Record
rec p call reply payload = record {
  entry = record { process = p; call = call; reply = reply };
  payload = payload;
}

-- when a receive waits on queue q, the queue is empty
abbrev IsEmptyWhereWaiting : Past → ℕ → ℕ → Type 0
IsEmptyWhereWaiting past q w = is_in (waiting_receives past q) w ≡ true → present past q ≡ []

empty-sent : (past : Past) (p : ℕ) (call : Call) (d : ℕ) (h : Description) (n : Option ℕ)
    (payload : List ℕ) (q w : ℕ) →
    called_queue past p call ≡ option_map (λ h. h.queue) (held past p d) → held past p d ≡ Some h →
    least (waiting_receives past h.queue) ≡ None → IsEmptyWhereWaiting past q w →
    IsEmptyWhereWaiting (rec p call (Queued n) payload ∷ past) q w
empty-sent past p call d h n payload q w calls is none before waits =
    grind (arith, called-on, least-none, present-queued_elsewhere)

empty-queued : (past : Past) (p : ℕ) (call : Call) (n : Option ℕ) (payload : List ℕ) (q w : ℕ) →
    Says past p call (Queued n) → IsEmptyWhereWaiting past q w →
    IsEmptyWhereWaiting (rec p call (Queued n) payload ∷ past) q w
empty-queued past p call n payload q w says before h = grind (arith, empty-sent)

-- the waits that did not end, after a reply that ends one
empty-ended : (past : Past) (w0 q w : ℕ) → IsEmptyWhereWaiting past q w →
    is_in (filter (λ v. not (is_in (w0 ∷ ended_receives past) v)) (blocked_receives past q)) w ≡
    true → present past q ≡ []
empty-ended past w0 q w before h =
    let still : is_in (without w0 (waiting_receives past q)) w ≡ true =
    rw (← filter-both (λ k. w0 == k) (is_in (ended_receives past)) (blocked_receives past q)) h
    in
    before (is_in-filter (λ k. not (w0 == k)) (waiting_receives past q) w still).0

empty-handed : (past : Past) (p : ℕ) (call : Call) (w0 : ℕ) (payload : List ℕ) (q w : ℕ) →
    IsEmptyWhereWaiting past q w → IsEmptyWhereWaiting (rec p call (Handed w0) payload ∷ past) q w
empty-handed past p call w0 payload q w before h = filter-both (λ k. length past == k)
    (is_in (taken past)) (admitted past q) ∙ ap (without (length past))
    (empty-ended past w0 q w before h)

empty-received : (past : Past) (p : ℕ) (call : Call) (d : ℕ) (h : Description) (payload : List ℕ)
    (q w : ℕ) → is_receive call ≡ true →
    called_queue past p call ≡ option_map (λ h. h.queue) (held past p d) → held past p d ≡ Some h →
    best past h.queue ≡ None → IsEmptyWhereWaiting past q w →
    IsEmptyWhereWaiting (rec p call Waits payload ∷ past) q w
empty-received past p call d h payload q w receives calls is none before waits =
    split (is_place q (called_queue past p call))
    (λ on. let same : h.queue ≡ q = called-on past p d q h is (rw (← calls) on) in
    let P : ℕ → Type 0 = λ k. present past k ≡ [] in
    subst P same (best-none past h.queue none))
    (λ off. let old : is_in (waiting_receives past q) w ≡ true = rw (receives, off) at waits in
    before old)

empty-waits : (past : Past) (p : ℕ) (call : Call) (payload : List ℕ) (q w : ℕ) →
    Says past p call Waits → IsEmptyWhereWaiting past q w →
    IsEmptyWhereWaiting (rec p call Waits payload ∷ past) q w
empty-waits past p (MqSend d prio len) payload q w says before h = before h
empty-waits past p (MqTimedSend d prio len until now) payload q w says before h = before h
empty-waits past p (MqReceive d room) payload q w says before h = empty-received past p
    (MqReceive d room) d says.0 payload q w refl refl says.1 says.3.0 before h
empty-waits past p (MqTimedReceive d room until now) payload q w says before h =
    empty-received past p (MqTimedReceive d room until now) d says.0 payload q w refl refl says.1
    says.3.0 before h
empty-waits past p (MqClose d) payload q w says before h = absurd says.0
empty-waits past p NextNotice payload q w says before h = absurd (cc)
empty-waits past p Collect payload q w says before h = absurd (cc)
empty-waits past p (Withdraw now) payload q w says before h = absurd (cc)
empty-waits past p call payload q w says before h = absurd says

empty-taken : (past : Past) (p : ℕ) (call : Call) (m : ℕ) (a n : Option ℕ) (payload : List ℕ)
    (q k : ℕ) → best past k ≡ Some m → a ≡ least (waiting_sends past k) → present past q ≡ [] →
    present (rec p call (Got m a n) payload ∷ past) q ≡ []
empty-taken past p call m a n payload q k gives admits empty =
    by (if_in (blocked_sends past q) a) refl
  where
    by : (o : Option ℕ) → if_in (blocked_sends past q) a ≡ o →
        present (rec p call (Got m a n) payload ∷ past) q ≡ []
    by None e = rw e (filter-both (λ k. m == k) (is_in (taken past)) (admitted past q) ∙
        ap (without m) empty)
    by (Some w1) e =
        let inside = if_in-inside (blocked_sends past q) a w1 e in
        let first : least (waiting_sends past k) ≡ Some w1 = sym admits ∙ inside.1 in
        let there = (is_in-filter (λ k. not (is_in (ended_sends past) k)) (blocked_sends past k) w1
        (least-in _ w1 first)).0 in
        grind (arith, nat_tests, blocked-one_queue, find-in)

empty-got : (past : Past) (p : ℕ) (call : Call) (m : ℕ) (a n : Option ℕ) (payload : List ℕ)
    (q w : ℕ) → Says past p call (Got m a n) → IsEmptyWhereWaiting past q w →
    IsEmptyWhereWaiting (rec p call (Got m a n) payload ∷ past) q w
empty-got past p call m a n payload q w says before h = grind (arith, empty-taken)

empty-more : (past : Past) (p : ℕ) (call : Call) (reply : Reply) (payload : List ℕ) (q w : ℕ) →
    Says past p call reply → IsEmptyWhereWaiting past q w →
    IsEmptyWhereWaiting (rec p call reply payload ∷ past) q w
empty-more past p call (Withdrawn w0) payload q w says before h = empty-ended past w0 q w before h
empty-more past p call (Queued n) payload q w says before h = empty-queued past p call n payload
    q w says before h
empty-more past p call (Handed w0) payload q w says before h =
    empty-handed past p call w0 payload q w before h
empty-more past p call Waits payload q w says before h = empty-waits past p call payload
    q w says before h
empty-more past p call (Got m a n) payload q w says before h = empty-got past p call m a n payload
    q w says before h
empty-more past p call reply payload q w says before h = before h

-- if a receive waits on a queue, the queue is empty
pub waiting-empty : (past : Past) → Legal past → (q w : ℕ) →
    is_in (waiting_receives past q) w ≡ true → present past q ≡ []
waiting-empty [] legal q w h = refl
waiting-empty (r ∷ past) legal q w h = empty-more past r.entry.process r.entry.call r.entry.reply
    r.payload q w (legal_says past r legal.1) (λ e. waiting-empty past legal.0 q w e) h
