-- The table of callers remains that of the journal when it is updated for each entry.
use Rattle.std.proofs.Common.{◌≡◌, ℕ, zero, suc, ◌+◌, ◌<◌, ◌≤◌, ◌==◌, Bool, true, false, List, [], ◌∷◌, length, Option, Some, None, if◌then◌else◌, refl, sym, ◌∙◌, ap, subst, arith, eqb-true, eq-eqb, ◌⊎◌, inl, inr, get_or, slice_get}
use Rattle.std.specs.Option.{option_map, option_and_then}
use Rattle.std.specs.List.{position_from}
use Rattle.std.proofs.lemmas.List.Quantifiers.{position-Some}
use Rattle.std.proofs.lemmas.Iterator.Adapters.{position_from-zero}
use Rattle.std.proofs.lemmas.Option.{slice_get-get_or, slice_get_past}
use Rattle.std.proofs.lemmas.Bool.{eqb-false}
use Rattle.mq_model.specs.Record.{Record, Past}
use Rattle.mq_model.specs.Descriptors.{called_queue, is_place}
use Rattle.mq_model.specs.Messages.{least}
use Rattle.mq_model.specs.Deadlines.{deadline_of}
use Rattle.mq_model.specs.Waits.{is_wait, named_wait, names_wait, open_wait, answered_by}
use Rattle.mq_model.specs.Legality.{Legal, IsLegalNext, may_call}
use Rattle.mq_model.specs.Callers.{wait_in, with_wait, with_answer, waiter_in, CallersMirror, wait_kind, waiting}
use Rattle.mq_model.specs.CallersNoted.{noted_waits, with_answer_at}
use Rattle.mq_model.specs.OwnersNoted.{EntryQueue}
use Rattle.mq_model.specs.declared.callers.OpenWait.{OpenWait}
use Rattle.mq_model.specs.declared.callers.Caller.{Caller}
use Rattle.mq_model.specs.declared.callers.WaitKind.{WaitKind}
use Rattle.mq_model.specs.declared.callers.WaitKind.TheVariants.{Send, Receive}
use Rattle.mq_model.specs.declared.entries.Deadline.{Deadline}
use Rattle.mq_model.specs.declared.entries.Call.{Call}
use Rattle.mq_model.specs.declared.entries.Reply.{Reply}
use Rattle.mq_model.specs.declared.entries.Reply.TheVariants.{Handed, Waits, Got, Collected, Withdrawn}
use Rattle.mq_model.proofs.Places.{split, clash}
use Rattle.mq_model.proofs.Cases.{Says}
use Rattle.mq_model.proofs.LegalReplies.{legal_says}
use Rattle.mq_model.proofs.Rows.{row-exists}
use Rattle.mq_model.proofs.CallerLines.{wait_in-with_wait, wait_in-with_answer, answer_in-with_wait, answer_in-with_answer}
use Rattle.mq_model.proofs.Frames.{open_wait-same, answered_by-step, blocked-older}
use Rattle.mq_model.proofs.Waiters.{waiter, admits-least, hands-least}
use Rattle.mq_model.proofs.OpenWaits.{same-waiter, wait_deadline-same}
use Rattle.mq_model.proofs.NamedWaits.{least-in}

abbrev rec : ℕ → Call → Reply → List ℕ → Record
rec p call reply payload = record {
  entry = record { process = p; call = call; reply = reply };
  payload = payload;
}

abbrev until_of : Option OpenWait → Option Deadline
until_of wait = option_and_then (λ (w : OpenWait). w.until) wait

-- the reply of a call that ends a wait
abbrev pub ends_wait : Reply → Bool
ends_wait (Collected by) = true
ends_wait (Withdrawn wait) = true
ends_wait reply = false

-- a caller that makes another call than a collect or a withdrawal has no open wait
pub turn-none : (past : Past) (p : ℕ) (call : Call) (reply : Reply) → Says past p call reply →
    may_call past p call ≡ true → ends_wait reply ≡ false → open_wait past p ≡ None
turn-none past p call reply says turn not = grind arith

names-nothing : (reply : Reply) → named_wait reply ≡ None → (o : Option ℕ) →
    names_wait reply o ≡ false
names-nothing reply e o = grind arith

-- a reply that names the open wait of a caller names no other
names-one : (past : Past) (reply : Reply) (receiver w : ℕ) → named_wait reply ≡ Some w →
    open_wait past receiver ≡ Some w → (k : ℕ) → names_wait reply (open_wait past k) ≡
    (receiver == k)
names-one past reply receiver w named open_at k =
    grind (arith, eqb-true, eq-eqb, same-waiter, eqb-false)

-- a record that names no wait answers none
answered-same : (past : Past) (r : Record) → open_wait past r.entry.process ≡ None →
    named_wait r.entry.reply ≡ None → (k : ℕ) → answered_by (r ∷ past) k ≡ answered_by past k
answered-same past r none e k = answered_by-step past r none k ∙
    rw (names-nothing r.entry.reply e (open_wait past k)) refl

-- an entry of a caller without an open wait that begins no wait and names none
record IsQuiet (past : Past) (p : ℕ) (reply : Reply) : Type 0 where
  free : open_wait past p ≡ None
  goes : is_wait reply ≡ false
  unnamed : named_wait reply ≡ None

keep-quiet : (past : Past) (callers : List Caller) → CallersMirror past callers →
    (p : ℕ) (call : Call) (reply : Reply) (payload : List ℕ) → IsQuiet past p reply →
    CallersMirror (rec p call reply payload ∷ past) callers
keep-quiet past callers m p call reply payload quiet =
    let r : Record = rec p call reply payload in
    record {
      waits = λ k. m.waits k ∙ sym (open_wait-same past r quiet.free quiet.goes k);
      blocked = λ k w e. blocked-older past r w.kind w.queue w.place (m.blocked k w e);
      deadlines = λ k. m.deadlines k ∙ sym (wait_deadline-same past r quiet.free quiet.goes k);
      answers = λ k. m.answers k ∙ sym (answered-same past r quiet.free quiet.unnamed k);
    }

-- the entry answers the open wait of one caller
keep-answer : (past : Past) (callers : List Caller) → CallersMirror past callers →
    (p : ℕ) (call : Call) (reply : Reply) (payload : List ℕ) (receiver w : ℕ) →
    open_wait past p ≡ None → is_wait reply ≡ false → named_wait reply ≡ Some w →
    open_wait past receiver ≡ Some w → receiver < length callers →
    CallersMirror (rec p call reply payload ∷ past) (with_answer callers receiver (length past))
keep-answer past callers m p call reply payload receiver w free goes named open_at lt =
    let r : Record = rec p call reply payload in
    record {
      waits = λ k. ap (option_map (λ (w : OpenWait). w.place)) (wait_in-with_answer callers receiver
          (length past) k) ∙ m.waits k ∙ sym (open_wait-same past r free goes k);
      blocked = λ k x e. blocked-older past r x.kind x.queue x.place
          (m.blocked k x (sym (wait_in-with_answer callers receiver (length past) k) ∙ e));
      deadlines = λ k. ap until_of (wait_in-with_answer callers receiver (length past) k) ∙
          m.deadlines k ∙ sym (wait_deadline-same past r free goes k);
      answers = λ k. answer_in-with_answer callers receiver (length past) k lt ∙
          sym (answered_by-step past r free k ∙ rw (names-one past reply receiver w named open_at k)
          (ap (λ o. if receiver == k then Some (length past) else o) (sym (m.answers k))));
    }

-- the caller waits no longer
keep-ended : (past : Past) (callers : List Caller) → CallersMirror past callers →
    (p : ℕ) (call : Call) (reply : Reply) (payload : List ℕ) → is_wait reply ≡ false →
    named_wait reply ≡ None → p < length callers →
    CallersMirror (rec p call reply payload ∷ past) (with_wait callers p None)
keep-ended past callers m p call reply payload goes none lt =
    grind (arith, wait_in-with_wait, blocked-older, answer_in-with_wait, names-nothing)

keep-waits : (past : Past) (callers : List Caller) → CallersMirror past callers →
    (p : ℕ) (call : Call) (payload : List ℕ) (q : ℕ) → Says past p call Waits →
    open_wait past p ≡ None → called_queue past p call ≡ Some q → p < length callers →
    CallersMirror (rec p call Waits payload ∷ past)
    (with_wait callers p (Some (record {
      place = length past;
      queue = q;
      kind = wait_kind call;
      until = deadline_of call;
    })))
keep-waits past callers m p call payload q says free on lt =
    grind (arith, wait_in-with_wait, answer_in-with_wait, names-nothing, blocked-older)

-- the caller found is the one that waits since this place
none-passes : (t : Caller → Bool) (callers : List Caller) (i : ℕ) →
    position_from t i callers ≡ None → (k : ℕ) (o : Caller) → slice_get callers k ≡ Some o →
    t o ≡ false
none-passes t [] i e k o is = absurd (cc)
none-passes t (x ∷ callers) i e zero o is = grind arith
none-passes t (x ∷ callers) i e (suc k) o is = split (t x)
    (λ y. let bad : Some i ≡ None = rw y at e in absurd (cc))
    (λ n. let rest : position_from t (i + 1) callers ≡ None = rw n at e in none-passes t callers
    (i + 1) rest k o is)

abbrev waits_at : ℕ → Caller → Bool
waits_at w o = is_place w (option_map (λ x. x.place) o.wait)

record IsWaiter (past : Past) (callers : List Caller) (w p : ℕ) : Type 0 where
  is : waiter_in callers w ≡ Some p
  open_at : open_wait past p ≡ Some w
  inside : p < length callers

waits_at-open : (past : Past) (callers : List Caller) → CallersMirror past callers →
    (w p : ℕ) (o : Caller) → slice_get callers p ≡ Some o → waits_at w o ≡ true →
    open_wait past p ≡ Some w
unfolding wait_in
waits_at-open past callers m w p o line test = sym (m.waits p) ∙ by o.wait refl test
  where
    read : (x : Option OpenWait) → o.wait ≡ x → wait_in callers p ≡ x
    read x e = rw line e

    by : (x : Option OpenWait) → o.wait ≡ x → is_place w (option_map (λ x. x.place) o.wait) ≡ true →
        option_map (λ w. w.place) (wait_in callers p) ≡ Some w
    by None e t = absurd (let bad : false ≡ true = rw e at t in cc)
    by (Some x) e t = let t' : (x.place == w) ≡ true = rw e at t in rw (read (Some x) e)
        (ap Some (eqb-true _ _ t'))

waiter-found : (past : Past) (callers : List Caller) → CallersMirror past callers → (w x : ℕ) →
    open_wait past x ≡ Some w → x < length callers → IsWaiter past callers w x
unfolding waiter_in wait_in
waiter-found past callers m w x open_at lt = by (waiter_in callers w) refl
  where
    line : (o : Caller) × (slice_get callers x ≡ Some o)
    line = row-exists callers x lt

    passes : waits_at w line.0 ≡ true
    passes = inner line.0.wait refl (m.waits x ∙ open_at)
      where
        read : (y : Option OpenWait) → line.0.wait ≡ y → wait_in callers x ≡ y
        read y e = rw line.1 e

        inner : (y : Option OpenWait) → line.0.wait ≡ y →
            option_map (λ w. w.place) (wait_in callers x) ≡ Some w → waits_at w line.0 ≡ true
        inner None e h = absurd (let bad : None ≡ Some w = rw (read None e) at h in cc)
        inner (Some y) e h = let at : Some y.place ≡ Some w = rw (read (Some y) e) at h in
            let same : y.place ≡ w = cc in rw (e, eq-eqb y.place w same) refl

    by : (o : Option ℕ) → waiter_in callers w ≡ o → IsWaiter past callers w x
    by None e =
        let none : waits_at w line.0 ≡ false = none-passes (waits_at w) callers 0
        (sym (position_from-zero (waits_at w) callers) ∙ e) x line.0 line.1 in
        clash _ passes none
    by (Some y) e =
        let is = position-Some (waits_at w) callers y line.0 e in
        let at : slice_get callers y ≡ Some (get_or callers y line.0) =
        slice_get-get_or callers y line.0 is.0 in
        let opened : open_wait past y ≡ Some w = waits_at-open past callers m w y
        (get_or callers y line.0) at is.1 in
        let same : y ≡ x = same-waiter past y x w opened open_at in
        record { is = e ∙ ap Some same; open_at = open_at; inside = lt }

-- the caller of an open wait has a line
wait-inside : (past : Past) (callers : List Caller) → CallersMirror past callers → (p w : ℕ) →
    open_wait past p ≡ Some w → p < length callers
unfolding wait_in
wait-inside past callers m p w e = by (cases p)
  where
    cases : (p : ℕ) → (p < length callers) ⊎ (length callers ≤ p)
    cases p = grind arith

    none : length callers ≤ p → wait_in callers p ≡ None
    none ge = rw (slice_get_past callers p ge) refl

    by : ((p < length callers) ⊎ (length callers ≤ p)) → p < length callers
    by (inl lt) = lt
    by (inr ge) = absurd (let out : option_map (λ w. w.place) (wait_in callers p) ≡
        Some w = m.waits p ∙ e in let bad : None ≡ Some w = rw (none ge) at out in cc)

-- the entry answers the wait that its reply names, the oldest of a kind on a queue
answers-waiter : (past : Past) (callers : List Caller) → CallersMirror past callers → Legal past →
    (p : ℕ) (call : Call) (reply : Reply) (payload : List ℕ) (w : ℕ) → open_wait past p ≡ None →
    is_wait reply ≡ false → named_wait reply ≡ Some w →
    (kind : WaitKind) (q : ℕ) → least (waiting past kind q) ≡ Some w →
    CallersMirror (rec p call reply payload ∷ past)
    (with_answer_at callers (waiter_in callers w) (length past))
answers-waiter past callers m legal p call reply payload w free goes named kind q first =
    let x = waiter past legal kind q w (least-in (waiting past kind q) w first) in
    let found = waiter-found past callers m w x.0 x.1 (wait-inside past callers m x.0 w x.1) in
    let P : Option ℕ → Type 0 = λ o. CallersMirror (rec p call reply payload ∷ past)
    (with_answer_at callers o (length past)) in
    subst P (sym found.is) (keep-answer past callers m p call reply payload x.0 w free goes named
    found.open_at found.inside)

keep-got : (past : Past) (callers : List Caller) → CallersMirror past callers → Legal past →
    (p : ℕ) (call : Call) (place : ℕ) (admitted notified : Option ℕ) (payload : List ℕ) →
    Says past p call (Got place admitted notified) → open_wait past p ≡ None →
    CallersMirror (rec p call (Got place admitted notified) payload ∷ past)
    (with_answer_at callers (option_and_then (waiter_in callers) admitted) (length past))
keep-got past callers m legal p call place None n payload says free =
    keep-quiet past callers m p call (Got place None n) payload (record {
      free = free;
      goes = refl;
      unnamed = refl;
    })
keep-got past callers m legal p call place (Some w) n payload says free =
    let x = admits-least past p call place (Some w) n says in
    answers-waiter past callers m legal p call (Got place (Some w) n) payload w free refl refl
    Send x.0 (sym x.1)

keep-by : (past : Past) (callers : List Caller) → CallersMirror past callers → Legal past →
    (p : ℕ) (call : Call) (reply : Reply) (payload : List ℕ) (q : ℕ) → Says past p call reply →
    (ends_wait reply ≡ false → open_wait past p ≡ None) → p < length callers →
    EntryQueue past p call payload reply q →
    CallersMirror (rec p call reply payload ∷ past)
    (noted_waits callers (length past) p call reply q)
keep-by past callers m legal p call (Handed w) payload q says free lt at = let x =
    hands-least past p call w says in answers-waiter past callers m legal p call (Handed w) payload
    w (free refl) refl refl Receive x.0 x.1
keep-by past callers m legal p call Waits payload q says free lt at =
    keep-waits past callers m p call payload q says (free refl) at lt
keep-by past callers m legal p call (Got place admitted notified) payload q says free lt at =
    keep-got past callers m legal p call place admitted notified payload says (free refl)
keep-by past callers m legal p call (Collected by) payload q says free lt at =
    keep-ended past callers m p call (Collected by) payload refl refl lt
keep-by past callers m legal p call (Withdrawn wait) payload q says free lt at =
    keep-ended past callers m p call (Withdrawn wait) payload refl refl lt
keep-by past callers m legal p call reply payload q says free lt at =
    keep-quiet past callers m p call reply payload (record {
      free = free refl;
      goes = refl;
      unnamed = refl;
    })

-- the table remains that of the journal when it is updated for an entry that may follow
pub noted_waits-keeps : (past : Past) (callers : List Caller) → CallersMirror past callers →
    Legal past → (r : Record) (q : ℕ) → IsLegalNext past r → r.entry.process < length callers →
    EntryQueue past r.entry.process r.entry.call r.payload r.entry.reply q →
    CallersMirror (r ∷ past) (noted_waits callers (length past) r.entry.process r.entry.call
    r.entry.reply q)
noted_waits-keeps past callers m legal r q next lt at =
    let says = legal_says past r next in
    keep-by past callers m legal r.entry.process r.entry.call r.entry.reply r.payload q says
    (λ other. turn-none past r.entry.process r.entry.call r.entry.reply says next.turn other) lt
    at
