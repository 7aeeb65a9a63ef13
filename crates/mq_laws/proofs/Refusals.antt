-- An entry with an error changes nothing.
use Rattle.std.proofs.Common.{◌≡◌, ℕ, ◌==◌, Bool, true, false, List, [], ◌∷◌, length, Option, None, is_none, refl, sym, ◌∙◌, ap, subst, arith, append-nil, eq-eqb, IsTrue, pos, int_le, drop}
use Rattle.std.specs.List.{find, list_all}
use Rattle.mq_model.specs.Record.{Record, Past, first}
use Rattle.mq_model.specs.Descriptors.{is_on}
use Rattle.mq_model.specs.Messages.{is_in, present, best}
use Rattle.mq_model.specs.Notices.{registration_after, registered, notices_given, values_notified}
use Rattle.mq_model.specs.Waits.{open_wait, names_wait}
use Rattle.mq_model.specs.Legality.{Legal, reply_to, may_call}
use Rattle.mq_laws.specs.Refusals.{IsUnchanged, RefusalsChangeNothing}
use Rattle.mq_model.proofs.Alive.{none-of}
use Rattle.mq_model.proofs.Places.{split}
use Rattle.mq_model.proofs.Prefixes.{first-more}
use Rattle.mq_model.proofs.Frames.{KeepsNames, held-same, bound_queue-same, alive-same, created-below, open_wait-same, answered_by-step, keeps-refused, attributes-older}
use Rattle.mq_model.proofs.OpenWaits.{wait_deadline-same}
use Rattle.mq_model.proofs.Presence.{priority-older, present-below}
use Rattle.mq_laws.proofs.LegalPlaces.{legal-at}
use Rattle.mq_model.specs.declared.entries.Attr.{Attr}
use Rattle.mq_model.specs.declared.entries.Call.{Call}
use Rattle.mq_model.specs.declared.entries.Registration.{Registration}
use Rattle.mq_model.specs.declared.entries.Reply.{Reply}
use Rattle.mq_model.specs.declared.entries.Reply.TheVariants.{Refused}
use Rattle.mq_model.specs.declared.faults.Fault.{Fault}

-- the record of a call that failed
abbrev refused : ℕ → Call → Fault → List ℕ → Record
refused p call f payload = record {
  entry = record { process = p; call = call; reply = Refused f };
  payload = payload;
}

-- a call that fails is neither a collect nor a withdrawal, so its process had no open wait
idle : (past : Past) (p : ℕ) (call : Call) (f : Fault) (payload : List ℕ) →
    IsTrue (may_call past p call) → Refused f ≡ reply_to past p call payload →
    is_none (open_wait past p) ≡ true
idle past p call f payload turn e = grind arith

-- tests that agree on the members of a list
all-same : (s t : ℕ → Bool) (xs : List ℕ) → ((x : ℕ) → is_in xs x ≡ true → s x ≡ t x) →
    list_all s xs ≡ list_all t xs
all-same s t [] same = refl
all-same s t (x ∷ xs) same =
    let here : s x ≡ t x = same x (rw (eq-eqb x x refl) refl) in
    let rest : list_all s xs ≡ list_all t xs =
    all-same s t xs (λ y h. same y (split (x == y) (λ e. rw e refl) (λ n. rw (n, h) refl))) in
    rw (here, rest) refl

find-same : (s t : ℕ → Bool) (xs : List ℕ) → ((x : ℕ) → is_in xs x ≡ true → s x ≡ t x) →
    find s xs ≡ find t xs
find-same s t [] same = refl
find-same s t (x ∷ xs) same =
    let here : s x ≡ t x = same x (rw (eq-eqb x x refl) refl) in
    let rest : find s xs ≡ find t xs =
    find-same s t xs (λ y h. same y (split (x == y) (λ e. rw e refl) (λ n. rw (n, h) refl))) in
    rw (here, rest) refl

best-same : (past : Past) (r : Record) (q : ℕ) → present (r ∷ past) q ≡ present past q →
    best (r ∷ past) q ≡ best past q
best-same past r q same = grind (arith, find-same, all-same, priority-older, present-below)

-- a reply that is an error names no wait
names-none : (f : Fault) (o : Option ℕ) → names_wait (Refused f) o ≡ false
names-none f o = grind arith

-- an error ends no registration
registered-kept : (on : Bool) (here p : ℕ) (call : Call) (f : Fault)
    (before : Option Registration) →
    registration_after on here (record { process = p; call = call; reply = Refused f }) before ≡
    before
registered-kept on here p call f before = grind arith

-- a record with an error, of a process without an open wait
unchanged : (past : Past) (p : ℕ) (call : Call) (f : Fault) (payload : List ℕ) →
    open_wait past p ≡ None → IsUnchanged past (refused p call f payload ∷ past)
unchanged past p call f payload idle = record {
  names = bound_queue-same past r keeps;
  descriptors = held-same past r keeps;
  queues = refl;
  existing = alive-same past r keeps;
  limits = λ q h. attributes-older past r q (created-below past q h);
  accepted = λ q m. refl;
  received = refl;
  messages = λ q. refl;
  priorities = λ q m h. priority-older past r m (present-below past q m h);
  next_message = λ q. best-same past r q refl;
  fullness = λ q h. ap (λ (a : Attr). int_le a.maxmsg (pos (length (present past q))))
      (attributes-older past r q (created-below past q h));
  sends = λ q. refl;
  receives = λ q. refl;
  waits = open_wait-same past r idle refl;
  deadlines = wait_deadline-same past r idle refl;
  answers = λ k. answered_by-step past r idle k ∙ rw (names-none f (open_wait past k)) refl;
  registrations = λ q. registered-kept (is_on past r.entry q) (length past) p call f
      (registered past q);
  pending = λ k. ap (drop (notices_given past k)) (append-nil (values_notified past k));
}
  where
    r : Record
    r = refused p call f payload

    keeps : KeepsNames past call (Refused f) payload
    keeps = keeps-refused past call f payload

pub refusals-change-nothing : (past : Past) → Legal past → RefusalsChangeNothing past
refusals-change-nothing past legal k r f at is =
    let x = legal-at past legal k r at in
    let reply : Refused f ≡ reply_to (first k past) r.entry.process r.entry.call r.payload =
    sym is ∙ x.next.reply in
    let free = none-of (open_wait (first k past) r.entry.process)
    (idle (first k past) r.entry.process r.entry.call f r.payload x.next.turn reply) in
    let P : Reply →
    Type 0 = λ reply. IsUnchanged (first k past)
    (record {
      entry = record { process = r.entry.process; call = r.entry.call; reply = reply };
      payload = r.payload;
    } ∷ first k past) in
    let here : IsUnchanged (first k past) (r ∷ first k past) =
    subst P (sym is) (unchanged (first k past) r.entry.process r.entry.call f r.payload free) in
    subst (IsUnchanged (first k past)) (sym (first-more past k r at)) here
