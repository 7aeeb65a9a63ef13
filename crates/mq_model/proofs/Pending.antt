-- The waits in a table of processes are those that the definitions give.
use Rattle.std.proofs.lemmas.Bool.Decides.{nat_tests}
use Rattle.std.proofs.Common.{◌≡◌, ℕ, ◌==◌, true, ◌&&◌, not, List, Option, Some, None, refl, sym, ◌∙◌, ap, eqb-true, eq-eqb, arith}
use Rattle.std.specs.List.{filter}
use Rattle.std.specs.Option.{option_map}
use Rattle.std.proofs.lemmas.Bool.{and_parts}
use Rattle.mq_model.specs.Record.{Past}
use Rattle.mq_model.specs.Messages.{is_in, least}
use Rattle.mq_model.specs.Legality.{Legal}
use Rattle.mq_model.specs.Callers.{wait_in, answer_in, pending, pending_in, is_kind, IsFirstWait, blocked, waiting}
use Rattle.mq_model.specs.Callers.{CallersMirror}
use Rattle.mq_model.specs.declared.callers.OpenWait.{OpenWait}
use Rattle.mq_model.specs.declared.callers.Caller.{Caller}
use Rattle.mq_model.proofs.Places.{split, is_in-filter}
use Rattle.mq_model.proofs.NamedWaits.{blocked-once}
use Rattle.mq_model.proofs.Waiters.{ended_waits, waiting-filter, waiter, unnamed, least-none, least-some}
use Rattle.mq_model.specs.declared.callers.WaitKind.{WaitKind}
use Rattle.mq_model.proofs.HeldQueues.{in-filter}

-- what a pending wait is
record IsPending (callers : List Caller) (p q : ℕ) (kind : WaitKind) (w : ℕ) : Type 0 where
  wait : OpenWait
  is : wait_in callers p ≡ Some wait
  open_still : answer_in callers p ≡ None
  place : wait.place ≡ w
  queue : wait.queue ≡ q
  of_kind : wait.kind ≡ kind

is_kind-same : (s t : WaitKind) → is_kind s t ≡ true → t ≡ s
is_kind-same s t e = grind arith

is_pending : (callers : List Caller) (p q : ℕ) (kind : WaitKind) (w : ℕ) →
    pending_in callers p q kind ≡ Some w → IsPending callers p q kind w
unfolding pending_in
is_pending callers p q kind w e = by (wait_in callers p) refl (answer_in callers p) refl e
  where
    by : (o : Option OpenWait) → wait_in callers p ≡ o → (a : Option ℕ) → answer_in callers p ≡ a →
        pending o a q kind ≡ Some w → IsPending callers p q kind w
    by None is a none e = absurd (cc)
    by (Some x) is (Some b) none e = absurd (cc)
    by (Some x) is None none e = split (x.queue == q && is_kind kind x.kind)
        (λ t. let parts = and_parts (x.queue == q) (is_kind kind x.kind) t in
        let same : Some x.place ≡ Some w = rw t at e in
        record {
          wait = x;
          is = is;
          open_still = none;
          place = cc;
          queue = eqb-true _ _ parts.0;
          of_kind = is_kind-same kind x.kind parts.1;
        })
        (λ f. let same : None ≡ Some w = rw f at e in absurd (cc))

is_kind-self : (s : WaitKind) → is_kind s s ≡ true
is_kind-self s = grind arith

pending-is : (callers : List Caller) (p q : ℕ) (kind : WaitKind) (w : ℕ) (y : OpenWait) →
    wait_in callers p ≡ Some y → answer_in callers p ≡ None → y.place ≡ w → y.queue ≡ q →
    y.kind ≡ kind → pending_in callers p q kind ≡ Some w
unfolding pending_in
pending-is callers p q kind w y is none place queue of_kind =
    rw (is, none, queue, of_kind, eq-eqb q q refl, is_kind-self kind) (ap Some place)

pub pending-waits : (past : Past) (callers : List Caller) → CallersMirror past callers →
    Legal past → (p q : ℕ) (kind : WaitKind) (w : ℕ) → pending_in callers p q kind ≡ Some w →
    is_in (waiting past kind q) w ≡ true
pending-waits past callers m legal p q kind w e =
    let x = is_pending callers p q kind w e in
    grind (arith, nat_tests, ended_waits, unnamed, waiting-filter, in-filter)

pub waits-pending : (past : Past) (callers : List Caller) → CallersMirror past callers →
    Legal past → (q : ℕ) (kind : WaitKind) (w : ℕ) → is_in (waiting past kind q) w ≡ true →
    (p : ℕ) × (pending_in callers p q kind ≡ Some w)
waits-pending past callers m legal q kind w h =
    let x = waiter past legal kind q w h in
    let h' : is_in (filter (λ w. not (is_in (ended_waits past kind) w)) (blocked past kind q)) w ≡
    true = rw (waiting-filter past kind q) at h in
    let inside = is_in-filter _ (blocked past kind q) w h' in (
      x.0,
      by x.0 (wait_in callers x.0) refl (answer_in callers x.0) refl (m.waits x.0 ∙ x.1)
          (m.answers x.0 ∙ x.2) inside.0,
    )
  where
    by : (p : ℕ) (o : Option OpenWait) → wait_in callers p ≡ o → (a : Option ℕ) →
        answer_in callers p ≡ a → option_map (λ y. y.place) (wait_in callers p) ≡ Some w →
        answer_in callers p ≡ None → is_in (blocked past kind q) w ≡ true →
        pending_in callers p q kind ≡ Some w
    by p None is a none at free stands = absurd (let e : None ≡ Some w = rw is at at in cc)
    by p (Some y) is (Some b) none at free stands = absurd (let e : Some b ≡ None = sym none ∙
        free in cc)
    by p (Some y) is None none at free stands =
        let e : Some y.place ≡ Some w = rw is at at in
        let place : y.place ≡ w = cc in
        let stands' : is_in (blocked past y.kind y.queue) w ≡ true =
        rw place at (m.blocked p y is) in
        let same = blocked-once past y.kind kind y.queue q w stands' stands in
        pending-is callers p q kind w y is none place same.1 same.0

pub least-pending : (past : Past) (callers : List Caller) → CallersMirror past callers →
    Legal past → (q : ℕ) (kind : WaitKind) (p w : ℕ) → IsFirstWait callers q kind p w →
    least (waiting past kind q) ≡ Some w
least-pending past callers m legal q kind p w first =
    least-some (waiting past kind q) w (pending-waits past callers m legal p q kind w first.waits)
    (λ k h. let x = waits-pending past callers m legal q kind k h in first.least x.0 k x.1)

pub no-pending : (past : Past) (callers : List Caller) → CallersMirror past callers → Legal past →
    (q : ℕ) (kind : WaitKind) → ((p : ℕ) → pending_in callers p q kind ≡ None) →
    least (waiting past kind q) ≡ None
no-pending past callers m legal q kind none = grind (arith, least-none, waits-pending)
