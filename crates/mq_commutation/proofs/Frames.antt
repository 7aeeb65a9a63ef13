-- What a call on one queue leaves unchanged at another, and how it changes notices and answers.
use Rattle.std.proofs.lemmas.Bool.Decides.{nat_tests}
use Rattle.std.proofs.Common.{◌≡◌, ◌⊎◌, ℕ, ◌<◌, ◌==◌, Bool, true, false, ◌&&◌, not, List, ◌∷◌, length, Option, Some, None, is_some, if◌then◌else◌, refl, sym, ◌∙◌, ap, subst, eqb-true, arith}
use Rattle.std.specs.Option.{option_map, option_and_then, unwrap_or}
use Rattle.mq_model.specs.Record.{Record, Past}
use Rattle.mq_model.specs.Threads.{owner_of, shares}
use Rattle.mq_model.specs.Descriptors.{called_queue, is_place}
use Rattle.mq_model.specs.Messages.{is_in, least, waiting_receives, waiting_sends}
use Rattle.mq_model.specs.Notices.{gives_notice, notified}
use Rattle.mq_model.specs.Waits.{answered_by, open_wait}
use Rattle.mq_model.specs.Legality.{IsLegalNext, Legal, may_call}
use Rattle.mq_model.specs.declared.entries.Status.{Status}
use Rattle.mq_model.specs.declared.faults.Fault.{Fault}
use Rattle.mq_model.specs.declared.entries.Call.{Call}
use Rattle.mq_model.specs.declared.entries.Call.TheVariants.{MqClose, MqSend, MqReceive, MqTimedSend, MqTimedReceive, MqGetattr, MqSetattr, MqNotify}
use Rattle.mq_model.specs.declared.entries.Reply.{Reply}
use Rattle.mq_model.specs.declared.entries.Reply.TheVariants.{Handed, Got, Collected, Attrs, Refused}
use Rattle.mq_model.specs.declared.callers.WaitKind.{WaitKind}
use Rattle.mq_model.specs.declared.callers.WaitKind.TheVariants.{Send, Receive}
use Rattle.mq_model.specs.Callers.{blocked}
use Rattle.mq_model.proofs.Places.{is_in-filter}
use Rattle.mq_model.proofs.Frames.{attributes-older}
use Rattle.mq_model.proofs.Cases.{AttrsReply, Says}
use Rattle.mq_model.proofs.LegalReplies.{legal_says}
use Rattle.mq_model.proofs.Alive.{rec}
use Rattle.mq_model.proofs.NamedWaits.{least-in}
use Rattle.mq_model.proofs.OpenWaits.{open_wait-process}
use Rattle.mq_model.proofs.Waiters.{waiter}
use Rattle.mq_equivalence.specs.Views.{Message, Registered, Sender, answer, at, contents, receivers, registered_as, sender, senders}
use Rattle.mq_equivalence.specs.Steps.{shape}
use Rattle.mq_equivalence.proofs.Falling.{least-oldest, oldest}
use Rattle.mq_equivalence.proofs.Changes.{falls-receivers, falls-senders, got-all, handed-all}
use Rattle.mq_equivalence.proofs.Effects.{after_answer, after_contents, after_receivers, after_senders, answer-step, answers, called, contents-step, is_collected, is_withdrawn, receivers-step, senders-step, told_of, sender-process}
use Rattle.mq_equivalence.proofs.Notified.{after_notices, gain}
use Rattle.mq_equivalence.proofs.Registrations.{after_registered, registered-step}
use Rattle.mq_commutation.specs.Independence.{only_reads, whose_notices_by, notified_registration}
use Rattle.mq_commutation.specs.Commuting.{is_covered}
use Rattle.mq_commutation.proofs.Replies.{SameAt}
use Rattle.mq_commutation.proofs.Registered.{closed-elsewhere}

-- a call on a queue by a descriptor that it does not close
abbrev is_on_queue : Call → Bool
is_on_queue (MqSend d prio len) = true
is_on_queue (MqReceive d room) = true
is_on_queue (MqTimedSend d prio len until now) = true
is_on_queue (MqTimedReceive d room until now) = true
is_on_queue (MqGetattr d) = true
is_on_queue (MqSetattr d nonblock) = true
is_on_queue (MqNotify d value) = true
is_on_queue _ = false

-- the replies to calls on a queue -----------------------------------------------------------------

pub not-withdrawn : (past : Past) (p : ℕ) (call : Call) (reply : Reply) → is_covered call ≡ true →
    Says past p call reply → is_withdrawn reply ≡ false
not-withdrawn past p call reply on says = grind arith

gives-none : (past : Past) (p : ℕ) (call : Call) (reply : Reply) → is_on_queue call ≡ true →
    Says past p call reply → gives_notice reply ≡ false
gives-none past p call reply on says = grind arith

pub no-wait : (past : Past) (p : ℕ) (call : Call) (reply : Reply) → is_covered call ≡ true →
    Says past p call reply → may_call past p call ≡ true → is_collected reply ≡ false →
    open_wait past p ≡ None
no-wait past p call reply on says turn not = grind (arith, is_collected)

-- another queue -----------------------------------------------------------------------------------

contents-off : (call : Call) (payload : List ℕ) (reply : Reply) (ss : List (Option Sender))
    (cs : List (Option Message)) → after_contents call payload false reply ss cs ≡ cs
contents-off call payload reply ss cs = grind arith

senders-off : (p : ℕ) (call : Call) (payload : List ℕ) (reply : Reply) (ss : List (Option Sender)) →
    after_senders p call payload false reply ss ≡ ss
senders-off p call payload reply ss = grind arith

receivers-off : (p : ℕ) (call : Call) (reply : Reply) (rs : List (Option ℕ)) →
    after_receivers p call false reply rs ≡ rs
receivers-off p call reply rs = grind arith

registered-off : (p : ℕ) (call : Call) (reply : Reply) (before : Option Registered) →
    is_covered call ≡ true →
    ((c : ℕ) → call ≡ MqClose c → (x : Registered) → before ≡ Some x →
    (c == x.d && shares p x.process) ≡ false) → after_registered false p call reply before ≡ before
registered-off p call reply before on safe = grind arith

-- notices and answers -----------------------------------------------------------------------------

-- the process whose wait a call answers
abbrev pub answered_at : Past → ℕ → Call → Reply → Option ℕ
answered_at past p call reply = option_and_then (λ q. answers reply (senders past q)
    (receivers past q)) (called_queue past p call)

-- whether a call changes the answer of process k, and the answer then
abbrev pub acts_on : ℕ → Reply → Option ℕ → ℕ → Bool
acts_on p (Collected b) w k = p == k
acts_on p reply w k = is_place k w

abbrev pub acted : Call → List ℕ → Reply → Option (Option (Option Message))
acted call payload (Collected b) = None
acted call payload reply = Some (Some (told_of call payload))

after-act : (p : ℕ) (call : Call) (payload : List ℕ) (reply : Reply) (ss : List (Option Sender))
    (rs : List (Option ℕ)) (k : ℕ) (before : Option (Option (Option Message))) →
    after_answer p call payload reply ss rs k before ≡
    (if acts_on p reply (answers reply ss rs) k then acted call payload reply else before)
after-act p call payload reply ss rs k before = grind arith

pub acts-shape : (p : ℕ) (reply : Reply) (w : Option ℕ) (k : ℕ) →
    acts_on p (shape reply) w k ≡ acts_on p reply w k
acts-shape p reply = grind arith

pub acted-shape : (call : Call) (payload : List ℕ) (reply : Reply) →
    acted call payload (shape reply) ≡ acted call payload reply
acted-shape call payload reply = grind arith

idle-answers : (past : Past) (p : ℕ) (call : Call) (reply : Reply) (ss : List (Option Sender))
    (rs : List (Option ℕ)) → Says past p call reply → called_queue past p call ≡ None →
    answers reply ss rs ≡ None
idle-answers past p call reply ss rs says none = grind (arith, handed-all, got-all)

pub answered-same : (x y : Past) (p : ℕ) (call : Call) (a b : Reply) →
    called_queue y p call ≡ called_queue x p call → shape b ≡ shape a →
    ((k : ℕ) → called_queue x p call ≡ Some k → SameAt x y k) →
    answered_at y p call b ≡ answered_at x p call a
answered-same x y p call a b called same at = grind (arith, answers, called)

pub told-same : (x y : Past) (p : ℕ) (call : Call) (a b : Reply) →
    called_queue y p call ≡ called_queue x p call → is_some (notified b) ≡ is_some (notified a) →
    ((k : ℕ) → called_queue x p call ≡ Some k → SameAt x y k) →
    notified_registration y p call b ≡ notified_registration x p call a
told-same x y p call a b called same at = grind (arith, called)

none-then : (k : ℕ) (o : Option ℕ) → is_place k (option_and_then (λ (q : ℕ). None) o) ≡ true → ⊥
none-then k o e = grind arith

-- a call answers the wait of process k, which waits on the call's queue
pub record AnswersOn (past : Past) (p : ℕ) (call : Call) (k : ℕ) : Type 0 where
  pub queue : ℕ
  pub kind : WaitKind
  pub wait : ℕ
  pub on : called_queue past p call ≡ Some queue
  pub opens : open_wait past k ≡ Some wait
  pub blocks : is_in (blocked past kind queue) wait ≡ true
  pub free : answered_by past k ≡ None

pub answers-on : (past : Past) → Legal past → (p : ℕ) (call : Call) (reply : Reply) (k : ℕ) →
    Says past p call reply → is_place k (answered_at past p call reply) ≡ true →
    AnswersOn past p call k
answers-on past legal p call (Handed w) k says e =
    let h = handed-all past p call w says in
    let inside = least-in (waiting_receives past h.queue) w h.first in
    let waits = waiter past legal Receive h.queue w inside in
    grind (
      arith,
      nat_tests,
      oldest,
      least-oldest,
      falls-receivers,
      open_wait-process,
      answers,
      eqb-true,
      is_in-filter,
    )
answers-on past legal p call (Got m None n) k says e = grind (arith, got-all, answers)
answers-on past legal p call (Got m (Some w) n) k says e =
    let got = got-all past p call m (Some w) n says in
    let first : least (waiting_sends past got.queue) ≡ Some w = sym got.admitted in
    let inside = least-in (waiting_sends past got.queue) w first in
    let waits = waiter past legal Send got.queue w inside in
    let last : option_map (λ (x : Sender). x.process) (oldest (senders past got.queue)) ≡
    Some waits.0 =
    ap (λ (o : Option Sender). option_map (λ (x : Sender). x.process) o)
    (sym (least-oldest (at sender past) (waiting_sends past got.queue) w
    (falls-senders past got.queue) first))
    ∙ sender-process past w ∙ open_wait-process past waits.0 w waits.1
    in
    let all : answered_at past p call (Got m (Some w) n) ≡ Some waits.0 =
    ap (λ (o : Option ℕ). option_and_then (λ q. answers (Got m (Some w) n) (senders past q)
    (receivers past q)) o) got.on ∙ last in
    let place : (waits.0 == k) ≡ true = sym (ap (is_place k) all) ∙ e in
    record {
      queue = got.queue;
      kind = Send;
      wait = w;
      on = got.on;
      opens = subst (λ (j : ℕ). open_wait past j ≡ Some w) (eqb-true waits.0 k place) waits.1;
      free = subst (λ (j : ℕ). answered_by past j ≡ None) (eqb-true waits.0 k place) waits.2;
      blocks = (is_in-filter _ (blocked past Send got.queue) w inside).0;
    }
answers-on past legal p call _ k says e = absurd (none-then k (called_queue past p call) e)

-- a call changes the answer of a process that waits without an answer on its queue, or collects its
-- own
pub acts-cases : (past : Past) → Legal past → (p : ℕ) (call : Call) (reply : Reply) (k : ℕ) →
    is_covered call ≡ true → Says past p call reply → may_call past p call ≡ true →
    acts_on p reply (answered_at past p call reply) k ≡ true →
    ((p ≡ k) × (is_some (answered_by past k) ≡ true)) ⊎ AnswersOn past p call k
acts-cases past legal p call reply k on says turn e = grind (arith, answers-on, eqb-true)

-- a call that only reads
pub record Looks (reply : Reply) : Type 0 where
  pub contents : (call : Call) (payload : List ℕ) (on : Bool) (ss : List (Option Sender))
      (cs : List (Option Message)) → after_contents call payload on reply ss cs ≡ cs
  pub senders : (p : ℕ) (call : Call) (payload : List ℕ) (on : Bool) (ss : List (Option Sender)) →
      after_senders p call payload on reply ss ≡ ss
  pub receivers : (p : ℕ) (call : Call) (on : Bool) (rs : List (Option ℕ)) →
      after_receivers p call on reply rs ≡ rs
  pub registered : (p : ℕ) (call : Call) (on : Bool) (before : Option Registered) →
      after_registered on p call reply before ≡ before
  pub answers : (past : Past) (p : ℕ) (call : Call) (k : ℕ) →
      acts_on p reply (answered_at past p call reply) k ≡ false

same-attrs : (s : Status) (on : Bool) (p : ℕ) (call : Call) (before : Option Registered) →
    after_registered on p call (Attrs s) before ≡ before
same-attrs s on p call before = grind arith

same-refused : (f : Fault) (on : Bool) (p : ℕ) (call : Call) (before : Option Registered) →
    after_registered on p call (Refused f) before ≡ before
same-refused f on p call before = grind arith

looks-attrs : (reply : Reply) → AttrsReply reply → Looks reply
looks-attrs reply says = grind (arith, same-attrs, answers, same-refused)

pub looks : (past : Past) (p : ℕ) (call : Call) (reply : Reply) → only_reads call ≡ true →
    Says past p call reply → Looks reply
looks past p call reply look says = grind (arith, looks-attrs)

off-queue : (past : Past) (p : ℕ) (call : Call) (reply : Reply) (k : ℕ) (values : List ℕ) →
    is_on_queue call ≡ true → Says past p call reply →
    is_place (owner_of k) (option_map (λ (n : Registered). owner_of n.process)
    (notified_registration past p call reply)) ≡ false → after_notices p (gives_notice reply)
    (notified_registration past p call reply) k values ≡ values
off-queue past p call reply k values on says off = grind (arith, gives-none, gain)

closed-off : (past : Past) (p c : ℕ) (reply : Reply) (k : ℕ) (values : List ℕ) →
    Says past p (MqClose c) reply →
    after_notices p (gives_notice reply) (notified_registration past p (MqClose c) reply) k values ≡
    values
closed-off past p c reply k values says = grind arith

pub notices-off : (past : Past) (p : ℕ) (call : Call) (reply : Reply) (k : ℕ) (values : List ℕ) →
    is_covered call ≡ true → Says past p call reply →
    is_place (owner_of k) (whose_notices_by past p call reply) ≡ false →
    after_notices p (gives_notice reply) (notified_registration past p call reply) k values ≡ values
notices-off past p call reply k values on says off =
    grind (arith, off-queue, after_notices, closed-off)

module _ (past : Past) (legal : Legal past) (p : ℕ) (call : Call) (reply : Reply) (payload : List ℕ)
    (next : IsLegalNext past (rec p call reply payload)) (on : is_covered call ≡ true) where
  abbrev r : Record
  r = rec p call reply payload

  pub says : Says past p call reply
  says = legal_says past r next

  kept : is_withdrawn reply ≡ false
  kept = not-withdrawn past p call reply on says

  -- a call on another queue changes nothing at this queue
  pub stays-at : (k : ℕ) → k < length past → is_place k (called_queue past p call) ≡ false →
      SameAt past (r ∷ past) k
  stays-at k lt off = record {
    limits = attributes-older past r k lt;
    messages = contents-step past legal p call reply payload k says ∙
        ap (λ (b : Bool). after_contents call payload b reply (senders past k) (contents past k))
        off ∙ contents-off call payload reply (senders past k) (contents past k);
    sending = senders-step past p call reply payload k (legal, next) says kept ∙
        ap (λ (b : Bool). after_senders p call payload b reply (senders past k)) off ∙
        senders-off p call payload reply (senders past k);
    receiving = receivers-step past p call reply payload k (legal, next) says kept ∙
        ap (λ (b : Bool). after_receivers p call b reply (receivers past k)) off ∙
        receivers-off p call reply (receivers past k);
    registration = registered-step past p call reply payload next k ∙
        ap (λ (b : Bool). after_registered b p call reply (registered_as past k)) off ∙
        registered-off p call reply (registered_as past k) on safe;
  }
    where
      safe : (c : ℕ) → call ≡ MqClose c → (x : Registered) → registered_as past k ≡ Some x →
          (c == x.d && shares p x.process) ≡ false
      safe c is x stands = closed-elsewhere past legal p call c k x is stands off

  -- a call that only reads changes nothing at any queue
  pub stays-look : only_reads call ≡ true → (k : ℕ) → k < length past → SameAt past (r ∷ past) k
  stays-look look k lt =
      let l = looks past p call reply look says in
      record {
        limits = attributes-older past r k lt;
        messages = contents-step past legal p call reply payload k says ∙ l.contents call payload
            (is_place k (called_queue past p call)) (senders past k) (contents past k);
        sending = senders-step past p call reply payload k (legal, next) says kept ∙
            l.senders p call payload (is_place k (called_queue past p call)) (senders past k);
        receiving = receivers-step past p call reply payload k (legal, next) says kept ∙
            l.receivers p call (is_place k (called_queue past p call)) (receivers past k);
        registration = registered-step past p call reply payload next k ∙ l.registered p call
            (is_place k (called_queue past p call)) (registered_as past k);
      }

  pub answer-acted : (k : ℕ) →
      answer (r ∷ past) k ≡ (if acts_on p reply (answered_at past p call reply) k then acted call
      payload reply else answer past k)
  answer-acted k =
      answer-step past legal p call reply payload k says
      (λ not. no-wait past p call reply on says next.turn not)
      ∙ after-act p call payload reply (senders past (called past p call))
      (receivers past (called past p call)) k (answer past k)
      ∙ ap (λ (w : Option ℕ). if acts_on p reply w k then acted call payload reply else answer past
      k) (by (called_queue past p call) refl)
    where
      by : (o : Option ℕ) → called_queue past p call ≡ o →
          answers reply (senders past (called past p call)) (receivers past (called past p call)) ≡
          answered_at past p call reply
      by None e = idle-answers past p call reply (senders past (called past p call))
          (receivers past (called past p call)) says e ∙
          sym (ap (λ (o : Option ℕ). option_and_then (λ q. answers reply (senders past q)
          (receivers past q)) o) e)
      by (Some q) e =
          let same : called past p call ≡ q = ap (λ (o : Option ℕ). unwrap_or o 0) e in
          ap (λ (j : ℕ). answers reply (senders past j) (receivers past j)) same ∙
          sym (ap (λ (o : Option ℕ). option_and_then (λ q. answers reply (senders past q)
          (receivers past q)) o) e)
