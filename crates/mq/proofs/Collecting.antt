-- What a collect leaves, and what a call leaves that waited.
use Rattle.std.proofs.Common.{◌≡◌, ◌↔◌, ℕ, true, false, List, [], ◌∷◌, ◌++◌, Option, Some, None, IsSome, IfSome, IfNone, Ok, Err, refl, ap, sym, ◌∙◌, subst, arith, rules}
use Rattle.std.specs.List.{All}
use Rattle.std.proofs.lemmas.List.Elements.{All-nil, All-cons}
use Rattle.mq_model.specs.Record.{Record, Past}
use Rattle.mq_model.specs.Messages.{is_receive}
use Rattle.mq_model.specs.Waits.{open_wait, answered_by, is_answered}
use Rattle.mq_model.specs.Legality.{Legal, Appends}
use Rattle.mq_model.specs.declared.entries.Received.{Received}
use Rattle.mq_model.specs.declared.entries.Deadline.{Deadline}
use Rattle.mq_model.specs.declared.faults.Fault.TheVariants.{TimedOut}
use Rattle.mq_model.specs.declared.entries.Call.{Call}
use Rattle.mq_model.specs.declared.entries.Call.TheVariants.{Collect, Withdraw}
use Rattle.mq_model.specs.declared.entries.Reply.TheVariants.{Waits, Collected, Withdrawn}
use Rattle.mq_state.specs.Kept.{Kept}
use Rattle.mq_state.specs.Buffers.{waiting_call, waiting_room, collected, collected_into, received_at, message_at, with_front}
use Rattle.mq_state.specs.declared.collected.Collected.{Collected as Outcome}
use Rattle.fast_mutex.specs.Items.{LockId, Ticket}
use Rattle.mq_state.specs.declared.collected.Collected.TheVariants.{Got as GotMessage}
use Rattle.mq.specs.Says.{start_send_says, start_receive_says}
use Rattle.mq.specs.Calls.{author, recorded, Calls, Came, Collects, StillWaits, WithdrawsAt, Withdraws, Expired, Begins, Waited, OneCall, ReceiveCall, WaitedSend, WaitedReceive}
use Rattle.mq.specs.KindsHold.{send-waits, receive-waits}
use Rattle.mq.proofs.Messages.{message-kept, received-kept}
use Rattle.mq.proofs.Growing.{own-recorded, calls-on}
use Rattle.mq.proofs.Calling.{came-wait, came-room, came-call, came-calls, same-number}

pub room-waits : (past : Past) (p : ℕ) → IsSome (waiting_room past p) → IsSome (open_wait past p)
room-waits past p some = grind arith

-- what a collect on the books adds
pub record Adds (found new : Past) (p : ℕ) : Type 0 where
  pub added : Past
  pub is : new ≡ added ++ found
  pub mine : All (λ x. author x ≡ p) added

pub collect-adds : (found new : Past) (p : ℕ) (result : Option Outcome) →
    (IsSome result ↔ IsSome (answered_by found p)) →
    IfSome (answered_by found p) (λ by. Appends found new p Collect [] (Collected by)) →
    (result ≡ None → new ≡ found) → Adds found new p
collect-adds found new p result some entry none = by (answered_by found p) refl result refl
  where
    by : (o : Option ℕ) → answered_by found p ≡ o → (r : Option Outcome) → result ≡ r →
        Adds found new p
    by o is None nothing = record {
      added = [];
      is = none nothing;
      mine = All-nil (λ x. author x ≡ p);
    }
    by (Some b) is (Some r) there =
        let appends : Appends found new p Collect [] (Collected b) =
        subst (λ (o : Option ℕ). IfSome o (λ by. Appends found new p Collect [] (Collected by)))
        is entry in
        record {
          added = recorded p Collect [] (Collected b) ∷ [];
          is = appends.records;
          mine = All-cons (λ x. author x ≡ p) (recorded p Collect [] (Collected b)) [] refl
              (All-nil (λ x. author x ≡ p));
        }
    by None is (Some r) there = absurd (let given : IsSome result = rw there refl in
        let yes = some.0 given in let bad : false ≡ true = rw is at yes in cc)

-- if it returns something, the wait was answered
pub record Answered (found new : Past) (p : ℕ) : Type 0 where
  pub by : ℕ
  pub answered : answered_by found p ≡ Some by
  pub added : new ≡ recorded p Collect [] (Collected by) ∷ found

pub collect-answered : (found new : Past) (p : ℕ) (result : Option Outcome) (value : Outcome) →
    (IsSome result ↔ IsSome (answered_by found p)) →
    IfSome (answered_by found p) (λ by. Appends found new p Collect [] (Collected by)) →
    result ≡ Some value → Answered found new p
collect-answered found new p result value some entry there = search rules

-- the open wait that a withdrawal ended
pub withdrawn-wait : (found new : Past) (p : ℕ) (now : Deadline) → IsSome (open_wait found p) →
    IfSome (open_wait found p) (λ wait. Appends found new p (Withdraw now) [] (Withdrawn wait)) →
    (w : ℕ) × (open_wait found p ≡ Some w) × (new ≡ recorded p (Withdraw now) [] (Withdrawn w) ∷
    found)
withdrawn-wait found new p now waits entry = search rules

-- the end of a wait on the books adds its collect or its withdrawal
pub end-adds : (found new : Past) (p : ℕ) (now : Deadline) (result : Option Outcome) →
    (IsSome result ↔ IsSome (answered_by found p)) →
    IfSome (answered_by found p) (λ by. Appends found new p Collect [] (Collected by))
    → (result ≡ None → IfSome (open_wait found p) (λ wait. Appends found new p (Withdraw now) []
    (Withdrawn wait))) → IsSome (open_wait found p) → Adds found new p
end-adds found new p now result some entry none waits = by result refl
  where
    by : (r : Option Outcome) → result ≡ r → Adds found new p
    by None nothing =
        let x = withdrawn-wait found new p now waits (none nothing) in
        record {
          added = recorded p (Withdraw now) [] (Withdrawn x.0) ∷ [];
          is = x.2;
          mine = All-cons (λ x. author x ≡ p) (recorded p (Withdraw now) [] (Withdrawn x.0)) []
              refl (All-nil (λ x. author x ≡ p));
        }
    by (Some value) there =
        let a = collect-answered found new p result value some entry there in
        record {
          added = recorded p Collect [] (Collected a.by) ∷ [];
          is = a.added;
          mine = All-cons (λ x. author x ≡ p) (recorded p Collect [] (Collected a.by)) [] refl
              (All-nil (λ x. author x ≡ p));
        }

-- if it returns nothing, the wait was not answered
pub collect-unanswered : (found : Past) (p : ℕ) (result : Option Outcome) →
    (IsSome result ↔ IsSome (answered_by found p)) → result ≡ None → is_answered found p ≡ false
collect-unanswered found p result some none = search rules

module _ {old stay : Ticket Record} {system : LockId} {books : Kept} {p : ℕ} where
  pub came-collects : {records : Past} {result : Outcome} {before after : List ℕ} →
      Came old system stay books p → old.lock ≡ system → Answered books.records records p
      → Some result ≡ collected books.records p → after ≡ collected_into books.records p before →
      Legal records
      → Collects old (record { lock = system; number = stay.number; left = records; told = false })
      result before after
  came-collects {records} c lock a value buffer legal = record {
    found = books.records;
    by = a.by;
    added = rw (sym c.process) a.added;
    answered = rw (sym c.process) a.answered;
    call = ap (λ (n : ℕ). waiting_call books.records n) (sym c.process) ∙ came-call c;
    calls = came-calls (λ q. recorded q Collect [] (Collected a.by) ∷ []) c lock a.added
        (own-recorded p Collect [] (Collected a.by)) legal;
    value = rw (sym c.process) (sym value);
    buffer = rw (sym c.process) buffer;
  }

  pub came-withdraws : {records : Past} {now : Deadline} → Came old system stay books p →
      old.lock ≡ system →
      (x : (w : ℕ) × (open_wait books.records p ≡ Some w) × (records ≡ recorded p (Withdraw now) []
      (Withdrawn w) ∷ books.records)) → Legal records
      → WithdrawsAt now old (record {
        lock = system;
        number = stay.number;
        left = records;
        told = false;
      })
  came-withdraws {records} {now} c lock x legal = record {
    wait = x.0;
    is = sym (came-wait c) ∙ x.1;
    calls = came-calls (λ q. recorded q (Withdraw now) [] (Withdrawn x.0) ∷ []) c lock x.2
        (own-recorded p (Withdraw now) [] (Withdrawn x.0)) legal;
  }

  pub came-still : {records : Past} → Came old system stay books p → old.lock ≡ system →
      records ≡ books.records → is_answered books.records p ≡ false → Legal records
      → StillWaits old (record {
        lock = system;
        number = stay.number;
        left = records;
        told = false;
      })
  came-still {records} c lock same unanswered legal = record {
    calls = came-calls (λ q. []) c lock same refl legal;
    wait = rw (same, same-number c) (came-room c);
    call = rw (same, same-number c) (came-call c);
    unanswered = rw (same, same-number c) unanswered;
  }

pub if-some : {X : Type 0} (P : X → Type 0) (o : Option X) → ((x : X) → o ≡ Some x → P x) →
    IfSome o P
if-some P o f = search rules

pub if-none : {X : Type 0} (P : Type 0) (o : Option X) → (o ≡ None → P) → IfNone o P
if-none P o f = search rules

-- a collect after critical sections that added nothing
pub collects-later : {old mid new : Ticket Record} {result : Outcome} {before after : List ℕ} →
    Calls old mid [] → waiting_call mid.left mid.number ≡ waiting_call old.left old.number →
    Collects mid new result before after → Collects old new result before after
collects-later {old} {mid} {new} {result} {before} {after} first same c = record {
  found = c.found;
  by = c.by;
  added = rw first.number at c.added;
  answered = rw first.number at c.answered;
  call = ap (λ (n : ℕ). waiting_call c.found n) (sym first.number) ∙ c.call ∙ same;
  calls = calls-on (λ n. recorded n Collect [] (Collected c.by) ∷ []) first c.calls;
  value = rw first.number at c.value;
  buffer = rw first.number at c.buffer;
}

-- a wait and then its collect
pub waited : {old mid new : Ticket Record} {result : Outcome} {before after : List ℕ} (call : Call)
    (given : List ℕ) → Begins old mid call given → (c : Collects mid new result before after) →
    Waited old new call given c.by
waited {old} {mid} {new} call given first c = record {
  begun = mid;
  begins = first;
  ends = subst (λ (n : ℕ). Calls mid new (recorded n Collect [] (Collected c.by) ∷ []))
      first.calls.number c.calls;
  calls = calls-on (λ n. recorded n Collect [] (Collected c.by) ∷ [])
      first.calls c.calls;
}

-- a send waits if its start says so
pub send-waited : {old mid new : Ticket Record} {outcome : Outcome} {before after : List ℕ}
    {call : Call} {bytes : List ℕ} → OneCall start_send_says old mid call bytes (Ok false) →
    Collects mid new outcome before after → WaitedSend old new call bytes (Ok tt)
send-waited {old} {mid} {new} {outcome} {before} {after} {call} {bytes} start c =
    let waits : start.reply ≡ Waits = send-waits start.reply (Ok false) start.says_so refl in
    let first : Begins old mid call bytes = record {
      calls = rw waits at start.calls;
      found = rw waits at start.found;
    } in
    record { by = c.by; waited = waited call bytes first c; is = refl }

-- and a receive: then the message is that of the send that answered it
pub receive-waited : {old mid new : Ticket Record} {received : Received}
    {before between after : List ℕ} {call : Call} → is_receive call ≡ true →
    ReceiveCall start_receive_says old mid call before between (Ok None)
    → waiting_call mid.left mid.number ≡ call →
    Collects mid new (GotMessage received) between after →
    WaitedReceive old new call before after (Ok received)
receive-waited {old} {mid} {new} {received} {before} {between} {after} {call} receives
    start called c =
    let waits : start.reply ≡ Waits = receive-waits mid.left start.reply
    (Ok None) start.says_so refl in
    let first : Begins old mid call [] = record {
      calls = rw waits at start.calls;
      found = rw waits at start.found;
    } in
    let same_call : waiting_call c.found mid.number ≡ call = c.call ∙ called in
    let value : Some (GotMessage (received_at c.found c.by)) ≡ Some (GotMessage received) =
    rw (same_call, c.answered, receives) at c.value in
    let same : received_at c.found c.by ≡ received = cc in
    let untouched : between ≡ before = rw waits at start.buffer in
    let filled_is : after ≡ with_front (message_at c.found c.by) between =
    rw (same_call, c.answered, receives) at c.buffer in
    let kept = received-kept c.found (recorded mid.number Collect [] (Collected c.by))
    c.by refl refl in
    let message = message-kept c.found (recorded mid.number Collect [] (Collected c.by)) c.by refl
    in
    record {
      by = c.by;
      waited = waited call [] first c;
      is = ap (λ (r : Received). Ok r) (rw c.added (sym same ∙ sym kept));
      buffer = rw (c.added, message, sym untouched) filled_is;
    }

-- a wait and then its withdrawal
pub expired : {R : Type 0} {gives : Deadline → Type 0} {old mid new : Ticket Record} {call : Call}
    {given : List ℕ} → Begins old mid call given → Withdraws gives mid new →
    Expired {R = R} gives old new call given (Err TimedOut)
expired {R} {gives} {old} {mid} {new} {call} {given} first w = record {
  now = w.now;
  moment = w.moment;
  wait = w.withdraws.wait;
  begun = mid;
  begins = first;
  ends = subst (λ (n : ℕ). Calls mid new (recorded n (Withdraw w.now) []
      (Withdrawn w.withdraws.wait) ∷ [])) first.calls.number w.withdraws.calls;
  calls = calls-on (λ n. recorded n (Withdraw w.now) [] (Withdrawn w.withdraws.wait) ∷ [])
      first.calls w.withdraws.calls;
  is = refl;
}

pub send-expired : {gives : Deadline → Type 0} {old mid new : Ticket Record} {call : Call}
    {bytes : List ℕ} → OneCall start_send_says old mid call bytes (Ok false) →
    Withdraws gives mid new → Expired {R = Unit {0}} gives old new call bytes (Err TimedOut)
send-expired {gives} {old} {mid} {new} {call} {bytes} start w =
    let waits : start.reply ≡ Waits = send-waits start.reply (Ok false) start.says_so refl in
    let first : Begins old mid call bytes = record {
      calls = rw waits at start.calls;
      found = rw waits at start.found;
    } in
    expired first w

pub receive-expired : {gives : Deadline → Type 0} {old mid new : Ticket Record} {call : Call}
    {before between : List ℕ} → ReceiveCall start_receive_says old mid call before between
    (Ok None) → Withdraws gives mid new →
    Expired {R = Received} gives old new call [] (Err TimedOut) × (between ≡ before)
receive-expired {gives} {old} {mid} {new} {call} {before} {between} start w =
    let waits : start.reply ≡ Waits = receive-waits mid.left start.reply
    (Ok None) start.says_so refl in
    let first : Begins old mid call [] = record {
      calls = rw waits at start.calls;
      found = rw waits at start.found;
    } in
    let untouched : between ≡ before = rw waits at start.buffer in
    (expired first w, untouched)
