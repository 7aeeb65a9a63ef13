-- The laws of every legal journal, whoever made it, about its queues.
use Rattle.std.specs.Prelude.{ℕ, pos, ◌≡◌, ◌≢◌, ◌+◌, ◌<◌, ◌≤◌, Bool, true, false, not, ◌||◌, ◌==◌, [], length, Option, Some, None}
use Rattle.std.specs.Option.{option_map, option_and_then}
use Rattle.std.specs.List.{list_all}
use Rattle.mq_model.specs.Threads.{shares}
use Rattle.mq_model.specs.Record.{Record, Past, record_at, first}
use Rattle.mq_model.specs.Names.{attributes}
use Rattle.mq_model.specs.Descriptors.{held, descriptor_of, called_queue, created, alive}
use Rattle.mq_model.specs.Messages.{is_in, is_send, is_receive, is_accepted, taken_by, taken, present, priority, best, waiting_sends, waiting_receives}
use Rattle.mq_model.specs.Notices.{notified}
use Rattle.mq_model.specs.Waits.{open_wait, answered_by, named_wait, ended_wait}
use Rattle.mq_model.specs.ErrorOrder.{is_read_only, is_write_only}
use Rattle.mq_model.specs.Legality.{is_refused}
use Rattle.mq_model.specs.declared.entries.Deadline.{Deadline}
use Rattle.mq_model.specs.declared.entries.Description.{Description}
use Rattle.mq_model.specs.declared.entries.Call.{Call}
use Rattle.mq_model.specs.declared.entries.Call.TheVariants.{Collect, Withdraw}
use Rattle.mq_model.specs.declared.entries.Reply.{Reply}
use Rattle.mq_model.specs.declared.entries.Reply.TheVariants.{Handed, Waits, Got, Collected, Withdrawn}

abbrev pub reply_at : Past → ℕ → Option Reply
reply_at past k = option_map (λ r. r.entry.reply) (record_at past k)

-- the message that a reply hands to its caller
abbrev pub message_given : Reply → Option ℕ
message_given (Got place admitted notified) = Some place
message_given _ = None

-- the wait that a reply withdraws
abbrev pub withdrawn_wait : Reply → Option ℕ
withdrawn_wait (Withdrawn wait) = Some wait
withdrawn_wait _ = None

-- the place in a collect's reply: that of the entry that answered the wait
abbrev pub cause : Reply → Option ℕ
cause (Collected by) = Some by
cause _ = None

-- the reply at place k has this value in this part
abbrev pub Has : (Reply → Option ℕ) → Past → ℕ → ℕ → Type 0
Has part past k m = option_and_then part (reply_at past k) ≡ Some m

-- no two replies have the same value in this part
abbrev pub IsOnce : (Reply → Option ℕ) → Past → Type 0
IsOnce part past = (j k m : ℕ) → Has part past j m → Has part past k m → j ≡ k

-- No message is received twice, none that was handed over is received, and each is received after
-- its send. No wait is ended twice, by an entry that serves it or by a withdrawal. So none is
-- served twice, none is both served and withdrawn, no withdrawn send is accepted, and a withdrawn
-- receive takes nothing. No registration is notified twice, and no two collects have the same
-- cause.
pub record GivesOnce (past : Past) : Type 0 where
  pub messages : IsOnce message_given past
  pub not_handed : (k m w : ℕ) → Has message_given past k m → reply_at past m ≢ Some (Handed w)
  pub earlier : (k m : ℕ) → Has message_given past k m → m < k
  pub ends : IsOnce ended_wait past
  pub waits : IsOnce named_wait past
  pub withdrawn : (j k w : ℕ) → Has withdrawn_wait past j w → Has named_wait past k w → ⊥
  pub not_accepted : (k q w : ℕ) → Has withdrawn_wait past k w → is_accepted past q w ≡ false
  pub registrations : IsOnce notified past
  pub causes : IsOnce cause past

-- the receive at place k is on queue q, and got message m
pub record IsReceivedAt (past : Past) (k q m : ℕ) : Type 0 where
  pub r : Record
  pub at : record_at past k ≡ Some r
  pub on : called_queue (first k past) r.entry.process r.entry.call ≡ Some q
  pub gets : message_given r.entry.reply ≡ Some m

-- the message that a receive got was the best one of its queue before it
abbrev pub GivesBest : Past → Type 0
GivesBest past = (k m : ℕ) → Has message_given past k m →
    (q : ℕ) × IsReceivedAt past k q m × (best (first k past) q ≡ Some m)

-- the entry at place k takes message m: it returns it to its caller, or hands it over
abbrev pub IsTakenAt : Past → ℕ → ℕ → Type 0
IsTakenAt past m k = option_and_then (taken_by k) (reply_at past k) ≡ Some m

-- Of two accepted messages of the same queue and priority, the earlier one is taken first. So what
-- one process sends with one priority leaves the queue in the order in which it was sent.
abbrev pub LeavesInOrder : Past → Type 0
LeavesInOrder past = (q m n k : ℕ) → is_accepted past q m ≡ true → is_accepted past q n ≡ true →
    m < n → priority past m ≡ priority past n → IsTakenAt past n k →
    (j : ℕ) × (j < k) × IsTakenAt past m j

-- the process of caller p held descriptor d before place k, with a description that passes this
-- test
pub record IsHeldAt (past : Past) (k p d : ℕ) (passes : Description → Bool) : Type 0 where
  pub h : Description
  pub held : held (first k past) p d ≡ Some h
  pub access : passes h ≡ true

-- each call of this caller's process was made by this caller: the process has one thread
abbrev pub is_lone : Past → ℕ → Bool
is_lone past p = list_all (λ r. not (shares r.entry.process p) || r.entry.process == p) past

-- The process of each send and receive that did not fail, with or without a deadline, held the
-- descriptor with the access mode that the call needs. When a wait of a process with one thread is
-- collected or withdrawn, the process holds what it held when the wait began.
pub record HoldsDescriptors (past : Past) : Type 0 where
  pub sends : (k d : ℕ) (r : Record) → record_at past k ≡ Some r → is_send r.entry.call ≡ true →
      descriptor_of r.entry.call ≡ Some d → is_refused r.entry.reply ≡ false →
      IsHeldAt past k r.entry.process d (λ h. not (is_read_only h.access))
  pub receives : (k d : ℕ) (r : Record) → record_at past k ≡ Some r →
      is_receive r.entry.call ≡ true → descriptor_of r.entry.call ≡ Some d →
      is_refused r.entry.reply ≡ false →
      IsHeldAt past k r.entry.process d (λ h. not (is_write_only h.access))
  pub collects : (k : ℕ) (r : Record) → record_at past k ≡ Some r → r.entry.call ≡ Collect →
      (w : ℕ) × (open_wait (first k past) r.entry.process ≡ Some w) ×
      (is_lone (first k past) r.entry.process ≡ true → (d : ℕ) → held (first k past) r.entry.process
      d ≡ held (first w past) r.entry.process d)
  pub withdrawals : (k : ℕ) (now : Deadline) (r : Record) → record_at past k ≡ Some r →
      r.entry.call ≡ Withdraw now → (w : ℕ) × (open_wait (first k past) r.entry.process ≡ Some w) ×
      (is_lone (first k past) r.entry.process ≡ true → (d : ℕ) → held (first k past) r.entry.process
      d ≡ held (first w past) r.entry.process d)

-- before place k queue q had been created and no longer existed
pub record IsGoneAt (past : Past) (k q : ℕ) : Type 0 where
  pub place : k ≤ length past
  pub created : is_in (created (first k past)) q ≡ true
  pub gone : is_in (alive (first k past)) q ≡ false

-- A queue that ceased to exist never exists again, and none of its messages is taken from then on.
-- So each accepted message was taken, or is present in its queue only, which exists, or was lost
-- with it.
pub record EndsForGood (past : Past) : Type 0 where
  pub never_again : (j k q : ℕ) → IsGoneAt past j q → j ≤ k → k ≤ length past →
      is_in (alive (first k past)) q ≡ false
  pub none_taken : (j k q m : ℕ) → IsGoneAt past j q → j ≤ k → is_accepted past q m ≡ true →
      IsTakenAt past m k → ⊥
  pub present_or_taken : (q m : ℕ) → is_accepted past q m ≡ true →
      is_in (present past q) m ≡ not (is_in (taken past) m)
  pub in_one_queue : (q k m : ℕ) → is_accepted past q m ≡ true → is_in (present past k) m ≡ true →
      k ≡ q

-- If a receive waits, the queue is empty. If a send waits, the queue holds mq_maxmsg messages.
pub record WaitsForCause (past : Past) : Type 0 where
  pub receives : (q w : ℕ) → is_in (waiting_receives past q) w ≡ true → present past q ≡ []
  pub sends : (q w : ℕ) → is_in (waiting_sends past q) w ≡ true →
      pos (length (present past q)) ≡ (attributes past q).maxmsg

-- a call that ends a wait of its caller
abbrev pub ends_wait : Call → Bool
ends_wait Collect = true
ends_wait (Withdraw now) = true
ends_wait _ = false

-- the call ends the open wait w of caller p: it collects what answers the wait, or withdraws the
-- wait, which nothing answers
abbrev pub EndsWait : Past → ℕ → ℕ → Call → Reply → Type 0
EndsWait past p w Collect reply = (by : ℕ) × (answered_by past p ≡ Some by) × (reply ≡ Collected by)
EndsWait past p w (Withdraw now) reply = (answered_by past p ≡ None) × (reply ≡ Withdrawn w)
EndsWait past p w _ reply = ⊥

-- at place k caller p ends a wait
pub record IsEndAt (past : Past) (k p : ℕ) : Type 0 where
  pub r : Record
  pub at : record_at past k ≡ Some r
  pub caller : r.entry.process ≡ p
  pub call : ends_wait r.entry.call ≡ true

-- A caller waits in one call at a time. While it has an open wait, the only call that it makes is
-- the one that ends it, and then it has none. So after an entry that waits, each later entry of the
-- same caller ends that wait or follows its end.
pub record WaitsOneAtATime (past : Past) : Type 0 where
  pub only_ends : (k w : ℕ) (r : Record) → record_at past k ≡ Some r →
      open_wait (first k past) r.entry.process ≡ Some w →
      EndsWait (first k past) r.entry.process w r.entry.call r.entry.reply
  pub none_after : (k w : ℕ) (r : Record) → record_at past k ≡ Some r →
      open_wait (first k past) r.entry.process ≡ Some w →
      open_wait (first (k + 1) past) r.entry.process ≡ None
  pub between : (j k : ℕ) (r s : Record) → j < k → record_at past j ≡ Some r →
      r.entry.reply ≡ Waits → record_at past k ≡ Some s → s.entry.process ≡ r.entry.process →
      (m : ℕ) × (j < m) × (m ≤ k) × IsEndAt past m r.entry.process
