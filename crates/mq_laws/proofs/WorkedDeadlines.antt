-- A worked journal with deadlines, latest entry first: it is legal, by computation. Withdrawals
-- that are not legal follow.
use Rattle.std.proofs.Common.{ℕ, [], ◌∷◌, refl, true, false, Some, None, pos, negsuc, codes}
use Rattle.mq_model.specs.Threads.{owner_of}
use Rattle.mq_model.specs.Record.{Past}
use Rattle.mq_model.specs.Descriptors.{descriptor_numbers}
use Rattle.mq_model.specs.Legality.{Legal, IsLegalNext}
use Rattle.mq_model.specs.declared.entries.Access.TheVariants.{Both}
use Rattle.mq_model.specs.declared.entries.Deadline.{Deadline}
use Rattle.mq_model.specs.declared.faults.Fault.TheVariants.{Invalid, TimedOut}
use Rattle.mq_model.specs.declared.entries.Call.TheVariants.{MqSend, MqReceive, MqTimedSend, MqTimedReceive, MqGetattr, Collect, Withdraw}
use Rattle.mq_model.specs.declared.entries.Reply.TheVariants.{Opened, Queued, Handed, Waits, Got, Collected, Attrs, Refused, Withdrawn}
use Rattle.mq_laws.proofs.WorkedJournals.{legal-by-replies, made, opening, opening_with}

-- a time of whole seconds
abbrev second : ℕ → Deadline
second n = record { sec = pos n; nsec = pos 0 }

-- a send waits until its deadline: two processes, and the queue is full with one message
abbrev send_waits : Past
send_waits =
    made 2 (MqTimedSend 0 7 1 (second 10) (second 9)) Waits (codes "b") ∷
    made 1 (MqTimedSend 0 1 1 (record { sec = negsuc 0; nsec = negsuc 0 }) (second 9))
    (Queued None) (codes "a") ∷
    made 1 (MqTimedReceive 0 8 (record { sec = pos 5; nsec = pos 1000000000 }) (second 0))
    (Refused Invalid) [] ∷
    made 1 (MqTimedReceive 0 8 (second 5) (second 5)) (Refused TimedOut) [] ∷
    made 2 (opening Both false false false) (Opened 0 false) (codes "/q") ∷
    made 1 (opening_with Both true false false (pos 1) (pos 8)) (Opened 0 true) (codes "/q") ∷
    []

-- a withdrawn send is never accepted, and an answered wait is collected
abbrev deadlines_pass : Past
deadlines_pass =
    made 1 Collect (Collected 10) [] ∷
    made 2 (MqSend 0 0 1) (Handed 9) (codes "c") ∷
    made 1 (MqTimedReceive 0 8 (second 20) (second 10)) Waits [] ∷
    made 2 (MqGetattr 0) (Attrs (record {
      nonblock = false;
      maxmsg = pos 1;
      msgsize = pos 8;
      curmsgs = pos 0;
    })) [] ∷
    made 1 (MqReceive 0 8) (Got 4 None None) [] ∷
    made 2 (Withdraw (second 10)) (Withdrawn 5) [] ∷
    send_waits

pub deadlines_pass-legal : Legal deadlines_pass
unfolding descriptor_numbers owner_of
deadlines_pass-legal = legal-by-replies deadlines_pass refl refl

-- a withdrawal before the deadline
pub early_withdrawal-refused : IsLegalNext send_waits (made 2 (Withdraw (second 9))
    (Withdrawn 5) []) → ⊥
unfolding descriptor_numbers owner_of
early_withdrawal-refused h = let wrong = h.turn in cc

-- a withdrawal by a process that does not wait
pub idle_withdrawal-refused : IsLegalNext send_waits (made 1 (Withdraw (second 10))
    (Withdrawn 5) []) → ⊥
unfolding descriptor_numbers owner_of
idle_withdrawal-refused h = let wrong = h.turn in cc

-- a withdrawal of a wait that an entry names
abbrev send_admitted : Past
send_admitted =
    made 1 (MqReceive 0 8) (Got 4 (Some 5) None) [] ∷
    send_waits

pub answered_withdrawal-refused : IsLegalNext send_admitted (made 2 (Withdraw (second 10))
    (Withdrawn 5) []) → ⊥
unfolding descriptor_numbers owner_of
answered_withdrawal-refused h = let wrong = h.turn in cc

-- a collect of a wait that no entry names, though its deadline has passed
pub unanswered_collect-refused : IsLegalNext send_waits (made 2 Collect (Collected 5) []) → ⊥
unfolding descriptor_numbers owner_of
unanswered_collect-refused h = let wrong = h.turn in cc
