-- Worked journals with calls that wait, latest entry first: each is legal, by computation.
use Rattle.std.proofs.Common.{[], ◌∷◌, refl, true, false, Some, None, pos, codes}
use Rattle.mq_model.specs.Threads.{owner_of}
use Rattle.mq_model.specs.Record.{Past}
use Rattle.mq_model.specs.Descriptors.{descriptor_numbers}
use Rattle.mq_model.specs.Legality.{Legal}
use Rattle.mq_model.specs.declared.entries.Access.TheVariants.{Read, Write, Both}
use Rattle.mq_model.specs.declared.entries.Call.TheVariants.{MqSend, MqReceive, MqNotify, NextNotice, Collect}
use Rattle.mq_model.specs.declared.entries.Reply.TheVariants.{Opened, Queued, Handed, Waits, Got, Collected, Notice, Done}
use Rattle.mq_laws.proofs.WorkedJournals.{legal-by-replies, made, opening, opening_with}

-- the receive that has waited longest is served first, and no process is notified
abbrev oldest_receive_first : Past
oldest_receive_first =
    made 3 NextNotice (Notice None) [] ∷
    made 3 NextNotice (Notice (Some 7)) [] ∷
    made 3 (MqSend 0 0 1) (Queued (Some 3)) (codes "c") ∷
    made 3 NextNotice (Notice None) [] ∷
    made 1 Collect (Collected 6) [] ∷
    made 2 Collect (Collected 7) [] ∷
    made 3 (MqSend 0 0 1) (Handed 5) (codes "b") ∷
    made 3 (MqSend 0 0 1) (Handed 4) (codes "a") ∷
    made 2 (MqReceive 0 8) Waits [] ∷
    made 1 (MqReceive 0 8) Waits [] ∷
    made 3 (MqNotify 0 (Some 7)) Done [] ∷
    made 3 (opening Write false false false) (Opened 0 false) (codes "/q") ∷
    made 2 (opening Read false false false) (Opened 0 false) (codes "/q") ∷
    made 1 (opening_with Both true false false (pos 2) (pos 8)) (Opened 0 true) (codes "/q") ∷
    []

pub oldest_receive_first-legal : Legal oldest_receive_first
unfolding descriptor_numbers owner_of
oldest_receive_first-legal = legal-by-replies oldest_receive_first refl refl

-- a waiting message that enters an emptied queue gives a notice
abbrev admission_notifies : Past
admission_notifies =
    made 1 (MqReceive 0 8) (Got 4 None None) [] ∷
    made 1 NextNotice (Notice (Some 9)) [] ∷
    made 2 Collect (Collected 5) [] ∷
    made 1 (MqReceive 0 8) (Got 2 (Some 4) (Some 3)) [] ∷
    made 2 (MqSend 0 2 1) Waits (codes "b") ∷
    made 1 (MqNotify 0 (Some 9)) Done [] ∷
    made 2 (MqSend 0 1 1) (Queued None) (codes "a") ∷
    made 2 (opening Both false false false) (Opened 0 false) (codes "/q") ∷
    made 1 (opening_with Both true false false (pos 1) (pos 8)) (Opened 0 true) (codes "/q") ∷
    []

pub admission_notifies-legal : Legal admission_notifies
unfolding descriptor_numbers owner_of
admission_notifies-legal = legal-by-replies admission_notifies refl refl

-- the send that has waited longest is admitted first, whatever its priority
abbrev oldest_send_first : Past
oldest_send_first =
    made 2 (MqReceive 0 8) (Got 8 None None) [] ∷
    made 1 Collect (Collected 10) [] ∷
    made 3 Collect (Collected 9) [] ∷
    made 2 (MqReceive 0 8) (Got 7 (Some 8) None) [] ∷
    made 2 (MqReceive 0 8) (Got 6 (Some 7) None) [] ∷
    made 1 (MqSend 0 12 1) Waits (codes "c") ∷
    made 3 (MqSend 0 9 1) Waits (codes "b") ∷
    made 2 (MqSend 0 1 1) (Queued None) (codes "a") ∷
    made 1 Collect (Collected 4) [] ∷
    made 2 (MqSend 0 3 1) (Handed 3) (codes "x") ∷
    made 1 (MqReceive 0 8) Waits [] ∷
    made 3 (opening Both false false false) (Opened 0 false) (codes "/q") ∷
    made 2 (opening Both false false false) (Opened 0 false) (codes "/q") ∷
    made 1 (opening_with Both true false false (pos 1) (pos 8)) (Opened 0 true) (codes "/q") ∷
    []

pub oldest_send_first-legal : Legal oldest_send_first
unfolding descriptor_numbers owner_of
oldest_send_first-legal = legal-by-replies oldest_send_first refl refl

-- a receive that waits and a send that waits, each with its collect
abbrev blocked_calls : Past
blocked_calls =
    made 2 Collect (Collected 7) [] ∷
    made 1 (MqReceive 0 8) (Got 5 (Some 6) None) [] ∷
    made 2 (MqSend 0 0 1) Waits (codes "b") ∷
    made 2 (MqSend 0 0 1) (Queued None) (codes "a") ∷
    made 1 Collect (Collected 3) [] ∷
    made 2 (MqSend 0 4 2) (Handed 2) (codes "hi") ∷
    made 1 (MqReceive 0 8) Waits [] ∷
    made 2 (opening Both false false false) (Opened 0 false) (codes "/q") ∷
    made 1 (opening_with Both true false false (pos 1) (pos 8)) (Opened 0 true) (codes "/q") ∷
    []

pub blocked_calls-legal : Legal blocked_calls
unfolding descriptor_numbers owner_of
blocked_calls-legal = legal-by-replies blocked_calls refl refl
