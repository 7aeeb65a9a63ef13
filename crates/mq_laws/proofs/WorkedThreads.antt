-- Worked journals of processes with several threads, latest entry first. Callers 1, 33 and 65 are
-- threads of process 1. Each journal is legal, by computation. Entries that are not legal follow.
use Rattle.std.proofs.Common.{[], ◌∷◌, refl, true, false, Some, None, pos, codes}
use Rattle.mq_model.specs.Threads.{owner_of}
use Rattle.mq_model.specs.Record.{Past}
use Rattle.mq_model.specs.Descriptors.{descriptor_numbers}
use Rattle.mq_model.specs.Legality.{Legal, IsLegalNext}
use Rattle.mq_model.specs.declared.entries.Access.TheVariants.{Read, Write, Both}
use Rattle.mq_model.specs.declared.faults.Fault.TheVariants.{BadDescriptor, Busy}
use Rattle.mq_model.specs.declared.entries.Call.TheVariants.{MqClose, MqSend, MqReceive, MqSetattr, MqNotify, NextNotice, Collect}
use Rattle.mq_model.specs.declared.entries.Reply.TheVariants.{Opened, Queued, Handed, Waits, Got, Collected, Attrs, Notice, Done, Refused}
use Rattle.mq_laws.proofs.WorkedJournals.{legal-by-replies, made, opening, opening_with, status}

-- two threads of a process wait on one descriptor, and a third one closes it
abbrev two_threads_wait : Past
two_threads_wait =
    made 65 (MqClose 0) Done [] ∷
    made 1 (MqReceive 0 8) Waits [] ∷
    made 33 (MqReceive 0 8) Waits [] ∷
    made 2 (opening Both false false false) (Opened 0 false) (codes "/q") ∷
    made 1 (opening_with Both true false false (pos 2) (pos 8)) (Opened 0 true) (codes "/q") ∷
    []

-- the waits go on, the oldest is served first, and each thread collects its own message
abbrev waits_outlive_descriptor : Past
waits_outlive_descriptor =
    made 33 (MqReceive 0 8) (Refused BadDescriptor) [] ∷
    made 1 Collect (Collected 7) [] ∷
    made 33 Collect (Collected 6) [] ∷
    made 2 (MqSend 0 0 1) (Handed 3) (codes "b") ∷
    made 2 (MqSend 0 0 1) (Handed 2) (codes "a") ∷
    made 65 (MqSend 0 0 1) (Refused BadDescriptor) [] ∷
    two_threads_wait

pub waits_outlive_descriptor-legal : Legal waits_outlive_descriptor
unfolding descriptor_numbers owner_of
waits_outlive_descriptor-legal = legal-by-replies waits_outlive_descriptor refl refl

-- descriptors, their flags, registrations and notices are those of the process
abbrev threads_share_descriptors : Past
threads_share_descriptors =
    made 1 NextNotice (Notice None) [] ∷
    made 2 (MqSend 0 0 1) (Queued None) (codes "b") ∷
    made 65 (MqClose 1) Done [] ∷
    made 1 (MqNotify 1 (Some 6)) Done [] ∷
    made 1 (MqReceive 1 8) (Got 6 None None) [] ∷
    made 33 NextNotice (Notice None) [] ∷
    made 65 NextNotice (Notice (Some 5)) [] ∷
    made 2 (MqSend 0 0 1) (Queued (Some 4)) (codes "a") ∷
    made 33 (MqNotify 0 (Some 8)) (Refused Busy) [] ∷
    made 1 (MqNotify 1 (Some 5)) Done [] ∷
    made 2 (opening Write false false false) (Opened 0 false) (codes "/q") ∷
    made 65 (MqSetattr 0 true) (Attrs (status false 2 8 0)) [] ∷
    made 33 (opening Read false false false) (Opened 1 false) (codes "/q") ∷
    made 1 (opening_with Both true false false (pos 2) (pos 8)) (Opened 0 true) (codes "/q") ∷
    []

pub threads_share_descriptors-legal : Legal threads_share_descriptors
unfolding descriptor_numbers owner_of
threads_share_descriptors-legal = legal-by-replies threads_share_descriptors refl refl

-- a thread that waits makes no other call
pub call_of_waiting_thread-refused : IsLegalNext two_threads_wait
    (made 33 NextNotice (Notice None) []) → ⊥
unfolding descriptor_numbers owner_of
call_of_waiting_thread-refused h = let wrong = h.turn in cc

-- a message goes to the oldest wait, though a first thread has a newer one
pub newer_wait-refused : IsLegalNext two_threads_wait (made 2 (MqSend 0 0 1) (Handed 3)
    (codes "a")) → ⊥
unfolding descriptor_numbers owner_of
newer_wait-refused h = let wrong = h.reply in cc

-- a thread collects no answer to another thread's wait
abbrev one_answered : Past
one_answered =
    made 2 (MqSend 0 0 1) (Handed 2) (codes "a") ∷
    two_threads_wait

pub collect_for_another_thread-refused : IsLegalNext one_answered
    (made 1 Collect (Collected 5) []) → ⊥
unfolding descriptor_numbers owner_of
collect_for_another_thread-refused h = let wrong = h.turn in cc

-- there are 2,048 callers
pub caller_2049-refused : IsLegalNext [] (made 2049 NextNotice (Notice None) []) → ⊥
unfolding descriptor_numbers owner_of
caller_2049-refused h = let wrong = h.process in cc
