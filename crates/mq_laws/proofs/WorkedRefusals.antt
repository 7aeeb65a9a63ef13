-- Worked counterexamples: none of these records may follow these journals, by computation.
use Rattle.std.proofs.Common.{[], ◌∷◌, true, false, Some, None, pos, codes, replicate}
use Rattle.mq_model.specs.Threads.{owner_of}
use Rattle.mq_model.specs.Record.{Past}
use Rattle.mq_model.specs.Descriptors.{descriptor_numbers}
use Rattle.mq_model.specs.Legality.{IsLegalNext}
use Rattle.mq_model.specs.declared.entries.Access.TheVariants.{Read, Write, Both}
use Rattle.mq_model.specs.declared.faults.Fault.TheVariants.{NoEntry, NoMemory, JournalFull}
use Rattle.mq_model.specs.declared.entries.Call.TheVariants.{MqClose, MqUnlink, MqSend, MqReceive, MqNotify, Collect}
use Rattle.mq_model.specs.declared.entries.Reply.TheVariants.{Opened, Queued, Handed, Waits, Got, Collected, Done, Refused}
use Rattle.mq_laws.proofs.WorkedJournals.{made, opening, opening_with}

-- the later of two messages of one priority
abbrev exchanged_receives : Past
exchanged_receives =
    made 1 (MqSend 0 1 1) (Queued None) (codes "b") ∷
    made 1 (MqSend 0 1 1) (Queued None) (codes "a") ∷
    made 1 (opening_with Both true false false (pos 2) (pos 8)) (Opened 0 true) (codes "/q") ∷
    []

pub exchanged_receives-refused : IsLegalNext exchanged_receives
    (made 1 (MqReceive 0 8) (Got 2 None None) []) → ⊥
unfolding descriptor_numbers owner_of
exchanged_receives-refused h = let wrong = h.reply in cc

-- the first process is 1
abbrev no_process_0 : Past
no_process_0 =
    []

pub no_process_0-refused : IsLegalNext no_process_0
    (made 0 (opening_with Both true false false (pos 2) (pos 8)) (Opened 0 true) (codes "/q")) → ⊥
unfolding descriptor_numbers owner_of
no_process_0-refused h = let wrong = h.process in cc

-- a name with a second slash
abbrev malformed_name : Past
malformed_name =
    []

pub malformed_name-refused : IsLegalNext malformed_name
    (made 1 (opening_with Both true false false (pos 2) (pos 8)) (Opened 0 true) (codes "/a/b")) → ⊥
unfolding descriptor_numbers owner_of
malformed_name-refused h = let wrong = h.payload in cc

-- NoMemory has no entry
abbrev want_of_memory : Past
want_of_memory =
    made 1 (opening_with Both true false false (pos 2) (pos 8)) (Opened 0 true) (codes "/q") ∷
    []

pub want_of_memory-refused : IsLegalNext want_of_memory
    (made 1 (MqSend 0 1 1) (Refused NoMemory) []) → ⊥
unfolding descriptor_numbers owner_of
want_of_memory-refused h = let wrong = h.reply in cc

-- JournalFull has no entry
pub full_journal-refused : IsLegalNext want_of_memory
    (made 1 (MqSend 0 1 1) (Refused JournalFull) []) → ⊥
unfolding descriptor_numbers owner_of
full_journal-refused h = let wrong = h.reply in cc

-- a message without its bytes
abbrev lost_payload : Past
lost_payload =
    made 1 (MqSend 0 1 1) (Queued None) (codes "a") ∷
    made 1 (opening_with Both true false false (pos 2) (pos 8)) (Opened 0 true) (codes "/q") ∷
    []

pub lost_payload-refused : IsLegalNext lost_payload (made 1 (MqSend 0 1 1) (Queued None) []) → ⊥
unfolding descriptor_numbers owner_of
lost_payload-refused h = let wrong = h.payload in cc

-- a collect without an open wait
abbrev collect_unasked : Past
collect_unasked =
    made 1 (MqReceive 0 8) (Got 2 None None) [] ∷
    made 1 (MqReceive 0 8) (Got 1 None None) [] ∷
    made 1 (MqSend 0 1 1) (Queued None) (codes "b") ∷
    made 1 (MqSend 0 1 1) (Queued None) (codes "a") ∷
    made 1 (opening_with Both true false false (pos 2) (pos 8)) (Opened 0 true) (codes "/q") ∷
    []

pub collect_unasked-refused : IsLegalNext collect_unasked (made 1 Collect (Collected 3) []) → ⊥
unfolding descriptor_numbers owner_of
collect_unasked-refused h = let wrong = h.turn in cc

-- a collect names the entry that answered its own wait
abbrev collect_of_another : Past
collect_of_another =
    made 2 Collect (Collected 7) [] ∷
    made 3 (MqSend 0 0 1) (Handed 5) (codes "b") ∷
    made 3 (MqSend 0 0 1) (Handed 4) (codes "a") ∷
    made 2 (MqReceive 0 8) Waits [] ∷
    made 1 (MqReceive 0 8) Waits [] ∷
    made 3 (MqNotify 0 (Some 7)) Done [] ∷
    made 3 (opening Write false false false) (Opened 0 false) (codes "/q") ∷
    made 2 (opening Read false false false) (Opened 0 false) (codes "/q") ∷
    made 1 (opening_with Both true false false (pos 2) (pos 8)) (Opened 0 true) (codes "/q") ∷
    []

pub collect_of_another-refused : IsLegalNext collect_of_another (made 1 Collect (Collected 7) []) →
    ⊥
unfolding descriptor_numbers owner_of
collect_of_another-refused h = let wrong = h.reply in cc

-- a process with an open wait can only collect
abbrev send_while_waiting : Past
send_while_waiting =
    made 1 (MqReceive 0 8) Waits [] ∷
    made 3 (MqNotify 0 (Some 7)) Done [] ∷
    made 3 (opening Write false false false) (Opened 0 false) (codes "/q") ∷
    made 2 (opening Read false false false) (Opened 0 false) (codes "/q") ∷
    made 1 (opening_with Both true false false (pos 2) (pos 8)) (Opened 0 true) (codes "/q") ∷
    []

pub send_while_waiting-refused : IsLegalNext send_while_waiting (made 1 (MqSend 0 0 1) (Queued None)
    (codes "a")) → ⊥
unfolding descriptor_numbers owner_of
send_while_waiting-refused h = let wrong = h.turn in cc

-- the unlink of a name with a second slash
abbrev malformed_unlink : Past
malformed_unlink =
    []

pub malformed_unlink-refused : IsLegalNext malformed_unlink (made 1 MqUnlink (Refused NoEntry)
    (codes "/a/b")) → ⊥
unfolding descriptor_numbers owner_of
malformed_unlink-refused h = let wrong = h.payload in cc

-- a name with 256 bytes after its slash
abbrev name_too_long : Past
name_too_long =
    []

pub name_too_long-refused : IsLegalNext name_too_long (made 1 (opening Both true false false)
    (Opened 0 true) (47 ∷ replicate 256 97)) → ⊥
unfolding descriptor_numbers owner_of
name_too_long-refused h = let wrong = h.payload in cc

-- the last caller is 2048
abbrev caller_2049 : Past
caller_2049 =
    []

pub caller_2049-refused : IsLegalNext caller_2049 (made 2049 (opening Both true false false)
    (Opened 0 true) (codes "/q")) → ⊥
unfolding descriptor_numbers owner_of
caller_2049-refused h = let wrong = h.process in cc

-- an open gives the lowest free number
abbrev highest_number : Past
highest_number =
    []

pub highest_number-refused : IsLegalNext highest_number (made 1 (opening Both true false false)
    (Opened 15 true) (codes "/q")) → ⊥
unfolding descriptor_numbers owner_of
highest_number-refused h = let wrong = h.reply in cc

-- a send is handed to the receive that waits
abbrev queued_past_receive : Past
queued_past_receive =
    made 1 (MqReceive 0 8) Waits [] ∷
    made 2 (opening Both false false false) (Opened 0 false) (codes "/q") ∷
    made 1 (opening_with Both true false false (pos 2) (pos 8)) (Opened 0 true) (codes "/q") ∷
    []

pub queued_past_receive-refused : IsLegalNext queued_past_receive
    (made 2 (MqSend 0 0 1) (Queued None) (codes "a")) → ⊥
unfolding descriptor_numbers owner_of
queued_past_receive-refused h = let wrong = h.reply in cc

-- a message that arrives at a queue that is not empty notifies no process
abbrev notified_while_occupied : Past
notified_while_occupied =
    made 1 (MqNotify 0 (Some 5)) Done [] ∷
    made 1 (MqSend 0 0 1) (Queued None) (codes "a") ∷
    made 1 (opening Both true false false) (Opened 0 true) (codes "/q") ∷
    []

pub notified_while_occupied-refused : IsLegalNext notified_while_occupied
    (made 1 (MqSend 0 0 1) (Queued (Some 2)) (codes "b")) → ⊥
unfolding descriptor_numbers owner_of
notified_while_occupied-refused h = let wrong = h.reply in cc

-- a close ends the registration that was made with its descriptor
abbrev closed_registration : Past
closed_registration =
    made 1 (MqClose 0) Done [] ∷
    made 1 (MqNotify 0 (Some 5)) Done [] ∷
    made 1 (opening Both false false false) (Opened 1 false) (codes "/q") ∷
    made 1 (opening Both true false false) (Opened 0 true) (codes "/q") ∷
    []

pub closed_registration-refused : IsLegalNext closed_registration
    (made 1 (MqSend 1 0 1) (Queued (Some 2)) (codes "a")) → ⊥
unfolding descriptor_numbers owner_of
closed_registration-refused h = let wrong = h.reply in cc
