-- Worked journals, latest entry first: each is legal, by computation.
use Rattle.std.proofs.Common.{ℕ, ℤ, List, [], ◌∷◌, refl, Bool, true, false, Some, None, arith, ◌≡◌, ◌&&◌, nat_le, pos, negsuc, codes, replicate}
use Rattle.mq_model.specs.Threads.{owner_of}
use Rattle.mq_model.specs.Limits.{most_callers}
use Rattle.mq_model.specs.Record.{Record, Past}
use Rattle.mq_model.specs.Descriptors.{descriptor_numbers}
use Rattle.mq_model.specs.Legality.{Legal, is_payload, may_call, reply_to}
use Rattle.mq_model.specs.declared.entries.Access.{Access}
use Rattle.mq_model.specs.declared.entries.Access.TheVariants.{Read, Write, Both}
use Rattle.mq_model.specs.declared.entries.Status.{Status}
use Rattle.mq_model.specs.declared.faults.Fault.TheVariants.{Again, BadDescriptor, Busy, Exists, Invalid, MessageSize, NoEntry}
use Rattle.mq_model.specs.declared.entries.Call.{Call}
use Rattle.mq_model.specs.declared.entries.Call.TheVariants.{MqOpen, MqClose, MqUnlink, MqSend, MqReceive, MqGetattr, MqSetattr, MqNotify, NextNotice}
use Rattle.mq_model.specs.declared.entries.Reply.{Reply}
use Rattle.mq_model.specs.declared.entries.Reply.TheVariants.{Opened, Queued, Got, Attrs, Notice, Done, Refused}

abbrev pub made : ℕ → Call → Reply → List ℕ → Record
made p call reply payload = record {
  entry = record { process = p; call = call; reply = reply };
  payload = payload;
}

-- an open with these flags: access, create, excl, nonblock
abbrev pub opening : Access → Bool → Bool → Bool → Call
opening access create excl nonblock = MqOpen (record {
  access = access;
  create = create;
  excl = excl;
  nonblock = nonblock;
}) None

-- the same with maxmsg and msgsize
abbrev pub opening_with : Access → Bool → Bool → Bool → ℤ → ℤ → Call
opening_with access create excl nonblock maxmsg msgsize =
    MqOpen (record { access = access; create = create; excl = excl; nonblock = nonblock })
    (Some (record { maxmsg = maxmsg; msgsize = msgsize }))

-- attributes: nonblock, maxmsg, msgsize, messages present
abbrev pub status : Bool → ℕ → ℕ → ℕ → Status
status nonblock maxmsg msgsize curmsgs = record {
  nonblock = nonblock;
  maxmsg = pos maxmsg;
  msgsize = pos msgsize;
  curmsgs = pos curmsgs;
}

-- Legality by two computations: each record but for its reply, and the list of all replies.
abbrev pub are_made : Past → Bool
are_made [] = true
are_made (r ∷ past) =
    are_made past
    && nat_le 1 r.entry.process && nat_le r.entry.process most_callers
    && may_call past r.entry.process r.entry.call
    && is_payload r.entry.call r.entry.reply r.payload

abbrev pub replies : Past → List Reply
replies [] = []
replies (r ∷ past) = r.entry.reply ∷ replies past

abbrev pub due_replies : Past → List Reply
due_replies [] = []
due_replies (r ∷ past) = reply_to past r.entry.process r.entry.call r.payload ∷ due_replies past

all-of-five : (a b c d e : Bool) → (a && b && c && d && e) ≡ true →
    (a ≡ true) × ((b && c) ≡ true) × (d ≡ true) × (e ≡ true)
all-of-five a b c d e h = grind arith

pub legal-by-replies : (past : Past) → are_made past ≡ true → replies past ≡ due_replies past →
    Legal past
legal-by-replies [] made due = tt
legal-by-replies (r ∷ past) made due =
    let all = all-of-five (are_made past) (nat_le 1 r.entry.process)
    (nat_le r.entry.process most_callers) (may_call past r.entry.process r.entry.call)
    (is_payload r.entry.call r.entry.reply r.payload) made in
    let reply : r.entry.reply ≡ reply_to past r.entry.process r.entry.call r.payload = cc in
    let before : replies past ≡ due_replies past = cc in (
      legal-by-replies past all.0 before,
      record {
        process = all.1;
        turn = all.2;
        payload = all.3;
        reply = reply;
      },
    )

-- two messages of one priority leave in the order in which they were sent
abbrev two_of_one_priority : Past
two_of_one_priority =
    made 1 (MqReceive 0 16) (Got 2 None None) [] ∷
    made 1 (MqReceive 0 16) (Got 1 None None) [] ∷
    made 1 (MqSend 0 5 1) (Queued None) (codes "b") ∷
    made 1 (MqSend 0 5 1) (Queued None) (codes "a") ∷
    made 1 (opening_with Both true false false (pos 2) (pos 16)) (Opened 0 true) (codes "/q") ∷
    []

pub two_of_one_priority-legal : Legal two_of_one_priority
unfolding descriptor_numbers owner_of
two_of_one_priority-legal = legal-by-replies two_of_one_priority refl refl

-- the highest priority leaves first; 32,768 is not a priority
abbrev highest_priority_first : Past
highest_priority_first =
    made 1 (MqReceive 0 16) (Got 3 None None) [] ∷
    made 1 (MqReceive 0 16) (Got 1 None None) [] ∷
    made 1 (MqReceive 0 16) (Got 2 None None) [] ∷
    made 1 (MqSend 0 32768 1) (Refused Invalid) [] ∷
    made 1 (MqSend 0 1 1) (Queued None) (codes "c") ∷
    made 1 (MqSend 0 32767 1) (Queued None) (codes "b") ∷
    made 1 (MqSend 0 1 1) (Queued None) (codes "a") ∷
    made 1 (opening_with Both true false false (pos 4) (pos 16)) (Opened 0 true) (codes "/q") ∷
    []

pub highest_priority_first-legal : Legal highest_priority_first
unfolding descriptor_numbers owner_of
highest_priority_first-legal = legal-by-replies highest_priority_first refl refl

-- messages of 0 to msgsize bytes; a receive with a shorter buffer fails
abbrev message_sizes : Past
message_sizes =
    made 1 (MqReceive 0 3) (Got 2 None None) [] ∷
    made 1 (MqReceive 0 3) (Got 1 None None) [] ∷
    made 1 (MqGetattr 0) (Attrs (status true 4 3 2)) [] ∷
    made 1 (MqReceive 0 2) (Refused MessageSize) [] ∷
    made 1 (MqSend 0 0 4) (Refused MessageSize) [] ∷
    made 1 (MqSend 0 0 3) (Queued None) (codes "abc") ∷
    made 1 (MqSend 0 0 0) (Queued None) [] ∷
    made 1 (opening_with Both true false true (pos 4) (pos 3)) (Opened 0 true) (codes "/q") ∷
    []

pub message_sizes-legal : Legal message_sizes
unfolding descriptor_numbers owner_of
message_sizes-legal = legal-by-replies message_sizes refl refl

-- with a nonblocking descriptor a call fails when it would wait; setattr returns the attributes
-- from before
abbrev nonblocking : Past
nonblocking =
    made 1 (MqClose 0) Done [] ∷
    made 1 (MqGetattr 0) (Attrs (status false 1 8 1)) [] ∷
    made 1 (MqSetattr 0 false) (Attrs (status true 1 8 1)) [] ∷
    made 1 (MqSend 0 0 1) (Refused Again) [] ∷
    made 1 (MqSend 0 0 1) (Queued None) (codes "a") ∷
    made 1 (MqReceive 0 8) (Refused Again) [] ∷
    made 1 (opening_with Both true false true (pos 1) (pos 8)) (Opened 0 true) (codes "/q") ∷
    []

pub nonblocking-legal : Legal nonblocking
unfolding descriptor_numbers owner_of
nonblocking-legal = legal-by-replies nonblocking refl refl

-- access modes, closed descriptors, and the lowest free number
abbrev access_modes : Past
access_modes =
    made 1 (MqReceive 0 8) (Got 4 None None) [] ∷
    made 1 (opening Both false false false) (Opened 0 false) (codes "/q") ∷
    made 1 (MqGetattr 0) (Refused BadDescriptor) [] ∷
    made 1 (MqSend 0 0 1) (Refused BadDescriptor) [] ∷
    made 1 (MqClose 0) Done [] ∷
    made 1 (MqSend 0 0 1) (Queued None) (codes "a") ∷
    made 1 (MqReceive 0 8) (Refused BadDescriptor) [] ∷
    made 1 (MqSend 1 0 1) (Refused BadDescriptor) [] ∷
    made 1 (opening Read false false false) (Opened 1 false) (codes "/q") ∷
    made 1 (opening_with Write true false false (pos 2) (pos 8)) (Opened 0 true) (codes "/q") ∷
    []

pub access_modes-legal : Legal access_modes
unfolding descriptor_numbers owner_of
access_modes-legal = legal-by-replies access_modes refl refl

-- an unlinked queue exists while it is held, beside a new one of the same name
abbrev unlinked_queue : Past
unlinked_queue =
    made 1 (MqGetattr 1) (Attrs (status false 2 8 1)) [] ∷
    made 1 (MqGetattr 0) (Attrs (status false 2 8 0)) [] ∷
    made 1 (MqSend 1 0 3) (Queued None) (codes "new") ∷
    made 1 (MqReceive 0 8) (Got 1 None None) [] ∷
    made 1 (opening_with Both true false false (pos 2) (pos 8)) (Opened 1 true) (codes "/q") ∷
    made 1 MqUnlink (Refused NoEntry) (codes "/q") ∷
    made 1 (opening Both false false false) (Refused NoEntry) (codes "/q") ∷
    made 1 MqUnlink Done (codes "/q") ∷
    made 1 (MqSend 0 3 3) (Queued None) (codes "old") ∷
    made 1 (opening_with Both true false false (pos 2) (pos 8)) (Opened 0 true) (codes "/q") ∷
    []

pub unlinked_queue-legal : Legal unlinked_queue
unfolding descriptor_numbers owner_of
unlinked_queue-legal = legal-by-replies unlinked_queue refl refl

-- attributes are checked only if a queue is created
abbrev attributes_given : Past
attributes_given =
    made 1 (MqGetattr 3) (Attrs (status false 4096 65536 0)) [] ∷
    made 1 (opening_with Both true false false (pos 4096) (pos 65536))
    (Opened 3 true) (codes "/r") ∷
    made 1 (opening Both false true false) (Opened 2 false) (codes "/q") ∷
    made 1 (opening Both false true false) (Refused NoEntry) (codes "/r") ∷
    made 1 (opening_with Both true false false (pos 1) (pos 65537)) (Refused Invalid) (codes "/r") ∷
    made 1 (opening_with Both true false false (pos 4097) (pos 8)) (Refused Invalid) (codes "/r") ∷
    made 1 (opening_with Both true false false (negsuc 0) (pos 8)) (Refused Invalid) (codes "/r") ∷
    made 1 (opening_with Both true false false (pos 1) (pos 0)) (Refused Invalid) (codes "/r") ∷
    made 1 (opening_with Both true false false (pos 0) (pos 8)) (Refused Invalid) (codes "/r") ∷
    made 1 (opening_with Both true false false (pos 0) (pos 0)) (Opened 1 false) (codes "/q") ∷
    made 1 (opening Both true true false) (Refused Exists) (codes "/q") ∷
    made 1 (MqGetattr 0) (Attrs (status false 10 8192 0)) [] ∷
    made 1 (opening Both true false false) (Opened 0 true) (codes "/q") ∷
    []

pub attributes_given-legal : Legal attributes_given
unfolding descriptor_numbers owner_of
attributes_given-legal = legal-by-replies attributes_given refl refl

-- a queue without descriptors exists until its unlink
abbrev queue_outlives_descriptors : Past
queue_outlives_descriptors =
    made 1 (opening Both false false false) (Refused NoEntry) (codes "/q") ∷
    made 1 MqUnlink Done (codes "/q") ∷
    made 1 (MqClose 0) Done [] ∷
    made 1 (MqReceive 0 8) (Got 2 None None) [] ∷
    made 1 (opening Both false false false) (Opened 0 false) (codes "/q") ∷
    made 1 (MqGetattr 0) (Refused BadDescriptor) [] ∷
    made 1 (MqClose 1) Done [] ∷
    made 1 (MqClose 0) Done [] ∷
    made 1 (MqSend 0 0 1) (Queued None) (codes "a") ∷
    made 1 (opening Read false false false) (Opened 1 false) (codes "/q") ∷
    made 1 (opening_with Both true false false (pos 2) (pos 8)) (Opened 0 true) (codes "/q") ∷
    []

pub queue_outlives_descriptors-legal : Legal queue_outlives_descriptors
unfolding descriptor_numbers owner_of
queue_outlives_descriptors-legal = legal-by-replies queue_outlives_descriptors refl refl

-- which process may register and remove, and what a close ends
abbrev registrations : Past
registrations =
    made 2 NextNotice (Notice (Some 3)) [] ∷
    made 2 (MqSend 0 0 1) (Queued (Some 14)) (codes "b") ∷
    made 2 (MqReceive 0 8) (Got 8 None None) [] ∷
    made 2 (MqNotify 0 (Some 3)) Done [] ∷
    made 1 (MqClose 0) Done [] ∷
    made 1 (MqNotify 0 (Some 5)) Done [] ∷
    made 1 (MqNotify 0 None) (Refused Invalid) [] ∷
    made 1 NextNotice (Notice None) [] ∷
    made 1 NextNotice (Notice (Some 7)) [] ∷
    made 2 (MqSend 0 0 1) (Queued (Some 3)) (codes "a") ∷
    made 1 (MqClose 1) Done [] ∷
    made 2 (MqNotify 0 None) (Refused Invalid) [] ∷
    made 2 (MqNotify 0 (Some 9)) (Refused Busy) [] ∷
    made 1 (MqNotify 1 (Some 8)) (Refused Busy) [] ∷
    made 1 (MqNotify 0 (Some 7)) Done [] ∷
    made 2 (opening Both false false false) (Opened 0 false) (codes "/q") ∷
    made 1 (opening Read false false false) (Opened 1 false) (codes "/q") ∷
    made 1 (opening_with Both true false false (pos 2) (pos 8)) (Opened 0 true) (codes "/q") ∷
    []

pub registrations-legal : Legal registrations
unfolding descriptor_numbers owner_of
registrations-legal = legal-by-replies registrations refl refl

-- no send works with a closed descriptor
abbrev closed_descriptor : Past
closed_descriptor =
    made 1 (MqSend 0 0 1) (Refused BadDescriptor) [] ∷
    made 1 (MqClose 0) Done [] ∷
    made 1 (MqSend 0 0 1) (Refused Again) [] ∷
    made 1 (MqSend 0 0 1) (Queued None) (codes "a") ∷
    made 1 (MqReceive 0 8) (Refused Again) [] ∷
    made 1 (opening_with Both true false true (pos 1) (pos 8)) (Opened 0 true) (codes "/q") ∷
    []

pub closed_descriptor-legal : Legal closed_descriptor
unfolding descriptor_numbers owner_of
closed_descriptor-legal = legal-by-replies closed_descriptor refl refl

-- a message that arrives at a queue that is not empty leaves the registration, and two notices come
-- oldest first
abbrev pending_notices : Past
pending_notices =
    made 1 NextNotice (Notice None) [] ∷
    made 1 NextNotice (Notice (Some 5)) [] ∷
    made 1 NextNotice (Notice (Some 4)) [] ∷
    made 1 (MqSend 1 0 1) (Queued (Some 4)) (codes "d") ∷
    made 1 (MqSend 0 0 1) (Queued (Some 3)) (codes "c") ∷
    made 1 (MqReceive 0 8192) (Got 5 None None) [] ∷
    made 1 (MqReceive 0 8192) (Got 2 None None) [] ∷
    made 1 (MqNotify 0 (Some 6)) (Refused Busy) [] ∷
    made 1 (MqSend 0 0 1) (Queued None) (codes "b") ∷
    made 1 (MqNotify 1 (Some 5)) Done [] ∷
    made 1 (MqNotify 0 (Some 4)) Done [] ∷
    made 1 (MqSend 0 0 1) (Queued None) (codes "a") ∷
    made 1 (opening Both true false false) (Opened 1 true) (codes "/r") ∷
    made 1 (opening Both true false false) (Opened 0 true) (codes "/q") ∷
    []

pub pending_notices-legal : Legal pending_notices
unfolding descriptor_numbers owner_of
pending_notices-legal = legal-by-replies pending_notices refl refl

-- a removal on one queue leaves a registration on another, and works through any descriptor for its
-- queue
abbrev removal_of_one_queue : Past
removal_of_one_queue =
    made 1 (MqNotify 0 None) (Refused Invalid) [] ∷
    made 1 (MqNotify 2 None) Done [] ∷
    made 2 (MqNotify 0 (Some 9)) (Refused Busy) [] ∷
    made 1 (MqNotify 1 None) Done [] ∷
    made 1 (MqNotify 1 (Some 8)) Done [] ∷
    made 1 (MqNotify 0 (Some 7)) Done [] ∷
    made 2 (opening Both false false false) (Opened 0 false) (codes "/q") ∷
    made 1 (opening Read false false false) (Opened 2 false) (codes "/q") ∷
    made 1 (opening Both true false false) (Opened 1 true) (codes "/r") ∷
    made 1 (opening Both true false false) (Opened 0 true) (codes "/q") ∷
    []

pub removal_of_one_queue-legal : Legal removal_of_one_queue
unfolding descriptor_numbers owner_of
removal_of_one_queue-legal = legal-by-replies removal_of_one_queue refl refl

-- a name has up to 255 bytes after its slash
abbrev longest_name : Past
longest_name =
    made 1 MqUnlink Done (47 ∷ replicate 255 97) ∷
    made 1 (opening Both true false false) (Opened 0 true) (47 ∷ replicate 255 97) ∷
    []

pub longest_name-legal : Legal longest_name
unfolding descriptor_numbers owner_of
longest_name-legal = legal-by-replies longest_name refl refl
