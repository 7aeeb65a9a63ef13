-- What a journal shows, from what it stores: entries, the calls in the separate list, and payload
-- bytes, each oldest first.
use Rattle.std.specs.Prelude.{ℕ, ◌≡◌, ◌+◌, ◌*◌, ◌-◌, ◌≤◌, ◌==◌, min, List, [], ◌∷◌, map, reverse, slice_range, slice_index_or, All, vec_len, vec_capacity, length, Some, None, if◌then◌else◌}
use Rattle.mq_model.specs.Record.{Record, Past, Shown, payload_bytes}
use Rattle.mq_model.specs.declared.entries.Call.{Call}
use Rattle.mq_model.specs.declared.entries.Reply.{Reply}
use Rattle.mq_model.specs.declared.stored.StoredCall.{StoredCall}
use Rattle.mq_model.specs.declared.stored.StoredReply.{StoredReply}
use Rattle.mq_model.specs.declared.stored.Stored.{Stored}
use Rattle.mq_model.specs.declared.journals.Journal.TheInside.{Inside}

-- the length that the separate list must have before this call can be read
abbrev pub needs : StoredCall → ℕ
needs (StoredCall.Open flags) = 0
needs (StoredCall.Close d) = 0
needs StoredCall.Unlink = 0
needs (StoredCall.Send d prio) = 0
needs (StoredCall.Receive d room) = 0
needs (StoredCall.Getattr d) = 0
needs (StoredCall.Setattr d nonblock) = 0
needs (StoredCall.Removal d) = 0
needs StoredCall.NextNotice = 0
needs StoredCall.Collect = 0
needs (StoredCall.Apart high low) = high * 4294967296 + low + 1

-- the call of a stored form, for an entry with a payload of this length, given the separate list
abbrev pub call_of : List Call → ℕ → StoredCall → Call
call_of apart len (StoredCall.Open flags) = Call.MqOpen flags None
call_of apart len (StoredCall.Close d) = Call.MqClose d
call_of apart len StoredCall.Unlink = Call.MqUnlink
call_of apart len (StoredCall.Send d prio) = Call.MqSend d prio len
call_of apart len (StoredCall.Receive d room) = Call.MqReceive d room
call_of apart len (StoredCall.Getattr d) = Call.MqGetattr d
call_of apart len (StoredCall.Setattr d nonblock) = Call.MqSetattr d nonblock
call_of apart len (StoredCall.Removal d) = Call.MqNotify d None
call_of apart len StoredCall.NextNotice = Call.NextNotice
call_of apart len StoredCall.Collect = Call.Collect
call_of apart len (StoredCall.Apart high low) = slice_index_or apart
    (high * 4294967296 + low) Call.MqUnlink

-- what a stored call adds to the separate list
abbrev pub kept_apart : StoredCall → Call → List Call
kept_apart stored call = if needs stored == 0 then [] else call ∷ []

-- the reply of a stored form
abbrev pub reply_of : StoredReply → Reply
reply_of (StoredReply.Opened created d) = Reply.Opened d created
reply_of StoredReply.Queued = Reply.Queued None
reply_of (StoredReply.QueuedNotifying notified) = Reply.Queued (Some notified)
reply_of (StoredReply.Handed wait) = Reply.Handed wait
reply_of StoredReply.Waits = Reply.Waits
reply_of (StoredReply.Got place) = Reply.Got place None None
reply_of (StoredReply.GotAdmitting place admitted) = Reply.Got place (Some admitted) None
reply_of (StoredReply.GotNotifying place notified) = Reply.Got place None (Some notified)
reply_of (StoredReply.GotBoth place admitted notified) =
    Reply.Got place (Some admitted) (Some notified)
reply_of (StoredReply.Collected by) = Reply.Collected by
reply_of (StoredReply.Withdrawn wait) = Reply.Withdrawn wait
reply_of (StoredReply.Attrs nonblock maxmsg msgsize curmsgs) =
    Reply.Attrs (record {
      nonblock = nonblock;
      maxmsg = maxmsg;
      msgsize = msgsize;
      curmsgs = curmsgs;
    })
reply_of StoredReply.NoNotice = Reply.Notice None
reply_of (StoredReply.Notice value) = Reply.Notice (Some value)
reply_of StoredReply.Done = Reply.Done
reply_of (StoredReply.Refused fault) = Reply.Refused fault

-- the record of a stored entry, whose payload is a range of all payload bytes
abbrev pub record_of : List Call → List ℕ → Stored → Record
record_of apart bytes s = record {
  entry = record {
    process = s.process;
    call = call_of apart (s.end - s.start) s.call;
    reply = reply_of s.reply;
  };
  payload = slice_range bytes s.start s.end;
}

abbrev pub records_of : List Call → List ℕ → List Stored → Past
records_of apart bytes stored = reverse (map (record_of apart bytes) stored)

abbrev pub shown : Inside → Shown
shown j = record {
  records = records_of j.apart.items j.bytes.items j.stored.items;
  entry_room = min (vec_capacity j.stored - vec_len j.stored)
      (vec_capacity j.apart - vec_len j.apart);
  byte_room = vec_capacity j.bytes - vec_len j.bytes;
}

-- The payload of a stored entry is within the bytes, and its call within the separate list if it is
-- kept there.
abbrev pub LiesIn : List Call → List ℕ → Stored → Type 0
LiesIn apart bytes s = (s.start ≤ s.end) × (s.end ≤ length bytes) × (needs s.call ≤ length apart)

-- Each entry can be read, and the bytes are exactly those of the payloads.
pub record IsStored (j : Inside) : Type 0 where
  pub entries : All (LiesIn j.apart.items j.bytes.items) j.stored.items
  pub total : payload_bytes (records_of j.apart.items j.bytes.items j.stored.items) ≡
      vec_len j.bytes
