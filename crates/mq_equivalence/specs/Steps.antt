-- Replies without sequence numbers, and the messages that they hand out.
use Rattle.std.specs.Prelude.{ℕ, List, Option, None}
use Rattle.std.specs.Option.{option_map}
use Rattle.mq_model.specs.Record.{Record, Past, Process}
use Rattle.mq_model.specs.Legality.{payload_of, reply_to}
use Rattle.mq_model.specs.declared.entries.Call.{Call}
use Rattle.mq_model.specs.declared.entries.Reply.{Reply}
use Rattle.mq_model.specs.declared.entries.Reply.TheVariants.{Queued, Handed, Got, Collected, Withdrawn}
use Rattle.mq_equivalence.specs.Views.{Message, at, sent, told}

-- A reply without its sequence numbers. It still says whether a send was admitted.
abbrev pub shape : Reply → Reply
shape (Queued n) = Queued None
shape (Handed w) = Handed 0
shape (Got m a n) = Got 0 (option_map (λ k. 0) a) None
shape (Collected b) = Collected 0
shape (Withdrawn w) = Withdrawn 0
shape reply = reply

-- the record of a call of process p with these bytes, a name or a message, and its reply
abbrev pub record_of : Past → Process → Call → List ℕ → Record
record_of past p call given = record {
  entry = record { process = p; call = call; reply = reply_to past p call given };
  payload = payload_of call (reply_to past p call given) given;
}

-- the message that a reply gives its caller; `past` is the journal with that reply
abbrev pub message_given : Past → Reply → Option Message
message_given past (Got m a n) = at sent past m
message_given past reply = None

-- What a collect gives its caller: the message of the send that answered the wait, or none if a
-- send waited. `past` is the journal with its reply.
abbrev pub message_collected : Past → Reply → Option (Option Message)
message_collected past (Collected b) = at told past b
message_collected past reply = None
