-- Which queue a name is bound to, and the attributes that its creator gave the queue (mq_open,
-- mq_unlink).
use Rattle.std.specs.Prelude.{ℕ, pos, Bool, true, false, ◌&&◌, List, [], ◌∷◌, length, Option, Some, None, if◌then◌else◌, int_le}
use Rattle.std.specs.Str.{bytes_eq}
use Rattle.std.specs.Option.{option_map, unwrap_or}
use Rattle.mq_model.specs.Limits.{most_messages, most_message_bytes, default_messages, default_message_bytes}
use Rattle.mq_model.specs.Record.{Past, record_at, Queue}
use Rattle.mq_model.specs.declared.entries.Attr.{Attr}
use Rattle.mq_model.specs.declared.entries.Call.{Call}
use Rattle.mq_model.specs.declared.entries.Call.TheVariants.{MqOpen, MqUnlink}
use Rattle.mq_model.specs.declared.entries.Reply.{Reply}
use Rattle.mq_model.specs.declared.entries.Reply.TheVariants.{Opened, Done}

abbrev pub is_open : Call → Bool
is_open (MqOpen flags attr) = true
is_open _ = false

abbrev pub is_unlink : Call → Bool
is_unlink MqUnlink = true
is_unlink _ = false

-- an open that created its queue. The place of such an open is the queue's number
abbrev pub creates : Call → Reply → Bool
creates call (Opened d created) = created && is_open call
creates call _ = false

-- an unlink that succeeded
abbrev pub unlinks : Call → Reply → Bool
unlinks call Done = is_unlink call
unlinks call _ = false

-- the queue that a name is bound to: its latest creating open, unless the name was unlinked after
-- it
abbrev pub bound_queue : Past → List ℕ → Option Queue
bound_queue [] name = None
bound_queue (r ∷ past) name =
    if creates r.entry.call r.entry.reply && bytes_eq r.payload name then Some (length past)
    else (if unlinks r.entry.call r.entry.reply && bytes_eq r.payload name then None
    else bound_queue past name)

-- The name under which a queue was created. The empty name is never that of a queue.
abbrev pub name_of : Past → Queue → List ℕ
name_of past q = unwrap_or (option_map (λ r. r.payload) (record_at past q)) []

-- the attributes of a queue that was created without any
abbrev pub default_attributes : Attr
default_attributes = record { maxmsg = pos default_messages; msgsize = pos default_message_bytes }

abbrev pub attributes_given : Call → Attr
attributes_given (MqOpen flags (Some attr)) = attr
attributes_given _ = default_attributes

-- mq_maxmsg and mq_msgsize of a queue: the maximum number of messages, and of bytes of a message
abbrev pub attributes : Past → Queue → Attr
attributes past q = unwrap_or (option_map (λ r. attributes_given r.entry.call) (record_at past q))
    default_attributes

-- attributes that a queue may be created with
abbrev pub are_within_limits : Option Attr → Bool
are_within_limits None = true
are_within_limits (Some attr) =
    int_le (pos 1) attr.maxmsg && int_le attr.maxmsg (pos most_messages) &&
    int_le (pos 1) attr.msgsize && int_le attr.msgsize (pos most_message_bytes)
