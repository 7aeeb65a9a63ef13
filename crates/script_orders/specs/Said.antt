-- The text of the replies in a journal, as a run of the script prints it.
use Rattle.std.specs.Prelude.{ℕ, Bool, List, [], if◌then◌else◌}
use Rattle.std.specs.Option.{option_map, unwrap_or}
use Rattle.std.specs.Prelude.{false}
use Rattle.mq_model.specs.Messages.{is_send}
use Rattle.mq_model.specs.Record.{Past, Place, Process, record_at}
use Rattle.mq_model.specs.declared.entries.Reply.{Reply}
use Rattle.mq_model.specs.declared.entries.Reply.TheVariants as reply
use Rattle.script_text.specs.Replies.{reply_line}
use Rattle.script_text.specs.declared.reply.Outcome.TheVariants as outcomes
use Rattle.mq_state.specs.Buffers.{message_at, received_at}

-- for a receive, given the place of the message's send
abbrev pub said_of_message : Past → Process → Place → List ℕ
said_of_message past p place = reply_line p (outcomes.Got (received_at past place))
    (message_at past place)

-- the entry at this place is a send
abbrev pub is_send_at : Past → Place → Bool
is_send_at past place = unwrap_or (option_map (λ r. is_send r.entry.call) (record_at past place))
    false

-- For a call that waited, given the entry that answered it. A send hands over its message, and a
-- receive admits one.
abbrev pub said_of_collect : Past → Process → Place → List ℕ
said_of_collect past p by = if is_send_at past by then said_of_message past p by
    else reply_line p outcomes.Done []

-- for a reply to process p, the last in the journal: nothing if the call waits
abbrev pub said : Past → Process → Reply → List ℕ
said past p (reply.Opened d created) = reply_line p (outcomes.Opened d) []
said past p (reply.Queued notified) = reply_line p outcomes.Done []
said past p (reply.Handed wait) = reply_line p outcomes.Done []
said past p (reply.Got place admitted notified) = said_of_message past p place
said past p (reply.Collected by) = said_of_collect past p by
said past p (reply.Attrs status) = reply_line p (outcomes.Attrs status) []
said past p (reply.Notice value) = reply_line p (outcomes.Notice value) []
said past p reply.Done = reply_line p outcomes.Done []
said past p (reply.Refused fault) = reply_line p (outcomes.Refused fault) []
said past p reply.Waits = []
said past p (reply.Withdrawn wait) = []
