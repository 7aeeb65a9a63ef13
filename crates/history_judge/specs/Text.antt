-- The text of a concurrent history: a line for each call.
use Rattle.std.specs.Prelude.{ℕ, false, List, [], ◌∷◌, ◌++◌, Option, None, Some, codes, if◌then◌else◌}
use Rattle.std.specs.Fmt.{decimal}
use Rattle.std.specs.List.{join_with_byte}
use Rattle.text_io.specs.Words.{Word}
use Rattle.mq_model.specs.declared.entries.Call.{Call}
use Rattle.mq_model.specs.declared.entries.Reply.{Reply}
use Rattle.mq_model.specs.declared.entries.Reply.TheVariants as reply
use Rattle.journal_format.specs.Text.{call_words, number_or, payload_words, reply_words}
use Rattle.histories.specs.Histories.{is_pending}
use Rattle.histories.specs.declared.operation.Operation.{Operation}
use Rattle.histories.specs.declared.operation.Outcome.{Outcome}
use Rattle.histories.specs.declared.operation.Outcome.TheVariants.{Pending, Done, Opened, Got, Attributes, Notice, Refused}
use Rattle.history_judge.specs.declared.line.Called.{Called}

-- What a call returned, as the reply of a journal with the same words: an open without whether it
-- created its queue, and a receive with the priority of its message instead of the message's place.
abbrev pub written_reply : Outcome → Option Reply
written_reply Pending = None
written_reply Done = Some reply.Done
written_reply (Opened d) = Some (reply.Opened d false)
written_reply (Got prio message) = Some (reply.Got prio None None)
written_reply (Attributes status) = Some (reply.Attrs status)
written_reply (Notice value) = Some (reply.Notice value)
written_reply (Refused fault) = Some (reply.Refused fault)

-- the message that a receive returned
abbrev pub message_of : Outcome → List ℕ
message_of (Got prio message) = message.items
message_of _ = []

-- what a call returned: nothing if it had not returned
abbrev pub result_words : Option Reply → List ℕ → List Word
result_words None message = []
result_words (Some reply) message = reply_words reply ++ payload_words message

-- words, each after a space
abbrev pub spaced : List Word → List ℕ
spaced [] = []
spaced (word ∷ words) = 32 ∷ join_with_byte 32 (word ∷ words)

-- the time at which an operation ended, if it had
abbrev pub end_of : Operation → Option ℕ
end_of operation = if is_pending operation.outcome then None else Some operation.end

-- The words of a call: its process, the times at which it began and ended, the call with its name
-- or message, an arrow, and what it returned.
abbrev pub words_between : ℕ → ℕ → Option ℕ → Call → List ℕ → List Word → List Word
words_between process begin end call given result =
    decimal process ∷ decimal begin ∷ number_or (codes "-") end ∷
    call_words call ++ (payload_words given ++ codes "->" ∷ result)

abbrev pub called_words : Called → List Word
called_words c =
    words_between c.process c.operation.begin (end_of c.operation) c.operation.call
    c.operation.given.items (result_words (written_reply c.operation.outcome)
    (message_of c.operation.outcome))

-- the line of a call: its words, separated by spaces, and a line feed
unfoldable pub line_text : Called → List ℕ
line_text c = join_with_byte 32 (called_words c) ++ 10 ∷ []

-- the text of a history: the line of each call
abbrev pub history_text : List Called → List ℕ
history_text [] = []
history_text (c ∷ calls) = line_text c ++ history_text calls
