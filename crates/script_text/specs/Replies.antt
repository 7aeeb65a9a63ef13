-- The text of replies.
use Rattle.std.specs.Prelude.{ℕ, ◌≤◌, Bool, List, [], ◌∷◌, ◌++◌, take, codes, None, Some, if◌then◌else◌}
use Rattle.std.specs.Fmt.{decimal, signed_decimal}
use Rattle.mq_model.specs.Fault.{text_of}
use Rattle.script_text.specs.declared.reply.Outcome.{Outcome}
use Rattle.script_text.specs.declared.reply.Outcome.TheVariants.{Opened, Done, Got, Attrs, Notice, Refused}

-- 1 if nonblocking, else 0
abbrev pub flag_text : Bool → List ℕ
flag_text nonblock = decimal (if nonblock then 1 else 0)

-- the words after the process, without a received message
abbrev pub outcome_text : Outcome → List ℕ
outcome_text (Opened d) = codes "fd " ++ decimal d
outcome_text Done = codes "ok"
outcome_text (Got received) = codes "got " ++ (decimal received.prio ++
    (codes " " ++ decimal received.len))
outcome_text (Attrs status) =
    codes "attr "
    ++ (flag_text status.nonblock
    ++ (codes " " ++ (signed_decimal status.maxmsg ++
    (codes " " ++ (signed_decimal status.msgsize ++
    (codes " " ++ signed_decimal status.curmsgs))))))
outcome_text (Notice (Some value)) = codes "notice " ++ decimal value
outcome_text (Notice None) = codes "notice none"
outcome_text (Refused fault) = text_of fault

-- a space and the message, if it has bytes
abbrev pub message_text : List ℕ → List ℕ
message_text [] = []
message_text (b ∷ bytes) = codes " " ++ (b ∷ bytes)

-- the message that a receive copied to the start of its buffer
abbrev pub message_received : Outcome → List ℕ → List ℕ
message_received (Got received) buffer = take received.len buffer
message_received outcome buffer = []

-- the length of the message that was received
abbrev pub message_len : Outcome → ℕ
message_len (Got received) = received.len
message_len outcome = 0

-- the message that was received is within the buffer
abbrev pub HasMessage : Outcome → ℕ → Type 0
HasMessage outcome room = message_len outcome ≤ room

-- the line of a reply
abbrev pub reply_line : ℕ → Outcome → List ℕ → List ℕ
reply_line process outcome buffer = decimal process ++
    (codes " " ++ (outcome_text outcome ++ (message_text (message_received outcome buffer) ++ 10 ∷
    [])))
