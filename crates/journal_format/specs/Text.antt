-- The text of a journal: a line for each record.
use Rattle.std.specs.Prelude.{ℕ, ◌+◌, ◌-◌, ◌/◌, ◌==◌, ◌&&◌, ◌||◌, nat_le, Bool, true, false, List, [], ◌∷◌, ◌++◌, length, Option, None, Some, codes, if◌then◌else◌}
use Rattle.std.specs.Fmt.{decimal, signed_decimal}
use Rattle.std.specs.List.{join_with_byte, list_all, list_any}
use Rattle.percent_encoding.specs.Percent.{percent_encode}
use Rattle.text_io.specs.Words.{Word}
use Rattle.mq_model.specs.Fault.{text_of}
use Rattle.mq_model.specs.Limits.{most_processes}
use Rattle.mq_model.specs.Threads.{owner_of}
use Rattle.mq_model.specs.Record.{Record, Past}
use Rattle.mq_model.specs.declared.entries.Access.{Access}
use Rattle.mq_model.specs.declared.entries.Access.TheVariants.{Read, Write, Both}
use Rattle.mq_model.specs.declared.entries.OpenFlags.{OpenFlags}
use Rattle.mq_model.specs.declared.entries.Attr.{Attr}
use Rattle.mq_model.specs.declared.entries.Deadline.{Deadline}
use Rattle.mq_model.specs.declared.entries.Call.{Call}
use Rattle.mq_model.specs.declared.entries.Call.TheVariants as call
use Rattle.mq_model.specs.declared.entries.Reply.{Reply}
use Rattle.mq_model.specs.declared.entries.Reply.TheVariants as reply
use Rattle.journal_format.specs.declared.payload.TheConstants.{ESCAPED}

-- the letter of an access mode: r, w or b
abbrev pub access_letter : Access → List ℕ
access_letter Read = codes "r"
access_letter Write = codes "w"
access_letter Both = codes "b"

-- the letter of a flag that is set
abbrev pub letter_if : Bool → List ℕ → List ℕ
letter_if true letter = letter
letter_if false letter = []

-- the flags of an open: the letter of its access mode, then c for create, x for exclusive, n for
-- nonblocking
abbrev pub flags_word : OpenFlags → Word
flags_word flags = access_letter flags.access ++ (letter_if flags.create (codes "c") ++
    (letter_if flags.excl (codes "x") ++ letter_if flags.nonblock (codes "n")))

-- the limits of a new queue, if they were given
abbrev pub limits_words : Option Attr → List Word
limits_words None = []
limits_words (Some attr) = codes "limits" ∷ signed_decimal attr.maxmsg ∷
    signed_decimal attr.msgsize ∷ []

-- 1 for nonblocking, else 0
abbrev pub flag_word : Bool → Word
flag_word true = codes "1"
flag_word false = codes "0"

-- a number, or a word for none
abbrev pub number_or : Word → Option ℕ → Word
number_or none None = none
number_or none (Some n) = decimal n

-- a label, and then a time: seconds and nanoseconds
abbrev pub moment_words : Word → Deadline → List Word
moment_words label moment = label ∷ signed_decimal moment.sec ∷ signed_decimal moment.nsec ∷ []

-- a label and a place, if there is one
abbrev pub place_words : Word → Option ℕ → List Word
place_words label None = []
place_words label (Some place) = label ∷ decimal place ∷ []

-- the words of a call, without its name or message
abbrev pub call_words : Call → List Word
call_words (call.MqOpen flags attr) = codes "open" ∷ flags_word flags ∷ limits_words attr
call_words (call.MqClose d) = codes "close" ∷ decimal d ∷ []
call_words call.MqUnlink = codes "unlink" ∷ []
call_words (call.MqSend d prio len) = codes "send" ∷ decimal d ∷ decimal prio ∷ decimal len ∷ []
call_words (call.MqReceive d room) = codes "recv" ∷ decimal d ∷ decimal room ∷ []
call_words (call.MqTimedSend d prio len until now) = codes "tsend" ∷ decimal d ∷ decimal prio ∷
    decimal len ∷ moment_words (codes "until") until ++ moment_words (codes "at") now
call_words (call.MqTimedReceive d room until now) = codes "trecv" ∷ decimal d ∷ decimal room ∷
    moment_words (codes "until") until ++ moment_words (codes "at") now
call_words (call.MqGetattr d) = codes "getattr" ∷ decimal d ∷ []
call_words (call.MqSetattr d nonblock) = codes "setattr" ∷ decimal d ∷ flag_word nonblock ∷ []
call_words (call.MqNotify d value) = codes "notify" ∷ decimal d ∷ number_or (codes "-") value ∷ []
call_words call.NextNotice = codes "notice" ∷ []
call_words call.Collect = codes "collect" ∷ []
call_words (call.Withdraw now) = codes "withdraw" ∷ moment_words (codes "at") now

-- the words of a reply
abbrev pub reply_words : Reply → List Word
reply_words (reply.Opened d true) = codes "fd" ∷ decimal d ∷ codes "created" ∷ []
reply_words (reply.Opened d false) = codes "fd" ∷ decimal d ∷ []
reply_words (reply.Queued notified) = codes "queued" ∷ place_words (codes "notified") notified
reply_words (reply.Handed wait) = codes "handed" ∷ decimal wait ∷ []
reply_words reply.Waits = codes "waits" ∷ []
reply_words (reply.Got place admitted notified) = codes "got" ∷ decimal place ∷ place_words
    (codes "admitted") admitted ++ place_words (codes "notified") notified
reply_words (reply.Collected by) = codes "collected" ∷ decimal by ∷ []
reply_words (reply.Withdrawn wait) = codes "withdrawn" ∷ decimal wait ∷ []
reply_words (reply.Attrs status) = codes "attr" ∷ flag_word status.nonblock ∷
    signed_decimal status.maxmsg ∷ signed_decimal status.msgsize ∷ signed_decimal status.curmsgs ∷
    []
reply_words (reply.Notice value) = codes "notice" ∷ number_or (codes "none") value ∷ []
reply_words reply.Done = codes "ok" ∷ []
reply_words (reply.Refused fault) = text_of fault ∷ []

-- The bytes, with each byte that is not printable ASCII, each space and each `%` written as `%` and
-- two upper-case hexadecimal digits.
abbrev pub escaped : List ℕ → Word
escaped bytes = percent_encode ESCAPED bytes

-- a name or a message in quotes, if it has bytes
abbrev pub payload_words : List ℕ → List Word
payload_words [] = []
payload_words (b ∷ bytes) = (34 ∷ escaped (b ∷ bytes) ++ 34 ∷ []) ∷ []

-- a space and the same
abbrev pub payload_text : List ℕ → List ℕ
payload_text [] = []
payload_text (b ∷ bytes) = 32 ∷ 34 ∷ escaped (b ∷ bytes) ++ 34 ∷ []

-- the number of a thread in its process, from 1
abbrev pub thread_of : ℕ → ℕ
thread_of caller = (caller - 1) / most_processes + 1

-- a caller: the number of its process, and behind a dot that of the thread, unless it is the first
abbrev pub caller_word : ℕ → Word
caller_word caller = if nat_le caller most_processes then decimal caller
    else decimal (owner_of caller) ++ 46 ∷ decimal (thread_of caller)

-- the words of a record: its place, its caller, the call with its name or message, an arrow, and
-- the reply
abbrev pub record_words : ℕ → Record → List Word
record_words place r = decimal place ∷ caller_word r.entry.process ∷ call_words r.entry.call ++
    (payload_words r.payload ++ codes "->" ∷ reply_words r.entry.reply)

-- the line of a record: its words, separated by spaces, and a line feed
unfoldable pub line_text : ℕ → Record → List ℕ
line_text place r = join_with_byte 32 (record_words place r) ++ 10 ∷ []

-- the text of a journal: the line of each record, the earliest first
abbrev pub journal_text : Past → List ℕ
journal_text [] = []
journal_text (r ∷ past) = journal_text past ++ line_text (length past) r

-- there is a line feed among these bytes
abbrev pub has_feed : List ℕ → Bool
has_feed bytes = list_any (λ b. b == 10) bytes

-- a byte that can be in a line before its line feed: printable ASCII
abbrev pub is_line_byte : ℕ → Bool
is_line_byte b = nat_le 32 b && nat_le b 126

-- a byte that can be in the text
abbrev pub is_text_byte : ℕ → Bool
is_text_byte b = is_line_byte b || b == 10

-- these bytes can be a line without its line feed
abbrev pub can_go_on : List ℕ → Bool
can_go_on bytes = list_all is_line_byte bytes
