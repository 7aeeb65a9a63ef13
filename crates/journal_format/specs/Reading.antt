-- What the words of a line mean. Words that no record has may be accepted, too; then the line of
-- what was read differs.
use Rattle.std.specs.Prelude.{ℕ, ℤ, ◌+◌, ◌*◌, ◌-◌, ◌^◌, nat_lt, Bool, false, ◌==◌, List, [], ◌∷◌, length, take, drop, map, find, Option, None, Some, if◌then◌else◌, codes}
use Rattle.std.specs.List.{position}
use Rattle.std.specs.Str.{bytes_eq}
use denote.Ref.{Bor}
use Rattle.text_io.specs.Words.{Word, integer_written, number_written, ◌>>=◌}
use Rattle.script_text.specs.Grammar.{flags_written}
use Rattle.script_text.specs.Verbs.{verb_written}
use Rattle.mq_model.specs.Fault.{text_of}
use Rattle.mq_model.specs.Limits.{most_processes}
use Rattle.mq_model.specs.declared.faults.Fault.{Fault}
use Rattle.mq_model.specs.declared.faults.Fault.TheVariants as fault
use Rattle.mq_model.specs.declared.entries.Attr.{Attr}
use Rattle.mq_model.specs.declared.entries.Deadline.{Deadline}
use Rattle.mq_model.specs.declared.entries.Entry.{Entry}
use Rattle.mq_model.specs.declared.entries.Call.{Call}
use Rattle.mq_model.specs.declared.entries.Call.TheVariants as call
use Rattle.mq_model.specs.declared.entries.Reply.{Reply}
use Rattle.mq_model.specs.declared.entries.Reply.TheVariants as reply
use Rattle.script_text.specs.declared.verb.Verb.{Verb}
use Rattle.script_text.specs.declared.verb.Verb.TheVariants as verb
use Rattle.journal_format.specs.declared.reply.Kind.{Kind}
use Rattle.journal_format.specs.declared.reply.Kind.TheVariants as kind

-- words, without their positions in the line
abbrev pub words_at : List (Bor Word) → List Word
words_at words = map (λ word. word.now) words

-- what was read, and the words after it
abbrev pub read_off : {X : Type 0} → X × Bor (List (Bor Word)) → X × List Word
read_off read = (read.0, words_at read.1.now)

-- the same for a word
abbrev pub read_word : Bor Word × Bor (List (Bor Word)) → Word × List Word
read_word read = (read.0.now, words_at read.1.now)

-- the same for an entry with what is between its quotes
abbrev pub read_entry : Entry × Bor Word → Entry × Word
read_entry read = (read.0, read.1.now)

-- the next word
unfoldable pub word_at : List Word → Option (Word × List Word)
word_at [] = None
word_at (word ∷ words) = Some (word, words)

-- a k-bit number
unfoldable pub number_at : ℕ → List Word → Option (ℕ × List Word)
number_at k words = do
  word ← word_at words
  n ← number_written k word.0
  Some (n, word.1)

-- the caller of a process and the number of one of its threads, if it has 32 bits
abbrev pub caller_by : ℕ → ℕ → Option ℕ
caller_by process thread = let caller = process + (thread - 1) * most_processes in if nat_lt caller
    (2 ^ 32) then Some caller else None

-- the caller that a word means, which has its first dot at this index
abbrev pub caller_around : Option ℕ → Word → Option ℕ
caller_around None word = number_written 32 word
caller_around (Some dot) word = do
  process ← number_written 32 (take dot word)
  thread ← number_written 32 (drop (dot + 1) word)
  caller_by process thread

unfoldable pub caller_written : Word → Option ℕ
caller_written word = caller_around (position (λ b. b == 46) word) word

-- a caller
unfoldable pub caller_at : List Word → Option (ℕ × List Word)
caller_at words = do
  word ← word_at words
  caller ← caller_written word.0
  Some (caller, word.1)

-- a 64-bit integer
unfoldable pub integer_at : List Word → Option (ℤ × List Word)
integer_at words = do
  word ← word_at words
  n ← integer_written word.0
  Some (n, word.1)

-- a label, and then a time
unfoldable pub moment_at : List Word → Option (Deadline × List Word)
moment_at words = do
  label ← word_at words
  sec ← integer_at label.1
  nsec ← integer_at sec.1
  Some (record { sec = sec.0; nsec = nsec.0 }, nsec.1)

-- the limits of a new queue, or none if the next word is not the label of limits
unfoldable pub limits_at : List Word → Option (Option Attr × List Word)
limits_at [] = Some (None, [])
limits_at (word ∷ words) = if bytes_eq word (codes "limits")
    then (do
      maxmsg ← integer_at words
      msgsize ← integer_at maxmsg.1
      Some (Some (record { maxmsg = maxmsg.0; msgsize = msgsize.0 }), msgsize.1))
    else Some (None, word ∷ words)

-- this label, and then a place; or none if the next word is another
unfoldable pub place_at : Word → List Word → Option (Option ℕ × List Word)
place_at label [] = Some (None, [])
place_at label (word ∷ words) = if bytes_eq word label
    then (do
      place ← number_at 64 words
      Some (Some place.0, place.1))
    else Some (None, word ∷ words)

-- a number, or none if the next word is `none`
unfoldable pub number_or_at : Word → List Word → Option (Option ℕ × List Word)
number_or_at none words = do
  word ← word_at words
  if bytes_eq word.0 none then Some (None, word.1) else (do
    n ← number_written 64 word.0
    Some (Some n, word.1))

-- 1 for nonblocking; any other word means that it is not
unfoldable pub flag_at : List Word → Option (Bool × List Word)
flag_at words = do
  word ← word_at words
  Some (bytes_eq word.0 (codes "1"), word.1)

-- what the words after each verb mean
unfoldable pub open_at : List Word → Option (Call × List Word)
open_at words = do
  word ← word_at words
  flags ← flags_written word.0
  attr ← limits_at word.1
  Some (call.MqOpen flags attr.0, attr.1)

unfoldable pub close_at : List Word → Option (Call × List Word)
close_at words = do
  d ← number_at 32 words
  Some (call.MqClose d.0, d.1)

unfoldable pub send_at : List Word → Option (Call × List Word)
send_at words = do
  d ← number_at 32 words
  prio ← number_at 32 d.1
  len ← number_at 64 prio.1
  Some (call.MqSend d.0 prio.0 len.0, len.1)

unfoldable pub receive_at : List Word → Option (Call × List Word)
receive_at words = do
  d ← number_at 32 words
  room ← number_at 64 d.1
  Some (call.MqReceive d.0 room.0, room.1)

unfoldable pub timed_send_at : List Word → Option (Call × List Word)
timed_send_at words = do
  d ← number_at 32 words
  prio ← number_at 32 d.1
  len ← number_at 64 prio.1
  until ← moment_at len.1
  now ← moment_at until.1
  Some (call.MqTimedSend d.0 prio.0 len.0 until.0 now.0, now.1)

unfoldable pub timed_receive_at : List Word → Option (Call × List Word)
timed_receive_at words = do
  d ← number_at 32 words
  room ← number_at 64 d.1
  until ← moment_at room.1
  now ← moment_at until.1
  Some (call.MqTimedReceive d.0 room.0 until.0 now.0, now.1)

unfoldable pub getattr_at : List Word → Option (Call × List Word)
getattr_at words = do
  d ← number_at 32 words
  Some (call.MqGetattr d.0, d.1)

unfoldable pub setattr_at : List Word → Option (Call × List Word)
setattr_at words = do
  d ← number_at 32 words
  nonblock ← flag_at d.1
  Some (call.MqSetattr d.0 nonblock.0, nonblock.1)

unfoldable pub notify_at : List Word → Option (Call × List Word)
notify_at words = do
  d ← number_at 32 words
  value ← number_or_at (codes "-") d.1
  Some (call.MqNotify d.0 value.0, value.1)

unfoldable pub withdraw_at : List Word → Option (Call × List Word)
withdraw_at words = do
  now ← moment_at words
  Some (call.Withdraw now.0, now.1)

abbrev pub call_behind : Verb → List Word → Option (Call × List Word)
call_behind verb.Open words = open_at words
call_behind verb.Close words = close_at words
call_behind verb.Unlink words = Some (call.MqUnlink, words)
call_behind verb.Send words = send_at words
call_behind verb.Receive words = receive_at words
call_behind verb.TimedSend words = timed_send_at words
call_behind verb.TimedReceive words = timed_receive_at words
call_behind verb.Getattr words = getattr_at words
call_behind verb.Setattr words = setattr_at words
call_behind verb.Notify words = notify_at words
call_behind verb.Notice words = Some (call.NextNotice, words)
call_behind verb.Collect words = Some (call.Collect, words)
call_behind verb.Withdraw words = withdraw_at words
call_behind verb.Exit words = None

-- a call, without its name or message
unfoldable pub call_at : List Word → Option (Call × List Word)
call_at words = do
  word ← word_at words
  verb ← verb_written word.0
  call_behind verb word.1

-- the first word of each reply that is not an error
abbrev pub kind_text : Kind → List ℕ
kind_text kind.Opened = codes "fd"
kind_text kind.Queued = codes "queued"
kind_text kind.Handed = codes "handed"
kind_text kind.Waits = codes "waits"
kind_text kind.Got = codes "got"
kind_text kind.Collected = codes "collected"
kind_text kind.Withdrawn = codes "withdrawn"
kind_text kind.Attrs = codes "attr"
kind_text kind.Notice = codes "notice"
kind_text kind.Done = codes "ok"

abbrev pub kinds : List Kind
kinds = kind.Opened ∷ kind.Queued ∷ kind.Handed ∷ kind.Waits ∷ kind.Got ∷ kind.Collected ∷
    kind.Withdrawn ∷ kind.Attrs ∷ kind.Notice ∷ kind.Done ∷ []

unfoldable pub kind_written : Word → Option Kind
kind_written word = find (λ kind. bytes_eq word (kind_text kind)) kinds

abbrev pub faults : List Fault
faults = fault.Again ∷ fault.BadDescriptor ∷ fault.Busy ∷ fault.Exists ∷ fault.Invalid ∷
    fault.TooManyOpen ∷ fault.MessageSize ∷ fault.NameTooLong ∷ fault.NoEntry ∷ fault.NoSpace ∷
    fault.NoMemory ∷ fault.TimedOut ∷ fault.JournalFull ∷ []

unfoldable pub fault_written : Word → Option Fault
fault_written word = find (λ fault. bytes_eq word (text_of fault)) faults

-- what the words after each first word of a reply mean; further words are ignored
abbrev pub is_created : List Word → Bool
is_created [] = false
is_created (word ∷ words) = bytes_eq word (codes "created")

unfoldable pub opened_at : List Word → Option Reply
opened_at words = do
  d ← number_at 32 words
  Some (reply.Opened d.0 (is_created d.1))

unfoldable pub queued_at : List Word → Option Reply
queued_at words = do
  notified ← place_at (codes "notified") words
  Some (reply.Queued notified.0)

unfoldable pub handed_at : List Word → Option Reply
handed_at words = do
  wait ← number_at 64 words
  Some (reply.Handed wait.0)

unfoldable pub got_at : List Word → Option Reply
got_at words = do
  place ← number_at 64 words
  admitted ← place_at (codes "admitted") place.1
  notified ← place_at (codes "notified") admitted.1
  Some (reply.Got place.0 admitted.0 notified.0)

unfoldable pub collected_at : List Word → Option Reply
collected_at words = do
  by ← number_at 64 words
  Some (reply.Collected by.0)

unfoldable pub withdrawn_at : List Word → Option Reply
withdrawn_at words = do
  wait ← number_at 64 words
  Some (reply.Withdrawn wait.0)

unfoldable pub attrs_at : List Word → Option Reply
attrs_at words = do
  nonblock ← flag_at words
  maxmsg ← integer_at nonblock.1
  msgsize ← integer_at maxmsg.1
  curmsgs ← integer_at msgsize.1
  Some (reply.Attrs (record {
    nonblock = nonblock.0;
    maxmsg = maxmsg.0;
    msgsize = msgsize.0;
    curmsgs = curmsgs.0;
  }))

unfoldable pub notice_at : List Word → Option Reply
notice_at words = do
  value ← number_or_at (codes "none") words
  Some (reply.Notice value.0)

abbrev pub reply_behind : Kind → List Word → Option Reply
reply_behind kind.Opened words = opened_at words
reply_behind kind.Queued words = queued_at words
reply_behind kind.Handed words = handed_at words
reply_behind kind.Waits words = Some reply.Waits
reply_behind kind.Got words = got_at words
reply_behind kind.Collected words = collected_at words
reply_behind kind.Withdrawn words = withdrawn_at words
reply_behind kind.Attrs words = attrs_at words
reply_behind kind.Notice words = notice_at words
reply_behind kind.Done words = Some reply.Done

abbrev pub reply_of : Option Kind → Word → List Word → Option Reply
reply_of (Some kind) word words = reply_behind kind words
reply_of None word words = do
  fault ← fault_written word
  Some (reply.Refused fault)

-- a reply
unfoldable pub reply_at : List Word → Option Reply
reply_at words = do
  word ← word_at words
  reply_of (kind_written word.0) word.0 word.1

-- what is between quotes, or nothing if the next word does not begin with a quote
abbrev pub quoted_or : Word → List Word → Word × List Word
quoted_or [] words = ([], [] ∷ words)
quoted_or (b ∷ bytes) words = if b == 34 then (take (length bytes - 1) bytes, words)
    else ([], (b ∷ bytes) ∷ words)

unfoldable pub quoted_at : List Word → Word × List Word
quoted_at [] = ([], [])
quoted_at (word ∷ words) = quoted_or word words

-- the entry that the words of a line mean, and what is between its quotes
unfoldable pub entry_at : List Word → Option (Entry × Word)
entry_at words = do
  place ← word_at words
  caller ← caller_at place.1
  call ← call_at caller.1
  let quoted = quoted_at call.1
  arrow ← word_at quoted.1
  reply ← reply_at arrow.1
  Some (record { process = caller.0; call = call.0; reply = reply }, quoted.0)
