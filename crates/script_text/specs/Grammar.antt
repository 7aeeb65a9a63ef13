-- What the words of a script's lines mean.
use Rattle.std.specs.Prelude.{ℕ, Bool, true, false, ◌&&◌, ◌==◌, nat_le, List, [], ◌∷◌, count_by, Option, None, Some, if◌then◌else◌, codes}
use Rattle.std.specs.List.{list_all, list_any}
use Rattle.std.specs.Str.{bytes_eq}
use denote.Ref.{Bor}
use Rattle.text_io.specs.Words.{Word, integer_written, number_written, ◌>>=◌}
use Rattle.mq_model.specs.declared.entries.Access.{Access}
use Rattle.mq_model.specs.declared.entries.Access.TheVariants.{Read, Write, Both}
use Rattle.mq_model.specs.declared.entries.OpenFlags.{OpenFlags}
use Rattle.mq_model.specs.declared.entries.Attr.{Attr}
use Rattle.mq_model.specs.declared.entries.Deadline.{Deadline}
use Rattle.script_text.specs.declared.command.Command.{Command}
use Rattle.script_text.specs.declared.command.Command.TheVariants as command
use Rattle.script_text.specs.Verbs.{verb_written}
use Rattle.script_text.specs.declared.verb.Verb.{Verb}
use Rattle.script_text.specs.declared.verb.Verb.TheVariants as verb

-- the access mode of a letter: r, w or b
abbrev pub access_written : ℕ → Option Access
access_written letter = if letter == 114 then Some Read
    else (if letter == 119 then Some Write else (if letter == 98 then Some Both else None))

abbrev pub is_at_most_once : List ℕ → ℕ → Bool
is_at_most_once letters letter = nat_le (count_by (λ b. b == letter) letters) 1

-- the letters for create, exclusive and nonblocking
abbrev pub option_letters : List ℕ
option_letters = codes "cxn"

abbrev pub is_option_letter : ℕ → Bool
is_option_letter b = list_any (λ letter. letter == b) option_letters

-- any of these letters, each at most once
abbrev pub are_options : List ℕ → Bool
are_options letters = list_all is_option_letter letters &&
    list_all (is_at_most_once letters) option_letters

-- the flags of an open: the letter of its access mode, then c for create, x for exclusive, n for
-- nonblocking
abbrev pub flags_written : Word → Option OpenFlags
flags_written [] = None
flags_written (letter ∷ letters) = do
  access ← access_written letter
  if are_options letters then Some (record {
    access = access;
    create = list_any (λ b. b == 99) letters;
    excl = list_any (λ b. b == 120) letters;
    nonblock = list_any (λ b. b == 110) letters;
  }) else None

-- 0 or 1
abbrev pub flag_written : Word → Option Bool
flag_written word = do
  n ← number_written 64 word
  if n == 0 then Some false else (if n == 1 then Some true else None)

-- a buffer length, at most 65,536
abbrev pub room_written : Word → Option ℕ
room_written word = do
  n ← number_written 32 word
  if nat_le n 65536 then Some n else None

-- a value, or none for `-`
abbrev pub value_written : Word → Option (Option ℕ)
value_written word = if bytes_eq word (codes "-") then Some None else (do
  value ← number_written 64 word
  Some (Some value))

-- the limits of a queue, which may be left out
abbrev pub attr_written : List Word → Option (Option Attr)
attr_written [] = Some None
attr_written (maxmsg ∷ msgsize ∷ []) = do
  maxmsg ← integer_written maxmsg
  msgsize ← integer_written msgsize
  Some (Some (record { maxmsg = maxmsg; msgsize = msgsize }))
attr_written words = None

-- what the words after each verb mean
abbrev pub open_written : List Word → Option (Command Word)
open_written (name ∷ flags ∷ limits) = do
  flags ← flags_written flags
  attr ← attr_written limits
  Some (command.Open name flags attr)
open_written words = None

abbrev pub close_written : List Word → Option (Command Word)
close_written (d ∷ []) = do
  d ← number_written 32 d
  Some (command.Close d)
close_written words = None

abbrev pub unlink_written : List Word → Option (Command Word)
unlink_written (name ∷ []) = Some (command.Unlink name)
unlink_written words = None

-- without a text the message is empty
abbrev pub send_written : List Word → Option (Command Word)
send_written (d ∷ prio ∷ []) = do
  d ← number_written 32 d
  prio ← number_written 32 prio
  Some (command.Send d prio [])
send_written (d ∷ prio ∷ text ∷ []) = do
  d ← number_written 32 d
  prio ← number_written 32 prio
  Some (command.Send d prio text)
send_written words = None

abbrev pub receive_written : List Word → Option (Command Word)
receive_written (d ∷ room ∷ []) = do
  d ← number_written 32 d
  room ← room_written room
  Some (command.Receive d room)
receive_written words = None

-- the seconds and nanoseconds of a deadline, any 64-bit integers
abbrev pub deadline_written : Word → Word → Option Deadline
deadline_written sec nsec = do
  sec ← integer_written sec
  nsec ← integer_written nsec
  Some (record { sec = sec; nsec = nsec })

-- the message of a send; if it is left out, the message is empty
abbrev pub text_written : List Word → Option Word
text_written [] = Some []
text_written (text ∷ []) = Some text
text_written words = None

abbrev pub timed_send_written : List Word → Option (Command Word)
timed_send_written (d ∷ prio ∷ sec ∷ nsec ∷ text) = do
  d ← number_written 32 d
  prio ← number_written 32 prio
  until ← deadline_written sec nsec
  text ← text_written text
  Some (command.TimedSend d prio until text)
timed_send_written words = None

abbrev pub until_written : List Word → Option Deadline
until_written (sec ∷ nsec ∷ []) = deadline_written sec nsec
until_written words = None

abbrev pub timed_receive_written : List Word → Option (Command Word)
timed_receive_written (d ∷ room ∷ until) = do
  d ← number_written 32 d
  room ← room_written room
  until ← until_written until
  Some (command.TimedReceive d room until)
timed_receive_written words = None

abbrev pub getattr_written : List Word → Option (Command Word)
getattr_written (d ∷ []) = do
  d ← number_written 32 d
  Some (command.Getattr d)
getattr_written words = None

abbrev pub setattr_written : List Word → Option (Command Word)
setattr_written (d ∷ nonblock ∷ []) = do
  d ← number_written 32 d
  nonblock ← flag_written nonblock
  Some (command.Setattr d nonblock)
setattr_written words = None

abbrev pub notify_written : List Word → Option (Command Word)
notify_written (d ∷ value ∷ []) = do
  d ← number_written 32 d
  value ← value_written value
  Some (command.Notify d value)
notify_written words = None

abbrev pub notice_written : List Word → Option (Command Word)
notice_written [] = Some command.Notice
notice_written words = None

abbrev pub exit_written : List Word → Option (Command Word)
exit_written [] = Some command.Exit
exit_written words = None

-- The call that a verb and the words after it mean. A call that waits collects by itself, so no
-- line of a script does.
abbrev pub call_written : Verb → List Word → Option (Command Word)
call_written verb.Open = open_written
call_written verb.Close = close_written
call_written verb.Unlink = unlink_written
call_written verb.Send = send_written
call_written verb.Receive = receive_written
call_written verb.TimedSend = timed_send_written
call_written verb.TimedReceive = timed_receive_written
call_written verb.Getattr = getattr_written
call_written verb.Setattr = setattr_written
call_written verb.Notify = notify_written
call_written verb.Notice = notice_written
call_written verb.Exit = exit_written
call_written verb.Collect = λ words. None
call_written verb.Withdraw = λ words. None

-- the call that the words after the process mean
abbrev pub command_written : List Word → Option (Command Word)
command_written [] = None
command_written (word ∷ arguments) = do
  verb ← verb_written word
  call_written verb arguments

-- a command of the program, without the positions of its bytes
abbrev pub said : Command (Bor Word) → Command Word
said (command.Open name flags attr) = command.Open name.now flags attr
said (command.Close d) = command.Close d
said (command.Unlink name) = command.Unlink name.now
said (command.Send d prio message) = command.Send d prio message.now
said (command.Receive d room) = command.Receive d room
said (command.TimedSend d prio until message) = command.TimedSend d prio until message.now
said (command.TimedReceive d room until) = command.TimedReceive d room until
said (command.Getattr d) = command.Getattr d
said (command.Setattr d nonblock) = command.Setattr d nonblock
said (command.Notify d value) = command.Notify d value
said command.Notice = command.Notice
said command.Exit = command.Exit
