-- The effect of the calls of a script. A process shows its ticket: its lock, its number, and the
-- journal that it last left.
use Rattle.std.specs.Prelude.{◌≡◌, ◌≤◌, ◌==◌, ◌++◌, ℕ, List, [], ◌∷◌, codes, filter, length, IsFalse, IsSome, IsTrue, Option, None, Result, Ok, Err}
use Rattle.std.specs.List.{All, AllZip}
use Rattle.std.specs.Io.KnownBytes as known
use Rattle.fast_mutex.specs.Items.{LockId, Ticket, Grows, tickets_from, tickets_with}
use Rattle.mq.specs.Calls.{Calls, IsFree, Exits, OneCall, SendCall, TimedReceive, TimedSend, WholeReceive, author, bounds_in, recorded}
use Rattle.mq.specs.Says.{attributes_says, done_says, notice_says, open_says}
use Rattle.mq_model.specs.Legality.{Legal}
use Rattle.mq_model.specs.Name.{has_name_form, is_name, is_short}
use Rattle.mq_model.specs.Record.{Past, Record}
use Rattle.mq_model.specs.declared.entries.Call.{Call}
use Rattle.mq_model.specs.declared.entries.Call.TheVariants.{MqOpen, MqClose, MqUnlink, MqSend, MqReceive, MqTimedSend, MqTimedReceive, MqGetattr, MqSetattr, MqNotify, NextNotice}
use Rattle.mq_model.specs.declared.entries.Deadline.{Deadline}
use Rattle.mq_model.specs.declared.entries.Reply.{Reply}
use Rattle.mq_model.specs.declared.entries.Reply.TheVariants.{Waits}
use Rattle.mq_model.specs.declared.faults.Fault.{Fault}
use Rattle.mq_model.specs.declared.faults.Fault.TheVariants.{Invalid, NameTooLong}
use Rattle.mq_model.specs.Waits.{open_wait}
use Rattle.script_runner.specs.Buffer.{buffer_given}
use Rattle.mq_state.specs.Buffers.{waiting_call}
use Rattle.text_io.specs.Words.{Word}
use Rattle.script_text.specs.ReplyLines.{reply_lines}
use Rattle.script_text.specs.Script.{WrittenCall, Whole}
use Rattle.script_text.specs.declared.command.Command.{Command}
use Rattle.script_text.specs.declared.command.Command.TheVariants as command
use Rattle.script_text.specs.declared.reply.Outcome.{Outcome}
use Rattle.script_text.specs.declared.reply.Outcome.TheVariants as outcomes
use Rattle.script_text.specs.declared.reply.Completion.{Completion}

-- the same process of the same lock; the journal that it left may have grown
pub record IsSameProcess (old new : Ticket Record) : Type 0 where
  pub lock : new.lock ≡ old.lock
  pub number : new.number ≡ old.number

-- the process was made with this system, and has no open wait
pub record IsReady (mq : LockId) (process : Ticket Record) : Type 0 where
  pub made : process.lock ≡ mq
  pub free : IsFree process

-- what is printed for the result of a call
abbrev pub outcome_by : {A : Type 0} → (A → Outcome) → Result A Fault → Outcome
outcome_by shows (Ok value) = shows value
outcome_by shows (Err fault) = outcomes.Refused fault

-- a call was made, and this is printed for its result
pub record Shows {A : Type 0} (shows : A → Outcome) (Called : Result A Fault → Type 0)
    (came : Outcome) : Type 0 where
  pub result : Result A Fault
  pub called : Called result
  pub outcome : came ≡ outcome_by shows result

-- a call with a name was made, or the name was rejected before it
pub record MakesNamed {A : Type 0} (says : Reply → Option (Result A Fault)) (shows : A → Outcome)
    (call : Call) (name : List ℕ) (old new : Ticket Record) (came : Outcome) : Type 0 where
  pub made : IsTrue (is_name name) → Shows shows (OneCall says old new call name) came
  pub too_long : IsTrue (has_name_form name) → IsFalse (is_short name) →
      (new ≡ old) × (came ≡ outcomes.Refused NameTooLong)
  pub invalid : IsFalse (has_name_form name) → (new ≡ old) × (came ≡ outcomes.Refused Invalid)

-- The process carried out the command in a phase with this time, and this is printed for it. The
-- buffer held `before`, and now holds `after`.
abbrev pub Performs : Deadline → Command Word → List ℕ → List ℕ → Ticket Record → Ticket Record →
    Outcome → Type 0
Performs moment (command.Open name flags attr) before after old new came =
    MakesNamed open_says outcomes.Opened (MqOpen flags attr) name old new came
Performs moment (command.Close d) before after old new came = Shows (λ _. outcomes.Done)
    (OneCall done_says old new (MqClose d) []) came
Performs moment (command.Unlink name) before after old new came = MakesNamed done_says
    (λ _. outcomes.Done) MqUnlink name old new came
Performs moment (command.Send d prio message) before after old new came = Shows (λ _. outcomes.Done)
    (SendCall old new d message prio) came
Performs moment (command.Receive d room) before after old new came =
    Shows outcomes.Got (WholeReceive old new d before after) came
Performs moment (command.TimedSend d prio until message) before after old new came =
    Shows (λ _. outcomes.Done) (TimedSend (λ now. now ≡ moment) old new d message prio until) came
Performs moment (command.TimedReceive d room until) before after old new came =
    Shows outcomes.Got (TimedReceive (λ now. now ≡ moment) old new d before after until) came
Performs moment (command.Getattr d) before after old new came = Shows outcomes.Attrs
    (OneCall attributes_says old new (MqGetattr d) []) came
Performs moment (command.Setattr d nonblock) before after old new came = Shows outcomes.Attrs
    (OneCall attributes_says old new (MqSetattr d nonblock) []) came
Performs moment (command.Notify d value) before after old new came = Shows (λ _. outcomes.Done)
    (OneCall done_says old new (MqNotify d value) []) came
Performs moment command.Notice before after old new came = Shows outcomes.Notice
    (OneCall notice_says old new NextNotice []) came
Performs moment command.Exit before after old new came = Shows (λ _. outcomes.Done)
    (Exits old new) came

-- The process made this call of the queues, and waits in it. After the journal that it left before,
-- the wait is its only record.
pub record WaitsFor (old new : Ticket Record) (call : Call) (given : List ℕ) : Type 0 where
  pub calls : Calls old new (recorded old.number call given Waits ∷ [])
  pub still : IsSome (open_wait new.left new.number)
  pub waits : waiting_call new.left new.number ≡ call

-- The process began the command in a phase with this time, and waits in its call. The buffer held
-- `before`.
abbrev pub Blocks : Deadline → Command Word → List ℕ → Ticket Record → Ticket Record → Type 0
Blocks moment (command.Send d prio message) before old new =
    WaitsFor old new (MqSend d prio (length message)) message
Blocks moment (command.Receive d room) before old new =
    WaitsFor old new (MqReceive d (length before)) []
Blocks moment (command.TimedSend d prio until message) before old new =
    WaitsFor old new (MqTimedSend d prio (length message) until moment) message
Blocks moment (command.TimedReceive d room until) before old new =
    WaitsFor old new (MqTimedReceive d (length before) until moment) []
Blocks moment other before old new = ⊥

-- a process made these calls in order, and this is what they returned
abbrev pub RunsCalls : List WrittenCall → List Completion → Ticket Record → Ticket Record → Type 0
RunsCalls [] [] old new = new ≡ old
RunsCalls [] (completion ∷ completions) old new = ⊥
RunsCalls (call ∷ calls) [] old new = ⊥
RunsCalls (call ∷ calls) (completion ∷ completions) old new =
    (mid : Ticket Record)
    × Performs call.moment call.command (buffer_given call.command) completion.buffer.items old mid
    completion.outcome
    × RunsCalls calls completions mid new

abbrev pub calls_of : ℕ → List WrittenCall → List WrittenCall
calls_of p calls = filter (λ call. call.process == p) calls

-- A phase was run: each process made its calls in order. The text has the replies of the first
-- process, then of the next, and so on. It does not say how the calls of different processes
-- interleaved.
abbrev pub RunsPhase : List WrittenCall → List (Ticket Record) → List (Ticket Record) → List ℕ →
    Type 0
RunsPhase calls [] [] text = text ≡ []
RunsPhase calls [] (new ∷ after) text = ⊥
RunsPhase calls (old ∷ before) [] text = ⊥
RunsPhase calls (old ∷ before) (new ∷ after) text =
    (completions : List Completion) × (rest : List ℕ)
    × RunsCalls (calls_of old.number calls) completions old new
    × IsSameProcess old new
    × RunsPhase calls before after rest
    × (text ≡ reply_lines old.number completions ++ rest)

-- The process acquired the lock once more and left no record. The journal that it found has n
-- entries.
pub record FindsLength (n : ℕ) (old new : Ticket Record) : Type 0 where
  pub calls : Calls old new []
  pub count : length new.left ≡ n

-- Phases were run in order. After each, all processes find a journal of the same length.
abbrev pub RunsPhases : List (List WrittenCall) → List (Ticket Record) → List (Ticket Record) →
    List ℕ → Type 0
RunsPhases [] before after text = (after ≡ before) × (text ≡ [])
RunsPhases (calls ∷ phases) before after text =
    (ended : List (Ticket Record)) × (between : List (Ticket Record)) × (n : ℕ) × (first : List ℕ) ×
    (rest : List ℕ)
    × RunsPhase calls before ended first
    × AllZip (FindsLength n) ended between
    × RunsPhases phases between after rest
    × (text ≡ first ++ rest)

-- the line that ends a whole run
abbrev pub last_line : List ℕ
last_line = codes "history ok" ++ 10 ∷ []

-- A script was run whole, with these replies and this journal, which is legal. Its processes are
-- those of one system without bounds, which has as many as the script says. They started with the
-- empty journal and ran the phases. The journal starts with what each process last left and has no
-- further record of it. So it has exactly the records that the calls of each process left, and none
-- of any other process.
pub record RunsWhole (script : Whole) (replies : List ℕ) (journal : Past) : Type 0 where
  pub system : LockId
  pub count : system.count ≡ script.processes
  pub few : script.processes ≤ 32
  pub unbounded : bounds_in system.fixed ≡ None
  pub processes : List (Ticket Record)
  pub ran : RunsPhases script.phases (tickets_from system 1 script.processes) processes replies
  pub legal : Legal journal
  pub authors : All (λ r. (1 ≤ author r) × (author r ≤ script.processes)) journal
  pub grows : All (λ process. Grows author process.number process.left journal []) processes

-- Phases were run with these replies on a system with the processes `before`, and the system has
-- ended with this journal, which is legal. The journal starts with what each process last left and
-- has no further record of it, and no record of any other process.
pub record RunsOn (system : LockId) (before : List (Ticket Record))
    (phases : List (List WrittenCall)) (replies : List ℕ) (journal : Past) : Type 0 where
  pub processes : List (Ticket Record)
  pub ran : RunsPhases phases before processes replies
  pub legal : Legal journal
  pub authors : All (λ r. (1 ≤ author r) × (author r ≤ system.count)) journal
  pub grows : All (λ process. Grows author process.number process.left journal []) processes

-- none of the processes 1 to n waits after this journal
abbrev pub NoneWaits : Past → ℕ → Type 0
NoneWaits past n = (p : ℕ) → 1 ≤ p → p ≤ n → open_wait past p ≡ None

-- A script was run whole after the calls of a journal, with these replies and this journal. It is
-- as in RunsWhole, except that all its processes had left the journal `past`, and none of them
-- waited there.
pub record RunsAfter (past : Past) (script : Whole) (replies : List ℕ)
    (journal : Past) : Type 0 where
  pub system : LockId
  pub count : system.count ≡ script.processes
  pub few : script.processes ≤ 32
  pub unbounded : bounds_in system.fixed ≡ None
  pub free : NoneWaits past script.processes
  pub runs : RunsOn system (tickets_with system past 1 script.processes)
      script.phases replies journal

-- a script was run whole, and its replies and the last line were appended to known bytes
pub record RunsScript (script : Whole) (old new : Option (List ℕ)) : Type 0 where
  pub replies : List ℕ
  pub journal : Past
  pub whole : RunsWhole script replies journal
  pub written : known.Appends old new (replies ++ last_line)
