-- What is written when a script is run for its history.
use Rattle.std.specs.Prelude.{◌≡◌, ℕ, zero, suc, ◌+◌, ◌≤◌, ◌==◌, ◌⊎◌, Bool, true, false, nat_lt, if◌then◌else◌, length, List, [], ◌∷◌, ◌++◌, map, take, slice_get, Option, None, Some}
use Rattle.std.specs.Io.KnownBytes as known
use Rattle.text_io.specs.Output.{AppendsTooLittle}
use Rattle.mq_model.specs.Record.{Past}
use Rattle.mq_model.specs.declared.entries.Call.{Call}
use Rattle.mq_model.specs.declared.entries.Call.TheVariants.{MqClose}
use Rattle.mq_model.specs.declared.entries.Reply.{Reply}
use Rattle.mq_model.specs.declared.entries.Reply.TheVariants as reply
use Rattle.script_text.specs.Script.{WrittenCall, Whole}
use Rattle.script_text.specs.declared.reply.Outcome.{Outcome}
use Rattle.script_text.specs.declared.reply.Outcome.TheVariants.{Opened, Done, Got, Attrs, Notice, Refused}
use Rattle.script_orders.specs.Plans.{Plan, program_of}
use Rattle.script_orders.specs.declared.plan.Step.{Step}
use Rattle.script_orders.specs.declared.plan.Step.TheVariants.{Call as ACall, Refusal, Exit}
use Rattle.script_runner.specs.Notes.{RunsServed}
use Rattle.script_runner.specs.declared.noted.Noted.{Noted}
use Rattle.history_judge.specs.Text.{history_text, message_of, written_reply}
use Rattle.script_text.specs.Replies.{message_received}
use Rattle.script_text.specs.declared.reply.Completion.{Completion}
use Rattle.history_judge.specs.declared.line.Called.{Called}

-- what a call of a script returned, as a reply, as far as a history has it
abbrev pub reply_said : Outcome → Option Reply
reply_said (Opened d) = Some (reply.Opened d false)
reply_said Done = Some reply.Done
reply_said (Got received) = Some (reply.Got received.prio None None)
reply_said (Attrs status) = Some (reply.Attrs status)
reply_said (Notice value) = Some (reply.Notice value)
reply_said (Refused fault) = Some (reply.Refused fault)

-- what a call returned, as a history has it: no reply, if it had not returned
abbrev pub reply_came : Option Completion → Option Reply
reply_came None = None
reply_came (Some completion) = reply_said completion.outcome

abbrev pub message_came : Option Completion → List ℕ
message_came None = []
message_came (Some completion) = message_received completion.outcome completion.buffer.items

-- what was noted for a process, in the order of its calls
abbrev pub completions_of : ℕ → List Noted → List Completion
completions_of p [] = []
completions_of p (one ∷ noted) = if one.process == p then one.completion ∷ completions_of p noted
    else completions_of p noted

-- A call of a history: its process, the call, its name or message, what it returned, and whether it
-- began before it ended.
pub record Asked : Type 0 where
  pub process : ℕ
  pub call : Call
  pub given : List ℕ
  pub reply : Option Reply
  pub message : List ℕ
  pub in_order : Bool

abbrev pub asked : Called → Asked
asked c = record {
  process = c.process;
  call = c.operation.call;
  given = c.operation.given.items;
  reply = written_reply c.operation.outcome;
  message = message_of c.operation.outcome;
  in_order = nat_lt c.operation.begin c.operation.end;
}

abbrev pub call_by : ℕ → Call → List ℕ → Option Completion → Asked
call_by p call given came =
    record {
      process = p;
      call = call;
      given = given;
      reply = reply_came came;
      message = message_came came;
      in_order = true;
    }

abbrev pub close_by : ℕ → ℕ → Asked
close_by p d = record {
  process = p;
  call = MqClose d;
  given = [];
  reply = Some reply.Done;
  message = [];
  in_order = true;
}

-- The calls that process p makes for a line with this result: the call of the line; none if the
-- name is malformed; and for an exit, a close of each of some descriptors.
abbrev pub Makes : ℕ → List ℕ → Step → Option Completion → List Asked → Type 0
Makes p given (ACall call) came calls = calls ≡ call_by p call given came ∷ []
Makes p given (Refusal fault) came calls = calls ≡ []
Makes p given Exit came calls = (held : List ℕ) × (calls ≡ map (close_by p) held)

-- The calls that it makes for these lines, in order: the first line had the result came 0, the next
-- one came 1, and so on.
abbrev pub MakesAll : ℕ → (ℕ → Option Completion) → List Plan → List Asked → Type 0
MakesAll p came [] calls = calls ≡ []
MakesAll p came (plan ∷ plans) calls =
    (first : List Asked) × (rest : List Asked)
    × Makes p plan.given plan.step (came 0) first
    × MakesAll p (λ k. came (suc k)) plans rest
    × (calls ≡ first ++ rest)

-- The calls that it makes for the first lines of a program, with the results that were noted: all
-- lines that returned, and at most one more, which had not.
pub record MakesFront (p : ℕ) (program : List Plan) (completions : List Completion)
    (calls : List Asked) : Type 0 where
  pub count : ℕ
  pub makes : MakesAll p (slice_get completions) (take count program) calls
  pub all : (length program ≤ count) ⊎ (length completions ≤ count)
  pub one : count ≤ length completions + 1

-- The calls of the first n processes for the first lines of each: those of process 1, then those of
-- process 2, and so on.
abbrev pub MakeFronts : List (List WrittenCall) → List Noted → ℕ → List Asked → Type 0
MakeFronts phases noted zero calls = calls ≡ []
MakeFronts phases noted (suc n) calls =
    (before : List Asked) × (own : List Asked)
    × MakeFronts phases noted n before
    × MakesFront (n + 1) (program_of 0 phases (n + 1)) (completions_of (n + 1) noted) own
    × (calls ≡ before ++ own)

-- the calls are those of a script that each process began, with the results that were noted
pub record AreOfScript (script : Whole) (noted : List Noted) (calls : List Called) : Type 0 where
  pub fronts : MakeFronts script.phases noted script.processes (map asked calls)

-- the text of a history of the calls of a script, with the results that were noted, was appended to
-- known bytes
pub record WritesHistory (script : Whole) (noted : List Noted)
    (old new : Option (List ℕ)) : Type 0 where
  pub calls : List Called
  pub are : AreOfScript script noted calls
  pub written : known.Appends old new (history_text calls)

-- the text of a history of the calls of a script was appended to known bytes
pub record WritesSome (script : Whole) (old new : Option (List ℕ)) : Type 0 where
  pub noted : List Noted
  pub written : WritesHistory script noted old new

-- a proper prefix of the text of a history of the calls of a script was appended to known bytes
pub record IsHistoryInPart (script : Whole) (old new : Option (List ℕ)) : Type 0 where
  pub noted : List Noted
  pub calls : List Called
  pub are : AreOfScript script noted calls
  pub written : AppendsTooLittle old new (history_text calls)

-- The script was run whole, no call failed with `NoMemory`, and the text of a history of its calls,
-- with their results, was appended to known bytes.
pub record RecordsHistory (script : Whole) (old new : Option (List ℕ)) : Type 0 where
  pub journal : Past
  pub noted : List Noted
  pub ran : RunsServed script noted journal
  pub written : WritesHistory script noted old new
