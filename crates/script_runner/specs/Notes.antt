-- What is noted about the calls of a script, as the lines of the replies.
use Rattle.std.specs.Prelude.{◌≡◌, ℕ, Bool, true, false, List}
use Rattle.std.specs.List.{flat_map, list_any}
use Rattle.mq_model.specs.Record.{Past}
use Rattle.mq_model.specs.declared.faults.Fault.TheVariants as fault
use Rattle.script_text.specs.Script.{Whole}
use Rattle.script_text.specs.declared.reply.Outcome.{Outcome}
use Rattle.script_text.specs.declared.reply.Outcome.TheVariants.{Refused}
use Rattle.script_runner.specs.Runs.{RunsAfter, RunsWhole}
use Rattle.script_text.specs.Replies.{reply_line}
use Rattle.script_runner.specs.declared.noted.Noted.{Noted}

-- the reply line of what was noted
abbrev pub line_of : Noted → List ℕ
line_of noted = reply_line noted.process noted.completion.outcome noted.completion.buffer.items

-- the lines of all that was noted
abbrev pub lines_of : List Noted → List ℕ
lines_of all = flat_map line_of all

-- the call failed with `NoMemory`
abbrev pub is_refused : Outcome → Bool
is_refused (Refused fault.NoMemory) = true
is_refused other = false

-- one of the calls that were noted failed with `NoMemory`
abbrev pub some_refused : List Noted → Bool
some_refused all = list_any (λ noted. is_refused noted.completion.outcome) all

-- A script was run whole, its replies were noted, and no call failed with `NoMemory`.
pub record RunsServed (script : Whole) (all : List Noted) (journal : Past) : Type 0 where
  pub ran : RunsWhole script (lines_of all) journal
  pub served : some_refused all ≡ false

-- the same for a script that was run whole after the calls of a journal
pub record RunsServedAfter (past : Past) (script : Whole) (all : List Noted)
    (journal : Past) : Type 0 where
  pub ran : RunsAfter past script (lines_of all) journal
  pub served : some_refused all ≡ false
