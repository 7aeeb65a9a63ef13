-- The effect of a phase on its shares.
use Rattle.std.specs.Prelude.{◌≡◌, ℕ, List, None, map}
use Rattle.std.specs.List.{All, AllZip, flat_map}
use Rattle.fast_mutex.specs.Items.{LockId, Ticket}
use Rattle.mq.specs.Calls.{IsFree}
use Rattle.mq_model.specs.Record.{Record}
use Rattle.script_runner.specs.Runs.{IsReady, IsSameProcess}
use Rattle.script_runner.specs.Stands.{EndsIn}
use Rattle.script_text.specs.ReplyLines.{reply_lines}
use Rattle.script_text.specs.Script.{WrittenCall, said_call}
use Rattle.script_runner.specs.declared.turns.Share.{Share}
use Rattle.script_runner.specs.declared.turns.Turn.{Turn}
use Rattle.script_runner.specs.declared.turns.Worked.{Worked}

abbrev pub calls_in : List Turn → List WrittenCall
calls_in turns = map (λ turn. said_call turn.call) turns

-- the lines of all replies, in the order of the processes
abbrev pub text_in : List (Worked (Ticket Record)) → List ℕ
text_in workers = flat_map (λ worked. reply_lines worked.process.number worked.completions.items)
    workers

-- the processes of the shares were made with this system, and have no open wait
pub record AreReady (mq : LockId) (shares : List (Share (Ticket Record))) : Type 0 where
  pub all : All (λ share. IsReady mq share.process) shares

-- The calls of a share have ended: the process made them all, in order, and has no open wait; or it
-- waits in one of them.
pub record Ends (share : Share (Ticket Record)) (worked : Worked (Ticket Record)) : Type 0 where
  pub same : IsSameProcess share.process worked.process
  pub free : worked.blocked ≡ None → IsFree worked.process
  pub ends : EndsIn worked.blocked (calls_in share.turns.items) worked.completions.items
      share.process worked.process

abbrev pub AllEnd : List (Share (Ticket Record)) → List (Worked (Ticket Record)) → Type 0
AllEnd shares workers = AllZip Ends shares workers
