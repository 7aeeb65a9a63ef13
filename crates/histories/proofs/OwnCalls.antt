-- When a process makes its own calls, and when it collects.
use Rattle.std.proofs.Common.{◌≡◌, ℕ, ◌-◌, false, true, List, [], ◌∷◌, ◌++◌, Option, is_some, is_none, arith}
use Rattle.mq_model.specs.Record.{Past, Process}
use Rattle.mq_model.specs.Waits.{open_wait}
use Rattle.mq_model.specs.Legality.{may_call}
use Rattle.mq_model.specs.declared.entries.Call.{Call}
use Rattle.mq_model.specs.declared.entries.Call.TheVariants.{Collect}
use Rattle.mq_model.proofs.Frames.{answered_by-none}
use Rattle.histories.specs.OwnCalls.{ends_wait}

-- a call of its own may be made if the process does not wait
pub turn-of-own : (past : Past) (p : Process) (call : Call) → ends_wait call ≡ false →
    may_call past p call ≡ is_none (open_wait past p)
turn-of-own past p call own = grind arith

-- a process that collects waits
pub waits-of-collect : (past : Past) (p : Process) → may_call past p Collect ≡ true →
    is_some (open_wait past p) ≡ true
waits-of-collect past p turn = grind (arith, answered_by-none)

pub some-of-none : {A : Type 0} (o : Option A) → is_none o ≡ true → is_some o ≡ false
some-of-none o h = grind arith

-- the schedule that makes a journal: the processes of its records, in their order
abbrev pub schedule_of : Past → List ℕ
schedule_of [] = []
schedule_of (r ∷ past) = schedule_of past ++ (r.entry.process - 1) ∷ []
