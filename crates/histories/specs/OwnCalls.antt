-- The calls that a process makes, apart from those that end its waits.
use Rattle.std.specs.Prelude.{ℕ, ◌+◌, Bool, true, false, not, ◌&&◌, ◌==◌, [], ◌∷◌, if◌then◌else◌}
use Rattle.mq_model.specs.Record.{Record, Past, Process}
use Rattle.mq_model.specs.declared.entries.Call.{Call}
use Rattle.mq_model.specs.declared.entries.Call.TheVariants.{Collect, Withdraw}

abbrev pub ends_wait : Call → Bool
ends_wait Collect = true
ends_wait (Withdraw now) = true
ends_wait _ = false

-- a record of a call of the process that does not end a wait
abbrev pub is_own : Process → Record → Bool
is_own p r = r.entry.process == p && not (ends_wait r.entry.call)

-- how many of them a process has made
abbrev pub made : Past → Process → ℕ
made [] p = 0
made (r ∷ past) p = if is_own p r then made past p + 1 else made past p
