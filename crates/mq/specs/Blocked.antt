-- Which processes are blocked.
use Rattle.std.specs.Prelude.{ℕ, Bool, not, ◌&&◌, is_some}
use Rattle.mq_model.specs.Record.{Past}
use Rattle.mq_model.specs.Waits.{open_wait, is_answered}

-- the process has an open wait that no entry serves
abbrev pub is_blocked : Past → ℕ → Bool
is_blocked past p = is_some (open_wait past p) && not (is_answered past p)
