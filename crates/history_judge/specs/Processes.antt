-- The calls of a history, by process.
use Rattle.std.specs.Prelude.{◌≡◌, ℕ, ◌+◌, Bool, true, nat_le, ◌==◌, ◌&&◌, max, List, [], ◌∷◌, Some, Vec, slice_get, if◌then◌else◌}
use Rattle.std.specs.List.{list_all}
use Rattle.std.specs.declared.alloc.Global.{Global}
use Rattle.mq_model.specs.Limits.{most_processes}
use Rattle.histories.specs.declared.operation.Operation.{Operation}
use Rattle.histories.specs.Histories.{Histories}
use Rattle.history_judge.specs.declared.line.Called.{Called}

abbrev pub is_process : ℕ → Bool
is_process p = nat_le 1 p && nat_le p most_processes

-- each call is of a process from 1 to 32
abbrev pub AreOfProcesses : List Called → Type 0
AreOfProcesses calls = list_all (λ c. is_process c.process) calls ≡ true

-- the greatest number of a process
abbrev pub process_count : List Called → ℕ
process_count [] = 0
process_count (c ∷ calls) = max (if is_process c.process then c.process else 0)
    (process_count calls)

-- the operations of a process, in the order of its calls
abbrev pub operations_of : ℕ → List Called → List Operation
operations_of process [] = []
operations_of process (c ∷ calls) =
    if c.process == process then c.operation ∷ operations_of process calls
    else operations_of process calls

-- The operations of the first processes, each process's in the order of its calls. Those of process
-- p are at p - 1.
abbrev pub AreByProcess : List Called → Histories → Type 0
AreByProcess calls histories =
    (index : ℕ) (operations : Vec Operation Global) → slice_get histories index ≡ Some operations →
    operations.items ≡ operations_of (index + 1) calls
