-- When a journal agrees with real time, stated for each two records.
use Rattle.std.specs.Prelude.{◌≡◌, ℕ, ◌+◌, ◌-◌, ◌≤◌, ◌<◌, ◌==◌, [], ◌∷◌, length, Option, Some, None, if◌then◌else◌, slice_get, Vec}
use Rattle.std.specs.Option.{option_and_then}
use Rattle.std.specs.declared.alloc.Global.{Global}
use Rattle.mq_model.specs.Record.{Past, Place}
use Rattle.histories.specs.declared.operation.Operation.{Operation}
use Rattle.histories.specs.Histories.{Histories, current_of}

-- the k-th operation of a process, counted from 0
abbrev pub operation_at : Histories → ℕ → ℕ → Option Operation
operation_at histories index k =
    option_and_then (λ (operations : Vec Operation Global). slice_get operations.items k)
    (slice_get histories index)

-- the operations of each process end in order
abbrev pub EndInOrder : Histories → Type 0
EndInOrder histories =
    (index k : ℕ) (operation next : Operation) → operation_at histories index k ≡ Some operation →
    operation_at histories index (k + 1) ≡ Some next → operation.end ≤ next.end

-- The operation of the record at a place: the current one of its process when it was made. In a
-- linearization each record has one.
abbrev pub operation_of : Histories → Past → Place → Option Operation
operation_of histories [] place = None
operation_of histories (r ∷ past) place =
    if place == length past then current_of histories past (r.entry.process - 1)
    else operation_of histories past place

-- No record of an operation comes after one of an operation that began after it had ended. So for
-- any two records, the operation of the first began no later than that of the second ended.
abbrev pub AgreesWithRealTime : Histories → Past → Type 0
AgreesWithRealTime histories past =
    (i j : Place) (before behind : Operation) → i < j →
    operation_of histories past i ≡ Some before →
    operation_of histories past j ≡ Some behind → before.begin ≤ behind.end
