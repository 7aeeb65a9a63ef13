-- Well-formed histories: each process makes its calls one after the other, and each call is given
-- the bytes that it takes.
use Rattle.std.specs.Prelude.{◌≡◌, ◌<◌, ◌+◌, ℕ, zero, suc, Bool, true, false, not, ◌&&◌, ◌||◌, ◌==◌, nat_lt, max, List, Option, Some, None, codes, slice_get, if◌then◌else◌}
use Rattle.std.specs.Option.{option_and_then}
use Rattle.mq_model.specs.Legality.{is_payload}
use Rattle.mq_model.specs.declared.entries.Call.{Call}
use Rattle.mq_model.specs.declared.entries.Call.TheVariants.{MqOpen, MqUnlink}
use Rattle.mq_model.specs.declared.entries.Reply.TheVariants.{Done}
use Rattle.histories.specs.Histories.{is_pending}
use Rattle.histories.specs.declared.operation.Operation.{Operation}
use Rattle.history_judge.specs.declared.line.Called.{Called}
use Rattle.history_judge.specs.declared.well_formed.IllFormed.{IllFormed}
use Rattle.history_judge.specs.declared.well_formed.IllFormed.TheVariants.{BadLength, BadName, BehindPending, EndsFirst, Overlaps}

abbrev pub moment_by : (Operation → ℕ) → ℕ → Option Called → ℕ
moment_by moment p None = 0
moment_by moment p (Some c) = if c.process == p then moment c.operation else 0

-- the latest of these times of the calls of process p, among the first n calls
abbrev pub latest : (Operation → ℕ) → List Called → ℕ → ℕ → ℕ
latest moment calls p zero = 0
latest moment calls p (suc n) =
    max (latest moment calls p n) (moment_by moment p (slice_get calls n))

-- the latest times at which calls of a process began and ended
pub record LatestMoments : Type 0 where
  pub begin : ℕ
  pub end : ℕ

abbrev pub latest_of : List Called → ℕ → ℕ → LatestMoments
latest_of calls p n =
    record { begin = latest (λ o. o.begin) calls p n; end = latest (λ o. o.end) calls p n }

abbrev pub is_pending_by : ℕ → Option Called → Bool
is_pending_by p None = false
is_pending_by p (Some c) = (c.process == p) && is_pending c.operation.outcome

-- one of the first n calls is of process p and had not returned
abbrev pub has_pending : List Called → ℕ → ℕ → Bool
has_pending calls p zero = false
has_pending calls p (suc n) = has_pending calls p n || is_pending_by p (slice_get calls n)

abbrev pub takes_name : Call → Bool
takes_name (MqOpen flags attr) = true
takes_name MqUnlink = true
takes_name _ = false

-- the operation begins before those ended, and does not begin and end together with them, as the
-- closes of an exit do
abbrev pub overlaps : LatestMoments → Operation → Bool
overlaps before o =
    nat_lt o.begin before.end && not (o.begin == before.begin && o.end == before.end)

-- an earlier call had not returned, unless the two began together and neither returned, as the
-- closes of an exit that had not ended
abbrev pub is_behind : Bool → ℕ → Operation → Bool
is_behind pending begin o = pending && not (is_pending o.outcome && o.begin == begin)

-- Why a call may not follow others of its process. These are the latest times at which they began
-- and ended, and `pending` says whether one had not returned.
abbrev pub fault_behind : Bool → LatestMoments → Called → Option IllFormed
fault_behind pending before c =
    if is_behind pending before.begin c.operation then Some BehindPending
    else (if overlaps before c.operation then Some Overlaps
    else (if nat_lt c.operation.end c.operation.begin then Some EndsFirst
    else (if is_payload c.operation.call Done c.operation.given.items then None
    else (if takes_name c.operation.call then Some BadName else Some BadLength))))

abbrev pub fault_of : List Called → ℕ → Called → Option IllFormed
fault_of calls n c = fault_behind (has_pending calls c.process n) (latest_of calls c.process n) c

-- why the call at an index, counted from 0, may not follow those before it
abbrev pub fault_at : List Called → ℕ → Option IllFormed
fault_at calls n = option_and_then (fault_of calls n) (slice_get calls n)

abbrev pub IsWellFormed : List Called → Type 0
IsWellFormed calls = (n : ℕ) → fault_at calls n ≡ None

-- the call in this line, counted from 1, is the first that may not be there, and this is why
pub record IsFirstFault (calls : List Called) (line : ℕ) (why : IllFormed) : Type 0 where
  pub index : ℕ
  pub line_is : line ≡ index + 1
  pub before : (m : ℕ) → m < index → fault_at calls m ≡ None
  pub is : fault_at calls index ≡ Some why

-- the printed text
abbrev pub ill_formed_text : IllFormed → List ℕ
ill_formed_text BehindPending = codes "an earlier call of this process had not returned"
ill_formed_text Overlaps = codes "this call begins before an earlier one of its process ended"
ill_formed_text EndsFirst = codes "this call ends before it begins"
ill_formed_text BadName = codes "the name is not a valid queue name"
ill_formed_text BadLength = codes "the length is not that of the message"
