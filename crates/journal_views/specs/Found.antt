-- What a picture looks up in a journal.
use Rattle.std.specs.Prelude.{ℕ, Bool, ◌&&◌, ◌||◌, ◌==◌, nat_lt, List, [], ◌∷◌, length, take, Option, None, Some, if◌then◌else◌}
use Rattle.std.specs.List.{count_by, insert, list_any}
use Rattle.std.specs.Option.{option_or}
use Rattle.mq_model.specs.Descriptors.{is_place, opened_number}
use Rattle.mq_model.specs.Record.{Past, Place, Process, Descriptor}
use Rattle.mq_model.specs.Threads.{owner_of, shares}
use Rattle.mq_model.specs.Waits.{ended_wait, open_wait}
use Rattle.mq_model.specs.declared.entries.Call.{Call}
use Rattle.mq_model.specs.declared.entries.Call.TheVariants.{MqSend, MqTimedSend}

-- The lane of a caller stands left of another's: processes stand by rising number, and the threads
-- of one beside each other.
abbrev pub is_left : Process → Process → Bool
is_left q p = nat_lt (owner_of q) (owner_of p) || (shares q p && nat_lt q p)

-- how many of these callers have a lane left of p's
abbrev pub count_left : Process → List Process → ℕ
count_left p ps = count_by (λ q. is_left q p) ps

abbrev pub with_process : Process → List Process → List Process
with_process p ps = if list_any (λ q. q == p) ps then ps
    else take 41 (insert ps (count_left p ps) p)

-- the callers that occur, in the order of their lanes: at most the first 41
unfoldable pub processes : Past → List Process
processes [] = []
processes (r ∷ past) = with_process r.entry.process (processes past)

-- the first entry after a wait that serves or withdraws it
unfoldable pub ending : Place → Past → Option Place
ending wait [] = None
ending wait (r ∷ past) =
    option_or (ending wait past)
    (if nat_lt wait (length past) && is_place wait (ended_wait r.entry.reply) then Some
    (length past) else None)

-- the last entry of a process, if that waits
unfoldable pub wait_begun : Past → Process → Option Place
wait_begun past p = open_wait past p

-- the descriptor that a send names
abbrev pub descriptor_sent : Call → Option Descriptor
descriptor_sent (MqSend d prio len) = Some d
descriptor_sent (MqTimedSend d prio len until now) = Some d
descriptor_sent call = None

-- the name in the latest open of a process that returned descriptor d
unfoldable pub queue_named : Past → Process → Descriptor → List ℕ
queue_named [] p d = []
queue_named (r ∷ past) p d =
    if shares r.entry.process p && is_place d (opened_number r.entry.call r.entry.reply)
    then r.payload
    else queue_named past p d

abbrev pub name_under : Past → Process → Option Descriptor → List ℕ
name_under past p None = []
name_under past p (Some d) = queue_named past p d

-- the name of the queue to which process p sends by this call
abbrev pub name_by : Past → Process → Call → List ℕ
name_by past p call = name_under past p (descriptor_sent call)
