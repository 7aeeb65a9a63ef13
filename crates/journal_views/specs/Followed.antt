-- What the tables say about the first entries of a journal.
use Rattle.std.specs.Prelude.{ℕ, ◌≡◌, ◌+◌, ◌<◌, List, [], ◌∷◌, not, Option, Some, None, length, get_or, if◌then◌else◌}
use Rattle.std.specs.List.{filter}
use Rattle.std.specs.Option.{option_and_then, option_map}
use Rattle.std.specs.Str.{bytes_eq}
use Rattle.mq_model.specs.Limits.{most_callers, most_processes}
use Rattle.mq_model.specs.Record.{Past, Record, first}
use Rattle.mq_model.specs.Names.{bound_queue, creates, name_of, unlinks}
use Rattle.mq_model.specs.Descriptors.{called_queue, descriptor_of}
use Rattle.mq_model.specs.Owners.{OwnersMirror, held_in}
use Rattle.mq_model.specs.Callers.{CallersMirror}
use Rattle.mq_model.specs.declared.entries.Call.{Call}
use Rattle.mq_model.specs.declared.entries.Entry.{Entry}
use Rattle.mq_model.specs.declared.owners.Owner.{Owner}
use Rattle.journal_views.specs.declared.followed.Followed.{Followed}

-- the first of these queues that was created under a name
abbrev pub bound_in : Past → List ℕ → List ℕ → Option ℕ
bound_in past [] name = None
bound_in past (q ∷ queues) name = if bytes_eq (name_of past q) name then Some q
    else bound_in past queues name

-- the queue that a call is made on, given what each process holds
abbrev pub called_in : List Owner → ℕ → Call → Option ℕ
called_in owners p call = option_map (λ h. h.queue) (option_and_then (held_in owners p)
    (descriptor_of call))

-- the queues that are bound to their names after the entry at place k, with this payload
abbrev pub bound_after : Past → ℕ → Entry → List ℕ → List ℕ → List ℕ
bound_after past k e name queues =
    if creates e.call e.reply then k ∷ queues
    else (if unlinks e.call e.reply then filter (λ q. not (bytes_eq (name_of past q) name))
    queues else queues)

-- After the first k entries these queues are bound to their names. The latest is first.
abbrev pub AreBound : Past → ℕ → List ℕ → Type 0
AreBound past k queues = (name : List ℕ) →
    bound_in past queues name ≡ bound_queue (first k past) name

-- each of the first k entries is made on this queue, through the descriptor that its call names
abbrev pub AreOn : Past → ℕ → List (Option ℕ) → Type 0
AreOn past k on = (i : ℕ) (r : Record) → i < k → first (i + 1) past ≡ r ∷ first i past →
    get_or on i None ≡ called_queue (first i past) r.entry.process r.entry.call

-- the tables are those of the first k entries
pub record Follows (past : Past) (k : ℕ) (f : Followed) : Type 0 where
  pub owners : OwnersMirror (first k past) f.owners.items
  pub owner_count : length f.owners.items ≡ most_processes + 1
  pub callers : CallersMirror (first k past) f.callers.items
  pub caller_count : length f.callers.items ≡ most_callers + 1
  pub bound : AreBound past k f.bound.items
  pub on : AreOn past k f.on.items
  pub on_count : length f.on.items ≡ k
