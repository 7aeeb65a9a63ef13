-- What the table of callers becomes after one more entry.
use Rattle.std.specs.Prelude.{ℕ, ◌≡◌, List, ◌∷◌, [], length, replicate, Option, Some, None}
use Rattle.std.specs.Option.{option_and_then}
use Rattle.mq_model.specs.Record.{Past}
use Rattle.mq_model.specs.Legality.{Legal, IsLegalNext}
use Rattle.mq_model.specs.Deadlines.{deadline_of}
use Rattle.mq_model.specs.OwnersNoted.{EntryQueue}
use Rattle.mq_model.specs.Callers.{with_wait, with_answer, waiter_in, wait_kind, CallersMirror}
use Rattle.mq_model.specs.declared.entries.Entry.{Entry}
use Rattle.mq_model.specs.declared.entries.Call.{Call}
use Rattle.mq_model.specs.declared.entries.Reply.{Reply}
use Rattle.mq_model.specs.declared.entries.Reply.TheVariants.{Handed, Waits, Got, Collected, Withdrawn}
use Rattle.mq_model.specs.declared.callers.Caller.{Caller}

abbrev pub with_answer_at : List Caller → Option ℕ → ℕ → List Caller
with_answer_at callers None here = callers
with_answer_at callers (Some p) here = with_answer callers p here

-- The table after the entry of caller p at place `here`. It is a call on a descriptor of queue q,
-- or any other call.
abbrev pub noted_waits : List Caller → ℕ → ℕ → Call → Reply → ℕ → List Caller
noted_waits callers here p call Waits q =
    with_wait callers p (Some (record {
      place = here;
      queue = q;
      kind = wait_kind call;
      until = deadline_of call;
    }))
noted_waits callers here p call (Collected by) q = with_wait callers p None
noted_waits callers here p call (Withdrawn wait) q = with_wait callers p None
noted_waits callers here p call (Handed wait) q = with_answer_at callers
    (waiter_in callers wait) here
noted_waits callers here p call (Got place admitted notified) q = with_answer_at callers
    (option_and_then (waiter_in callers) admitted) here
noted_waits callers here p call _ q = callers

-- If the old table is that of a journal after which the entry may follow, the new one is that of
-- the journal with the entry.
abbrev pub KeepsCallers : List Caller → ℕ → Entry → ℕ → List Caller → Type 0
KeepsCallers old here entry q new =
    (past : Past) (payload : List ℕ) → length past ≡ here → CallersMirror past old → Legal past →
    IsLegalNext past (record { entry = entry; payload = payload }) →
    EntryQueue past entry.process entry.call payload entry.reply q →
    CallersMirror (record { entry = entry; payload = payload } ∷ past) new

-- a table with only such rows, of any number, is that of the empty journal
abbrev pub StartsCallers : Caller → Type 0
StartsCallers caller = (m : ℕ) → CallersMirror [] (replicate m caller)
