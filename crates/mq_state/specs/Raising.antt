-- Tables with rows for more callers.
use Rattle.std.specs.Prelude.{ℕ, ◌≡◌, ◌≤◌, []}
use Rattle.mq_model.specs.Record.{Past}
use Rattle.mq_state.specs.Kept.{AreThoseOf, HasNotices}
use Rattle.mq_state.specs.InboxShown.{InboxShown}
use Rattle.mq_state.specs.declared.tables.Tables.{Tables}

-- the inbox has no notices, and this room
abbrev pub IsEmptyInbox : ℕ → InboxShown → Type 0
IsEmptyInbox room inbox = (inbox.values ≡ []) × (room ≤ inbox.room)

-- The new tables have rows for further callers, without descriptors, notices and waits. They say
-- the same of every journal.
pub record IsRaised (old new : Tables) : Type 0 where
  pub tables : (past : Past) → AreThoseOf past old → AreThoseOf past new
  pub notices : (past : Past) (entries : ℕ) → AreThoseOf past old →
      HasNotices old.bounds entries old.n old.inboxes.items →
      HasNotices new.bounds entries new.n new.inboxes.items
  pub queues : new.queues ≡ old.queues
  pub spares : new.spares ≡ old.spares
  pub bounds : new.bounds ≡ old.bounds
  pub waits : new.waits ≡ old.waits
  pub more : old.n ≤ new.n
