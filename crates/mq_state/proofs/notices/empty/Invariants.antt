use Rattle.std.proofs.Common.{◌≡◌, ◌<◌, ◌≤◌, ℕ, [], length}
use Rattle.std.specs.List.{All}
use Rattle.mq_state.specs.Raising.{IsEmptyInbox}
use Rattle.mq_model.specs.Threads.{owner_of}
use Rattle.mq_state.specs.Inboxes.{notices_in, room_in}
use Rattle.mq_state.proofs.notices.empty.Given as goal

abbrev pub invariant-loop : goal.invariant-loop
invariant-loop l =
    (length l.inboxes.items ≡ l.counter)
    × ((k : ℕ) → notices_in l.inboxes.items k ≡ [])
    × ((k : ℕ) → owner_of k < l.counter → l.room ≤ room_in l.inboxes.items k)
    × All (IsEmptyInbox l.room) l.inboxes.items
