-- What the table of inboxes says about each process. Its inbox is at the index of its first thread.
use Rattle.std.specs.Prelude.{ℕ, List, [], slice_get}
use Rattle.std.specs.Option.{option_map, unwrap_or}
use Rattle.mq_model.specs.Threads.{owner_of}
use Rattle.mq_state.specs.InboxShown.{InboxShown}

-- the notices of the process of caller p
unfoldable pub notices_in : List InboxShown → ℕ → List ℕ
notices_in inboxes p = unwrap_or (option_map (λ b. b.values) (slice_get inboxes (owner_of p))) []

-- the room for further notices of the process of caller p
unfoldable pub room_in : List InboxShown → ℕ → ℕ
room_in inboxes p = unwrap_or (option_map (λ b. b.room) (slice_get inboxes (owner_of p))) 0
