-- The message slots that a system with bounds takes when it is made: one set of slots for each
-- queue that may exist.
use Rattle.std.specs.Prelude.{ℕ, ◌≡◌, ◌+◌, ◌≤◌, List, [], All, length, vec_capacity, Option, Some, None}
use Rattle.mq_model.specs.declared.bounds.Bounds.{Bounds}
use Rattle.mq_slots.specs.Held.{Held}
use Rattle.mq_state.specs.QueueShown.{QueueShown}
use Rattle.mq_state.specs.declared.tables.Tables.{Tables}

-- the set of slots is empty, and has room for the messages of any queue
abbrev pub IsSpare : Held → Type 0
IsSpare o = (o.messages ≡ []) × (4096 ≤ o.cap)

-- a set of slots without its messages
abbrev pub emptied : Held → Held
emptied o = record { messages = []; cap = o.cap }

-- There are `total` sets of slots: the spare ones and those of the queues. Each has room for the
-- messages of any queue, and none needs memory to move between a queue and the spare ones.
pub record Pool (total : ℕ) (queues : List QueueShown) (spares : List Held)
    (queue_room spare_room : ℕ) : Type 0 where
  pub spare : All IsSpare spares
  pub wide : All (λ x. 4096 ≤ x.cap) queues
  pub count : length spares + length queues ≡ total
  pub most : total ≤ 64
  pub queues_fit : 64 ≤ queue_room
  pub spares_fit : 64 ≤ spare_room

-- There are 64. One of them may be set aside for the queue that a call creates.
abbrev pub PoolWith : Option Held → List QueueShown → List Held → ℕ → ℕ → Type 0
PoolWith None queues spares queue_room spare_room = Pool 64 queues spares queue_room spare_room
PoolWith (Some o) queues spares queue_room spare_room = Pool 63 queues spares queue_room spare_room
    × (4096 ≤ o.cap)

abbrev pub PoolWithin : Option Bounds → Option Held → List QueueShown → List Held → ℕ → ℕ → Type 0
PoolWithin None taken queues spares queue_room spare_room = Unit {0}
PoolWithin (Some b) taken queues spares queue_room spare_room =
    PoolWith taken queues spares queue_room spare_room

-- tables with bounds have the slots of 64 queues
abbrev pub IsPooled : Option Held → Tables → Type 0
IsPooled taken t = PoolWithin t.bounds taken t.queues.items t.spares.items (vec_capacity t.queues)
    (vec_capacity t.spares)

abbrev pub order_count : Option Bounds → ℕ
order_count None = 0
order_count (Some b) = 64
