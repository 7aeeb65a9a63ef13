-- What the table of queues says about each queue, and what it becomes after one more entry. Nothing
-- here is a new definition of the queues: if a table matches a journal, each word here equals the
-- definition of the same name over the journal.
use Rattle.std.specs.Prelude.{ℕ, ◌≡◌, ◌<◌, ◌≤◌, Bool, true, false, ◌&&◌, ◌||◌, not, ◌==◌, List, [], ◌∷◌, length, Option, Some, None, if◌then◌else◌, map, int_le, pos, reverse}
use Rattle.std.specs.List.{find, filter, count_by, Contains}
use Rattle.std.specs.Str.{bytes_eq}
use Rattle.std.specs.Option.{option_map, option_and_then, unwrap_or}
use Rattle.mq_model.specs.Record.{Past}
use Rattle.mq_model.specs.Names.{attributes, default_attributes, name_of}
use Rattle.mq_model.specs.Descriptors.{alive, is_named}
use Rattle.mq_model.specs.Messages.{is_in, present, priority}
use Rattle.mq_model.specs.Notices.{registered, registration_after}
use Rattle.mq_model.specs.ErrorOrder.{is_of}
use Rattle.mq_model.specs.Owners.{is_held_in}
use Rattle.mq_model.specs.declared.owners.Owner.{Owner}
use Rattle.mq_model.specs.declared.entries.Attr.{Attr}
use Rattle.mq_model.specs.declared.entries.Registration.{Registration}
use Rattle.mq_model.specs.declared.entries.Entry.{Entry}
use Rattle.mq_state.specs.declared.moves.LineMove.{LineMove}
use Rattle.mq_state.specs.declared.moves.LineMove.TheVariants.{Enters, Leaves, LosesName}
use Rattle.mq_state.specs.declared.moves.Moves.{Moves}
use Rattle.mq_slots.specs.Messages.{without}
use Rattle.mq_state.specs.Order.{best_slot}
use Rattle.mq_state.specs.QueueShown.{QueueShown}

unfoldable pub queue_in : List QueueShown → ℕ → Option QueueShown
queue_in queues q = find (λ x. x.place == q) queues

unfoldable pub slots_in : List QueueShown → ℕ → List (ℕ × ℕ)
slots_in queues q = unwrap_or (option_map (λ x. x.slots) (queue_in queues q)) []

unfoldable pub registration_in : List QueueShown → ℕ → Option Registration
registration_in queues q = option_and_then (λ x. x.registration) (queue_in queues q)

unfoldable pub attributes_in : List QueueShown → ℕ → Attr
attributes_in queues q = unwrap_or (option_map (λ x. x.attributes) (queue_in queues q))
    default_attributes

unfoldable pub waiting_in : List QueueShown → ℕ → ℕ
waiting_in queues q = unwrap_or (option_map (λ x. x.waiting) (queue_in queues q)) 0

-- how many queues process p is registered on
unfoldable pub registrations_in : List QueueShown → ℕ → ℕ
registrations_in queues p = count_by (λ x. is_of p x.registration) queues

unfoldable pub is_named_in : List QueueShown → ℕ → Bool
is_named_in queues q = unwrap_or (option_map (λ x. x.named) (queue_in queues q)) false

abbrev pub is_bound_to : Past → List ℕ → QueueShown → Bool
is_bound_to past name x = x.named && bytes_eq (name_of past x.place) name

-- the queue that a name is bound to
unfoldable pub bound_in : Past → List QueueShown → List ℕ → Option ℕ
bound_in past queues name = option_map (λ x. x.place)
    (find (λ x. x.named && bytes_eq (name_of past x.place) name) queues)

-- each number is below all that follow
abbrev pub Rises : List ℕ → Type 0
Rises [] = Unit {0}
Rises (k ∷ ks) = ((j : ℕ) → is_in ks j ≡ true → k < j) × Rises ks

-- the rows are in the order in which the queues were created
abbrev pub HaveRisingPlaces : List QueueShown → Type 0
HaveRisingPlaces queues = Rises (map (λ x. x.place) queues)

-- the table with the row of queue q changed
abbrev pub changed : (QueueShown → QueueShown) → List QueueShown → ℕ → List QueueShown
changed f [] q = []
changed f (x ∷ queues) q = if x.place == q then f x ∷ queues else x ∷ changed f queues q

unfoldable pub without_queue : List QueueShown → ℕ → List QueueShown
without_queue queues q = filter (λ x. not (x.place == q)) queues

-- one row after an entry
-- ---------------------------------------------------------------------------

abbrev pub with_slot : ℕ × ℕ → QueueShown → QueueShown
with_slot s x = record {
  place = x.place;
  named = x.named;
  registration = x.registration;
  slots = s ∷ x.slots;
  cap = x.cap;
  attributes = x.attributes;
  waiting = x.waiting;
}

abbrev pub without_slot : ℕ → QueueShown → QueueShown
without_slot m x = record {
  place = x.place;
  named = x.named;
  registration = x.registration;
  slots = without m x.slots;
  cap = x.cap;
  attributes = x.attributes;
  waiting = x.waiting;
}

abbrev pub with_waiting : ℕ → QueueShown → QueueShown
with_waiting bits x = record {
  place = x.place;
  named = x.named;
  registration = x.registration;
  slots = x.slots;
  cap = x.cap;
  attributes = x.attributes;
  waiting = bits;
}

abbrev pub named_after : LineMove → Bool → Bool
named_after LosesName named = false
named_after _ named = named

abbrev pub slots_after : LineMove → List (ℕ × ℕ) → List (ℕ × ℕ)
slots_after (Enters prio place) slots = (prio, place) ∷ slots
slots_after (Leaves place None) slots = without place slots
slots_after (Leaves place (Some m)) slots = m ∷ without place slots
slots_after _ slots = slots

-- the row of the entry's queue: whether the queue still has its name, and its messages
abbrev pub renewed : LineMove → QueueShown → QueueShown
renewed m x = record {
  place = x.place;
  named = named_after m x.named;
  registration = x.registration;
  slots = slots_after m x.slots;
  cap = x.cap;
  attributes =
      x.attributes;
  waiting = x.waiting;
}

-- A message may enter the queue: there is room, its priority is valid, and it was sent after those
-- that are there.
pub record MayEnter (prio place : ℕ) (x : QueueShown) : Type 0 where
  pub room : length x.slots < x.cap
  pub low : prio < 32768
  pub newest : (m : ℕ × ℕ) → Contains x.slots m → m.1 < place

-- the message that is received next was sent by this entry
abbrev pub IsNextAt : ℕ → QueueShown → Type 0
IsNextAt place x = option_map (λ m. m.1) (best_slot x.slots) ≡ Some place

-- The message that leaves is the one received next, and the message that enters may enter.
abbrev pub Allows : LineMove → QueueShown → Type 0
Allows (Enters prio place) x = MayEnter prio place x
Allows (Leaves place None) x = IsNextAt place x
Allows (Leaves place (Some m)) x = IsNextAt place x × MayEnter m.0 m.1 (without_slot place x)
Allows _ x = Unit {0}

-- the row of queue q, if there is one, allows the change
abbrev pub AllowsIn : List QueueShown → ℕ → LineMove → Type 0
AllowsIn queues q m = (x : QueueShown) → queue_in queues q ≡ Some x → Allows m x

-- any row: its registration, after an entry whose call is made on queue q
abbrev pub reregistered : ℕ → ℕ → Entry → QueueShown → QueueShown
reregistered q here e x = record {
  place = x.place;
  named = x.named;
  registration = registration_after (q == x.place) here e x.registration;
  slots = x.slots;
  cap = x.cap;
  attributes = x.attributes;
  waiting = x.waiting;
}

abbrev pub released : List Owner → Bool → List QueueShown → ℕ → List QueueShown
released owners freed queues q = if freed && not (is_named_in queues q || is_held_in owners q)
    then without_queue queues q else queues

-- The table after entry `here`, made on queue q, with these changes. `owners` is the table of
-- processes after the entry.
abbrev pub noted_queues : List Owner → ℕ → Entry → ℕ → Moves → List QueueShown → List QueueShown
noted_queues owners here e q moves queues = released owners moves.freed (map (reregistered q here e)
    (changed (renewed moves.line) queues q)) q

-- a queue that was just created
abbrev pub fresh : ℕ → ℕ → Attr → QueueShown
fresh here cap given = record {
  place = here;
  named = true;
  registration = None;
  slots = [];
  cap = cap;
  attributes = given;
  waiting = 0;
}

-- the table says what the definitions say about the journal
-- ----------------------------------------

abbrev pub slot_of : Past → ℕ → ℕ × ℕ
slot_of past m = (priority past m, m)

abbrev pub slots_of : Past → List ℕ → List (ℕ × ℕ)
slots_of past places = map (slot_of past) places

pub record LineMirror (past : Past) (x : QueueShown) : Type 0 where
  pub named : x.named ≡ is_named past x.place
  pub registration : x.registration ≡ registered past x.place
  pub slots : x.slots ≡ slots_of past (present past x.place)
  pub room : int_le (attributes past x.place).maxmsg (pos x.cap) ≡ true
  pub few : length x.slots ≤ x.cap
  pub attributes : x.attributes ≡ attributes past x.place

pub record QueuesMirror (past : Past) (queues : List QueueShown) : Type 0 where
  pub places : map (λ x. x.place) queues ≡ reverse (alive past)
  pub lines : (q : ℕ) (x : QueueShown) → queue_in queues q ≡ Some x → LineMirror past x
