-- Names, descriptors and queues that are the same in two journals, up to the numbers of queues. The
-- number of a queue is the place of the entry that created it.
use Rattle.std.specs.Prelude.{ℕ, ◌≡◌, ◌==◌, true, List, if◌then◌else◌}
use Rattle.std.specs.Option.{option_map}
use Rattle.mq_model.specs.Record.{Past, Place, Queue}
use Rattle.mq_model.specs.Names.{attributes, bound_queue}
use Rattle.mq_model.specs.Descriptors.{alive, held}
use Rattle.mq_model.specs.Messages.{is_in}
use Rattle.mq_model.specs.declared.entries.Description.{Description}

-- a description with the number that its queue has in the other journal
abbrev pub renumbered : (Queue → Queue) → Description → Description
renumbered to h = record { queue = to h.queue; access = h.access; nonblock = h.nonblock }

-- The renumbering after both journals got one more entry. A queue that this entry creates has the
-- number `here` in the first journal and `there` in the second.
abbrev pub extended : (Queue → Queue) → Place → Place → Queue → Queue
extended to here there q = if q == here then there else to q

-- `to` pairs each queue of xs with one of ys, and none is left.
pub record Corresponds (to : Queue → Queue) (xs ys : List Queue) : Type 0 where
  pub each : (q : ℕ) → is_in xs q ≡ true → is_in ys (to q) ≡ true
  pub every : (k : ℕ) → is_in ys k ≡ true → (q : ℕ) × (is_in xs q ≡ true) × (to q ≡ k)
  pub once : (p q : ℕ) → is_in xs p ≡ true → is_in xs q ≡ true → to p ≡ to q → p ≡ q

-- Queue q of x is queue `to q` of y. The same names are bound, the same descriptors are held, and
-- the same queues exist with the same attributes, in whatever order they were created.
pub record SameStructure (to : Queue → Queue) (x y : Past) : Type 0 where
  pub names : (name : List ℕ) → bound_queue y name ≡ option_map to (bound_queue x name)
  pub descriptors : (p d : ℕ) → held y p d ≡ option_map (renumbered to) (held x p d)
  pub queues : Corresponds to (alive x) (alive y)
  pub limits : (q : ℕ) → is_in (alive x) q ≡ true → attributes y (to q) ≡ attributes x q
