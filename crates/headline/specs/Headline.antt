-- The README's sentence, in terms that one can read aloud. Lists of records and of turns have the
-- latest first.
use Rattle.std.specs.Prelude.{◌≡◌, ℕ, true, List, [], ◌∷◌, ◌++◌, Option as Opt}
use mathlib.Core.Option.{some}
use lib.ListN.{get_elem?}
use Rattle.atomic_table.specs.Table.{State}
use Rattle.fast_mutex.specs.Items.{Ticket, items_of}
use Rattle.fast_mutex.specs.Fast.{is_inside}
use Rattle.fast_mutex.specs.declared.fast.view.View.{View}
use Rattle.mq_model.specs.Record.{Record, Past}
use Rattle.mq_model.specs.Legality.{Legal}
use Rattle.mq.specs.Calls.{author, Calls}

-- Two seats at the words of a lock that are both inside are one seat.
module _ {S I : Type 0} where
  abbrev pub AtMostOneInside : State (Opt S) (View I) → Type 0
  AtMostOneInside s = (a b : ℕ) (v w : View I) → get_elem? s.views a ≡ some v →
      get_elem? s.views b ≡ some w → is_inside v.at ≡ true → is_inside w.at ≡ true → a ≡ b

-- a call of a process: the records that it added to the journal, and what it then left
pub record Turn : Type 0 where
  pub own : Past
  pub left : Ticket Record

-- what a process has left after these turns
abbrev pub left_after : Ticket Record → List Turn → Ticket Record
left_after first [] = first
left_after first (t ∷ turns) = t.left

-- Each turn is a call that keeps the contract of the calls of `Process`.
abbrev pub AreTurns : Ticket Record → List Turn → Type 0
AreTurns first [] = Unit {0}
AreTurns first (t ∷ turns) = Calls (left_after first turns) t.left t.own × AreTurns first turns

-- all that a process has added
abbrev pub own_records : List Turn → Past
own_records [] = []
own_records (t ∷ turns) = t.own ++ own_records turns

-- The journal that a process leaves is a history of one thread's queues, and begins with the one
-- that it left before. Of the records added since, its own are those that it added, each once.
pub record IsHeadline (before now : Ticket Record) (own : Past) : Type 0 where
  pub history : Legal now.left
  pub since : Past
  pub begins : now.left ≡ since ++ before.left
  pub each_once : items_of author before.number since ≡ own
