-- The course of one process through a phase, in a journal that it shares with others.
use Rattle.std.specs.Prelude.{◌≡◌, ℕ, List, [], ◌∷◌, ◌++◌, length, map, Some, Vec}
use Rattle.std.specs.List.{All}
use Rattle.std.specs.declared.alloc.Global.{Global}
use Rattle.fast_mutex.specs.Items.{Grows}
use Rattle.mq.specs.Calls.{author}
use Rattle.mq_model.specs.Record.{Past}
use Rattle.script_orders.specs.Plans.{Plan, plan_of}
use Rattle.script_orders.specs.Progress.{Progress}
use Rattle.script_orders.specs.Turns.{after_turn}
use Rattle.script_orders.specs.declared.plan.Planned.{Planned}

-- A turn of a process: the journal that it found, the records that it added, and its progress after
-- them.
pub record Move : Type 0 where
  pub found : Past
  pub own : Past
  pub next : Progress

-- From this journal and progress the process makes this move, and before it other processes add
-- records. A move without a record is made at once.
pub record Goes (p phase : ℕ) (program : Vec Planned Global) (move : Move) (from : Past)
    (progress : Progress) : Type 0 where
  pub others : Grows author p from move.found []
  pub mine : All (λ r. author r ≡ p) move.own
  pub eager : move.own ≡ [] → move.found ≡ from
  pub turn : after_turn move.found phase p progress program ≡
      Some (record { past = move.own ++ move.found; progress = move.next })

-- the process makes these moves one after the other and then has the progress `end`; after them
-- only other processes add records
abbrev pub Course : ℕ → ℕ → Vec Planned Global → Past → Progress → List Move → Past → Progress →
    Type 0
Course p phase program to end [] from progress = (progress ≡ end) × Grows author p from to []
Course p phase program to end (move ∷ moves) from progress =
    Goes p phase program move from progress × Course p phase program to end moves
    (move.own ++ move.found) move.next

-- the lines of a program from number `begun` on begin with these
pub record AreLines (program : Vec Planned Global) (begun : ℕ) (plans : List Plan) : Type 0 where
  pub before : List Plan
  pub rest : List Plan
  pub are : map plan_of program.items ≡ before ++ (plans ++ rest)
  pub count : length before ≡ begun
