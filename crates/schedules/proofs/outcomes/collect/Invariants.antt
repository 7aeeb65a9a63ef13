use Rattle.std.proofs.Common.{◌≡◌, ◌≤◌, ◌+◌, ◌*◌, All, Some, length}
use Rattle.schedules.specs.Schedules.{after}
use Rattle.schedules.specs.Outcomes.{AreDistinct, AreFoundWithin, IsWitness}
use Rattle.schedules.specs.Seen.{key_count}
use Rattle.schedules.specs.Marks.{AreMarks}
use Rattle.schedules.proofs.Ahead.{Stands}
use Rattle.schedules.proofs.Alike.{AreDone}
use Rattle.schedules.proofs.Collecting.{is_new_goal}
use Rattle.schedules.proofs.Persisting.{IsReachedPersistent}
use Rattle.schedules.proofs.Working.{HasSpent}
use Rattle.schedules.proofs.outcomes.collect.Given as goal

-- At the position of the search, the outcome of each goal before it was found, except at persistent
-- choices, and so was that of each goal after a state whose key was noted. It has made this many
-- steps, and keeps a state for two of them at most, of those that took a choice back. The marks are
-- states of the machine.
abbrev pub invariant-loop-steps : goal.invariant-loop-steps
invariant-loop-steps g l = record {
  stands :
      Stands g.M.Machine.next (is_new_goal g.M.Machine.is_goal g.M.Observable.outcome l.found.items)
      (IsReachedPersistent g.M.Machine.next g.M.PersistentChoices.IsPersistent
      (g.M.Machine.start l.fn.machine)) g.M.Keyed.IsKey l.path.items l.levels.items
      (g.M.Machine.start l.fn.machine) l.machine l.next;
  done :
      AreDone g.M.Machine.next (is_new_goal g.M.Machine.is_goal g.M.Observable.outcome
      l.found.items) g.M.Keyed.IsKey
      (g.M.Machine.start l.fn.machine) l.seen;
  start : g.M.Machine.start l.machine ≡ g.M.Machine.start l.fn.machine;
  distinct : AreDistinct l.found.items;
  witnessed : All (IsWitness g.M.Machine.next g.M.Machine.is_goal g.M.Observable.outcome
      (g.M.Machine.start l.fn.machine)) l.found.items;
  spent :
      (node : g.row.M.Denot) →
      after g.M.Machine.next l.path.items (g.M.Machine.start l.fn.machine) ≡ Some node →
      HasSpent g.M.Machine.next g.M.Machine.choices (λ depth. 1) l.fn.budget l.steps 0 l.path.items
      (g.M.Machine.start l.fn.machine) node l.next;
  within : AreFoundWithin (l.steps + length l.path.items) l.found.items;
  states : 2 * key_count l.seen + length l.path.items ≤ l.steps;
  marks : AreMarks g.M.Machine.next g.M.Machine.start g.M.Machine.IsSaved
      (g.M.Machine.start l.fn.machine) l.marks.items;
}
