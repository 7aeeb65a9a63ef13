-- The task for a name and options.
use Rattle.std.specs.Prelude.{◌-◌, ◌^◌, List, ℕ, Option, Some, None, if◌then◌else◌, codes, unwrap_or}
use Rattle.std.specs.Str.{bytes_eq}
use Rattle.mqlog.specs.declared.task.Task.{Task}
use Rattle.mqlog.specs.declared.task.Task.TheVariants.{Run, Resume, History, Check, Compact, Draw, View, State, Judge, Orders}
use Rattle.mqlog.specs.declared.task.Options.{Options}
use Rattle.journal_tasks.specs.declared.every_order.Trial.{Trial}
use Rattle.journal_tasks.specs.declared.judge.Question.{Question}
use Rattle.journal_tasks.specs.declared.state.Wanted.{Wanted}
use Rattle.journal_tasks.specs.declared.window.Window.{Window}
use Rattle.journal_views.specs.declared.form.Form.TheVariants.{Text, Json}

-- all entries are shown, unless the first or the last is given
abbrev pub window_of : Options → Window
window_of o = record { from = unwrap_or o.from 0; to = unwrap_or o.to (2 ^ 64 - 1) }

-- the state after all entries is written as text, unless another one is wanted
abbrev pub wanted_of : Options → Wanted
wanted_of o = record { at = o.at; form = if o.json then Json else Text }

-- the maximum number of steps: given seconds alone, no number is too large
abbrev pub budget_or : Option ℕ → Option ℕ → Option ℕ
budget_or budget None = budget
budget_or budget (Some seconds) = Some (unwrap_or budget (2 ^ 64 - 1))

abbrev pub budget_of : Options → Option ℕ
budget_of o = budget_or o.budget o.seconds

-- a history is checked within as many steps as its number of calls gives
abbrev pub question_of : Options → Question
question_of o = record { journal = o.explained; budget = budget_of o }

-- interleavings are tried within five million steps, and the report is written
abbrev pub trial_of : Options → Trial
trial_of o = record { journal = o.journal; budget = unwrap_or (budget_of o) 5000000 }

-- the task with this name
abbrev pub task_named : List ℕ → Options → Option Task
task_named name o =
    if bytes_eq name (codes "run") then Some Run
    else if bytes_eq name (codes "resume") then Some Resume
    else if bytes_eq name (codes "history") then Some History
    else if bytes_eq name (codes "check") then Some Check
    else if bytes_eq name (codes "compact") then Some Compact
    else if bytes_eq name (codes "draw") then Some (Draw (window_of o))
    else if bytes_eq name (codes "view") then Some (View (window_of o))
    else if bytes_eq name (codes "state") then Some (State (wanted_of o))
    else if bytes_eq name (codes "judge") then Some (Judge (question_of o) o.seconds)
    else if bytes_eq name (codes "orders") then Some (Orders (trial_of o) o.seconds)
    else None
