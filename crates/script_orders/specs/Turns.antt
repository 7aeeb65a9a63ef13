-- The next step of a process of a script.
use Rattle.std.specs.Prelude.{ℕ, ◌+◌, ◌==◌, [], Option, None, is_some, if◌then◌else◌, slice_get, Vec}
use Rattle.std.specs.Option.{option_map, option_and_then}
use Rattle.std.specs.declared.alloc.Global.{Global}
use Rattle.mq_model.specs.Record.{Past, Process}
use Rattle.mq_model.specs.Waits.{open_wait}
use Rattle.mq_model.specs.declared.entries.Call.TheVariants.{Collect}
use Rattle.script_orders.specs.Progress.{Progress}
use Rattle.script_orders.specs.Scenes.{Scene, after_call, after_step}
use Rattle.script_orders.specs.declared.plan.Planned.{Planned}

-- the journal, and the state of the process
pub record Turned : Type 0 where
  pub past : Past
  pub progress : Progress

-- this number of further lines is begun
abbrev pub turned : ℕ → Progress → Scene → Turned
turned lines progress scene = record {
  past = scene.past;
  progress = record { begun = progress.begun + lines; text = scene.text };
}

abbrev pub scene_of : Past → Progress → Scene
scene_of past progress = record { past = past; text = progress.text }

-- after a line, if it is in this phase
abbrev pub after_line : Past → ℕ → Process → Progress → Planned → Option Scene
after_line past phase p progress next =
    if next.phase == phase then after_step (scene_of past progress) p next.given.items next.step
    else None

-- The next step of process p in this phase, if there is one. If it waits it collects; otherwise it
-- begins its next line, if that is in this phase.
abbrev pub after_turn : Past → ℕ → Process → Progress → Vec Planned Global → Option Turned
after_turn past phase p progress program =
    if is_some (open_wait past p)
    then option_map (turned 0 progress) (after_call (scene_of past progress) p Collect [])
    else option_map (turned 1 progress) (option_and_then (after_line past phase p progress)
    (slice_get program.items progress.begun))
