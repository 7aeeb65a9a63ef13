-- The phases that were read so far.
use Rattle.std.specs.Prelude.{◌∷◌, ◌++◌}
use Rattle.script_text.specs.declared.script.Phases.{Phases}
use Rattle.script_text.specs.Script.{Written, Whole, said_calls, said_phases}

-- the script of which these phases were read, and of which this is the rest
abbrev pub whole_behind : Phases → Written → Whole
whole_behind phases rest = record {
  processes = rest.processes;
  phases = said_phases phases.ended.items ++ (said_calls phases.current.items ++ rest.first) ∷
      rest.later;
}
