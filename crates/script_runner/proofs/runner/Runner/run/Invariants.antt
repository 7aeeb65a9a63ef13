use Rattle.std.proofs.Common.{◌≡◌, ℕ, List, All, take, vec_len}
use Rattle.std.specs.Io.KnownBytes.{Appends}
use Rattle.script_runner.specs.Runs.{IsReady, RunsPhases}
use Rattle.script_text.specs.Script.{said_phases}
use Rattle.script_runner.proofs.runner.Runner.run.Given as goal

abbrev pub invariant-loop-calls : goal.invariant-loop-calls
invariant-loop-calls g l = record {
  ready : All (IsReady l.self.mq.now) l.processes.items;
  count : vec_len l.processes ≡ vec_len l.initial.processes;
  ran : (replies : List ℕ) × RunsPhases (said_phases (take l.calls-index l.phases))
      l.initial.processes.items l.processes.items replies
      × Appends (g.K.Sink.written l.initial.sink) (g.K.Sink.written l.sink) replies
      × Appends (g.K.Sink.noted l.initial.sink) (g.K.Sink.noted l.sink) replies;
}
