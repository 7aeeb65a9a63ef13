use Rattle.std.proofs.Common.{arith, ◌≡◌, ◌++◌, ◌∙◌, ap, sym, subst, Err, drop, get_or, length, suc, take, vec_len, Vec, Global, Bor}
use Rattle.std.proofs.lemmas.Grind.{common_steps}
use Rattle.std.proofs.KnownBytes.{Appends-trans}
use Rattle.std.specs.Io.KnownBytes.{Appends}
use Rattle.std.specs.List.{take-map}
use Rattle.text_io.specs.Words.{Word}
use Rattle.script_runner.specs.Meeting.{RunsAndMeets}
use Rattle.script_runner.specs.Runs.{RunsPhase, RunsPhases}
use Rattle.script_runner.specs.Stands.{ComesToAStand}
use Rattle.script_text.specs.Script.{said_calls, said_phases}
use Rattle.script_runner.specs.declared.stop.Stop.TheVariants.{NoMemory, Output, Stuck}
use Rattle.script_text.specs.declared.line.ScriptCall.{ScriptCall}
use Rattle.script_runner.proofs.Standing.{stand-count, stand-made}
use Rattle.script_runner.proofs.Stopping.{appends-into, phases-split}
use Rattle.script_runner.proofs.Working.{phases-more}
use Rattle.script_runner.proofs.runner.Runner.run.Goals as goal

pub loop-calls-preserved : goal.loop-calls-preserved
loop-calls-preserved g c =
    let was = c.loop-calls.invariant in let now = c.in_ok-processes.ensures in
    let phases = c.args.phases.now in let i = c.loop-calls.calls-index in let d =
    c.calls-item.result in
    let item : d ≡ get_or phases i d = c.calls-item.is in
    let calls : c.as_slice.result.now ≡ (get_or phases i d).items = c.as_slice.ensures.value ∙
    ap (λ (v : Vec (ScriptCall (Bor Word)) Global). v.items) item in
    let last : RunsAndMeets (said_calls (get_or phases i d).items) c.loop-calls.processes.items
    c.in_ok-processes.processes.items now.ran.0 = rw calls at now.ran.1 in
    record {
      ready = now.ready;
      count = now.count ∙ was.count;
      ran = (
        was.ran.0 ++ now.ran.0,
        phases-more phases i d _ _ _ was.ran.0 now.ran.0 c.loop-calls-test.true was.ran.1 last,
        Appends-trans _ _ _ was.ran.0 now.ran.0 was.ran.2 now.ran.2,
        Appends-trans _ _ _ was.ran.0 now.ran.0 was.ran.3 now.ran.3,
      );
    }

pub returns-in_err-processes-clause-no_memory : goal.returns-in_err-processes-clause-no_memory
returns-in_err-processes-clause-no_memory g c = λ failed.
    let was = c.loop-calls.invariant in let phases = c.args.phases.now in let i =
    c.loop-calls.calls-index in
    let stop : c.in_err-processes.field-0.0 ≡ NoMemory =
    sym (rw failed at c.from_residual.ensures.1) in
    let same = c.run_phase.ensures.no_memory (c.in_err-processes.was ∙ ap Err stop) in
    let front = take-map (λ (phase : Vec (ScriptCall (Bor Word)) Global). said_calls phase.items) i
    phases in
    record {
      count = i;
      after = c.loop-calls.processes.items;
      replies = was.ran.0;
      ran = subst (λ calls. RunsPhases calls c.args.processes.items c.loop-calls.processes.items
          was.ran.0) (sym front) was.ran.1;
      written = subst (λ known. Appends (g.K.Sink.written c.args.sink.now) known was.ran.0)
          (sym same) was.ran.2;
    }

pub returns-in_err-processes-clause-output : goal.returns-in_err-processes-clause-output
returns-in_err-processes-clause-output g c = λ failed.
    let was = c.loop-calls.invariant in let phases = c.args.phases.now in let i =
    c.loop-calls.calls-index in let d = c.calls-item.result in
    let stop : c.in_err-processes.field-0.0 ≡ Output =
    sym (rw failed at c.from_residual.ensures.1) in
    let stopped = c.run_phase.ensures.output (c.in_err-processes.was ∙ ap Err stop) in
    let calls : c.as_slice.result.now ≡ (get_or phases i d).items = c.as_slice.ensures.value ∙
    ap (λ (v : Vec (ScriptCall (Bor Word)) Global). v.items) c.calls-item.is in
    let last : RunsPhase (said_calls (get_or phases i d).items) c.loop-calls.processes.items
    stopped.0 stopped.1 = rw calls at stopped.2 in
    record {
      first = said_phases (take i phases);
      last = said_calls (get_or phases i d).items;
      later = said_phases (drop (suc i) phases);
      are = phases-split phases i d c.loop-calls-test.true;
      between = c.loop-calls.processes.items;
      replies = was.ran.0;
      ran = was.ran.1;
      after = stopped.0;
      text = stopped.1;
      ran_last = last;
      written = appends-into _ _ _ was.ran.0 stopped.1 was.ran.2 stopped.3;
    }

pub returns-in_err-processes-clause-deadlock : goal.returns-in_err-processes-clause-deadlock
returns-in_err-processes-clause-deadlock g c = λ after lines failed.
    let was = c.loop-calls.invariant in let phases = c.args.phases.now in let i =
    c.loop-calls.calls-index in let d = c.calls-item.result in
    let stop : c.in_err-processes.field-0.0 ≡ Stuck after lines =
    sym (rw failed at c.from_residual.ensures.1) in
    let stuck = c.run_phase.ensures.deadlock after lines (c.in_err-processes.was ∙ ap Err stop) in
    let calls : c.as_slice.result.now ≡ (get_or phases i d).items = c.as_slice.ensures.value ∙
    ap (λ (v : Vec (ScriptCall (Bor Word)) Global). v.items) c.calls-item.is in
    let stands : ComesToAStand (said_calls (get_or phases i d).items) c.loop-calls.processes.items
    lines.items after.items = rw calls at stuck.0 in
    record {
      first = said_phases (take i phases);
      last = said_calls (get_or phases i d).items;
      later = said_phases (drop (suc i) phases);
      are = phases-split phases i d c.loop-calls-test.true;
      between = c.loop-calls.processes.items;
      replies = was.ran.0;
      ran = was.ran.1;
      stands = stands;
      written = subst (λ known. Appends (g.K.Sink.written c.args.sink.now) known was.ran.0)
          (sym stuck.1) was.ran.2;
    }

pub returns-in_err-processes-clause-back : goal.returns-in_err-processes-clause-back
returns-in_err-processes-clause-back g c = λ after lines failed.
    let was = c.loop-calls.invariant in let before = c.loop-calls.processes.items in
    let stop : c.in_err-processes.field-0.0 ≡ Stuck after lines =
    sym (rw failed at c.from_residual.ensures.1) in
    let stuck = c.run_phase.ensures.deadlock after lines (c.in_err-processes.was ∙ ap Err stop) in
    let calls = said_calls c.as_slice.result.now in
    let as_many : length after.items ≡ length before = stand-count calls before lines.items
    after.items stuck.0 in
    let count : vec_len after ≡ vec_len c.loop-calls.processes = grind (arith, common_steps) in (
      stand-made c.args.self.mq.now calls before lines.items after.items stuck.0 was.ready,
      count ∙
          was.count,
    )
