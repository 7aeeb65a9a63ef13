use Rattle.std.proofs.Common.{arith, ◌≡◌, ℕ, OnOk, Vec, Global}
use Rattle.script_runner.specs.Runs.{RunsScript}
use Rattle.script_runner.specs.Stops.{StopsAfterPhase, StopsInDeadlock, StopsInWrite}
use Rattle.text_io.specs.declared.input.ReadFault.{ReadFault}
use Rattle.script_text.specs.declared.fault.ScriptFault.{ScriptFault}
use Rattle.script_runner.specs.RunFault.{of_read_fault, of_script_fault}
use Rattle.script_runner.specs.declared.fault.RunFault.TheVariants.{Deadlock, Output}
use Rattle.script_runner.proofs.Stopping.{of-script}
use Rattle.script_runner.proofs.run.run_script.Goals as goal

-- reading the script cannot fail with an output error
read-no_output : (fault : ReadFault) → Output ≡ of_read_fault fault → ⊥
read-no_output = grind arith

script-no_output : (fault : ScriptFault) → Output ≡ of_script_fault fault → ⊥
script-no_output = grind arith

pub returns-in_err-text-clause-output : goal.returns-in_err-text-clause-output
returns-in_err-text-clause-output g c = λ all script known written failed.
    absurd (read-no_output c.in_err-text.field-0.0 (rw failed at c.from_residual.ensures.1))

pub returns-in_err-script-clause-output : goal.returns-in_err-script-clause-output
returns-in_err-script-clause-output g c = λ all script known written failed.
    absurd (script-no_output c.in_err-script.field-0.0
    (rw failed at c.from_residual-in_err-script.ensures.1))

pub returns-clause-no_memory : goal.returns-clause-no_memory
returns-clause-no_memory g c = λ all script known written failed.
    of-script (λ s. StopsAfterPhase s (g.W.Write.contents c.args.output.now)
    (g.W.Write.contents c.run_phases.new.output)) (rw known at c.in_ok-text.ensures.bytes)
    c.as_slice.ensures.value c.in_ok-script.ensures.written written
    (c.run_phases.ensures.no_memory failed)

pub returns-clause-done : goal.returns-clause-done
returns-clause-done g c = λ all script known written.
    of-script (λ s. OnOk c.run_phases.result (RunsScript s (g.W.Write.contents c.args.output.now)
    (g.W.Write.contents c.run_phases.new.output))) (rw known at c.in_ok-text.ensures.bytes)
    c.as_slice.ensures.value c.in_ok-script.ensures.written written c.run_phases.ensures.done

pub returns-clause-output : goal.returns-clause-output
returns-clause-output g c = λ all script known written failed.
    of-script (λ s. StopsInWrite s (g.W.Write.contents c.args.output.now)
    (g.W.Write.contents c.run_phases.new.output)) (rw known at c.in_ok-text.ensures.bytes)
    c.as_slice.ensures.value c.in_ok-script.ensures.written written
    (c.run_phases.ensures.output failed)

-- nor to a deadlock
read-no_deadlock : (lines : Vec ℕ Global) (fault : ReadFault) →
    Deadlock lines ≡ of_read_fault fault → ⊥
read-no_deadlock = grind arith

script-no_deadlock : (lines : Vec ℕ Global) (fault : ScriptFault) →
    Deadlock lines ≡ of_script_fault fault → ⊥
script-no_deadlock = grind arith

pub returns-in_err-text-clause-deadlock : goal.returns-in_err-text-clause-deadlock
returns-in_err-text-clause-deadlock g c = λ all script lines known written failed.
    absurd (read-no_deadlock lines c.in_err-text.field-0.0 (rw failed at c.from_residual.ensures.1))

pub returns-in_err-script-clause-deadlock : goal.returns-in_err-script-clause-deadlock
returns-in_err-script-clause-deadlock g c = λ all script lines known written failed.
    absurd (script-no_deadlock lines c.in_err-script.field-0.0
    (rw failed at c.from_residual-in_err-script.ensures.1))

pub returns-clause-deadlock : goal.returns-clause-deadlock
returns-clause-deadlock g c = λ all script lines known written failed.
    of-script (λ s. StopsInDeadlock s lines.items (g.W.Write.contents c.args.output.now)
    (g.W.Write.contents c.run_phases.new.output)) (rw known at c.in_ok-text.ensures.bytes)
    c.as_slice.ensures.value c.in_ok-script.ensures.written written
    (c.run_phases.ensures.deadlock lines failed)
