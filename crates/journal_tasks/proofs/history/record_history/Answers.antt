use Rattle.std.proofs.Common.{◌≡◌, subst, ℕ, List, take, Ok, OnOk, Vec, Global}
use Rattle.text_io.specs.declared.input.ReadFault.{ReadFault}
use Rattle.text_io.specs.declared.input.ReadFault.TheVariants as read
use Rattle.script_text.specs.Script.{Whole, said_script, script_written}
use Rattle.script_text.specs.declared.fault.ScriptFault.{ScriptFault}
use Rattle.script_text.specs.declared.fault.ScriptFault.TheVariants as script
use Rattle.script_runner.specs.RunFault.{of_read_fault, of_script_fault}
use Rattle.script_runner.specs.declared.fault.RunFault.TheVariants.{Deadlock, NoMemory, Output}
use Rattle.journal_tasks.specs.Histories.{IsHistoryInPart, RecordsHistory, WritesSome}
use Rattle.journal_tasks.proofs.history.record_history.Goals as goal

-- what comes before the run is no deadlock
read-no_deadlock : (lines : Vec ℕ Global) (fault : ReadFault) →
    Deadlock lines ≡ of_read_fault fault → ⊥
read-no_deadlock lines read.Failed is = cc
read-no_deadlock lines read.NoMemory is = cc

script-no_deadlock : (lines : Vec ℕ Global) (fault : ScriptFault) →
    Deadlock lines ≡ of_script_fault fault → ⊥
script-no_deadlock lines (script.BadCall line) is = cc
script-no_deadlock lines script.NoMemory is = cc

memory-no_deadlock : (lines : Vec ℕ Global) → Deadlock lines ≡ NoMemory → ⊥
memory-no_deadlock lines is = cc

pub returns-in_err-text-clause-stuck : goal.returns-in_err-text-clause-stuck
returns-in_err-text-clause-stuck g c = λ all script lines known written failed.
    absurd (read-no_deadlock lines c.in_err-text.field-0.0 (rw failed at c.from_residual.ensures.1))

pub returns-in_err-script-clause-stuck : goal.returns-in_err-script-clause-stuck
returns-in_err-script-clause-stuck g c = λ all script lines known written failed.
    absurd (script-no_deadlock lines c.in_err-script.field-0.0
    (rw failed at c.from_residual-in_err-script.ensures.1))

pub returns-in_err-moments-clause-stuck : goal.returns-in_err-moments-clause-stuck
returns-in_err-moments-clause-stuck g c = λ all script lines known written failed.
    absurd (memory-no_deadlock lines (rw failed at c.from_residual-in_err-moments.ensures.1))

-- the script that was read is the one that the input writes
same_script : (text slice front : List ℕ) (read script : Whole) → text ≡ front → slice ≡ text →
    script_written slice ≡ Ok read → script_written front ≡ Ok script → read ≡ script
same_script text slice front read script whole sliced first second = cc

pub returns-clause-stuck : goal.returns-clause-stuck
returns-clause-stuck g c = λ all script lines known written failed.
    let text : c.in_ok-text.text.items ≡ take 1048577 all =
    rw known at c.in_ok-text.ensures.bytes in
    let same = same_script _ _ (take 1048577 all) (said_script c.in_ok-script.script) script text
    c.as_slice.ensures.value c.in_ok-script.ensures.written written in
    subst (λ s. WritesSome s (g.W.Write.contents c.args.output.now)
    (g.W.Write.contents c.run_recorded.new.output)) same
    (c.run_recorded.ensures.stuck lines failed)

pub returns-clause-done : goal.returns-clause-done
returns-clause-done g c = λ all script known written.
    let text : c.in_ok-text.text.items ≡ take 1048577 all =
    rw known at c.in_ok-text.ensures.bytes in
    let same = same_script _ _ (take 1048577 all) (said_script c.in_ok-script.script) script text
    c.as_slice.ensures.value c.in_ok-script.ensures.written written in
    let P : Whole →
    Type 0 = λ s. OnOk c.run_recorded.result
    (RecordsHistory s (g.W.Write.contents c.args.output.now)
    (g.W.Write.contents c.run_recorded.new.output)) in
    subst P same c.run_recorded.ensures.done

-- nor an output error
read-no_output : (fault : ReadFault) → Output ≡ of_read_fault fault → ⊥
read-no_output read.Failed is = cc
read-no_output read.NoMemory is = cc

script-no_output : (fault : ScriptFault) → Output ≡ of_script_fault fault → ⊥
script-no_output (script.BadCall line) is = cc
script-no_output script.NoMemory is = cc

memory-no_output : Output ≡ NoMemory → ⊥
memory-no_output is = cc

pub returns-in_err-text-clause-output : goal.returns-in_err-text-clause-output
returns-in_err-text-clause-output g c = λ all script known written failed.
    absurd (read-no_output c.in_err-text.field-0.0 (rw failed at c.from_residual.ensures.1))

pub returns-in_err-script-clause-output : goal.returns-in_err-script-clause-output
returns-in_err-script-clause-output g c = λ all script known written failed.
    absurd (script-no_output c.in_err-script.field-0.0
    (rw failed at c.from_residual-in_err-script.ensures.1))

pub returns-in_err-moments-clause-output : goal.returns-in_err-moments-clause-output
returns-in_err-moments-clause-output g c = λ all script known written failed.
    absurd (memory-no_output (rw failed at c.from_residual-in_err-moments.ensures.1))

pub returns-clause-output : goal.returns-clause-output
returns-clause-output g c = λ all script known written failed.
    let text : c.in_ok-text.text.items ≡ take 1048577 all =
    rw known at c.in_ok-text.ensures.bytes in
    let same = same_script _ _ (take 1048577 all) (said_script c.in_ok-script.script) script text
    c.as_slice.ensures.value c.in_ok-script.ensures.written written in
    subst (λ s. IsHistoryInPart s (g.W.Write.contents c.args.output.now)
    (g.W.Write.contents c.run_recorded.new.output)) same (c.run_recorded.ensures.output failed)
