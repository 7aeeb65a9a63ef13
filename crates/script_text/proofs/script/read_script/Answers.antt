use Rattle.std.proofs.Common.{rules, arith, ◌≡◌, ◌∙◌}
use Rattle.script_text.specs.Phases.{whole_behind}
use Rattle.script_text.specs.ScriptFault.{Fails}
use Rattle.script_text.specs.Script.{Written, lines_of, processes_behind, said_line, script_written, with_line}
use Rattle.script_text.proofs.ScriptLines.{fails-line, whole_behind-line}
use Rattle.script_text.proofs.script.read_script.Goals as goal

pub loop-rest-preserved : goal.loop-rest-preserved
loop-rest-preserved c =
    let was = c.loop-rest.invariant in
    let line = said_line c.in_ok-line.line in
    let behind : c.processes_behind-processes.result ≡ processes_behind line c.loop-rest.processes =
    c.processes_behind-processes.ensures in
    let same : (script : Written) →
    whole_behind c.add.new.self script ≡ whole_behind c.loop-rest.phases
    (with_line line script) = search rules in
    let step = whole_behind-line c.loop-rest.phases c.add.new.self c.loop-rest.processes
    c.loop-rest.at c.in_ok-line.place c.first_line.result.0.now
    (lines_of c.first_line.result.1.now) line c.in_ok-line.ensures.read same in
    let lines = c.first_line.ensures.lines in
    record {
      whole = rw behind (step ∙ (rw lines at was.whole));
      lines = omega (
        arith,
        was.lines,
        c.in_ok-line.ensures.lines,
        c.in_ok-line.ensures.bytes.0,
        c.first_line.ensures.some,
      );
      bytes = c.in_ok-line.ensures.bytes.1;
      moment = c.in_ok-line.ensures.moment;
      count = rw behind c.in_ok-line.ensures.count;
    }

pub returns-in_err-line-clause-written : goal.returns-in_err-line-clause-written
returns-in_err-line-clause-written c =
    let was = c.loop-rest.invariant in
    let lines = c.first_line.ensures.lines in
    let fails = fails-line c.loop-rest.phases c.loop-rest.processes c.loop-rest.at
    c.first_line.result.0.now (lines_of c.first_line.result.1.now) c.in_err-line.field-0.0
    c.in_err-line.ensures.read in
    let same = rw lines at was.whole in
    let here : Fails c.in_err-line.field-0.0 (script_written c.args.text.now) = rw same at fails in
    search (rules, here)
