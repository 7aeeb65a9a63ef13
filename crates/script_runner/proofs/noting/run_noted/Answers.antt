use Rattle.std.proofs.Common.{arith, ◌≡◌, false}
use Rattle.std.proofs.lemmas.Grind.{common_steps}
use Rattle.std.proofs.lemmas.Result.{IfOk-weaker}
use Rattle.script_runner.specs.Notes.{RunsServed, lines_of, some_refused}
use Rattle.script_runner.specs.Runs.{RunsOn}
use Rattle.script_text.specs.Script.{said_script}
use Rattle.script_runner.proofs.Whole.{whole-of}
use Rattle.script_runner.proofs.Working.{new-count, new-ready}
use Rattle.script_runner.proofs.noting.run_noted.Goals as goal

pub make_on-requires-clause-ready : goal.make_on-requires-clause-ready
make_on-requires-clause-ready g c = grind (arith, new-ready)

pub make_on-requires-clause-all : goal.make_on-requires-clause-all
make_on-requires-clause-all g c = grind (arith, common_steps, new-count)

pub returns-clause-done : goal.returns-clause-done
returns-clause-done g c =
    let mq = c.in-Ok.mq in let script = said_script c.args.script.now in let before =
    c.in-Ok.processes.items in
    let noted = c.make_on.new.noted.items in let replies = lines_of noted in
    IfOk-weaker c.make_on.result
    (λ journal. RunsOn mq before script.phases replies journal.records ×
    (some_refused noted ≡ false)) (λ journal. RunsServed script noted journal.records)
    (λ journal runs. record {
      ran = whole-of script mq before replies journal.records c.in-Ok.ensures.count
          c.requires.processes.1 c.in-Ok.ensures.bounds c.in-Ok.ensures.processes runs.0;
      served = runs.1;
    })
    c.make_on.ensures.done
