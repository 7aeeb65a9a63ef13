use Rattle.std.proofs.Common.{arith, ◌≡◌, ◌∙◌, false, length}
use Rattle.std.proofs.lemmas.Grind.{common_steps}
use Rattle.std.proofs.lemmas.Result.{IfOk-weaker}
use Rattle.fast_mutex.specs.Items.{tickets_with}
use Rattle.script_runner.specs.Notes.{RunsServedAfter, lines_of, some_refused}
use Rattle.script_runner.specs.Runs.{RunsOn}
use Rattle.script_text.specs.Script.{said_script}
use Rattle.script_runner.proofs.Whole.{after-of, begin-after, many-after, ready-after}
use Rattle.script_runner.proofs.after.run_after.Goals as goal

pub make_on-requires-clause-ready : goal.make_on-requires-clause-ready
make_on-requires-clause-ready g c κs within =
    let mq = c.in-Ok.mq in let past = c.args.books.records in let n = c.args.script.now.processes in
    let before = c.in-Ok.processes.items in
    ready-after mq past n before (begin-after mq past c.args.books.n n before
    c.in-Ok.ensures.processes c.requires.count) c.requires.free

pub make_on-requires-clause-all : goal.make_on-requires-clause-all
make_on-requires-clause-all g c =
    let mq = c.in-Ok.mq in let past = c.args.books.records in let before =
    c.in-Ok.processes.items in
    let many : length before ≡ c.args.books.n = many-after mq past c.args.books.n before
    c.in-Ok.ensures.processes in
    grind (arith, common_steps)

pub returns-clause-done : goal.returns-clause-done
returns-clause-done g c =
    let mq = c.in-Ok.mq in let script = said_script c.args.script.now in let before =
    c.in-Ok.processes.items in let past = c.args.books.records in
    let noted = c.make_on.new.noted.items in let replies = lines_of noted in
    let are : before ≡ tickets_with mq past 1 script.processes = begin-after mq past c.args.books.n
    script.processes before c.in-Ok.ensures.processes c.requires.count in
    IfOk-weaker c.make_on.result
    (λ journal. RunsOn mq before script.phases replies journal.records ×
    (some_refused noted ≡ false)) (λ journal. RunsServedAfter past script noted journal.records)
    (λ journal runs. record {
      ran = after-of past script mq before replies journal.records (c.in-Ok.ensures.count ∙
          c.requires.count) c.requires.processes.1 (c.in-Ok.ensures.bounds ∙ c.requires.stored.0)
          c.requires.free are runs.0;
      served = runs.1;
    })
    c.make_on.ensures.done
