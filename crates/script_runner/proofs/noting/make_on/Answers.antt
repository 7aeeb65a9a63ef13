use Rattle.std.proofs.Common.{arith, ◌≡◌, ◌++◌, [], ◌∙◌, ap}
use Rattle.std.proofs.lemmas.Grind.{common_steps}
use Rattle.script_runner.specs.Notes.{lines_of}
use Rattle.script_runner.specs.Runs.{RunsPhases}
use Rattle.script_text.specs.Script.{said_phases}
use Rattle.script_runner.proofs.noting.make_on.Goals as goal

pub journal_of-requires-clause-made : goal.journal_of-requires-clause-made
journal_of-requires-clause-made g c = grind arith

pub journal_of-requires-clause-all : goal.journal_of-requires-clause-all
journal_of-requires-clause-all g c = grind (arith, common_steps)

pub returns-in-Ok-clause-done : goal.returns-in-Ok-clause-done
returns-in-Ok-clause-done g c =
    let after = c.in-Ok.processes.items in
    let ran = c.in-Ok.ensures.ran in
    let none : lines_of c.args.noted.now.items ≡ [] = ap lines_of c.requires.nothing in
    let replies : lines_of c.run-ran.new.sink.items ≡ ran.0 =
    ran.3 ∙ ap (λ lines. lines ++ ran.0) none in
    let phases : RunsPhases (said_phases c.args.script.now.phases.items) c.args.processes.items
    after ran.0 = rw c.as_slice-phases.ensures.value at ran.1 in (
      record {
        processes = after;
        ran = rw replies phases;
        legal = c.journal_of.ensures.legal;
        authors = c.journal_of.ensures.authors;
        grows = c.journal_of.ensures.grows;
      },
      cc,
    )
