use Rattle.std.proofs.Common.{◌≡◌, ◌∙◌, length, sym}
use Rattle.std.proofs.lemmas.List.{length-map}
use Rattle.script_text.specs.Script.{said_calls, said_script}
use Rattle.journal_tasks.specs.EveryOrder.{answer_text}
use Rattle.journal_tasks.proofs.Answering.{found-from, text-from}
use Rattle.journal_tasks.proofs.every_order.try_script.Goals as goal

pub returns-in_err-write_all-clause-output : goal.returns-in_err-write_all-clause-output
returns-in_err-write_all-clause-output g c = λ failed.
    let script = said_script c.args.script.now in
    let play = c.in_ok-play.play in
    let collected = c.in_ok-collected.collected in
    let begins = c.in_ok-play.ensures.begins in
    let ensured = c.in_ok-collected.ensures in
    let phases : c.len-phases.result ≡ length script.phases = c.len-phases.ensures ∙
    c.args.script.now.phases.ok.0 ∙ sym (length-map c.args.script.now.phases.items
    (λ phase. said_calls phase.items)) in
    let text : c.as_slice.result.now ≡ answer_text c.args.trial.journal (length script.phases)
    play collected =
    c.as_slice.ensures.value ∙ c.in_ok-said.ensures ∙ text-from c.args.trial.journal
    c.len-phases.result (length script.phases) play c.outcomes_of.new.play collected phases
    ensured.start begins.first in
    record {
      from = play;
      begins = begins;
      says = c.in_ok-play.ensures.script;
      collected = collected;
      found = found-from c.args.trial.budget play collected begins.first ensured.witnessed
          ensured.distinct ensured.all ensured.used_up ensured.steps ensured.within
          ensured.states ensured.legal;
      written = rw text at c.in_err-write_all.ensures.failed;
    }

pub returns-clause-done : goal.returns-clause-done
returns-clause-done g c =
    let script = said_script c.args.script.now in
    let play = c.in_ok-play.play in
    let collected = c.in_ok-collected.collected in
    let begins = c.in_ok-play.ensures.begins in
    let ensured = c.in_ok-collected.ensures in
    let phases : c.len-phases.result ≡ length script.phases = c.len-phases.ensures ∙
    c.args.script.now.phases.ok.0 ∙ sym (length-map c.args.script.now.phases.items
    (λ phase. said_calls phase.items)) in
    let text : c.as_slice.result.now ≡ answer_text c.args.trial.journal (length script.phases)
    play collected =
    c.as_slice.ensures.value ∙ c.in_ok-said.ensures ∙ text-from c.args.trial.journal
    c.len-phases.result (length script.phases) play c.outcomes_of.new.play collected phases
    ensured.start begins.first in
    record {
      from = play;
      begins = begins;
      says = c.in_ok-play.ensures.script;
      collected = collected;
      found = found-from c.args.trial.budget play collected begins.first ensured.witnessed
          ensured.distinct ensured.all ensured.used_up ensured.steps ensured.within
          ensured.states ensured.legal;
      ends = c.answer_ending.ensures;
      written = rw text at c.in_ok-write_all.ensures.whole;
    }
