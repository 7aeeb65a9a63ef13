use Rattle.std.proofs.Common.{arith, ◌≡◌, ◌≢◌, ◌∙◌, ◌==◌, List, [], length, map, refl, subst, sym, true, vec_len}
use Rattle.std.proofs.lemmas.Grind.{common_steps}
use Rattle.std.specs.Io.KnownBytes.{Appends}
use Rattle.fast_mutex.specs.Items.{Ticket}
use Rattle.mq_model.specs.Record.{Record}
use Rattle.text_io.specs.Output.{AppendsTooLittle}
use Rattle.script_runner.specs.Phase.{text_in}
use Rattle.script_runner.specs.Stands.{ComesToAStand, blocked_lines, blocked_processes}
use Rattle.script_text.specs.Script.{said_calls}
use Rattle.script_runner.specs.declared.turns.Worked.{Worked}
use Rattle.script_runner.proofs.Agreeing.{met-count, met-ready, stand-meets}
use Rattle.script_runner.proofs.Standing.{all-made, none-left, phase-stands, stuck-same, through}
use Rattle.script_runner.proofs.Working.{AllWorkOff, phase-done, same-lengths, shares-ready}
use Rattle.script_runner.proofs.runner.Runner.run_phase.Goals as goal

pub make_calls-requires-after_bounds : goal.make_calls-requires-after_bounds
make_calls-requires-after_bounds g c κs within =
    record { all = shares-ready _ c.in_ok-shares.ensures.processes c.requires }

pub meet-requires : goal.meet-requires
meet-requires g c =
    all-made c.args.self.now.mq.now c.in_ok-shares.shares.items c.in_ok-workers.workers.items
    c.in_ok-workers.ensures
    (record { all = shares-ready _ c.in_ok-shares.ensures.processes c.requires })

pub returns-then-not-is_empty-clause-deadlock : goal.returns-then-not-is_empty-clause-deadlock
returns-then-not-is_empty-clause-deadlock g c = λ after lines failed.
    let shares = c.in_ok-shares.shares.items in let workers = c.in_ok-workers.workers.items in
    let calls = said_calls c.args.calls.now in let before = c.args.processes.items in
    let are : c.in_ok-lines.lines.items ≡ blocked_lines workers = grind (arith, common_steps) in
    let some : c.in_ok-lines.lines.items ≢ [] = grind (arith, common_steps) in
    let waits : c.in_ok-blocked.blocked.items ≡ blocked_processes workers =
    grind (arith, common_steps) in
    let stands : ComesToAStand calls before c.in_ok-lines.lines.items
    c.in_ok-processes.processes.items =
    phase-stands calls shares workers before c.in_ok-lines.lines.items c.in_ok-blocked.blocked.items
    c.in_ok-processes.processes.items c.in_ok-workers.ensures c.in_ok-shares.ensures.calls
    c.in_ok-shares.ensures.processes are some waits (grind (arith, common_steps)) in (
      stuck-same (λ ls ts. ComesToAStand calls before ls ts) _ c.in_ok-processes.processes after
          c.in_ok-lines.lines lines refl failed stands,
      c.take.ensures.unwritten,
    )

pub returns-in_err-end-clause-output : goal.returns-in_err-end-clause-output
returns-in_err-end-clause-output g c = λ failed.
    let shares = c.in_ok-shares.shares.items in let workers = c.in_ok-workers.workers.items in
    let ended = map (λ worked. worked.process) workers in
    let are : c.in_ok-lines.lines.items ≡ blocked_lines workers = grind (arith, common_steps) in
    let is : (vec_len c.in_ok-lines.lines == 0) ≡ true = sym c.is_empty.ensures ∙
    c.if-not-is_empty.false in
    let none : blocked_lines workers ≡ [] = sym are ∙ none-left c.in_ok-lines.lines is in
    let off : AllWorkOff shares workers = through shares workers c.in_ok-workers.ensures none in
    let text = text_in workers in
    let made : g.K.Sink.is_of c.in_ok-taken.taken text =
    subst (λ (ws : List (Worked (Ticket Record))). g.K.Sink.is_of c.in_ok-taken.taken (text_in ws))
    c.deref.ensures.value c.in_ok-taken.ensures.made in (
      ended,
      text,
      phase-done (said_calls c.args.calls.now) shares workers c.args.processes.items ended
          (text_in workers) off c.in_ok-shares.ensures.calls c.in_ok-shares.ensures.processes refl
          refl,
      subst (λ known. AppendsTooLittle known (g.K.Sink.written c.end.new.self) text)
          c.take.ensures.unwritten (c.in_err-end.ensures.failed text made),
    )

pub returns-clause-ready : goal.returns-clause-ready
returns-clause-ready g c =
    let shares = c.in_ok-shares.shares.items in let workers = c.in_ok-workers.workers.items in
    let are : c.in_ok-lines.lines.items ≡ blocked_lines workers = grind (arith, common_steps) in
    let is : (vec_len c.in_ok-lines.lines == 0) ≡ true = sym c.is_empty.ensures ∙
    c.if-not-is_empty.false in
    let none : blocked_lines workers ≡ [] = sym are ∙ none-left c.in_ok-lines.lines is in
    let off : AllWorkOff shares workers = through shares workers c.in_ok-workers.ensures none in
    met-ready c.args.self.now.mq.now shares workers c.in_ok-processes.processes.items off
    (shares-ready _ c.in_ok-shares.ensures.processes c.requires)
    (stand-meets c.in_ok-processes.ensures)

pub returns-clause-count : goal.returns-clause-count
returns-clause-count g c =
    let shares = c.in_ok-shares.shares.items in let workers = c.in_ok-workers.workers.items in
    let ended = map (λ worked. worked.process) workers in
    let are : c.in_ok-lines.lines.items ≡ blocked_lines workers = grind (arith, common_steps) in
    let is : (vec_len c.in_ok-lines.lines == 0) ≡ true = sym c.is_empty.ensures ∙
    c.if-not-is_empty.false in
    let none : blocked_lines workers ≡ [] = sym are ∙ none-left c.in_ok-lines.lines is in
    let off : AllWorkOff shares workers = through shares workers c.in_ok-workers.ensures none in
    let same : length c.in_ok-processes.processes.items ≡ length c.args.processes.items =
    met-count ended c.in_ok-processes.processes.items (stand-meets c.in_ok-processes.ensures)
    ∙ same-lengths shares workers c.args.processes.items ended off c.in_ok-shares.ensures.processes
    refl in
    grind (arith, common_steps)

pub returns-clause-ran : goal.returns-clause-ran
returns-clause-ran g c =
    let shares = c.in_ok-shares.shares.items in let workers = c.in_ok-workers.workers.items in
    let ended = map (λ worked. worked.process) workers in
    let are : c.in_ok-lines.lines.items ≡ blocked_lines workers = grind (arith, common_steps) in
    let is : (vec_len c.in_ok-lines.lines == 0) ≡ true = sym c.is_empty.ensures ∙
    c.if-not-is_empty.false in
    let none : blocked_lines workers ≡ [] = sym are ∙ none-left c.in_ok-lines.lines is in
    let off : AllWorkOff shares workers = through shares workers c.in_ok-workers.ensures none in
    let text = text_in workers in
    let made : g.K.Sink.is_of c.in_ok-taken.taken text =
    subst (λ (ws : List (Worked (Ticket Record))). g.K.Sink.is_of c.in_ok-taken.taken (text_in ws))
    c.deref.ensures.value c.in_ok-taken.ensures.made in
    let noted : Appends (g.K.Sink.noted c.args.sink.now) (g.K.Sink.noted c.take.new.self) text =
    subst (λ (ws : List (Worked (Ticket Record))). Appends (g.K.Sink.noted c.args.sink.now)
    (g.K.Sink.noted c.take.new.self) (text_in ws)) c.deref.ensures.value
    c.in_ok-taken.ensures.noted in (
      text,
      record {
        ended = ended;
        ran = phase-done (said_calls c.args.calls.now) shares workers c.args.processes.items ended
            (text_in workers) off c.in_ok-shares.ensures.calls c.in_ok-shares.ensures.processes refl
            refl;
        met = stand-meets c.in_ok-processes.ensures;
      },
      subst (λ known. Appends known (g.K.Sink.written c.end.new.self) text) c.take.ensures.unwritten
          (c.in_ok-end.ensures.written text made),
      subst (λ known. Appends (g.K.Sink.noted c.args.sink.now) known text)
          (sym c.end.ensures.noted) noted,
    )
