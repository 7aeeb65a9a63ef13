use Rattle.std.proofs.Common.{◌≡◌, ◌∙◌, map}
use Rattle.std.proofs.lemmas.List.Elements.{All-map, All-same}
use Rattle.fast_mutex.specs.Items.{Ticket}
use Rattle.mq_model.specs.Record.{Record}
use Rattle.script_runner.specs.declared.turns.Worked.{Worked}
use Rattle.script_runner.proofs.meeting.meet.Goals as goal

pub find_one_stand-requires : goal.find_one_stand-requires
find_one_stand-requires g c =
    let mq = c.args.mq.now in let workers = c.args.workers.items in
    All-same (λ (p : Ticket Record). p.lock ≡ mq) c.as_mut_slice.result.now
    (map (λ worked. worked.process) workers) (c.as_mut_slice.ensures.value ∙
    c.in_ok-processes.ensures)
    (All-map (λ (p : Ticket Record). p.lock ≡ mq) (λ (worked : Worked (Ticket Record)).
    worked.process) workers c.requires)
