use Rattle.std.proofs.Common.{◌≡◌, map, take, drop, ◌++◌}
use Rattle.mq_state.specs.Queues.{reregistered}
use Rattle.mq_state.proofs.queues.note_registrations.Given as goal

abbrev pub invariant-loop-i : goal.invariant-loop-i
invariant-loop-i l = l.queues ≡ map (reregistered l.q l.here l.entry) (take l.i l.initial.queues) ++
    drop l.i l.initial.queues
