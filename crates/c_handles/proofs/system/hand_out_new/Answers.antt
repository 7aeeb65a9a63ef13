use Rattle.std.proofs.Common.{◌≡◌, ◌∙◌, [], ap, length}
use Rattle.std.proofs.lemmas.List.Elements.{All-same}
use Rattle.c_handles.specs.Systems.{IsDeadlineOf}
use Rattle.c_handles.proofs.Systems.{new_deadlines, nones, tickets_length, tickets_lock}
use Rattle.c_handles.proofs.system.hand_out_new.Goals as goal

pub hand_out-requires-clause-count : goal.hand_out-requires-clause-count
hand_out-requires-clause-count c = ap length c.requires.made ∙ tickets_length c.args.mq [] 1
    (length c.args.processes.now)

pub hand_out-requires-clause-made : goal.hand_out-requires-clause-made
hand_out-requires-clause-made c = All-same (λ p. p.lock ≡ c.args.mq) _ _ c.requires.made
    (tickets_lock c.args.mq [] 1 (length c.args.processes.now))

pub hand_out-requires-clause-deadlines : goal.hand_out-requires-clause-deadlines
hand_out-requires-clause-deadlines c = All-same (IsDeadlineOf (nones 33)) _ _ c.requires.made
    (new_deadlines c.args.mq (length c.args.processes.now) c.requires.few)
