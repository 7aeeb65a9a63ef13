use Rattle.std.proofs.Common.{inl}
use Rattle.c_handles.proofs.system.new.Goals as goal

pub returns-in-Ok : goal.returns-in-Ok
returns-in-Ok c = inl (rw (c.in-Ok.ensures.bounds, c.in-Ok.ensures.stored) at
    c.hand_out_new.ensures)
