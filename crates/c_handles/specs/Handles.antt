-- The process that a handle has.
use Rattle.std.specs.Prelude.{Bool, false, Option}
use Rattle.std.specs.Option.{option_map, unwrap_or}
use Rattle.fast_mutex.specs.Items.{Ticket}
use Rattle.mq_model.specs.Record.{Record}
use Rattle.c_handles.specs.declared.member.Member.{Member}
use Rattle.c_handles.specs.declared.handle.Handle.{Handle}
use Rattle.c_handles.specs.Standings.{ticket_of, is_under_way}

abbrev pub process_in : Handle → Option (Ticket Record)
process_in h = option_map (λ (m : Member). ticket_of m.standing) h.seal.member

-- whether it has an acquisition in progress
abbrev pub under_way_in : Handle → Bool
under_way_in h = unwrap_or (option_map (λ (m : Member). is_under_way m.standing) h.seal.member)
    false
