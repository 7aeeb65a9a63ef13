use Rattle.std.proofs.Common.{◌≡◌, ◌+◌, ◌++◌, true, Some, length, map, take, drop}
use Rattle.std.specs.List.{list_all}
use Rattle.std.specs.Vec.Iter.{into_iter_items, into_iter_len}
use Rattle.c_handles.specs.Standings.{ticket_of}
use Rattle.c_handles.specs.Handles.{process_in}
use Rattle.c_handles.specs.Systems.{is_empty}
use Rattle.c_handles.proofs.system.fill.Given as goal

abbrev pub invariant-members : goal.invariant-members
invariant-members l = record {
  all : l.yielded ++ into_iter_items l.member-iterator ≡ into_iter_items l.initial.member-iterator;
  left : into_iter_len l.member-iterator ≡ length (into_iter_items l.member-iterator);
  place : l.place + into_iter_len l.member-iterator ≡ length l.processes;
  done : map process_in (take l.place l.processes) ≡
      map (λ b. Some (ticket_of b.value.standing)) l.yielded;
  rest : list_all is_empty (drop l.place l.processes) ≡ true;
}
