use Rattle.std.proofs.Common.{◌≡◌, ◌≤◌, ◌+◌, ◌++◌, length, map, vec_len, vec_capacity}
use Rattle.std.specs.Arc.{arc_value}
use Rattle.std.specs.List.{All}
use Rattle.std.specs.Vec.Iter.{into_iter_items, into_iter_len}
use Rattle.c_handles.specs.Standings.{ticket_of}
use Rattle.c_handles.specs.Systems.{IsDeadlineOf}
use Rattle.c_handles.proofs.system.members_of.Given as goal

abbrev pub invariant-made : goal.invariant-made
invariant-made l = record {
  all : l.yielded ++ into_iter_items l.process-iterator ≡
      into_iter_items l.initial.process-iterator;
  left : into_iter_len l.process-iterator ≡ length (into_iter_items l.process-iterator);
  done : map (λ b. ticket_of b.value.standing) l.members.items ≡ l.yielded;
  room : vec_len l.members + into_iter_len l.process-iterator ≤ vec_capacity l.members;
  locks : All (λ p. p.lock ≡ arc_value l.mq) (into_iter_items l.process-iterator);
  deadlines : All (IsDeadlineOf l.deadlines) (into_iter_items l.process-iterator);
}
