use Rattle.std.proofs.Common.{◌≡◌, ◌++◌, length}
use Rattle.std.specs.Vec.Iter.{into_iter_items, into_iter_len}
use Rattle.script_runner.specs.Members.{AllGive}
use Rattle.script_runner.proofs.phase.join_all.Given as goal

abbrev pub invariant-loop-member : goal.invariant-loop-member
invariant-loop-member g l = record {
  all : l.yielded ++ into_iter_items l.member-iterator ≡ into_iter_items l.initial.member-iterator;
  left : into_iter_len l.member-iterator ≡ length (into_iter_items l.member-iterator);
  give : AllGive l.yielded l.workers.items;
}
