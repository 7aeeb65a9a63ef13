use Rattle.std.proofs.Common.{◌≡◌}
use Rattle.fast_mutex.specs.Fast.{ticket_of}
use Rattle.tests_library.proofs.locks.walks.by_schedule.Given as goal

abbrev pub invariant-loop-i : goal.invariant-loop-i
invariant-loop-i g l = record {
  one : ticket_of l.one.number l.one.seat ≡ ticket_of l.initial.one.number l.initial.one.seat;
  two : ticket_of l.two.number l.two.seat ≡ ticket_of l.initial.two.number l.initial.two.seat;
}
