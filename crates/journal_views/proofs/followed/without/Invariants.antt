use Rattle.std.proofs.Common.{◌≡◌, ◌++◌, drop, not}
use Rattle.std.specs.List.{filter}
use Rattle.std.specs.Str.{bytes_eq}
use Rattle.mq_model.specs.Names.{name_of}
use Rattle.journal_views.proofs.followed.without.Given as goal

abbrev pub invariant-loop-q : goal.invariant-loop-q
invariant-loop-q l =
    l.left.items ++ filter (λ q. not (bytes_eq (name_of l.journal.records q) l.name))
    (drop l.q-index l.queues)
    ≡ filter (λ q. not (bytes_eq (name_of l.journal.records q) l.name)) l.queues
