use Rattle.std.proofs.Common.{◌+◌, ◌≡◌, arith, length, subst}
use Rattle.mq_model.proofs.Prefixes.{legal-first}
use Rattle.journal_views.specs.Followed.{Follows}
use Rattle.journal_views.proofs.followed.follow.Goals as goal

pub note-requires-clause-legal : goal.note-requires-clause-legal
note-requires-clause-legal c = legal-first c.args.journal.now.records (c.loop-k.k + 1) c.requires

pub returns : goal.returns
returns c =
    let all : c.loop-k.k ≡ length c.args.journal.now.records = omega arith in
    subst (λ n. Follows c.args.journal.now.records n c.loop-k.f) all c.loop-k.invariant
