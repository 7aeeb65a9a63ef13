use Rattle.std.proofs.Common.{refl}
use Rattle.fast_mutex.proofs.WordKeeps.{starts}
use Rattle.fast_mutex.proofs.word.WordLock.furnish.Goals as goal

pub furnish-requires : goal.furnish-requires
furnish-requires g c = starts g.S.Logged.items g.S.Logged.fixed g.S.Logged.author
    (record { count = c.args.count; state = c.of.result }) c.args.state _ refl c.of.ensures
