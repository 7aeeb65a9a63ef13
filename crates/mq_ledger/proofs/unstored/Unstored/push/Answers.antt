use Rattle.std.proofs.Common.{length, refl, ap, ◌∙◌}
use Rattle.mq_ledger.specs.Seen.{Seen}
use Rattle.mq_ledger.proofs.unstored.Unstored.push.Goals as goal

pub keep-requires-clause-home : goal.keep-requires-clause-home
keep-requires-clause-home c = c.home_of-home.ensures c.args.self.now.records
    (record { entry = c.args.entry; payload = c.args.payload.now }) (c.self.invariant.count ∙
    ap (λ (v : Seen). length v.records) c.self.view_is) refl c.requires.queue
