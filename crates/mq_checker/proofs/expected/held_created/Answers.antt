use Rattle.std.proofs.Common.{◌≡◌, ℕ, Option, Some, None, sym, IfSome, IsTrue}
use Rattle.mq_model.specs.Record.{Past, first}
use Rattle.mq_model.specs.Descriptors.{held, created}
use Rattle.mq_model.specs.Messages.{is_in}
use Rattle.mq_model.specs.Legality.{Legal}
use Rattle.mq_model.specs.declared.entries.Description.{Description}
use Rattle.mq_model.proofs.HeldQueues.{created-held}
use Rattle.mq_checker.proofs.expected.held_created.Goals as goal

made : (past : Past) → Legal past → (p d : ℕ) (o : Option Description) → o ≡ held past p d →
    IfSome o (λ h. IsTrue (is_in (created past) h.queue))
made past legal p d None e = tt
made past legal p d (Some h) e = created-held past legal p d h (sym e)

pub returns-clause-created : goal.returns-clause-created
returns-clause-created c = made (first c.args.k c.args.journal.now.records) c.requires.legal
    c.args.p c.args.d c.held.result c.held.ensures
