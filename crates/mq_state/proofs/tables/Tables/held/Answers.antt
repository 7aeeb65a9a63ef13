use Rattle.std.proofs.Common.{◌≡◌, ◌∙◌, ℕ, Option, ap, IfSome, IsTrue, arith}
use Rattle.mq_model.specs.Record.{Past}
use Rattle.mq_model.specs.Descriptors.{held, alive}
use Rattle.mq_model.specs.Messages.{is_in}
use Rattle.mq_model.specs.Legality.{Legal}
use Rattle.mq_model.specs.Owners.{held_in}
use Rattle.mq_model.specs.declared.entries.Description.{Description}
use Rattle.mq_model.proofs.HeldQueues.{held-alive}
use Rattle.mq_state.proofs.tables.Tables.held.Goals as goal

lives : (past : Past) → Legal past → (p d : ℕ) (o : Option Description) → o ≡ held past p d →
    IfSome o (λ h. IsTrue (is_in (alive past) h.queue))
lives past legal p d o e = grind (arith, held-alive)

pub returns : goal.returns
returns c =
    let is = c.held.ensures ∙ ap (λ xs. held_in xs c.args.p c.args.d) c.deref.ensures.value ∙
    c.requires.mirror.lines.held c.args.p c.args.d in
    record {
      held = is;
      alive = lives c.args.journal.now.records c.requires.legal c.args.p c.args.d
          c.held.result is;
    }
