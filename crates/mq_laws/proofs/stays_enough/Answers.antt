use Rattle.std.proofs.Common.{◌≡◌, true}
use Rattle.mq_laws.proofs.Needing.{enough-push, enough-forget}
use Rattle.mq_laws.proofs.stays_enough.Goals as goal

pub returns : goal.returns
returns c = let past = c.args.journal.now.records in record {
  added = λ r has after next new old enough. enough-push past r (λ k. has k ≡ true) (λ k. after k ≡
      true) (c.requires, next) new old enough;
  dropped = λ q has after gone others enough. enough-forget past q (λ k. has k ≡ true)
      (λ k. after k ≡ true) gone others enough;
}
