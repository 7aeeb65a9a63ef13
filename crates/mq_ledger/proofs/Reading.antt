-- Which entries can still be read.
use Rattle.std.proofs.Common.{◌≡◌, ℕ, false, List, Option, arith}
use Rattle.mq_ledger.specs.Seen.{HasPlace}
use Rattle.mq_ledger.specs.Ledgers.{Shown, CanRead}

-- of a journal that is not stored, what its places keep
pub reads-fewer : (old new : Shown) (a b : List (Option ℕ)) (k : ℕ) → old.stored ≡ false →
    old.places ≡ a → new.places ≡ b → (HasPlace a k → HasPlace b k) → CanRead old k → CanRead new k
reads-fewer old new a b k unstored is_a is_b step h = grind arith
