-- What the replies Opened and Done say.
use Rattle.std.proofs.Common.{◌≡◌, ℕ, ◌<◌, Bool, true, false, ◌&&◌, not, List, length, Option, Some, is_some, is_none, arith, ◌+◌, zero, suc, nat_le}
use Rattle.std.specs.List.{find}
use Rattle.mq_model.specs.Record.{Past}
use Rattle.mq_model.specs.Names.{bound_queue}
use Rattle.mq_model.specs.Descriptors.{held, lowest_free, alive, numbers_from, descriptor_numbers}
use Rattle.mq_model.specs.Legality.{reply_to_open}
use Rattle.mq_model.proofs.Places.{split}
use Rattle.mq_model.specs.declared.entries.Attr.{Attr}
use Rattle.mq_model.specs.declared.entries.OpenFlags.{OpenFlags}
use Rattle.mq_model.specs.declared.entries.Reply.{Reply}
use Rattle.mq_model.specs.declared.entries.Reply.TheVariants.{Opened}

-- a successful open: the number is the lowest free one; the queue was created if the name was not
-- bound, and then there was room for one more
pub record OpenedFacts (past : Past) (p : ℕ) (name : List ℕ) (d : ℕ) (created : Bool) : Type 0 where
  pub free : lowest_free past p ≡ Some d
  pub new : not (is_some (bound_queue past name)) ≡ created
  pub room : (created && nat_le 64 (length (alive past))) ≡ false

abbrev OpenedSays : Past → ℕ → List ℕ → Reply → Type 0
OpenedSays past p name (Opened d created) = OpenedFacts past p name d created
OpenedSays past p name reply = Unit {0}

opened-reply : (past : Past) (p : ℕ) (flags : OpenFlags) (attr : Option Attr) (name : List ℕ) →
    OpenedSays past p name (reply_to_open past p flags attr name)
opened-reply past p flags attr name = grind arith

pub opened-says : (past : Past) (p : ℕ) (flags : OpenFlags) (attr : Option Attr) (name : List ℕ)
    (d : ℕ) (created : Bool) → Opened d created ≡ reply_to_open past p flags attr name →
    OpenedFacts past p name d created
opened-says past p flags attr name d created e = rw (← e) at (opened-reply past p flags attr name)

find-below : (t : ℕ → Bool) (low n d : ℕ) → find t (numbers_from low n) ≡ Some d →
    (t d ≡ true) × (d < low + n)
find-below t low zero d e = absurd (cc)
find-below t low (suc n) d e = split (t low)
    (λ y. let is : Some low ≡ Some d = rw y at e in let same : low ≡ d = cc in
    (rw (← same) y, omega arith))
    (λ n'. let rest : find t (numbers_from (low + 1) n) ≡ Some d = rw n' at e in
    let x = find-below t (low + 1) n d rest in (x.0, let lt = x.1 in omega (arith, lt)))

-- the lowest free number is not held, and below sixteen
pub lowest_free-is : (past : Past) (p d : ℕ) → lowest_free past p ≡ Some d →
    (is_none (held past p d) ≡ true) × (d < 16)
unfolding descriptor_numbers
lowest_free-is past p d e = find-below (λ d. is_none (held past p d)) 0 16 d e
