-- An exit closes the descriptors that are held, in ascending order.
use Rattle.std.proofs.Common.{◌≡◌, ℕ, zero, suc, ◌+◌, ◌<◌, ◌≤◌, ◌==◌, Bool, false, List, [], ◌∷◌, ◌++◌, Option, Some, None, is_some, refl, arith, eqb-true}
use Rattle.std.specs.List.{All, find}
use Rattle.std.proofs.lemmas.List.Elements.{All-head, All-tail}
use Rattle.std.proofs.lemmas.Bool.{eqb-false}
use Rattle.fast_mutex.specs.Items.{Grows, items_of}
use Rattle.mq.specs.Calls.{AreInTurn, author, closes}
use Rattle.mq.proofs.Closings.{from-closed, lowest-held}
use Rattle.mq_model.specs.Descriptors.{descriptor_numbers, held, lowest_held, numbers_from}
use Rattle.mq_model.specs.Record.{Past}
use Rattle.mq_model.specs.Threads.{shares}
use Rattle.mq_model.proofs.Mates.{shares_own}
use Rattle.mq_model.specs.declared.bounds.Bounds.{Bounds}
use Rattle.script_orders.specs.Scenes.{close_first}
use Rattle.schedules.proofs.Backing.{all-front}
use Rattle.schedules.proofs.Removing.{is-none}

-- numbers below the first one that passes do not pass
find-below : (t : ℕ → Bool) (low n d e : ℕ) → find t (numbers_from low n) ≡ Some d → low ≤ e →
    e < d → t e ≡ false
find-below t low zero d e is le lt = absurd (cc)
find-below t low (suc n) d e is le lt = grind (
  arith,
  eqb-true,
  eqb-false,
  find-below t
      (low + 1) n d e,
)

-- if none passes
find-none : (t : ℕ → Bool) (low n e : ℕ) → find t (numbers_from low n) ≡ None → low ≤ e →
    e < low + n → t e ≡ false
find-none t low zero e is le lt = absurd (omega (arith, le, lt))
find-none t low (suc n) e is le lt = grind (arith, eqb-true, eqb-false, find-none t (low + 1) n e)

-- the process holds none of the first n descriptors
abbrev pub HoldsNone : Past → ℕ → ℕ → Type 0
HoldsNone past p n = (e : ℕ) → e < n → held past p e ≡ None

none-below : (past : Past) (p d : ℕ) → lowest_held past p ≡ Some d → HoldsNone past p d
unfolding descriptor_numbers
none-below past p d is e lt = is-none (held past p e) (find-below (λ d. is_some (held past p d)) 0
    16 d e is (omega arith) lt)

none-held : (past : Past) (p : ℕ) → lowest_held past p ≡ None → HoldsNone past p 16
unfolding descriptor_numbers
none-held past p is e lt = is-none (held past p e) (find-none (λ d. is_some (held past p d)) 0 16 e
    is (omega arith) (omega (arith, lt)))

-- the descriptor that was closed last is below this one
abbrev IsBelow : List ℕ → ℕ → Type 0
IsBelow [] n = Unit {0}
IsBelow (d ∷ ds) n = d < n

below-next : (bounds : Option Bounds) (found : Past) (p d : ℕ) (ds : List ℕ) →
    AreInTurn bounds found p ds → lowest_held (closes p ds ++ found) p ≡ Some d → IsBelow ds d
below-next bounds found p d [] in_turn lowest = tt
below-next bounds found p d (e ∷ ds) in_turn lowest =
    omega (arith, from-closed (closes p ds ++ found) p e in_turn.1 d lowest)

-- those of the first n that were held are closed
closed : (bounds : Option Bounds) (found : Past) (p n : ℕ) (ds : List ℕ) →
    AreInTurn bounds found p ds → IsBelow ds n → HoldsNone (closes p ds ++ found) p n →
    close_first found p n ≡ closes p ds ++ found
closed bounds found p zero [] in_turn below none = refl
closed bounds found p zero (d ∷ ds) in_turn below none = absurd (omega (arith, below))
closed bounds found p (suc m) [] in_turn below none =
    grind (arith, closed bounds found p m [] tt tt)
closed bounds found p (suc m) (d ∷ ds) in_turn below none = grind (
  arith,
  eqb-true,
  below-next,
  none-below,
  lowest-held,
  eqb-false,
  closed bounds found p m ds in_turn.0,
  closed bounds found p m (d ∷ ds) in_turn,
)

below-all : (bounds : Option Bounds) (found : Past) (p : ℕ) (ds : List ℕ) →
    AreInTurn bounds found p ds → IsBelow ds 16
below-all bounds found p [] in_turn = tt
below-all bounds found p (d ∷ ds) in_turn = (lowest-held (closes p ds ++ found) p d in_turn.1).1

-- if nothing is held after closes, each of the lowest descriptor, they are those of an exit
pub exit-closes : (bounds : Option Bounds) (found : Past) (p : ℕ) (ds : List ℕ) →
    AreInTurn bounds found p ds → lowest_held (closes p ds ++ found) p ≡ None →
    close_first found p 16 ≡ closes p ds ++ found
exit-closes bounds found p ds in_turn none = closed bounds found p 16 ds in_turn
    (below-all bounds found p ds in_turn) (none-held (closes p ds ++ found) p none)

-- all records are of the first threads of processes
abbrev pub AreFirst : Past → Type 0
AreFirst past = All (λ r. author r ≤ 32) past

-- records of other processes do not change what a process holds
held-more : (p d : ℕ) (more past : Past) → p ≤ 32 → AreFirst more → items_of author p more ≡ [] →
    held (more ++ past) p d ≡ held past p d
held-more p d [] past few first none = refl
held-more p d (r ∷ more) past few first none =
    let one : shares (author r) p ≡ (author r == p) = shares_own (author r) p
    (All-head (λ r. author r ≤ 32) r more first) few in
    grind (arith, held-more p d more past few (All-tail (λ r. author r ≤ 32) r more first))

-- if a process holds nothing, its exit does not change the journal, even if other processes add
-- records
pub exit-idles : (p : ℕ) (before after : Past) → p ≤ 32 → AreFirst after →
    Grows author p before after [] → lowest_held after p ≡ None → close_first before p 16 ≡ before
exit-idles p before after few first g none =
    let others : AreFirst g.behind = all-front (λ r. author r ≤ 32) g.behind after
    before g.is first in
    grind (arith, closed, held-more, none-held)
