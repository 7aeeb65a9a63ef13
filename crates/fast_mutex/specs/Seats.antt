-- The seats of a lock. They are dealt out when it is made, and joined again when it ends. Every
-- lock does this in the same way.
use Rattle.std.specs.Prelude.{◌≡◌, ℕ, zero, suc, ◌+◌, ◌≤◌, Bool, false, cond, eqb, List, [], ◌∷◌, ◌++◌, length, Option as Opt, Some}
use Rattle.std.specs.List.{AllByRecursion as Each}
use mathlib.Core.Option.{some}
use lib.ListN.{get_elem?}
use Rattle.atomic_table.specs.Table.{State, Me, Splits, Joins, Final, Seen}
use Rattle.atomic_table.specs.Seated.{TableId}
use Rattle.atomic_table.specs.declared.shared.Seat.{Seat}
use Rattle.fast_mutex.specs.Items.{LockId, Ticket, Grows}
use Rattle.fast_mutex.specs.declared.seats.About.{About}

-- the number of a seat, and the list that it last left
abbrev pub Claim : Type 0 → Type 0
Claim I = ℕ × List I

-- the number of processes, and the fixed part of the state
abbrev pub Fixed : Type 0
Fixed = ℕ × List ℕ

abbrev pub lock_id : TableId → Fixed → LockId
lock_id table fixed = record { table = table; count = fixed.0; fixed = fixed.1 }

-- the sum of f over all views
abbrev pub sum_over : {V : Type 0} → (V → ℕ) → List V → ℕ
sum_over f [] = 0
sum_over f (v ∷ vs) = f v + sum_over f vs

module _ {I : Type 0} where
  -- the claims of n seats from number k on, each of which has left this list
  abbrev pub new_claims : List I → ℕ → ℕ → List (Claim I)
  new_claims left k zero = []
  new_claims left k (suc n) = (k, left) ∷ new_claims left (suc k) n

  -- how often the number k is claimed
  abbrev pub times : ℕ → List (Claim I) → ℕ
  times k [] = 0
  times k (c ∷ cs) = cond (eqb c.0 k) 1 0 + times k cs

  abbrev pub first_claim : List (Claim I) → List (Claim I)
  first_claim [] = []
  first_claim (c ∷ cs) = c ∷ []

  abbrev pub other_claims : List (Claim I) → List (Claim I)
  other_claims [] = []
  other_claims (c ∷ cs) = cs

  -- the claims after the first seat has left the list `now`
  abbrev pub claims_after : List I → List (Claim I) → List (Claim I)
  claims_after now [] = []
  claims_after now (c ∷ cs) = (c.0, now) ∷ cs

  -- the list that the first seat last left
  abbrev pub last_left : List (Claim I) → List I
  last_left [] = []
  last_left (c ∷ cs) = c.1

abbrev pub made_with : {S : Type 0} → (S → List ℕ) → About S → Fixed
made_with fixes about = (about.count, fixes about.state.value)

module _ {S I : Type 0} (fixes : S → List ℕ) (author : I → ℕ) (about : About S) where
  -- A claim's number is that of a process, and the current list extends the claim's by items of
  -- others only.
  abbrev pub IsGood : Fixed → List I → Claim I → Type 0
  IsGood fixed now c = (fixed ≡ made_with fixes about) × (1 ≤ c.0) × (c.0 ≤ about.count) ×
      Grows author c.0 c.1 now []

-- How a view of a lock stands for a seat at rest, outside the critical section. `rest` changes the
-- fixed part and the claims, and nothing else that the seat knows.
pub record Resting (V I : Type 0) : Type 0 where
  pub fixed : V → Fixed
  pub claims : V → List (Claim I)
  pub told : V → Bool
  pub rest : V → Fixed → List (Claim I) → V
  -- the view of a seat that was joined to another
  pub blank : V
  pub rest_fixed : (v : V) (f : Fixed) (cs : List (Claim I)) → fixed (rest v f cs) ≡ f
  pub rest_claims : (v : V) (f : Fixed) (cs : List (Claim I)) → claims (rest v f cs) ≡ cs
  pub rest_again : (v : V) (f g : Fixed) (cs ds : List (Claim I)) →
      rest (rest v f cs) g ds ≡ rest v g ds
  pub fresh_told : (f : Fixed) (cs : List (Claim I)) → told (rest blank f cs) ≡ false

module _ {V I : Type 0} (r : Resting V I) where
  -- of a seat that knows nothing else
  abbrev pub fresh : Fixed → List (Claim I) → V
  fresh f cs = r.rest r.blank f cs

  -- A seat splits: one part gets the first claim, the other the rest.
  abbrev pub view_of_first : V → V
  view_of_first v = fresh (r.fixed v) (first_claim (r.claims v))

  abbrev pub view_of_others : V → V
  view_of_others v = fresh (r.fixed v) (other_claims (r.claims v))

  -- One seat takes the claims of another, which is then used up.
  abbrev pub joint_view : V → V → V
  joint_view v w = fresh (r.fixed v) (r.claims w ++ r.claims v)

  -- the claim of the seat of process k
  abbrev pub claim_of : ℕ → V → Claim I
  claim_of k v = (k, last_left (r.claims v))

module _ {S V I : Type 0} (r : Resting V I) where
  -- The seat of process k, and of no other, is at rest.
  abbrev pub IsAlone : ℕ → Me (Opt S) V → Type 0
  IsAlone k me = me ≡ (r.rest me.0 (r.fixed me.0) (claim_of r k me.0 ∷ []), [])

  -- what the seat of process k knows
  abbrev pub ticket_of : ℕ → Seat (Opt S) V → Ticket I
  ticket_of k s = record {
    lock = lock_id s.table_id (r.fixed s.me.0);
    number = k;
    left = last_left (r.claims s.me.0);
    told = r.told s.me.0;
  }

-- The first seat has the claims of all processes. Each has left the list of the state that the lock
-- was made with.
module _ {S V I : Type 0} (r : Resting V I) (shows : S → List I) (fixes : S → List ℕ) where
  abbrev pub first_view : About S → V
  first_view about = fresh r (made_with fixes about)
      (new_claims (shows about.state.value) 1 about.count)

-- What the rule of a lock has to keep: seats at rest split and join, and a seat with all claims
-- finds the state in its slot.
pub record Deals {S V I : Type 0} (r : Resting V I) (shows : S → List I) (fixes : S → List ℕ)
    (author : I → ℕ) (about : About S) (holds : State (Opt S) V → Type 0) : Type 0 where
  pub splits : (id : ℕ) (v : V) (f : Fixed) (c : Claim I) (cs : List (Claim I)) →
      v ≡ fresh r f (c ∷ cs) → Splits holds id v (view_of_others r v) (view_of_first r v)
  pub joins : (id : ℕ) (v : V) (other : ℕ) (w : V) (f : Fixed) (cs ds : List (Claim I)) →
      v ≡ r.rest v f cs → w ≡ r.rest w f ds → Joins holds id v other w (joint_view r v w) r.blank
  pub ends : (id : ℕ) (v : V) (f : Fixed) (cs : List (Claim I)) (ws : List ℕ) (xs : List (Opt S)) →
      v ≡ r.rest v f cs → about.count ≤ length cs → Final (Seen holds id v) ws xs
      → (st : S) × (get_elem? xs 0 ≡ some (Some st)) × (fixes st ≡ fixes about.state.value) ×
      Each (λ (c : Claim I). Grows author c.0 c.1 (shows st) []) cs
