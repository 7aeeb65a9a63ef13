-- The prefixes of a history.
use Rattle.std.specs.Prelude.{◌≡◌, ◌<◌, ℕ, ◌+◌, ◌-◌, ◌^◌, Bool, false, not, ◌==◌, nat_lt, nat_le, ◌&&◌, ◌||◌, List, [], ◌∷◌, drop, Option, None, Some, get_or, length, slice_get, if◌then◌else◌}
use Rattle.std.specs.List.{list_any}
use Rattle.std.specs.List.Sorted.{IsPermutation, IsSorted}
use Rattle.std.specs.Ordering.{nat_cmp, ordering_then}
use Rattle.histories.specs.declared.operation.Operation.{Operation}
use Rattle.histories.specs.declared.operation.Outcome.TheVariants.{Pending}
use Rattle.histories.specs.Histories.{is_pending}
use Rattle.history_judge.specs.declared.line.Called.{Called}

-- the return of a call: its time, and the index of the call
abbrev pub Return : Type 0
Return = ℕ × ℕ

-- the returns of calls, in the order of the calls, whose indices start here
abbrev pub returns_from : ℕ → List Called → List Return
returns_from index [] = []
returns_from index (c ∷ calls) =
    if is_pending c.operation.outcome then returns_from (index + 1) calls
    else (c.operation.end, index) ∷ returns_from (index + 1) calls

-- The returns of a history in order. If two are at the same time, the one whose call comes first is
-- the earlier.
pub record AreReturnsOf (calls : List Called) (returns : List Return) : Type 0 where
  pub each : IsPermutation (returns_from 0 calls) returns
  pub ordered : IsSorted (λ (a b : Return). ordering_then (nat_cmp a.0 b.0) (nat_cmp a.1 b.1))
      returns

-- the call is of process p and returned at this time; and it is of process p and began at this time
abbrev pub ends_at : ℕ → ℕ → Called → Bool
ends_at p moment c = (c.process == p) &&
    (not (is_pending c.operation.outcome) && c.operation.end == moment)

abbrev pub begins_at : ℕ → ℕ → Called → Bool
begins_at p moment c = (c.process == p) && c.operation.begin == moment

-- At a return the calls of process p that return at its time have not returned yet: one of them is
-- in a line behind, and p makes no call at that time, so that they return together with it.
abbrev pub is_held : Return → ℕ → List Called → Bool
is_held last p calls =
    list_any (ends_at p last.0) (drop (last.1 + 1) calls) &&
    not (list_any (begins_at p last.0) calls)

-- the list says so of each process that it has, from process 0 on
abbrev pub AreHeld : Return → List Called → List Bool → Type 0
AreHeld last calls held = (p : ℕ) → p < length held → get_or held p false ≡ is_held last p calls

-- the operation had returned at this time, and at the time itself unless it was held
abbrev pub had_returned : ℕ → Bool → Operation → Bool
had_returned moment held o =
    not (is_pending o.outcome) && (nat_lt o.end moment || (o.end == moment && not held))

abbrev pub under_way : Called → Called
under_way c = record c { operation = record c.operation { end = 2 ^ 64 - 1; outcome = Pending } }

-- The prefix of the history until a time, at which the calls of some processes are held. Calls that
-- had returned are unchanged, and those that had begun are pending.
abbrev pub front_by : ℕ → (ℕ → Bool) → List Called → List Called
front_by moment held [] = []
front_by moment held (c ∷ calls) =
    if had_returned moment (held c.process) c.operation then c ∷ front_by moment held calls
    else if nat_le c.operation.begin moment then under_way c ∷ front_by moment held calls
    else front_by moment held calls

-- the prefix until a return
abbrev pub front_until : Return → List Called → List Called
front_until last calls = front_by last.0 (λ p. is_held last p calls) calls

-- the prefixes by index: until each return, and after these the whole history
abbrev pub front_or : List Called → Option Return → List Called
front_or calls None = calls
front_or calls (Some last) = front_until last calls

abbrev pub front_part : List Called → List Return → ℕ → List Called
front_part calls returns n = front_or calls (slice_get returns n)
