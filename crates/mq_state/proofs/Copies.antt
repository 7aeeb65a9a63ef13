-- Copies of the tables say the same.
use Rattle.std.proofs.Common.{◌≡◌, ℕ, zero, suc, ◌≤◌, List, [], ◌∷◌, length, refl, ap, arith, slice_get}
use Rattle.std.specs.List.{AllZip}
use Rattle.std.specs.Option.{option_map, unwrap_or}
use Rattle.mq_model.specs.Threads.{owner_of}
use Rattle.mq_model.specs.Record.{Past}
use Rattle.mq_state.specs.InboxShown.{InboxShown}
use Rattle.mq_state.specs.Inboxes.{notices_in, room_in}
use Rattle.mq_state.specs.Kept.{AreThoseOf, SaysSame}
use Rattle.mq_state.specs.declared.tables.Tables.{Tables}

-- the same notices, and at least as much room
pub record IsCopy (old new : InboxShown) : Type 0 where
  pub values : new.values ≡ old.values
  pub room : old.room ≤ new.room

pub copies-count : (old new : List InboxShown) → AllZip IsCopy old new → length new ≡ length old
copies-count [] [] are = refl
copies-count (x ∷ old) (y ∷ new) are = ap suc (copies-count old new are.1)
copies-count _ _ are = absurd are

abbrev values_at : List InboxShown → ℕ → List ℕ
values_at inboxes k = unwrap_or (option_map (λ b. b.values) (slice_get inboxes k)) []

abbrev room_at : List InboxShown → ℕ → ℕ
room_at inboxes k = unwrap_or (option_map (λ b. b.room) (slice_get inboxes k)) 0

copies-values : (old new : List InboxShown) → AllZip IsCopy old new → (k : ℕ) →
    values_at new k ≡ values_at old k
copies-values [] [] are k = refl
copies-values [] (y ∷ new) are k = absurd are
copies-values (x ∷ old) [] are k = absurd are
copies-values (x ∷ old) (y ∷ new) are zero = are.0.values
copies-values (x ∷ old) (y ∷ new) are (suc k) = copies-values old new are.1 k

copies-rooms : (old new : List InboxShown) → AllZip IsCopy old new → (k : ℕ) →
    room_at old k ≤ room_at new k
copies-rooms [] [] are k = omega arith
copies-rooms [] (y ∷ new) are k = absurd are
copies-rooms (x ∷ old) [] are k = absurd are
copies-rooms (x ∷ old) (y ∷ new) are zero = are.0.room
copies-rooms (x ∷ old) (y ∷ new) are (suc k) = copies-rooms old new are.1 k

pub copies-notices : (old new : List InboxShown) → AllZip IsCopy old new → (p : ℕ) →
    notices_in new p ≡ notices_in old p
unfolding notices_in
copies-notices old new are p = copies-values old new are (owner_of p)

pub copies-room : (old new : List InboxShown) → AllZip IsCopy old new → (p : ℕ) →
    room_in old p ≤ room_in new p
unfolding room_in
copies-room old new are p = copies-rooms old new are (owner_of p)

-- tables that say the same are those of the same records
pub same_are_those : (past : Past) (old new : Tables) → AreThoseOf past old → SaysSame old new →
    AreThoseOf past new
same_are_those past old new are same = grind arith
