-- Saved states.
use Rattle.std.specs.Prelude.{◌≡◌, ℕ, ◌+◌, ◌<◌, length, slice_index}
use Rattle.histories.specs.OwnCalls.{made}
use Rattle.histories.specs.Stage.{Stage}
use Rattle.histories.specs.declared.linearizer.SavedLinearizer.{SavedLinearizer}

-- the state was saved so
pub record IsSaved (s : Stage) (saved : SavedLinearizer) : Type 0 where
  pub past : saved.trail ≡ s.past
  pub count : length saved.made.items ≡ length s.histories
  pub made : (index : ℕ) → index < length s.histories →
      slice_index saved.made.items index ≡ made s.past (index + 1)
