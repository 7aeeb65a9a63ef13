-- Saved states.
use Rattle.std.specs.Prelude.{◌≡◌, length}
use Rattle.script_orders.specs.Stage.{Stage}
use Rattle.script_orders.specs.declared.play.SavedPlay.{SavedPlay}

-- the state was saved so
pub record IsSaved (s : Stage) (saved : SavedPlay) : Type 0 where
  pub phase : saved.phase ≡ s.phase
  pub past : saved.trail ≡ s.past
  pub seats : saved.seats.items ≡ s.seats
  pub count : length s.seats ≡ length s.programs
