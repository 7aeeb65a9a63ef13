use Rattle.std.specs.Prelude.{ℕ, List}

-- what an inbox shows: its notices, the oldest first, and the room for further ones
pub record InboxShown : Type 0 where
  pub values : List ℕ
  pub room : ℕ
