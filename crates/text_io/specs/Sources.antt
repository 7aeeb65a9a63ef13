-- Whether a read of an input failed.
use Rattle.std.specs.Prelude.{◌≡◌, Bool, true, ⊤, Option, None, Some}

-- a read failed, if that is known
abbrev pub HasFailed : Option Bool → Type 0
HasFailed None = ⊤
HasFailed (Some failed) = failed ≡ true
