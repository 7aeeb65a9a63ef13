-- The form of a queue's name (mq_open).
use Rattle.std.specs.Prelude.{ℕ, ◌+◌, Bool, ◌&&◌, not, ◌==◌, nat_lt, nat_le, List, slice_index, drop, length}
use Rattle.std.specs.List.{list_all}
use Rattle.mq_model.specs.Limits.{most_name_bytes}

-- a byte that may follow the slash: neither a slash nor NUL
abbrev pub is_name_byte : ℕ → Bool
is_name_byte b = not (b == 47) && not (b == 0)

-- a slash, and then at least one byte, each of them allowed there
abbrev pub has_name_form : List ℕ → Bool
has_name_form bytes = nat_lt 1 (length bytes) && slice_index bytes 0 == 47 &&
    list_all is_name_byte (drop 1 bytes)

-- at most 255 bytes follow the slash
abbrev pub is_short : List ℕ → Bool
is_short bytes = nat_le (length bytes) (most_name_bytes + 1)

-- the bytes of a name
abbrev pub is_name : List ℕ → Bool
is_name bytes = has_name_form bytes && is_short bytes
