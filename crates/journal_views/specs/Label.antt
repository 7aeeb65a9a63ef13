-- The text beside the mark of an entry.
use Rattle.std.specs.Prelude.{ℕ, ◌==◌, ◌-◌, ◌++◌, nat_le, List, [], ◌∷◌, codes, length, take, if◌then◌else◌}
use Rattle.std.specs.List.{flat_map}

-- A byte as a picture has it: a byte with a meaning in SVG is written as an entity, and a line feed
-- is left out.
abbrev pub named : ℕ → List ℕ
named b = if b == 38 then codes "&amp;"
    else (if b == 60 then codes "&lt;" else (if b == 62 then codes "&gt;" else
    (if b == 10 then [] else b ∷ [])))

-- The bytes that are shown of a line with this reply. If it has more than a hundred, two dots
-- before the reply stand for those that are left out.
abbrev pub shown : List ℕ → List ℕ → List ℕ
shown line reply = if nat_le (length line) 101 then line
    else take (94 - length reply) line ++ (codes ".. -> " ++ reply)

-- the text of a line with this reply
abbrev pub label : List ℕ → List ℕ → List ℕ
label line reply = flat_map named (shown line reply)
