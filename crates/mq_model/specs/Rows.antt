-- A table with one row changed. Row p of a table is at index p.
use Rattle.std.specs.Prelude.{ℕ, zero, suc, List, [], ◌∷◌}

-- the table with the row at this index changed
abbrev pub changed : {A : Type 0} → (A → A) → List A → ℕ → List A
changed f [] p = []
changed f (row ∷ rows) zero = f row ∷ rows
changed f (row ∷ rows) (suc p) = row ∷ changed f rows p
