-- The text of a page.
use Rattle.std.specs.Prelude.{ℕ, zero, suc, ◌+◌, ◌==◌, List, [], ◌∷◌, ◌++◌, codes, length, if◌then◌else◌}
use Rattle.std.specs.List.{flat_map}
use Rattle.mq_model.specs.Record.{Past, Place, first}
use Rattle.journal_format.specs.Text.{line_text}

-- a byte of a line, escaped if it has a meaning in a page
abbrev pub shielded : ℕ → List ℕ
shielded b = if b == 38 then codes "&amp;" else (if b == 60 then codes "&lt;" else b ∷ [])

-- the line of the last of these records
unfoldable pub last_line : Past → List ℕ
last_line [] = []
last_line (r ∷ past) = line_text (length past) r

-- the lines of k of the records, from the place `from` on
unfoldable pub lines_text : Past → Place → ℕ → List ℕ
lines_text past from zero = []
lines_text past from (suc k) = lines_text past from k ++ last_line (first (from + k + 1) past)

-- A page: the head of its template, the line of the state before, the lines of `count` records from
-- the place `from` on, and the tail of the template.
abbrev pub page_text : List ℕ → List ℕ → List ℕ → Past → Place → ℕ → List ℕ
page_text head tail before past from count = head ++ (flat_map shielded before ++
    (flat_map shielded (lines_text past from count) ++ tail))
