-- The text about a call that waits for ever.
use Rattle.std.specs.Prelude.{ℕ, ◌-◌, List, [], ◌∷◌, ◌++◌, codes, slice_get}
use Rattle.std.specs.Fmt.{decimal}
use Rattle.std.specs.List.{flat_map}
use Rattle.std.specs.Option.{unwrap_or}
use Rattle.text_io.specs.Words.{Word, words_of}
use Rattle.script_text.specs.Script.{lines_of}

-- the line of a script with this number, counted from 1
abbrev pub line_numbered : List ℕ → ℕ → List ℕ
line_numbered script number = unwrap_or (slice_get (lines_of script) (number - 1)) []

-- each word after a space
abbrev pub spaced : List Word → List ℕ
spaced words = flat_map (λ word. 32 ∷ word) words

-- the line of a script whose call waits for ever: its number and its words
abbrev pub wait_text : List ℕ → ℕ → List ℕ
wait_text script number =
    codes "line " ++
    (decimal number ++ (codes ": waits for ever:" ++
    (spaced (words_of (line_numbered script number)) ++ 10 ∷ [])))
