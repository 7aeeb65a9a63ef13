-- The title of a picture, its colours, its arrowheads and its legend.
use Rattle.std.specs.Prelude.{List, ℕ, [], ◌∷◌, ◌++◌, codes}
use Rattle.std.specs.List.{flat_map}

-- the colours of a mark: of an error, of a call that waits, of a notice, and of any other
abbrev pub red : List ℕ
red = codes "#c0392b"

abbrev pub orange : List ℕ
orange = codes "#f5b041"

abbrev pub blue : List ℕ
blue = codes "#2471a3"

abbrev pub dark : List ℕ
dark = codes "#333"

-- the title, the colours of marks, and those of the bars of waits
abbrev pub rules_text : List ℕ
rules_text =
    codes "<title>A journal of message queues</title>\n<style>text{font:12px monospace}text.lane{text-anchor:middle;font-weight:bold;paint-order:stroke;stroke:#fff;stroke-width:4}text.queue{font-size:9px;fill:#777}line.lane{stroke:#ccc}line.wait{stroke:" ++
    (orange ++
    (codes ";stroke-width:8;stroke-opacity:.5}line.message{stroke-width:1.5}g.call circle{fill:"
    ++
    (dark ++ (codes "}g.waits circle{fill:" ++
    (orange ++ (codes "}g.notice circle{fill:" ++ (blue ++ (codes "}g.refused{fill:" ++
    (red ++ codes "}</style>\n")))))))))

-- the hues of arrows
abbrev pub hues : List (List ℕ)
hues =
    codes "0" ∷ codes "30" ∷ codes "60" ∷ codes "90" ∷ codes "120" ∷ codes "150" ∷ codes "180" ∷
    codes "210" ∷ codes "240" ∷ codes "270" ∷ codes "300" ∷ codes "330" ∷ []

-- the arrowhead of a hue
abbrev pub tip_text : List ℕ → List ℕ
tip_text hue =
    codes "<marker id=\"tip" ++
    (hue ++ (codes
    "\" viewBox=\"0 0 8 8\" refX=\"10\" refY=\"4\" markerWidth=\"7\" markerHeight=\"7\" orient=\"auto\"><path d=\"M0 0L8 4L0 8z\" fill=\"hsl(" ++
    (hue ++ codes ",80%,30%)\"/></marker>\n")))

abbrev pub legend_text : List ℕ
legend_text =
    codes "<text class=\"queue\" x=\"60\" y=\"24\">time goes downwards, a lane is a process; a bar: a wait; an arrow: a message; red: an error; orange: a call that waits; blue: a notice</text>\n"

unfoldable pub style_text : List ℕ
style_text = rules_text ++
    (codes "<defs>\n" ++ (flat_map tip_text hues ++ (codes "</defs>\n" ++ legend_text)))
