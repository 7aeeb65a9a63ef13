-- The text of a picture.
use Rattle.std.specs.Prelude.{ℕ, zero, suc, ◌+◌, ◌-◌, ◌*◌, ◌/◌, ◌==◌, nat_lt, min, length, take, List, [], ◌∷◌, ◌++◌, codes, Option, None, Some, if◌then◌else◌}
use Rattle.std.specs.Fmt.{decimal}
use Rattle.std.specs.List.{flat_map, join_with_byte}
use Rattle.mq_model.specs.Record.{Past, Place, Process, Record, first}
use Rattle.mq_model.specs.declared.entries.Reply.{Reply}
use Rattle.mq_model.specs.declared.entries.Reply.TheVariants as reply
use Rattle.journal_format.specs.Text.{caller_word, line_text, payload_text, reply_words}
use Rattle.journal_views.specs.Found.{count_left, name_by, processes}
use Rattle.journal_views.specs.Label.{label, named}
use Rattle.journal_views.specs.Shapes.{arrow, bar_before, bar_of, height, hue, lane, row}
use Rattle.journal_views.specs.Style.{style_text}
use Rattle.journal_views.specs.declared.shapes.Stroke.{Stroke}
use Rattle.journal_views.specs.declared.shapes.Flight.{Flight}

-- the kind of a mark: an error, a call that waits, a notice, and any other
abbrev pub kind : Reply → List ℕ
kind (reply.Refused fault) = codes "refused"
kind reply.Waits = codes "waits"
kind (reply.Notice value) = codes "notice"
kind reply = codes "call"

-- the start of a mark: its kind, a point, and its text at the column of texts
unfoldable pub mark_front : ℕ → ℕ → ℕ → Reply → List ℕ
mark_front column x y reply =
    codes "<g class=\"" ++
    (kind reply ++ (codes "\"><circle cx=\"" ++
    (decimal x ++
    (codes "\" cy=\"" ++
    (decimal y ++ (codes "\" r=\"4\"/><text x=\"" ++
    (decimal column ++ (codes "\" y=\"" ++ (decimal (y + 4) ++ codes "\">")))))))))

-- the x coordinate of the texts of the entries: to the right of the lanes
abbrev pub column : List Process → ℕ
column ps = (min (length ps) 41 + 1) * 60

-- the mark of a record: its point, and its text
unfoldable pub mark_text : List Process → Place → Place → Record → List ℕ
mark_text ps from place r =
    mark_front (column ps) (lane ps r.entry.process) (row from place) r.entry.reply ++
    (label (line_text place r) (join_with_byte 32 (reply_words r.entry.reply)) ++
    codes "</text></g>\n")

-- the end points of a line
unfoldable pub ends_text : Stroke → List ℕ
ends_text stroke = codes "x1=\"" ++
    (decimal stroke.x1 ++
    (codes "\" y1=\"" ++
    (decimal stroke.y1 ++
    (codes "\" x2=\"" ++
    (decimal stroke.x2 ++ (codes "\" y2=\"" ++ (decimal stroke.y2 ++ codes "\"")))))))

unfoldable pub bar_text : Option Stroke → List ℕ
bar_text None = []
bar_text (Some stroke) = codes "<line class=\"wait\" " ++ (ends_text stroke ++ codes "/>\n")

-- an arrow in a hue
unfoldable pub flight_text : Stroke → ℕ → List ℕ
flight_text stroke hue = codes "<line class=\"message\" stroke=\"hsl(" ++
    (decimal hue ++ (codes ",80%,30%)\" " ++ (ends_text stroke ++ (codes " marker-end=\"url(#tip" ++
    (decimal hue ++ codes ")\"/>\n")))))

-- the start of the name of a queue, beside this point
unfoldable pub name_front : ℕ → ℕ → List ℕ
name_front x y = codes "<text class=\"queue\" x=\"" ++
    (decimal (x + 6) ++ (codes "\" y=\"" ++ (decimal (y - 3) ++ codes "\">")))

-- the name of a queue beside this point: its first 24 bytes, with the quotes
unfoldable pub name_text : ℕ → ℕ → List ℕ → List ℕ
name_text x y name = name_front x y ++ (flat_map named (take 26 (payload_text name)) ++
    codes "</text>\n")

-- an arrow, and at its start the name of the queue
unfoldable pub arrow_text : Past → Option Flight → List ℕ
arrow_text past None = []
arrow_text past (Some f) =
    flight_text f.stroke (hue f.sender.call) ++
    name_text f.stroke.x1 f.stroke.y1 (name_by (first f.sent past) f.sender.process f.sender.call)

-- the picture of a record: its mark, and its bar and its arrow if it has them
unfoldable pub record_text : Past → List Process → Place → ℕ → Place → Record → List ℕ
record_text past ps from count place r =
    mark_text ps from place r ++
    (bar_text (bar_of past ps from count place r.entry) ++ arrow_text past
    (arrow past ps from place r.entry))

-- the picture of the last of these records, in the journal `past`
unfoldable pub last_text : Past → List Process → Place → ℕ → Past → List ℕ
last_text past ps from count [] = []
last_text past ps from count (r ∷ before) = record_text past ps from count (length before) r

-- the picture of the first k of the records from the place `from` on; `count` of them are shown
unfoldable pub entries_text : Past → List Process → Place → ℕ → ℕ → List ℕ
entries_text past ps from count zero = []
entries_text past ps from count (suc k) =
    entries_text past ps from count k ++ last_text past ps from count (first (from + k + 1) past)

-- the number of a process; the last of 41 lanes is shared by all others
abbrev pub number_text : List Process → Process → List ℕ
number_text ps p = if nat_lt (count_left p ps) 40 then caller_word p else codes "others"

-- a text in a lane, at these coordinates
unfoldable pub head_text : ℕ → ℕ → List ℕ → List ℕ
head_text x y number =
    codes "<text class=\"lane\" x=\"" ++
    (decimal x ++
    (codes "\" y=\"" ++ (decimal y ++ (codes "\">" ++ (number ++ codes "</text>\n")))))

-- the number of a process n times: before the first row, and before each fiftieth
unfoldable pub heads_text : ℕ → List ℕ → ℕ → List ℕ
heads_text x number zero = []
heads_text x number (suc n) = heads_text x number n ++ head_text x (n * 816 + 48) number

-- the line of a lane
unfoldable pub line_down : ℕ → ℕ → List ℕ
line_down x down =
    codes "<line class=\"lane\" x1=\"" ++
    (decimal x ++ (codes "\" y1=\"30\" x2=\"" ++
    (decimal x ++ (codes "\" y2=\"" ++ (decimal down ++ codes "\"/>\n")))))

-- how often the numbers are shown in a picture of `count` entries
abbrev pub heads : ℕ → ℕ
heads count = (count - 1) / 50 + 1

-- the lane of a process: its line, its numbers, and the bar of the wait that the process is in when
-- the picture starts
unfoldable pub lane_text : Past → List Process → Place → ℕ → Process → List ℕ
lane_text past ps from count p =
    line_down (lane ps p) (height count) ++
    (heads_text (lane ps p) (number_text ps p) (heads count) ++
    bar_text (bar_before past ps from count p))

-- how many entries are left out
unfoldable pub left_out_text : ℕ → ℕ → List ℕ
left_out_text before behind =
    if before + behind == 0 then []
    else codes "<text class=\"queue\" x=\"60\" y=\"12\">" ++
    (decimal before ++ (codes " entries before these are left out, and " ++
    (decimal behind ++ codes " behind them</text>\n")))

-- what is above the lanes: that the journal is empty, or how many entries are left out
unfoldable pub note_text : Past → Place → ℕ → List ℕ
note_text past from count =
    if length past == 0 then
    codes "<text class=\"queue\" x=\"60\" y=\"12\">the journal is empty</text>\n"
    else left_out_text from (length past - (from + count))

-- the start of a picture: its size, its colours, and the arrowheads
unfoldable pub front_text : ℕ → ℕ → List ℕ
front_text width down =
    codes "<svg xmlns=\"http://www.w3.org/2000/svg\" width=\"" ++
    (decimal width ++ (codes "\" height=\"" ++ (decimal down ++ (codes "\">\n" ++ style_text))))

-- A picture of `count` records from the place `from` on: the note above the lanes, a lane for each
-- process that occurs, each record, and to the right of the lanes their texts.
abbrev pub picture_text : Past → Place → ℕ → List ℕ
picture_text past from count =
    let ps = processes past in
    front_text (column ps + 740) (height count) ++
    (note_text past from count ++
    (flat_map (lane_text past ps from count) ps ++ (entries_text past ps from count count ++
    codes "</svg>\n")))
