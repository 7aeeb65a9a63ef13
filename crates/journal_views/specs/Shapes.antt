-- The shapes that a picture shows for an entry: its mark, the bar of the wait that it begins, and
-- the arrow of a message that it receives or hands over.
use Rattle.text_io.specs.Words.{◌>>=◌}
use Rattle.std.specs.Prelude.{ℕ, ◌+◌, ◌-◌, ◌*◌, ◌%◌, ◌/◌, min, nat_lt, List, Option, None, Some, if◌then◌else◌}
use Rattle.std.specs.Option.{option_map}
use Rattle.mq_model.specs.Messages.{priority_given}
use Rattle.mq_model.specs.Record.{Past, Place, Process, first, record_at}
use Rattle.mq_model.specs.Waits.{is_wait}
use Rattle.mq_model.specs.declared.entries.Call.{Call}
use Rattle.mq_model.specs.declared.entries.Entry.{Entry}
use Rattle.mq_model.specs.declared.entries.Reply.{Reply}
use Rattle.mq_model.specs.declared.entries.Reply.TheVariants as reply
use Rattle.journal_views.specs.Found.{count_left, ending, wait_begun}
use Rattle.journal_views.specs.declared.shapes.Stroke.{Stroke}
use Rattle.journal_views.specs.declared.shapes.Flight.{Flight}

-- The x coordinate of the lane of a process. The last of 41 is shared by all others.
abbrev pub lane : List Process → Process → ℕ
lane ps p = (min (count_left p ps) 40 + 1) * 60

-- The y coordinate of the k-th entry shown. Rows are 16 points high, and before each fiftieth is a
-- row for the numbers of the lanes.
abbrev pub depth : ℕ → ℕ
depth k = (k + k / 50) * 16 + 60

-- The y coordinate of a place in a picture that starts at the place `from`. Earlier places are at
-- the upper edge.
abbrev pub row : Place → Place → ℕ
row from place = if nat_lt place from then 30 else depth (place - from)

-- the lower edge of a picture of `count` entries
abbrev pub height : ℕ → ℕ
height count = depth count + 20

-- the entry at the place `other`, if that is before `place`
unfoldable pub entry_before : Past → Place → Place → Option Entry
entry_before past place other = if nat_lt other place
    then option_map (λ r. r.entry) (record_at past other) else None

-- The bar of a wait of process p that ended at this place. If it did not end by the last entry
-- shown, the bar goes to the lower edge.
abbrev pub bar_to : List Process → Place → ℕ → Process → Place → Option Place → Option Stroke
bar_to ps from count p wait None = Some (record {
  x1 = lane ps p;
  y1 = row from wait;
  x2 = lane ps p;
  y2 = height count;
})
bar_to ps from count p wait (Some end) =
    if nat_lt end from then None
    else Some (record { x1 = lane ps p; y1 = row from wait; x2 = lane ps p; y2 = row from end })

-- the bar of a wait of process p: in its lane, from its call to its end, as far as these are shown
abbrev pub bar : Past → List Process → Place → ℕ → Process → Place → Option Stroke
bar past ps from count p wait = bar_to ps from count p wait
    (ending wait (first (from + count) past))

-- the bar of the wait that an entry begins
abbrev pub bar_of : Past → List Process → Place → ℕ → Place → Entry → Option Stroke
bar_of past ps from count place e = if is_wait e.reply then bar past ps from count e.process place
    else None

-- the bar of the wait that a process is in when the picture starts
abbrev pub bar_before : Past → List Process → Place → ℕ → Process → Option Stroke
bar_before past ps from count p = do
  wait ← wait_begun (first from past) p
  bar past ps from count p wait

-- the hue of a message: one of twelve, by its priority
abbrev pub hue : Call → ℕ
hue call = (priority_given call % 12) * 30

-- the arrow of a message that was received: from its send
abbrev pub arrow_got : Past → List Process → Place → Place → Entry → Place → Option Flight
arrow_got past ps from place e sent = do
  sender ← entry_before past place sent
  Some (record {
    stroke = record {
      x1 = lane ps sender.process;
      y1 = row from sent;
      x2 = lane ps e.process;
      y2 = row from place;
    };
    sender = sender;
    sent = sent;
  })

-- the arrow of a message that was handed to a waiting receive: to its lane
abbrev pub arrow_handed : Past → List Process → Place → Place → Entry → Place → Option Flight
arrow_handed past ps from place e wait = do
  receiver ← entry_before past place wait
  Some (record {
    stroke = record {
      x1 = lane ps e.process;
      y1 = row from place;
      x2 = lane ps receiver.process;
      y2 = row from place;
    };
    sender = e;
    sent = place;
  })

abbrev pub arrow_by : Past → List Process → Place → Place → Entry → Reply → Option Flight
arrow_by past ps from place e (reply.Got sent admitted notified) =
    arrow_got past ps from place e sent
arrow_by past ps from place e (reply.Handed wait) = arrow_handed past ps from place e wait
arrow_by past ps from place e reply = None

-- the arrow of the message that an entry receives or hands over
abbrev pub arrow : Past → List Process → Place → Place → Entry → Option Flight
arrow past ps from place e = arrow_by past ps from place e e.reply
