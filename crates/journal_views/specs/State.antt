-- The state of the queues after a journal, as text or as JSON.
use Rattle.std.specs.Prelude.{ℕ, zero, suc, ◌++◌, ◌==◌, ◌||◌, Bool, true, false, List, [], ◌∷◌, length, map, reverse, take, Option, None, Some, is_some, codes, if◌then◌else◌}
use Rattle.std.specs.Fmt.{decimal, signed_decimal}
use Rattle.std.specs.List.{filter, flat_map, join_with_byte, list_any}
use Rattle.std.specs.Option.{option_map, unwrap_or}
use Rattle.hex.specs.Hex.{encode_lower}
use Rattle.mq_model.specs.Limits.{most_descriptors, most_callers}
use Rattle.mq_model.specs.Record.{Record, Past, Descriptor, Place, Process, Queue, record_at}
use Rattle.mq_model.specs.Names.{attributes, name_of}
use Rattle.mq_model.specs.Descriptors.{alive, held, is_named, numbers_from}
use Rattle.mq_model.specs.Messages.{present, priority, priority_given, waiting_receives, waiting_sends}
use Rattle.mq_model.specs.Notices.{notices, registered}
use Rattle.mq_model.specs.Waits.{answered_by, open_wait}
use Rattle.mq_model.specs.declared.entries.Attr.{Attr}
use Rattle.mq_model.specs.declared.entries.Description.{Description}
use Rattle.mq_model.specs.declared.entries.Registration.{Registration}
use Rattle.mq_equivalence.specs.Views.{lined}
use Rattle.journal_format.specs.Text.{access_letter, caller_word, escaped, letter_if, payload_text}
use Rattle.journal_views.specs.declared.form.Form.{Form}
use Rattle.journal_views.specs.declared.form.Form.TheVariants.{Text, Json}

-- what a state has, in the order in which it is written
-- ----------------------------------------------

-- the callers with an entry
unfoldable pub callers : Past → List Process
callers past = filter (λ p. list_any (λ r. r.entry.process == p) past) (numbers_from 1 most_callers)

-- the descriptors that a process holds
abbrev pub held_numbers : Past → Process → List Descriptor
held_numbers past p = filter (λ d. is_some (held past p d)) (numbers_from 0 most_descriptors)

-- parts that only JSON has
-- -------------------------------------------------------------------------

abbrev pub in_json : Form → List ℕ → List ℕ
in_json Text bytes = []
in_json Json bytes = bytes

-- the name of a further member of an object
abbrev pub label : Form → List ℕ → List ℕ
label form name = in_json form (codes ",\"" ++ (name ++ codes "\":"))

-- what separates the item of a list at this index from the one before
abbrev pub between : Form → ℕ → List ℕ
between form zero = []
between form (suc index) = in_json form (codes ",")

-- the items of a list; JSON has commas and brackets
abbrev pub joined : Form → List (List ℕ) → List ℕ
joined Text parts = flat_map (λ part. part) parts
joined Json parts = join_with_byte 44 parts

abbrev pub listed : Form → List (List ℕ) → List ℕ
listed form parts = in_json form (codes "[") ++ (joined form parts ++ in_json form (codes "]"))

-- a byte of a JSON string: a quote or a backslash has a backslash before it
abbrev pub string_byte : ℕ → List ℕ
string_byte b = if b == 34 || b == 92 then 92 ∷ b ∷ [] else b ∷ []

-- a name as a JSON string, escaped as in a journal
abbrev pub name_string : List ℕ → List ℕ
name_string name = codes "\"" ++ (flat_map string_byte (escaped name) ++ codes "\"")

abbrev pub true_or_false : Bool → List ℕ
true_or_false true = codes "true"
true_or_false false = codes "false"

abbrev pub number_or_null : Option ℕ → List ℕ
number_or_null None = codes "null"
number_or_null (Some n) = decimal n

-- queues ------------------------------------------------------------------------------------------

-- the number of bytes of a message that are shown
abbrev pub first_bytes : ℕ
first_bytes = 24

-- The message of a send: its priority, its length, and its first bytes, as hexadecimal digits in
-- JSON.
abbrev pub sent : Form → Record → List ℕ
sent Text r = codes " priority " ++ (decimal (priority_given r.entry.call) ++
    (codes " length " ++ (decimal (length r.payload) ++
    (payload_text (take first_bytes r.payload) ++ codes "\n"))))
sent Json r = codes ",\"priority\":" ++ (decimal (priority_given r.entry.call) ++
    (codes ",\"length\":" ++ (decimal (length r.payload) ++ (codes ",\"bytes\":\"" ++
    (encode_lower (take first_bytes r.payload) ++ codes "\"}")))))

-- a message in a queue, given the record of its send
abbrev pub message : Form → Place → Record → List ℕ
message Text m r = codes "  message " ++ (decimal m ++ sent Text r)
message Json m r = codes "{\"place\":" ++ (decimal m ++ sent Json r)

-- a caller that waits to send, given the record of its send
abbrev pub sender : Form → Place → Record → List ℕ
sender Text w r = codes "  sender " ++
    (decimal w ++ (codes " process " ++ (caller_word r.entry.process ++ sent Text r)))
sender Json w r = codes "{\"place\":" ++
    (decimal w ++ (codes ",\"process\":" ++ (decimal r.entry.process ++ sent Json r)))

-- a caller that waits to receive, given the record of its receive
abbrev pub receiver : Form → Place → Record → List ℕ
receiver Text w r = codes "  receiver " ++
    (decimal w ++ (codes " process " ++ (caller_word r.entry.process ++ codes "\n")))
receiver Json w r = codes "{\"place\":" ++
    (decimal w ++ (codes ",\"process\":" ++ (decimal r.entry.process ++ codes "}")))

-- the text about the record at a place
abbrev pub at : (Place → Record → List ℕ) → Past → Place → List ℕ
at written past m = unwrap_or (option_map (written m) (record_at past m)) []

-- The registration on a queue. In JSON its value is a string, because it may exceed the numbers of
-- a program.
abbrev pub registration : Form → Option Registration → List ℕ
registration Text None = []
registration Text (Some n) = codes "  registration " ++
    (decimal n.place ++
    (codes " process " ++ (caller_word n.process ++
    (codes " descriptor " ++
    (decimal n.d ++ (codes " value " ++ (decimal n.value ++ codes "\n")))))))
registration Json None = codes "null"
registration Json (Some n) = codes "{\"place\":" ++
    (decimal n.place ++ (codes ",\"process\":" ++
    (decimal n.process ++ (codes ",\"descriptor\":" ++
    (decimal n.d ++ (codes ",\"value\":\"" ++ (decimal n.value ++ codes "\"}")))))))

-- a word for a queue that has lost its name
abbrev pub unless_named : Bool → List ℕ
unless_named true = []
unless_named false = codes " unlinked"

-- a queue: the entry that created it, its name, whether it is still bound to that, and its limits
abbrev pub queue_head : Form → Queue → List ℕ → Bool → Attr → List ℕ
queue_head Text q name named limits = codes "queue " ++
    (decimal q ++
    (payload_text name ++
    (unless_named named ++ (codes " limits " ++ (signed_decimal limits.maxmsg ++
    (codes " " ++ (signed_decimal limits.msgsize ++ codes "\n")))))))
queue_head Json q name named limits = codes "{\"queue\":" ++
    (decimal q ++
    (codes ",\"name\":" ++
    (name_string name ++
    (codes ",\"named\":" ++
    (true_or_false named ++ (codes ",\"maxmsg\":" ++ (signed_decimal limits.maxmsg ++
    (codes ",\"msgsize\":" ++ signed_decimal limits.msgsize))))))))

-- A queue with its messages in the order in which they will be received, its waits in the order in
-- which they will be served, and its registration.
abbrev pub queue : Form → Past → Queue → List ℕ
queue form past q =
    queue_head form q (name_of past q) (is_named past q) (attributes past q)
    ++ (label form (codes "messages") ++
    (listed form (map (at (message form) past) (lined (priority past) (present past q)))
    ++ (label form (codes "senders") ++
    (listed form (map (at (sender form) past) (reverse (waiting_sends past q)))
    ++ (label form (codes "receivers") ++
    (listed form (map (at (receiver form) past) (reverse (waiting_receives past q)))
    ++ (label form (codes "registration") ++ (registration form (registered past q)
    ++ in_json form (codes "}")))))))))

-- processes ---------------------------------------------------------------------------------------

-- a descriptor: its queue, its access mode, and whether it is nonblocking
abbrev pub descriptor : Form → Descriptor → Option Description → List ℕ
descriptor form d None = []
descriptor Text d (Some h) = codes "  descriptor " ++
    (decimal d ++
    (codes " queue " ++
    (decimal h.queue ++
    (codes " " ++ (access_letter h.access ++ (letter_if h.nonblock (codes "n") ++ codes "\n"))))))
descriptor Json d (Some h) = codes "{\"descriptor\":" ++
    (decimal d ++
    (codes ",\"queue\":" ++
    (decimal h.queue ++ (codes ",\"access\":\"" ++ (access_letter h.access ++
    (codes "\",\"nonblock\":" ++ (true_or_false h.nonblock ++ codes "}")))))))

-- a notice by its value
abbrev pub notice : Form → ℕ → List ℕ
notice Text value = codes "  notice " ++ (decimal value ++ codes "\n")
notice Json value = codes "\"" ++ (decimal value ++ codes "\"")

-- the open wait of a caller, and the entry that served it
abbrev pub wait : Form → Option Place → Option Place → List ℕ
wait Text None by = codes "\n"
wait Text (Some w) None = codes " waits " ++ (decimal w ++ codes "\n")
wait Text (Some w) (Some by) = codes " waits " ++
    (decimal w ++ (codes " answered " ++ (decimal by ++ codes "\n")))
wait Json since by = codes ",\"wait\":" ++ (number_or_null since ++ (codes ",\"answered\":" ++
    number_or_null by))

abbrev pub process_head : Form → Process → List ℕ
process_head Text p = codes "process " ++ caller_word p
process_head Json p = codes "{\"process\":" ++ decimal p

-- a caller: its wait, and the descriptors and notices of its process, the oldest first
abbrev pub process : Form → Past → Process → List ℕ
process form past p =
    process_head form p ++ (wait form (open_wait past p) (answered_by past p)
    ++ (label form (codes "descriptors") ++
    (listed form (map (λ d. descriptor form d (held past p d)) (held_numbers past p))
    ++ (label form (codes "notices") ++ (listed form (map (notice form) (notices past p))
    ++ in_json form (codes "}"))))))

-- the state ---------------------------------------------------------------------------------------

abbrev pub state_head : Form → ℕ → List ℕ
state_head Text len = codes "after " ++ (decimal len ++ codes " entries\n")
state_head Json len = codes "{\"entries\":" ++ (decimal len ++ codes ",\"queues\":")

-- the number of entries, the queues in the order in which they were created, and the processes
abbrev pub state : Form → Past → List ℕ
state form past =
    state_head form (length past) ++ (listed form (map (queue form past) (reverse (alive past)))
    ++ (label form (codes "processes") ++ (listed form (map (process form past) (callers past))
    ++ in_json form (codes "}\n"))))
