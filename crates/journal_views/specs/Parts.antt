-- The text about what a queue has, by kinds.
use Rattle.std.specs.Prelude.{ℕ, ◌++◌, Bool, List, codes}
use Rattle.std.specs.Fmt.{decimal, signed_decimal}
use Rattle.mq_model.specs.Record.{Place, Queue, Record}
use Rattle.mq_model.specs.declared.entries.Attr.{Attr}
use Rattle.mq_model.specs.declared.entries.Description.{Description}
use Rattle.journal_format.specs.Text.{access_letter}
use Rattle.journal_views.specs.State.{message, receiver, sender, true_or_false}
use Rattle.journal_views.specs.declared.form.Form.{Form}
use Rattle.mq_equivalence.specs.declared.standing.Kind.{Kind}
use Rattle.mq_equivalence.specs.declared.standing.Kind.TheVariants.{Messages, Senders, Receivers}

abbrev pub part : Kind → Form → Place → Record → List ℕ
part Messages = message
part Senders = sender
part Receivers = receiver

-- the JSON before the name of a queue, and after it
abbrev pub json_front : Queue → List ℕ
json_front q = codes "{\"queue\":" ++ (decimal q ++ codes ",\"name\":")

abbrev pub json_rest : Bool → Attr → List ℕ
json_rest named limits = codes ",\"named\":" ++
    (true_or_false named ++ (codes ",\"maxmsg\":" ++ (signed_decimal limits.maxmsg ++
    (codes ",\"msgsize\":" ++ signed_decimal limits.msgsize))))

-- the JSON of a description after its access mode, and after its queue
abbrev pub json_flag : Bool → List ℕ
json_flag nonblock = codes "\",\"nonblock\":" ++ (true_or_false nonblock ++ codes "}")

abbrev pub json_access : Description → List ℕ
json_access h = codes ",\"access\":\"" ++ (access_letter h.access ++ json_flag h.nonblock)
