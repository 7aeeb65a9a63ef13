-- What is printed of replies that differ in their places alone is the same.
use Rattle.std.proofs.lemmas.Bool.Decides.{nat_tests}
use Rattle.std.proofs.Common.{◌≡◌, ℕ, Bool, true, false, List, [], ◌∷◌, length, Option, Some, None, is_some, refl, sym, ◌∙◌, ap, arith, unwrap_or}
use Rattle.mq_model.specs.Record.{Record, Past, Place, Process}
use Rattle.mq_model.specs.Waits.{answered_by}
use Rattle.mq_model.specs.Legality.{may_call, reply_to}
use Rattle.mq_model.specs.declared.entries.Call.{Call}
use Rattle.mq_model.specs.declared.entries.Call.TheVariants.{Collect}
use Rattle.mq_model.specs.declared.entries.Reply.{Reply}
use Rattle.mq_model.specs.declared.entries.Reply.TheVariants.{Opened, Queued, Handed, Got, Attrs, Notice, Done, Refused}
use Rattle.mq_equivalence.specs.Views.{Message, at, told}
use Rattle.mq_equivalence.specs.Steps.{message_given, record_of, shape}
use Rattle.mq_equivalence.proofs.Calls.{collected-at, is_other, never-collected}
use Rattle.mq_equivalence.proofs.Effects.{is_collected}
use Rattle.mq_equivalence.specs.Equivalence.{AgreeUnder, StepsAgree}
use Rattle.mq_equivalence.proofs.Going.{shape-outline}
use Rattle.script_text.specs.Replies.{reply_line}
use Rattle.script_text.specs.declared.reply.Outcome.TheVariants as outcomes
use Rattle.script_orders.specs.Said.{said, said_of_collect}

-- a message ---------------------------------------------------------------------------------------

abbrev said_by : Process → Option Message → List ℕ
said_by p None = reply_line p (outcomes.Got (record { len = 0; prio = 0 })) []
said_by p (Some m) = reply_line p (outcomes.Got (record { len = length m.bytes; prio = m.prio }))
    m.bytes

abbrev pub collect_by : Process → Option (Option Message) → List ℕ
collect_by p None = reply_line p outcomes.Done []
collect_by p (Some None) = reply_line p outcomes.Done []
collect_by p (Some (Some m)) = said_by p (Some m)

-- what is printed for a wait depends on what the entry that answered it sends
pub said-collect : (past : Past) (p : Process) (by : Place) →
    said_of_collect past p by ≡ collect_by p (at told past by)
said-collect past p by = grind arith

-- a reply -----------------------------------------------------------------------------------------

abbrev said_of : Process → Reply → Option Message → List ℕ
said_of p (Opened d created) m = reply_line p (outcomes.Opened d) []
said_of p (Queued n) m = reply_line p outcomes.Done []
said_of p (Handed w) m = reply_line p outcomes.Done []
said_of p (Got k a n) m = said_by p m
said_of p (Attrs status) m = reply_line p (outcomes.Attrs status) []
said_of p (Notice value) m = reply_line p (outcomes.Notice value) []
said_of p Done m = reply_line p outcomes.Done []
said_of p (Refused fault) m = reply_line p (outcomes.Refused fault) []
said_of p _ m = []

pub said-alike : (x y : Past) (p : Process) (a b : Reply) → is_collected a ≡ false →
    is_collected b ≡ false → shape b ≡ shape a → message_given y b ≡ message_given x a →
    said y p b ≡ said x p a
said-alike x y p a b not_a not_b e f = grind arith

collect-said : {received : Bool} (to : ℕ → ℕ) (x y : Past) (r s : Record) (p : Process) →
    AgreeUnder received to x y → is_some (answered_by x p) ≡ true →
    is_some (answered_by y p) ≡ true →
    said_of_collect (s ∷ y) p (unwrap_or (answered_by y p) 0) ≡ said_of_collect (r ∷ x) p
    (unwrap_or (answered_by x p) 0)
collect-said to x y r s p alike some_x some_y =
    let e = collected-at y s p some_y in
    let f = collected-at x r p some_x in
    grind (arith, nat_tests, said-collect)

-- a call ------------------------------------------------------------------------------------------

pub shape-same : {received : Bool} (to : ℕ → ℕ) (x y : Past) (p : Process) (call : Call)
    (given : List ℕ) → StepsAgree received to x y p call given →
    shape (reply_to y p call given) ≡ shape (reply_to x p call given)
shape-same to x y p call given steps = sym (shape-outline (reply_to y p call given)) ∙
    ap shape steps.reply ∙ shape-outline (reply_to x p call given)

other-said : {received : Bool} (to : ℕ → ℕ) (x y : Past) (p : Process) (call : Call)
    (given : List ℕ) → is_other call ≡ true → StepsAgree received to x y p call given →
    said (record_of y p call given ∷ y) p (reply_to y p call given) ≡
    said (record_of x p call given ∷ x) p (reply_to x p call given)
other-said to x y p call given other steps = grind (arith, said-alike, never-collected, shape-same)

-- what is printed of a call after two journals that agree
pub call-said : {received : Bool} (to : ℕ → ℕ) (x y : Past) (p : Process) (call : Call)
    (given : List ℕ) → AgreeUnder received to x y → may_call x p call ≡ true →
    may_call y p call ≡ true → StepsAgree received to x y p call given →
    said (record_of y p call given ∷ y) p (reply_to y p call given) ≡
    said (record_of x p call given ∷ x) p (reply_to x p call given)
call-said to x y p Collect given alike can_x can_y steps =
    collect-said to x y (record_of x p Collect given) (record_of y p Collect given) p
    alike can_x can_y
call-said to x y p call given alike can_x can_y steps = other-said to x y p call given refl steps
