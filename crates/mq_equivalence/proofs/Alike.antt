-- What depends on the shape of a reply alone.
use Rattle.std.proofs.Common.{◌≡◌, ℕ, Bool, List, Option, sym, ◌∙◌, ap, arith}
use Rattle.mq_model.specs.Waits.{is_wait}
use Rattle.mq_model.specs.Legality.{is_refused, payload_of}
use Rattle.mq_model.specs.declared.entries.Call.{Call}
use Rattle.mq_model.specs.declared.entries.Reply.{Reply}
use Rattle.mq_equivalence.specs.Views.{Message, Sender}
use Rattle.mq_equivalence.specs.Steps.{shape}
use Rattle.mq_equivalence.proofs.Effects.{after_answer, after_contents, after_receivers, after_senders}

-- what depends on a reply's shape alone -----------------------------------------------------------

pub refused-shape : (reply : Reply) → is_refused (shape reply) ≡ is_refused reply
refused-shape reply = grind arith

pub refused-alike : (a b : Reply) → shape a ≡ shape b → is_refused a ≡ is_refused b
refused-alike a b e = sym (refused-shape a) ∙ ap is_refused e ∙ refused-shape b

pub payload-alike : (call : Call) (a b : Reply) (given : List ℕ) → shape a ≡ shape b →
    payload_of call a given ≡ payload_of call b given
payload-alike call a b given e = grind (arith, refused-alike)

pub contents-shape : (call : Call) (payload : List ℕ) (on : Bool) (reply : Reply)
    (ss : List (Option Sender)) (cs : List (Option Message)) →
    after_contents call payload on (shape reply) ss cs ≡ after_contents call payload on reply ss cs
contents-shape call payload on reply ss cs = grind arith

pub senders-shape : (p : ℕ) (call : Call) (payload : List ℕ) (on : Bool) (reply : Reply)
    (ss : List (Option Sender)) → after_senders p call payload on (shape reply) ss ≡
    after_senders p call payload on reply ss
senders-shape p call payload on reply ss = grind arith

pub receivers-shape : (p : ℕ) (call : Call) (on : Bool) (reply : Reply) (rs : List (Option ℕ)) →
    after_receivers p call on (shape reply) rs ≡ after_receivers p call on reply rs
receivers-shape p call on reply rs = grind arith

pub answer-shape : (p : ℕ) (call : Call) (payload : List ℕ) (reply : Reply)
    (ss : List (Option Sender)) (rs : List (Option ℕ)) (k : ℕ)
    (before : Option (Option (Option Message))) →
    after_answer p call payload (shape reply) ss rs k before ≡
    after_answer p call payload reply ss rs k before
answer-shape p call payload reply ss rs k before = grind arith

pub wait-shape : (reply : Reply) → is_wait (shape reply) ≡ is_wait reply
wait-shape reply = grind arith
