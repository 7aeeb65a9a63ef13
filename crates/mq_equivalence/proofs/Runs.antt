-- Runs of calls after equivalent journals.
use Rattle.std.proofs.lemmas.Bool.Decides.{nat_tests}
use Rattle.std.proofs.Common.{◌≡◌, ℕ, Bool, true, List, [], ◌∷◌, length, refl, sym, ◌∙◌, ap, arith}
use Rattle.mq_model.specs.Record.{Past}
use Rattle.mq_model.specs.Legality.{IsLegalNext, Legal, is_payload, is_refused, payload_of, reply_to}
use Rattle.mq_model.specs.declared.entries.Call.{Call}
use Rattle.mq_model.specs.declared.entries.Call.TheVariants.{MqOpen, MqClose, MqUnlink, MqSend, MqReceive, MqTimedSend, MqTimedReceive, MqGetattr, MqSetattr, MqNotify, NextNotice, Collect, Withdraw}
use Rattle.mq_model.specs.declared.entries.Reply.{Reply}
use Rattle.mq_model.proofs.Cases.{reply_says}
use Rattle.mq_equivalence.specs.Steps.{record_of, shape}
use Rattle.mq_equivalence.proofs.Calls.{collected-alike}
use Rattle.mq_equivalence.proofs.Alike.{payload-alike, refused-alike}
use Rattle.mq_equivalence.specs.Structure.{extended}
use Rattle.mq_equivalence.specs.Outline.{outline}
use Rattle.mq_equivalence.specs.Equivalence.{AgreeUnder, Equivalent, EquivalentUnder, StepsAgree, StepsEquivalent, may_come}
use Rattle.mq_equivalence.specs.Runs.{Request, after_calls}
use Rattle.mq_equivalence.proofs.Replies.{reply-equivalent, turn-equivalent}
use Rattle.mq_equivalence.proofs.Going.{shape-outline}
use Rattle.mq_equivalence.proofs.Waiting.{goes-equivalent, message-equivalent}

pub payload-by : (call : Call) (a b : Reply) (payload : List ℕ) → is_refused b ≡ is_refused a →
    is_payload call b payload ≡ is_payload call a payload
payload-by call a b payload e = grind arith

-- an entry that may follow the one journal may follow the other
pub next-equivalent : {received : Bool} (to : ℕ → ℕ) (x y : Past) → AgreeUnder received to x y →
    (p : ℕ) (call : Call) (given : List ℕ) → IsLegalNext x (record_of x p call given) →
    IsLegalNext y (record_of y p call given)
next-equivalent to x y equivalent p call given next =
    let a = reply_to x p call given in
    let b = reply_to y p call given in
    let shaped : shape b ≡ shape a = sym (shape-outline b) ∙
    ap shape (reply-equivalent to x y equivalent p call given) ∙ shape-outline a in
    grind (arith, nat_tests, payload-alike, payload-by, refused-alike, turn-equivalent)
  where
    same-reply : (call : Call) (given : List ℕ) →
        reply_to y p call given ≡
        reply_to y p call (payload_of call (reply_to y p call given) given)
    same-reply (MqOpen flags attr) given = refl
    same-reply MqUnlink given = refl
    same-reply (MqSend d prio len) given = refl
    same-reply (MqTimedSend d prio len until now) given = refl
    same-reply (MqClose d) given = refl
    same-reply (MqReceive d room) given = refl
    same-reply (MqTimedReceive d room until now) given = refl
    same-reply (MqGetattr d) given = refl
    same-reply (MqSetattr d nonblock) given = refl
    same-reply (MqNotify d value) given = refl
    same-reply NextNotice given = refl
    same-reply Collect given = refl
    same-reply (Withdraw now) given = refl

-- one call after journals that agree
pub steps-agree : {received : Bool} (to : ℕ → ℕ) (x y : Past) → AgreeUnder received to x y →
    (p : ℕ) (call : Call) (given : List ℕ) → may_come received call ≡ true →
    StepsAgree received to x y p call given
steps-agree to x y equivalent p call given may =
    let a = reply_to x p call given in
    let b = reply_to y p call given in
    let same : outline b ≡ outline a = reply-equivalent to x y equivalent p call given in
    let shaped : shape b ≡ shape a = sym (shape-outline b) ∙ ap shape same ∙ shape-outline a in
    record {
      turn = turn-equivalent to x y equivalent p call;
      reply = same;
      message = message-equivalent to x y equivalent p call may a b _ _ shaped
          (reply_says x p call given) (reply_says y p call given);
      collected = collected-alike x y p call a b _ _ shaped (λ _. equivalent.answered p)
          (turn-equivalent to x y equivalent p call) (reply_says x p call given)
          (reply_says y p call given);
      legal = next-equivalent to x y equivalent p call given;
      next = λ next_x. goes-equivalent to x y equivalent p call given next_x
          (next-equivalent to x y equivalent p call given next_x) may;
    }

pub steps-equivalent : (to : ℕ → ℕ) (x y : Past) → EquivalentUnder to x y →
    (p : ℕ) (call : Call) (given : List ℕ) → StepsEquivalent to x y p call given
steps-equivalent to x y equivalent p call given = steps-agree to x y equivalent p call given refl

pub runs-equivalent : (x y : Past) → Equivalent x y → (calls : List Request) →
    Legal (after_calls x calls) → Equivalent (after_calls x calls) (after_calls y calls)
runs-equivalent x y go [] legal = go
runs-equivalent x y go (c ∷ calls) legal =
    let before = runs-equivalent x y go calls legal.0 in
    let next = next-equivalent before.to (after_calls x calls) (after_calls y calls)
    before.equivalent c.process c.call c.given legal.1 in
    record {
      to = extended before.to (length (after_calls x calls)) (length (after_calls y calls));
      equivalent = goes-equivalent before.to (after_calls x calls) (after_calls y calls)
          before.equivalent c.process c.call c.given legal.1 next refl;
    }
