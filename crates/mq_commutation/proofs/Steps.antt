-- The same call on a queue after two journals that agree on everything at it: they still agree. And
-- the message that the call returns.
use Rattle.std.proofs.Common.{◌≡◌, ℕ, ◌<◌, true, false, List, ◌∷◌, length, Option, Some, None, is_some, sym, ◌∙◌, ap, arith}
use Rattle.mq_model.specs.Record.{Record, Past}
use Rattle.mq_model.specs.Descriptors.{called_queue, is_place}
use Rattle.mq_model.specs.Notices.{gives_notice, notified}
use Rattle.mq_model.specs.Waits.{is_wait}
use Rattle.mq_model.specs.Legality.{IsLegalNext, Legal}
use Rattle.mq_model.specs.declared.entries.Call.{Call}
use Rattle.mq_model.specs.declared.entries.Reply.{Reply}
use Rattle.mq_model.specs.declared.entries.Reply.TheVariants.{Got}
use Rattle.mq_model.proofs.Frames.{attributes-older}
use Rattle.mq_model.proofs.Cases.{Says}
use Rattle.mq_model.proofs.LegalReplies.{legal_says}
use Rattle.mq_model.proofs.Alive.{rec}
use Rattle.mq_equivalence.specs.Views.{contents, receivers, registered_as, senders}
use Rattle.mq_equivalence.specs.Steps.{message_given, shape}
use Rattle.mq_equivalence.proofs.Falling.{foremost}
use Rattle.mq_equivalence.proofs.Changes.{got-all}
use Rattle.mq_equivalence.proofs.Effects.{after_contents, after_receivers, after_senders, called, contents-step, receivers-step, senders-step}
use Rattle.mq_equivalence.proofs.Alike.{contents-shape, receivers-shape, senders-shape, wait-shape}
use Rattle.mq_equivalence.proofs.Calls.{got-message}
use Rattle.mq_equivalence.specs.Outline.{outline}
use Rattle.mq_equivalence.proofs.Registrations.{after_registered, registered-step}
use Rattle.mq_equivalence.proofs.Going.{shape-outline, given-outline}
use Rattle.mq_equivalence.proofs.Going.{registered-outline, told-outline}
use Rattle.mq_equivalence.proofs.Seen.{is_got}
use Rattle.mq_equivalence.proofs.Waiting.{none-given, the-got}
use Rattle.mq_commutation.specs.Commuting.{is_covered}
use Rattle.mq_commutation.proofs.Replies.{SameAt}
use Rattle.mq_commutation.proofs.Frames.{not-withdrawn}

-- consequences of equal outlines
pub shapes : (a b : Reply) → outline b ≡ outline a → shape b ≡ shape a
shapes a b same = sym (shape-outline b) ∙ ap shape same ∙ shape-outline a

pub both-told : (a b : Reply) → outline b ≡ outline a → is_some (notified b) ≡ is_some (notified a)
both-told a b same = sym (told-outline b) ∙ ap (λ (r : Reply). is_some (notified r)) same ∙
    told-outline a

pub both-give : (a b : Reply) → outline b ≡ outline a → gives_notice b ≡ gives_notice a
both-give a b same = sym (given-outline b) ∙ ap gives_notice same ∙ given-outline a

pub both-wait : (a b : Reply) → outline b ≡ outline a → is_wait b ≡ is_wait a
both-wait a b same = sym (wait-shape b) ∙ ap is_wait (shapes a b same) ∙ wait-shape a

-- messages given

pub got-in : (past : Past) → Legal past →
    (p : ℕ) (call : Call) (m : ℕ) (a n : Option ℕ) (payload : List ℕ) →
    Says past p call (Got m a n) → (q : ℕ) × (called_queue past p call ≡ Some q) ×
    (message_given (rec p call (Got m a n) payload ∷ past) (Got m a n) ≡ foremost (contents past q))
got-in past legal p call m a n payload says = grind (arith, got-all, called, got-message, foremost)

module _ (x y : Past) (legal_x : Legal x) (legal_y : Legal y) (p : ℕ) (call : Call) (a b : Reply)
    (px py : List ℕ)
    (next_x : IsLegalNext x (rec p call a px)) (next_y : IsLegalNext y (rec p call b py))
    (on : is_covered call ≡ true)
    (called_both : called_queue y p call ≡ called_queue x p call) (same : outline b ≡ outline a)
    (paid : py ≡ px) where
  abbrev rx : Record
  rx = rec p call a px

  abbrev ry : Record
  ry = rec p call b py

  says_x : Says x p call a
  says_x = legal_says x rx next_x

  says_y : Says y p call b
  says_y = legal_says y ry next_y

  shaped : shape b ≡ shape a
  shaped = shapes a b same

  pub steps-at : (k : ℕ) → k < length x → k < length y → SameAt x y k → SameAt (rx ∷ x) (ry ∷ y) k
  steps-at k lx ly s =
      let here : is_place k (called_queue y p call) ≡ is_place k (called_queue x p call) =
      ap (is_place k) called_both in
      record {
        limits = attributes-older y ry k ly ∙ s.limits ∙ sym (attributes-older x rx k lx);
        messages =
            contents-step y legal_y p call b py k says_y
            ∙ sym (contents-shape call py (is_place k (called_queue y p call)) b
            (senders y k) (contents y k))
            ∙ (λ i. after_contents call (paid i) (here i) (shaped i) (s.sending i) (s.messages i))
            ∙ contents-shape call px (is_place k (called_queue x p call)) a
            (senders x k) (contents x k)
            ∙ sym (contents-step x legal_x p call a px k says_x);
        sending =
            senders-step y p call b py k (legal_y, next_y) says_y
            (not-withdrawn y p call b on says_y)
            ∙ sym (senders-shape p call py (is_place k (called_queue y p call)) b (senders y k))
            ∙ (λ i. after_senders p call (paid i) (here i) (shaped i) (s.sending i))
            ∙ senders-shape p call px (is_place k (called_queue x p call)) a (senders x k)
            ∙ sym (senders-step x p call a px k (legal_x, next_x) says_x
            (not-withdrawn x p call a on says_x));
        receiving =
            receivers-step y p call b py k (legal_y, next_y) says_y
            (not-withdrawn y p call b on says_y)
            ∙ sym (receivers-shape p call (is_place k (called_queue y p call)) b (receivers y k))
            ∙ (λ i. after_receivers p call (here i) (shaped i) (s.receiving i))
            ∙ receivers-shape p call (is_place k (called_queue x p call)) a (receivers x k)
            ∙ sym (receivers-step x p call a px k (legal_x, next_x) says_x
            (not-withdrawn x p call a on says_x));
        registration =
            registered-step y p call b py next_y k
            ∙ sym (registered-outline (is_place k (called_queue y p call)) p call b
            (registered_as y k))
            ∙ (λ i. after_registered (here i) p call (same i) (s.registration i))
            ∙ registered-outline (is_place k (called_queue x p call)) p call a (registered_as x k)
            ∙ sym (registered-step x p call a px next_x k);
      }

got-outline : (r : Reply) → is_got (outline r) ≡ is_got r
got-outline r = grind arith

both-got : (x y : Past) → Legal x → Legal y →
    (p : ℕ) (call : Call) (m : ℕ) (a n : Option ℕ) (j : ℕ) (c l : Option ℕ) (px py : List ℕ) →
    Says x p call (Got m a n) → Says y p call (Got j c l) →
    called_queue y p call ≡ called_queue x p call →
    ((k : ℕ) → called_queue x p call ≡ Some k → foremost (contents y k) ≡ foremost (contents x k)) →
    message_given (rec p call (Got j c l) py ∷ y) (Got j c l) ≡
    message_given (rec p call (Got m a n) px ∷ x) (Got m a n)
both-got x y legal_x legal_y p call m a n j c l px py says_x says_y called at =
    let gx = got-in x legal_x p call m a n px says_x in
    let gy = got-in y legal_y p call j c l py says_y in
    let some : Some gy.0 ≡ Some gx.0 = sym gy.1 ∙ called ∙ gx.1 in
    let one : gy.0 ≡ gx.0 = cc in
    gy.2 ∙ ap (λ (q : ℕ). foremost (contents y q)) one ∙ at gx.0 gx.1 ∙ sym gx.2

-- a reply with the same outline as one that returns no message returns none
pub no-message : (past : Past) (a b : Reply) → outline b ≡ outline a → is_got a ≡ false →
    message_given past b ≡ None
no-message past a b same e = none-given past b (sym (got-outline b) ∙ ap is_got same ∙
    got-outline a ∙ e)

-- replies with the same outline that return a message return the same one
pub message-same : (x y : Past) → Legal x → Legal y →
    (p : ℕ) (call : Call) (a b : Reply) (px py : List ℕ) → Says x p call a → Says y p call b →
    called_queue y p call ≡ called_queue x p call → outline b ≡ outline a →
    ((k : ℕ) → called_queue x p call ≡ Some k → foremost (contents y k) ≡ foremost (contents x k)) →
    message_given (rec p call b py ∷ y) b ≡ message_given (rec p call a px ∷ x) a
message-same x y legal_x legal_y p call a b px py says_x says_y called same at =
    grind (arith, is_got, got-outline, the-got, rec, both-got, Says, called, none-given)
