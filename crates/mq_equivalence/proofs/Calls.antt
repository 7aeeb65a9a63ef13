-- Replies to plain calls, and which calls can be made.
use Rattle.std.proofs.Common.{◌≡◌, ℕ, ◌<◌, Bool, true, false, List, ◌∷◌, length, Option, Some, None, is_some, refl, ap, sym, ◌∙◌, arith}
use Rattle.std.specs.Option.{option_map, unwrap_or}
use Rattle.mq_model.specs.Record.{Record, Past, Process}
use Rattle.mq_model.specs.Messages.{is_in, present}
use Rattle.mq_model.specs.Waits.{answered_by}
use Rattle.mq_model.specs.Legality.{Legal, may_call, reply_to}
use Rattle.mq_model.specs.declared.entries.Call.{Call}
use Rattle.mq_model.specs.declared.entries.Call.TheVariants.{Collect}
use Rattle.mq_model.specs.declared.entries.Reply.{Reply}
use Rattle.mq_model.specs.declared.entries.Reply.TheVariants.{Got}
use Rattle.mq_model.proofs.Cases.{Says, reply_says}
use Rattle.mq_model.proofs.Presence.{present-below}
use Rattle.mq_state.specs.Trails.{can_call}
use Rattle.mq_equivalence.specs.Steps.{message_collected, message_given, shape}
use Rattle.mq_equivalence.specs.Views.{Message, answer, at, contents, sent, told}
use Rattle.mq_equivalence.proofs.Alike.{payload-alike}
use Rattle.mq_equivalence.proofs.Falling.{best-first, foremost}
use Rattle.mq_equivalence.proofs.Changes.{at-older, falls-present, got-all, rec}
use Rattle.mq_equivalence.proofs.Effects.{answer-older, called, is-best, is_collected}

-- whether a call can be made ----------------------------------------------------------------------

pub can-alike : (x y : Past) (p : Process) (call : Call) (given : List ℕ) →
    may_call y p call ≡ may_call x p call →
    shape (reply_to y p call given) ≡ shape (reply_to x p call given) →
    can_call y p call given ≡ can_call x p call given
can-alike x y p call given turn same = grind (arith, payload-alike)

-- a reply that is no collect's --------------------------------------------------------------------

-- of a plain call that is no collect
abbrev pub is_other : Call → Bool
is_other Collect = false
is_other call = true

pub never-collected : (past : Past) (p : ℕ) (call : Call) (given : List ℕ) → is_other call ≡ true →
    is_collected (reply_to past p call given) ≡ false
never-collected past p call given other = grind (arith, Says, reply_says)

-- the message that a reply hands out was there before it
pub message-older : (past : Past) (p : Process) (call : Call) (given : List ℕ) (r : Record) →
    message_given (r ∷ past) (reply_to past p call given) ≡
    message_given past (reply_to past p call given)
message-older past p call given r =
    let goes : (reply : Reply) → Says past p call reply →
    message_given (r ∷ past) reply ≡ message_given past reply =
    λ (reply : Reply). elim reply as (λ reply. Says past p call reply → message_given
    (r ∷ past) reply ≡ message_given past reply) [
      | Got m a n ↦ (λ says. let got = got-all past p call m a n says in at-older sent past r m
          (present-below past got.queue m (is-best past got.queue m got.best).inside))
      | _ ↦ (λ says. refl)
    ]
    in
    goes (reply_to past p call given) (reply_says past p call given)

-- the message that a receive gets
pub got-message : (past : Past) → Legal past →
    (p : ℕ) (call : Call) (m : ℕ) (a n : Option ℕ) (payload : List ℕ) →
    Says past p call (Got m a n) →
    at sent (rec p call (Got m a n) payload ∷ past) m ≡
    foremost (contents past (called past p call))
got-message past legal p call m a n payload says =
    let got = got-all past p call m a n says in
    let same : called past p call ≡ got.queue = ap (λ (o : Option ℕ). unwrap_or o 0) got.on in
    let b = is-best past got.queue m got.best in
    let below : m < length past = below-present past got.queue m b.inside in
    let is = (best-first (at sent past) (present past got.queue) m
    (falls-present past legal got.queue) b).0 in
    at-older sent past (rec p call (Got m a n) payload) m below ∙ is ∙
    ap (λ (q : ℕ). foremost (contents past q)) (sym same)
  where
    below-present : (past : Past) (q m : ℕ) → is_in (present past q) m ≡ true → m < length past
    below-present past q m h = present-below past q m h

-- a collect ---------------------------------------------------------------------------------------

-- what a wait was answered with is at the place that its collect names
pub collected-at : (past : Past) (r : Record) (p : Process) → is_some (answered_by past p) ≡ true →
    Some (at told (r ∷ past) (unwrap_or (answered_by past p) 0)) ≡ answer past p
collected-at past r p some =
    let goes : (o : Option ℕ) → is_some o ≡ true → Some (at told (r ∷ past) (unwrap_or o 0)) ≡
    option_map (at told (r ∷ past)) o =
    λ (o : Option ℕ). elim o as (λ o. is_some o ≡ true → Some (at told (r ∷ past) (unwrap_or o 0)) ≡
    option_map (at told (r ∷ past)) o) [ None ↦ (λ h. absurd (cc)) | Some b ↦ (λ h. refl) ]
    in
    goes (answered_by past p) some ∙ answer-older past r p

collected-is : (past : Past) (p : ℕ) (call : Call) (reply : Reply) (payload : List ℕ) →
    is_collected reply ≡ true → Says past p call reply → may_call past p call ≡ true →
    Some (message_collected (rec p call reply payload ∷ past) reply) ≡ answer past p
collected-is past p call reply payload e says turn = grind (arith, rec, collected-at)

answered-some : (past : Past) (p : ℕ) (m : Option (Option Message)) → Some m ≡ answer past p →
    is_some (answered_by past p) ≡ true
answered-some past p m = grind arith

-- a collect returns the same message if the waits were answered with the same
pub collected-alike : (x y : Past) (p : ℕ) (call : Call) (a b : Reply) (px py : List ℕ) →
    shape b ≡ shape a → (is_some (answered_by x p) ≡ true → answer y p ≡ answer x p) →
    may_call y p call ≡ may_call x p call → Says x p call a → Says y p call b →
    may_call x p call ≡ true →
    message_collected (rec p call b py ∷ y) b ≡ message_collected (rec p call a px ∷ x) a
collected-alike x y p call a b px py e same turns says_x says_y turn =
    grind (arith, is_collected, rec, collected-is, answered-some)
