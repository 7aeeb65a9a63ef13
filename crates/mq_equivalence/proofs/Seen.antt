-- What matters of messages, after a record.
use Rattle.std.proofs.Common.{◌≡◌, ℕ, Bool, true, false, ◌&&◌, ◌||◌, not, List, [], ◌∷◌, length, map, Option, Some, None, if◌then◌else◌, refl, ap, arith}
use Rattle.std.specs.Option.{option_map}
use Rattle.std.proofs.lemmas.List.{length-map}
use Rattle.mq_model.specs.Record.{Past}
use Rattle.mq_model.specs.Messages.{is_send}
use Rattle.mq_model.specs.declared.entries.Call.{Call}
use Rattle.mq_model.specs.declared.entries.Reply.{Reply}
use Rattle.mq_model.specs.declared.entries.Reply.TheVariants.{Queued, Waits, Got}
use Rattle.mq_model.proofs.Cases.{Says}
use Rattle.mq_equivalence.specs.Equivalence.{may_come}
use Rattle.mq_equivalence.specs.Steps.{shape}
use Rattle.mq_equivalence.specs.Views.{Message, Sender, joined, prio_of, seen, seen_senders, unsent}
use Rattle.mq_equivalence.proofs.Effects.{admitted_process, after_answer, after_contents, after_senders, left, message_of, told_of}
use Rattle.mq_equivalence.proofs.Falling.{any, map-newer, oldest}
use Rattle.mq_equivalence.proofs.Withdrawals.{senders_but, sends_as}

pub length-seen : (received : Bool) (cs : List (Option Message)) →
    length (seen received cs) ≡ length cs
length-seen received cs = grind (arith, length-map)

pub any-seen : (received : Bool) (cs : List (Option Message)) → any (seen received cs) ≡ any cs
any-seen received cs = grind arith

pub any-seen_senders : (received : Bool) (ss : List (Option Sender)) →
    any (seen_senders received ss) ≡ any ss
any-seen_senders received ss = grind arith

-- a reply that hands out a message
abbrev pub is_got : Reply → Bool
is_got (Got m a n) = true
is_got _ = false

pub got-shape : (reply : Reply) → is_got (shape reply) ≡ is_got reply
got-shape reply = grind arith

-- so it gets one only if receives are to come
pub got-may : (received : Bool) (past : Past) (p : ℕ) (call : Call) (reply : Reply) →
    may_come received call ≡ true → Says past p call reply → is_got reply ≡ true → received ≡ true
got-may received past p call reply may says e = grind arith

pub no-got : (received : Bool) (past : Past) (p : ℕ) (call : Call) (reply : Reply) →
    may_come received call ≡ true → Says past p call reply → (received || not (is_got reply)) ≡ true
no-got received past p call reply may says = grind (arith, got-may)

-- messages ----------------------------------------------------------------------------------------

unseen-joined : (c : Option Message) (cs : List (Option Message)) →
    seen false (joined prio_of c cs) ≡ None ∷ seen false cs
unseen-joined c [] = refl
unseen-joined c (d ∷ cs) = grind (arith, unseen-joined c cs)

abbrev unseen_after : Call → Bool → Reply → List (Option Message) → List (Option Message)
unseen_after call on (Queued n) cs = if on && is_send call then None ∷ cs else cs
unseen_after call on reply cs = cs

abbrev pub after_seen : Bool → Call → List ℕ → Bool → Reply → List (Option Sender) →
    List (Option Message) → List (Option Message)
after_seen true call payload on reply ss cs = after_contents call payload on reply ss cs
after_seen false call payload on reply ss cs = unseen_after call on reply cs

pub seen-after : (received : Bool) (call : Call) (payload : List ℕ) (on : Bool) (reply : Reply)
    (ss : List (Option Sender)) (cs : List (Option Message)) →
    (received || not (is_got reply)) ≡ true →
    seen received (after_contents call payload on reply ss cs) ≡ after_seen received call payload on
    reply (seen_senders received ss) (seen received cs)
seen-after received call payload on reply ss cs may = grind (arith, unseen-joined, message_of)

-- sends that wait ---------------------------------------------------------------------------------

abbrev unseen_waiting : ℕ → Call → Bool → Reply → List (Option Sender) → List (Option Sender)
unseen_waiting p call on Waits ss = if is_send call && on
    then Some (record { process = p; message = record { prio = 0; bytes = [] } }) ∷ ss else ss
unseen_waiting p call on (Got m a n) ss = if on then left a ss else ss
unseen_waiting p call on reply ss = ss

abbrev pub after_waiting : Bool → ℕ → Call → List ℕ → Bool → Reply → List (Option Sender) →
    List (Option Sender)
after_waiting true p call payload on reply ss = after_senders p call payload on reply ss
after_waiting false p call payload on reply ss = unseen_waiting p call on reply ss

pub waiting-after : (received : Bool) (p : ℕ) (call : Call) (payload : List ℕ) (on : Bool)
    (reply : Reply) (ss : List (Option Sender)) →
    seen_senders received (after_senders p call payload on reply ss) ≡
    after_waiting received p call payload on reply (seen_senders received ss)
waiting-after received p call payload on reply ss = grind (arith, map-newer)

pub seen-but : (received : Bool) (p : ℕ) (ss : List (Option Sender)) →
    seen_senders received (senders_but p ss) ≡ senders_but p (seen_senders received ss)
seen-but true p ss = refl
seen-but false p [] = refl
seen-but false p (None ∷ ss) = ap (λ (rest : List (Option Sender)). None ∷ rest)
    (seen-but false p ss)
seen-but false p (Some s ∷ ss) = grind (arith, sends_as, seen-but false p ss)

oldest-process : (ss : List (Option Sender)) →
    option_map (λ (x : Sender). x.process) (oldest (map (option_map unsent) ss)) ≡
    option_map (λ (x : Sender). x.process) (oldest ss)
oldest-process [] = refl
oldest-process (None ∷ []) = refl
oldest-process (Some s ∷ []) = refl
oldest-process (s ∷ (t ∷ ss)) = oldest-process (t ∷ ss)

admitted-seen : (received : Bool) (a : Option ℕ) (ss : List (Option Sender)) →
    admitted_process a (seen_senders received ss) ≡ admitted_process a ss
admitted-seen false (Some w) ss = oldest-process ss
admitted-seen _ _ ss = refl

-- what answers a wait does not depend on the messages of the sends that wait
pub answer-seen : (received : Bool) (p : ℕ) (call : Call) (payload : List ℕ) (reply : Reply)
    (ss : List (Option Sender)) (rs : List (Option ℕ)) (k : ℕ)
    (before : Option (Option (Option Message))) →
    after_answer p call payload reply (seen_senders received ss) rs k before ≡
    after_answer p call payload reply ss rs k before
answer-seen received p call payload reply ss rs k before = grind (arith, admitted-seen, told_of)
