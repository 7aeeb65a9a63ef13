-- What holds of each kind of call.
use Rattle.std.proofs.Common.{◌≡◌, ◌≢◌, Bool, true, false, [], Option, Some, None, Result, Ok, Err, refl, ap, sym, ◌∙◌}
use Rattle.mq_model.specs.Record.{Past}
use Rattle.mq_model.specs.Waits.{is_wait}
use Rattle.mq_model.specs.declared.entries.Reply.{Reply}
use Rattle.mq_model.specs.declared.entries.Reply.TheVariants.{Opened, Queued, Handed, Waits, Got, Collected, Attrs, Notice, Done, Refused, Withdrawn}
use Rattle.mq_model.specs.declared.faults.Fault.{Fault}
use Rattle.mq_model.specs.declared.entries.Received.{Received}
use Rattle.mq_state.specs.Buffers.{received_at}
use Rattle.mq.specs.Says.{open_says, done_says, attributes_says, notice_says, start_send_says, start_receive_says}
use Rattle.mq.specs.Asked.{gets_message}
use Rattle.mq.specs.Kinds.{IsKind, open_kind, done_kind, attributes_kind, notice_kind, send_kind, receive_kind}

-- a call without a result for a wait does not wait
never-waits : {R : Type 0} (says : Reply → Option R) → says Waits ≡ None →
    (reply : Reply) (returned : R) → says reply ≡ Some returned → is_wait reply ≡ false
never-waits says none Waits returned e = absurd (let bad : None ≡ Some returned = sym none ∙ e in
    cc)
never-waits says none (Opened d c) returned e = refl
never-waits says none (Queued n) returned e = refl
never-waits says none (Handed w) returned e = refl
never-waits says none (Got m a n) returned e = refl
never-waits says none (Collected by) returned e = refl
never-waits says none (Withdrawn by) returned e = refl
never-waits says none (Attrs s) returned e = refl
never-waits says none (Notice v) returned e = refl
never-waits says none Done returned e = refl
never-waits says none (Refused f) returned e = refl

never-kind : {R : Type 0} (says : Reply → Option R) (replies : Reply → Bool) → says Waits ≡ None →
    IsKind (record { says = λ past. says; replies = replies; waiting = None })
never-kind says replies none = record {
  waits = λ past reply returned e waits. absurd waits;
  over = λ past reply returned e over. never-waits says none reply returned e;
  alone = λ past reply none. refl;
}

pub open-is_kind : IsKind open_kind
open-is_kind = never-kind open_says open_kind.replies refl

pub done-is_kind : IsKind done_kind
done-is_kind = never-kind done_says done_kind.replies refl

pub attributes-is_kind : IsKind attributes_kind
attributes-is_kind = never-kind attributes_says attributes_kind.replies refl

pub notice-is_kind : IsKind notice_kind
notice-is_kind = never-kind notice_says notice_kind.replies refl

pub send-waits : (reply : Reply) (returned : Result Bool Fault) →
    start_send_says reply ≡ Some returned → returned ≡ Ok false → reply ≡ Waits
send-waits Waits returned e is = refl
send-waits (Queued n) returned e is = absurd (let bad : Some (Ok true) ≡ Some (Ok false) = e ∙
    ap (λ (r : Result Bool Fault). Some r) is in cc)
send-waits (Handed w) returned e is = absurd (let bad : Some (Ok true) ≡ Some (Ok false) = e ∙
    ap (λ (r : Result Bool Fault). Some r) is in cc)
send-waits (Refused f) returned e is = absurd (let bad : Some (Err f) ≡ Some (Ok false) = e ∙
    ap (λ (r : Result Bool Fault). Some r) is in cc)
send-waits (Opened d c) returned e is = absurd (cc)
send-waits (Got m a n) returned e is = absurd (cc)
send-waits (Collected by) returned e is = absurd (cc)
send-waits (Withdrawn by) returned e is = absurd (cc)
send-waits (Attrs s) returned e is = absurd (cc)
send-waits (Notice v) returned e is = absurd (cc)
send-waits Done returned e is = absurd (cc)

send-over : (reply : Reply) (returned : Result Bool Fault) → start_send_says reply ≡ Some returned →
    returned ≢ Ok false → is_wait reply ≡ false
send-over Waits returned e other = absurd (other (let same : Ok false ≡ returned = cc in sym same))
send-over reply returned e other = refl

pub receive-waits : (past : Past) (reply : Reply) (returned : Result (Option Received) Fault) →
    start_receive_says past reply ≡ Some returned → returned ≡ Ok None → reply ≡ Waits
receive-waits past Waits returned e is = refl
receive-waits past (Got m a n) returned e is =
    absurd (let bad : Some (Ok (Some (received_at past m))) ≡ Some (Ok None) = e ∙
    ap (λ (r : Result (Option Received) Fault). Some r) is in cc)
receive-waits past (Refused f) returned e is = absurd (let bad : Some (Err f) ≡ Some (Ok None) = e ∙
    ap (λ (r : Result (Option Received) Fault). Some r) is in cc)
receive-waits past (Queued n) returned e is = absurd (cc)
receive-waits past (Handed w) returned e is = absurd (cc)
receive-waits past (Opened d c) returned e is = absurd (cc)
receive-waits past (Collected by) returned e is = absurd (cc)
receive-waits past (Withdrawn by) returned e is = absurd (cc)
receive-waits past (Attrs s) returned e is = absurd (cc)
receive-waits past (Notice v) returned e is = absurd (cc)
receive-waits past Done returned e is = absurd (cc)

receive-over : (past : Past) (reply : Reply) (returned : Result (Option Received) Fault) →
    start_receive_says past reply ≡ Some returned → returned ≢ Ok None → is_wait reply ≡ false
receive-over past Waits returned e other =
    absurd (other (let same : Ok None ≡ returned = cc in sym same))
receive-over past reply returned e other = refl

pub send-is_kind : IsKind send_kind
send-is_kind = record {
  waits = λ past. send-waits;
  over = λ past. send-over;
  alone = λ past reply none. refl;
}

receive-alone : (past : Past) (reply : Reply) → gets_message reply ≡ false →
    start_receive_says past reply ≡ start_receive_says [] reply
receive-alone past (Got m a n) none = absurd (cc)
receive-alone past reply none = refl

pub receive-is_kind : IsKind receive_kind
receive-is_kind = record {
  waits = receive-waits;
  over = receive-over;
  alone = receive-alone;
}
