-- What is seen of a call. A copy of a call shows the same as the call.
use Rattle.std.specs.Prelude.{◌≡◌, ℕ, List, Option, map}
use Rattle.mq_model.specs.declared.entries.Call.{Call}
use Rattle.mq_model.specs.declared.entries.Reply.{Reply}
use Rattle.histories.specs.declared.operation.Operation.{Operation}
use Rattle.history_judge.specs.Text.{message_of, written_reply}
use Rattle.history_judge.specs.declared.line.Called.{Called}

pub record Seen : Type 0 where
  pub call : Call
  pub given : List ℕ
  pub begin : ℕ
  pub end : ℕ
  pub reply : Option Reply
  pub message : List ℕ

abbrev pub seen : Operation → Seen
seen o = record {
  call = o.call;
  given = o.given.items;
  begin = o.begin;
  end = o.end;
  reply = written_reply o.outcome;
  message = message_of o.outcome;
}

pub record SeenCall : Type 0 where
  pub process : ℕ
  pub operation : Seen

abbrev pub seen_call : Called → SeenCall
seen_call c = record { process = c.process; operation = seen c.operation }

-- the same operations, one by one; and the same calls
abbrev pub AreSameOperations : List Operation → List Operation → Type 0
AreSameOperations xs ys = map seen xs ≡ map seen ys

abbrev pub AreSameCalls : List Called → List Called → Type 0
AreSameCalls xs ys = map seen_call xs ≡ map seen_call ys
