-- Sends and receives, with and without a deadline: their effect in one critical section.
use Rattle.std.proofs.Common.{arith, ◌≡◌, ℕ, List, true, refl, Option, Some, Result, Ok, Err, Bool, ◌⊎◌, inl}
use Rattle.fast_mutex.specs.Items.{Ticket}
use Rattle.mq_model.specs.Messages.{is_receive, is_send}
use Rattle.mq_model.specs.Record.{Record}
use Rattle.mq_model.specs.declared.entries.Call.{Call}
use Rattle.mq_model.specs.declared.entries.Received.{Received}
use Rattle.mq_model.specs.declared.faults.Fault.{Fault}
use Rattle.mq.specs.Calls.{OneCall, ReceiveCall, Receives, Sends}
use Rattle.mq.specs.Kinds.{IsCall, receive_kind, send_kind}
use Rattle.mq.specs.Says.{start_receive_says, start_send_says}
use Rattle.script_runner.specs.Runs.{Shows}
use Rattle.script_text.specs.declared.reply.Outcome.{Outcome}
use Rattle.script_text.specs.declared.reply.Outcome.TheVariants as outcomes

-- the effect of the first critical section of a send, and of a receive
pub send-starts : {old new : Ticket Record} (call : Call) (given before after : List ℕ)
    {returned : Result Bool Fault} → is_send call ≡ true →
    IsCall send_kind.says old new call given before after returned →
    OneCall start_send_says old new call given returned
send-starts = grind arith

pub receive-starts : {old new : Ticket Record} (call : Call) (given before after : List ℕ)
    {returned : Result (Option Received) Fault} → is_receive call ≡ true →
    IsCall receive_kind.says old new call given before after returned →
    ReceiveCall start_receive_says old new call before after returned
receive-starts = grind arith

-- a send, and a receive, that did not wait
pub send-done : {old new : Ticket Record} {call : Call} {bytes : List ℕ} →
    OneCall start_send_says old new call bytes (Ok true) →
    Shows (λ _. outcomes.Done) (Sends old new call bytes) outcomes.Done
send-done start = record {
  result = Ok tt;
  called = inl (record {
    reply = start.reply;
    calls = start.calls;
    found = start.found;
    says_so = grind arith;
  });
  outcome = refl;
}

pub send-refused : {old new : Ticket Record} {call : Call} {bytes : List ℕ} {fault : Fault} →
    OneCall start_send_says old new call bytes (Err fault) →
    Shows (λ _. outcomes.Done) (Sends old new call bytes) (outcomes.Refused fault)
send-refused {fault = fault} start = record {
  result = Err fault;
  called = inl (record {
    reply = start.reply;
    calls = start.calls;
    found = start.found;
    says_so = grind arith;
  });
  outcome = refl;
}

pub receive-done : {old new : Ticket Record} {call : Call} {before after : List ℕ}
    {received : Received} →
    ReceiveCall start_receive_says old new call before after (Ok (Some received)) →
    Shows outcomes.Got (Receives old new call before after) (outcomes.Got received)
receive-done {new = new} {received = received} start = record {
  result = Ok received;
  called = inl (record {
    reply = start.reply;
    calls = start.calls;
    found = start.found;
    says_so = grind arith;
    buffer = start.buffer;
  });
  outcome = refl;
}

pub receive-refused : {old new : Ticket Record} {call : Call} {before after : List ℕ}
    {fault : Fault} → ReceiveCall start_receive_says old new call before after (Err fault) →
    Shows outcomes.Got (Receives old new call before after) (outcomes.Refused fault)
receive-refused {new = new} {fault = fault} start = record {
  result = Err fault;
  called = inl (record {
    reply = start.reply;
    calls = start.calls;
    found = start.found;
    says_so = grind arith;
    buffer = start.buffer;
  });
  outcome = refl;
}

-- those with a deadline, at the time of the clock
pub or-more : {A B C : Type 0} → A ⊎ B → A ⊎ B ⊎ C
or-more = grind arith

pub shows-so : {A : Type 0} {shows : A → Outcome} {Called Other : Result A Fault → Type 0}
    {came : Outcome} → ((result : Result A Fault) → Called result → Other result) →
    Shows shows Called came → Shows shows Other came
shows-so so shown = record {
  result = shown.result;
  called = so shown.result shown.called;
  outcome = shown.outcome;
}
