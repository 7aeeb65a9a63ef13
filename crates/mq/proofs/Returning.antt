-- What a call of a kind is.
use Rattle.std.proofs.Common.{◌≡◌, ℕ, List, true, false, Some, refl, sym, ◌∙◌, rules}
use Rattle.fast_mutex.specs.Items.{Ticket}
use Rattle.mq_model.specs.Record.{Record}
use Rattle.mq_model.specs.Messages.{is_receive}
use Rattle.mq_model.specs.declared.entries.Call.{Call}
use Rattle.mq_model.specs.declared.entries.Call.TheVariants.{MqReceive, MqTimedReceive}
use Rattle.mq_model.specs.declared.entries.Reply.{Reply}
use Rattle.mq_state.specs.Buffers.{filled}
use Rattle.mq_state.specs.Requests.{IsGiven}
use Rattle.mq.specs.Asked.{gets_message, may_reply}
use Rattle.mq.specs.Calls.{Calls, Found, made}
use Rattle.mq.specs.Kinds.{Kind, IsKind, IsCall}

-- a message is got by receives alone
pub no-message : (call : Call) (reply : Reply) → may_reply call reply ≡ true →
    is_receive call ≡ false → gets_message reply ≡ false
no-message call reply may other = search rules

-- what a call of a kind is, by its reply
pub is-call : {R : Type 0} {old new : Ticket Record} (call : Call) {given : List ℕ}
    (before after : List ℕ) {returned : R} (k : Kind R) (reply : Reply) → IsKind k →
    IsGiven call given → may_reply call reply ≡ true →
    Calls old new (made old.number call given reply) → Found old new call given reply
    → k.says new.left reply ≡ Some returned →
    (is_receive call ≡ true → after ≡ filled new.left reply before) →
    IsCall k.says old new call given before after returned
is-call (MqReceive d room) before after k reply kind none may calls found says fills =
    record {
      reply = reply;
      calls = calls;
      found = rw none at found;
      says_so = says;
      buffer = fills refl;
    }
is-call (MqTimedReceive d room until now) before after k reply kind none may calls found says
    fills = record {
      reply = reply;
      calls = calls;
      found = rw none at found;
      says_so = says;
      buffer = fills refl;
    }
is-call {new = new} call before after k reply kind is may calls found says fills =
    record {
      reply = reply;
      calls = calls;
      found = found;
      says_so = sym (kind.alone new.left reply (no-message call reply may refl)) ∙ says;
    }
