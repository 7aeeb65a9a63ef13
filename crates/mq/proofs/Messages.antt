-- Records that are no messages change no message.
use Rattle.std.proofs.Common.{◌≡◌, ℕ, true, List, [], ◌∷◌, ◌++◌, arith}
use Rattle.mq_model.specs.Record.{Record, Past}
use Rattle.mq_model.specs.Messages.{is_receive, priority_given}
use Rattle.mq_model.proofs.Prefixes.{record_at-below}
use Rattle.mq_model.specs.declared.entries.Call.{Call}
use Rattle.mq_model.specs.declared.entries.Reply.{Reply}
use Rattle.mq_state.specs.Buffers.{message_at, received_at, received_by, filled}
use Rattle.mq.specs.Asked.{may_reply}
use Rattle.mq.specs.Calls.{made}
use Rattle.mq.proofs.Returning.{no-message}

pub message-kept : (past : Past) (r : Record) (m : ℕ) → r.payload ≡ [] →
    message_at (r ∷ past) m ≡ message_at past m
message-kept past r m empty = grind (arith, record_at-below)

pub received-kept : (past : Past) (r : Record) (m : ℕ) → r.payload ≡ [] →
    priority_given r.entry.call ≡ 0 → received_at (r ∷ past) m ≡ received_at past m
received-kept past r m empty low = grind (arith, record_at-below)

-- the buffer that a receive fills, by the journal it leaves
pub filled-kept : (past : Past) (p : ℕ) (call : Call) (given : List ℕ) (reply : Reply)
    (buffer : List ℕ) → is_receive call ≡ true →
    filled (made p call given reply ++ past) reply buffer ≡ filled past reply buffer
filled-kept past p call given reply buffer receives = grind (arith, message-kept)

-- the message of a reply, in the journal that its call leaves
pub received_by-kept : (past : Past) (p : ℕ) (call : Call) (given : List ℕ) (reply : Reply) →
    may_reply call reply ≡ true → received_by (made p call given reply ++ past) reply ≡
    received_by past reply
received_by-kept past p call given reply may = grind (arith, received-kept, no-message)
