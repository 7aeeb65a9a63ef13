-- What a call on the books leaves, and which replies it is given.
use Rattle.std.proofs.Common.{◌≡◌, ℕ, true, false, List, ◌++◌, Option, refl, rules, arith}
use Rattle.mq_model.specs.Record.{Past}
use Rattle.mq_model.specs.Legality.{Appends, reply_to}
use Rattle.mq_model.specs.Bounds.{has_entry}
use Rattle.mq_model.proofs.Cases.{reply_says, OpenReply, DoneReply, AttrsReply, SendSays, ReceiveSays}
use Rattle.mq_model.specs.declared.entries.Description.{Description}
use Rattle.mq_model.specs.declared.entries.Call.{Call}
use Rattle.mq_model.specs.declared.entries.Call.TheVariants.{MqOpen, MqClose, MqUnlink, MqSend, MqReceive, MqGetattr, MqSetattr, MqNotify, MqTimedSend, MqTimedReceive}
use Rattle.mq_model.specs.declared.entries.Reply.{Reply}
use Rattle.mq_model.specs.declared.entries.Reply.TheVariants.{Refused}
use Rattle.mq_model.specs.declared.faults.Fault.{Fault}
use Rattle.mq_state.specs.Requests.{Brings}
use Rattle.mq.specs.Calls.{made}
use Rattle.mq.specs.Asked.{may_reply, is_opened, is_done, is_attributes, is_sent, is_received}

opened : (reply : Reply) → OpenReply reply → is_opened reply ≡ true
opened reply says = search rules

done : (reply : Reply) → DoneReply reply → is_done reply ≡ true
done reply says = search rules

attributes : (reply : Reply) → AttrsReply reply → is_attributes reply ≡ true
attributes reply says = search rules

sent : (past : Past) (o : Option Description) (prio len : ℕ) (reply : Reply) →
    SendSays past o prio len reply → is_sent reply ≡ true
sent past o prio len reply says = search rules

received : (past : Past) (o : Option Description) (room : ℕ) (reply : Reply) →
    ReceiveSays past o room reply → is_received reply ≡ true
received past o room reply says = search rules

-- the reply of the definition is one that the call may be given
pub may-be-reply : (past : Past) (p : ℕ) (call : Call) (given : List ℕ) →
    may_reply call (reply_to past p call given) ≡ true
may-be-reply past p (MqOpen flags attr) given =
    opened _ (reply_says past p (MqOpen flags attr) given)
may-be-reply past p (MqClose d) given = done _ ((reply_says past p (MqClose d) given).0)
may-be-reply past p MqUnlink given = done _ (reply_says past p MqUnlink given)
may-be-reply past p (MqSend d prio len) given = sent past _ prio len _
    (reply_says past p (MqSend d prio len) given)
may-be-reply past p (MqTimedSend d prio len until now) given = sent past _ prio len _
    (reply_says past p (MqTimedSend d prio len until now) given)
may-be-reply past p (MqReceive d room) given = received past _ room _
    (reply_says past p (MqReceive d room) given)
may-be-reply past p (MqTimedReceive d room until now) given = received past _ room _
    (reply_says past p (MqTimedReceive d room until now) given)
may-be-reply past p (MqGetattr d) given = attributes _ (reply_says past p (MqGetattr d) given)
may-be-reply past p (MqSetattr d nonblock) given =
    attributes _ (reply_says past p (MqSetattr d nonblock) given)
may-be-reply past p (MqNotify d value) given = done _ (reply_says past p (MqNotify d value) given)
may-be-reply past p call given = refl

-- a reply without an entry is an error
pub unentered : (reply : Reply) → has_entry reply ≡ false → (f : Fault) × (reply ≡ Refused f)
unentered reply e = search rules

-- what a call of the books adds: its record, or nothing if memory was refused or the journal is
-- full
pub asked : {old new : Past} {p : ℕ} {call : Call} {given : List ℕ} {reply : Reply}
    → (has_entry reply ≡ true → Appends old new p call given reply) →
    (has_entry reply ≡ false → new ≡ old) → new ≡ made p call given reply ++ old
asked {old} {new} {p} {call} {given} {reply} entry none = grind arith

-- and its reply is one that it may be given
pub replied : {old new : Past} {p : ℕ} {call : Call} {given : List ℕ} {reply : Reply}
    → (has_entry reply ≡ true → Appends old new p call given reply) →
    ((f : Fault) → may_reply call (Refused f) ≡ true) → may_reply call reply ≡ true
replied {old} {new} {p} {call} {given} {reply} entry refused =
    grind (arith, may-be-reply, unentered)

-- a call that is made on request may fail
pub may-be-refused : (call : Call) (given : List ℕ) (room : ℕ) → Brings call given room →
    (f : Fault) → may_reply call (Refused f) ≡ true
may-be-refused call given room brings f = search rules
