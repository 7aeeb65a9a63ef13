-- The numbers of a record fit their types. Those of a record in the program always do.
use Rattle.std.specs.Prelude.{ℕ, ℤ, pos, negsuc, ◌<◌, ◌^◌, All, IfSome}
use Rattle.std.specs.List.{AllByRecursion}
use Rattle.mq_model.specs.Record.{Record, Past}
use Rattle.mq_model.specs.declared.entries.Attr.{Attr}
use Rattle.mq_model.specs.declared.entries.Status.{Status}
use Rattle.mq_model.specs.declared.entries.Deadline.{Deadline}
use Rattle.mq_model.specs.declared.entries.Call.{Call}
use Rattle.mq_model.specs.declared.entries.Call.TheVariants as call
use Rattle.mq_model.specs.declared.entries.Reply.{Reply}
use Rattle.mq_model.specs.declared.entries.Reply.TheVariants as reply

-- a 64-bit integer
abbrev pub IsLong : ℤ → Type 0
IsLong (pos n) = n < 2 ^ 63
IsLong (negsuc n) = n < 2 ^ 63

abbrev pub IsPlace : ℕ → Type 0
IsPlace n = n < 2 ^ 64

abbrev pub AttrFits : Attr → Type 0
AttrFits attr = IsLong attr.maxmsg × IsLong attr.msgsize

abbrev pub StatusFits : Status → Type 0
StatusFits status = IsLong status.maxmsg × IsLong status.msgsize × IsLong status.curmsgs

abbrev pub MomentFits : Deadline → Type 0
MomentFits moment = IsLong moment.sec × IsLong moment.nsec

abbrev pub CallFits : Call → Type 0
CallFits (call.MqOpen flags attr) = IfSome attr AttrFits
CallFits (call.MqClose d) = d < 2 ^ 32
CallFits call.MqUnlink = Unit {0}
CallFits (call.MqSend d prio len) = (d < 2 ^ 32) × (prio < 2 ^ 32) × (len < 2 ^ 64)
CallFits (call.MqReceive d room) = (d < 2 ^ 32) × (room < 2 ^ 64)
CallFits (call.MqTimedSend d prio len until now) = (d < 2 ^ 32) × (prio < 2 ^ 32) × (len < 2 ^ 64) ×
    MomentFits until × MomentFits now
CallFits (call.MqTimedReceive d room until now) = (d < 2 ^ 32) × (room < 2 ^ 64) ×
    MomentFits until × MomentFits now
CallFits (call.MqGetattr d) = d < 2 ^ 32
CallFits (call.MqSetattr d nonblock) = d < 2 ^ 32
CallFits (call.MqNotify d value) = (d < 2 ^ 32) × IfSome value (λ n. n < 2 ^ 64)
CallFits call.NextNotice = Unit {0}
CallFits call.Collect = Unit {0}
CallFits (call.Withdraw now) = MomentFits now

abbrev pub ReplyFits : Reply → Type 0
ReplyFits (reply.Opened d created) = d < 2 ^ 32
ReplyFits (reply.Queued notified) = IfSome notified IsPlace
ReplyFits (reply.Handed wait) = IsPlace wait
ReplyFits reply.Waits = Unit {0}
ReplyFits (reply.Got place admitted notified) = IsPlace place × IfSome admitted IsPlace ×
    IfSome notified IsPlace
ReplyFits (reply.Collected by) = IsPlace by
ReplyFits (reply.Withdrawn wait) = IsPlace wait
ReplyFits (reply.Attrs status) = StatusFits status
ReplyFits (reply.Notice value) = IfSome value (λ n. n < 2 ^ 64)
ReplyFits reply.Done = Unit {0}
ReplyFits (reply.Refused fault) = Unit {0}

-- the numbers of a record fit their types
pub record Fits (r : Record) : Type 0 where
  pub process : r.entry.process < 2 ^ 32
  pub call : CallFits r.entry.call
  pub reply : ReplyFits r.entry.reply
  pub payload : All (λ b. b < 256) r.payload

-- those of each record fit
abbrev pub AllFit : Past → Type 0
AllFit past = AllByRecursion Fits past
