-- Which replies each call may get.
use Rattle.std.specs.Prelude.{Bool, true, false}
use Rattle.mq_model.specs.declared.entries.Call.{Call}
use Rattle.mq_model.specs.declared.entries.Call.TheVariants.{MqOpen, MqClose, MqUnlink, MqSend, MqReceive, MqGetattr, MqSetattr, MqNotify, NextNotice, Collect, MqTimedSend, MqTimedReceive, Withdraw}
use Rattle.mq_model.specs.declared.entries.Reply.{Reply}
use Rattle.mq_model.specs.declared.entries.Reply.TheVariants.{Opened, Queued, Handed, Waits, Got, Collected, Attrs, Notice, Done, Refused, Withdrawn}

abbrev pub is_opened : Reply → Bool
is_opened (Opened d created) = true
is_opened (Refused fault) = true
is_opened _ = false

abbrev pub is_done : Reply → Bool
is_done Done = true
is_done (Refused fault) = true
is_done _ = false

abbrev pub is_attributes : Reply → Bool
is_attributes (Attrs status) = true
is_attributes (Refused fault) = true
is_attributes _ = false

abbrev pub is_notice : Reply → Bool
is_notice (Notice value) = true
is_notice (Refused fault) = true
is_notice _ = false

abbrev pub is_sent : Reply → Bool
is_sent (Queued notified) = true
is_sent (Handed wait) = true
is_sent Waits = true
is_sent (Refused fault) = true
is_sent _ = false

abbrev pub is_received : Reply → Bool
is_received (Got place admitted notified) = true
is_received Waits = true
is_received (Refused fault) = true
is_received _ = false

abbrev pub is_collected : Reply → Bool
is_collected (Collected by) = true
is_collected _ = false

abbrev pub is_withdrawn : Reply → Bool
is_withdrawn (Withdrawn wait) = true
is_withdrawn _ = false

-- a receive got a message at once
abbrev pub gets_message : Reply → Bool
gets_message (Got place admitted notified) = true
gets_message _ = false

-- the replies that a call may get
abbrev pub may_reply : Call → Reply → Bool
may_reply (MqOpen flags attr) reply = is_opened reply
may_reply (MqClose d) reply = is_done reply
may_reply MqUnlink reply = is_done reply
may_reply (MqSend d prio len) reply = is_sent reply
may_reply (MqReceive d room) reply = is_received reply
may_reply (MqTimedSend d prio len until now) reply = is_sent reply
may_reply (MqTimedReceive d room until now) reply = is_received reply
may_reply (MqGetattr d) reply = is_attributes reply
may_reply (MqSetattr d nonblock) reply = is_attributes reply
may_reply (MqNotify d value) reply = is_done reply
may_reply NextNotice reply = is_notice reply
may_reply Collect reply = is_collected reply
may_reply (Withdraw now) reply = is_withdrawn reply
