-- What an entry changes: in the row of its queue, in the wait of its process, in the notices. Each
-- table uses these definitions.
use Rattle.std.specs.Prelude.{Bool, true, false, length, is_some}
use Rattle.std.specs.Option.{option_map}
use Rattle.mq_model.specs.Record.{Past}
use Rattle.mq_model.specs.Messages.{priority_given}
use Rattle.mq_model.specs.Notices.{notified, gives_notice}
use Rattle.mq_model.specs.declared.entries.Call.{Call}
use Rattle.mq_model.specs.declared.entries.Call.TheVariants.{MqClose, MqUnlink}
use Rattle.mq_model.specs.declared.entries.Reply.{Reply}
use Rattle.mq_model.specs.declared.entries.Reply.TheVariants.{Queued, Got, Waits, Collected, Withdrawn, Done}
use Rattle.mq_state.specs.declared.moves.LineMove.{LineMove}
use Rattle.mq_state.specs.declared.moves.LineMove.TheVariants.{Rests, Enters, Leaves, LosesName}
use Rattle.mq_state.specs.declared.moves.WaitMove.{WaitMove}
use Rattle.mq_state.specs.declared.moves.WaitMove.TheVariants.{Stays, Begins, Ends}
use Rattle.mq_state.specs.declared.moves.Moves.{Moves}
use Rattle.mq_state.specs.Queues.{slot_of}

abbrev pub done_move : Call → LineMove
done_move MqUnlink = LosesName
done_move _ = Rests

-- A message that is queued enters. One that is received leaves, and the message of the send that
-- this admits enters. An unlink removes the name.
abbrev pub line_move : Past → Call → Reply → LineMove
line_move past call (Queued notified) = Enters (priority_given call) (length past)
line_move past call (Got place admitted notified) =
    Leaves place (option_map (slot_of past) admitted)
line_move past call Done = done_move call
line_move past call _ = Rests

abbrev pub wait_move : Reply → WaitMove
wait_move Waits = Begins
wait_move (Collected by) = Ends
wait_move (Withdrawn wait) = Ends
wait_move _ = Stays

abbrev pub frees : Call → Bool
frees (MqClose d) = true
frees MqUnlink = true
frees _ = false

-- an entry after which its queue may have no user left
abbrev pub may_free : Call → Reply → Bool
may_free call Done = frees call
may_free call _ = false

-- what an entry with this call and reply changes
abbrev pub moves_of : Past → Call → Reply → Moves
moves_of past call reply = record {
  line = line_move past call reply;
  wait = wait_move reply;
  notified = is_some (notified reply);
  given = gives_notice reply;
  freed = may_free call reply;
}
