-- What a call is given, and the length of the buffer that it fills.
use Rattle.std.specs.Prelude.{ℕ, ◌≡◌, List, [], length, IsTrue}
use Rattle.mq_model.specs.Name.{is_name}
use Rattle.mq_model.specs.declared.entries.Call.{Call}
use Rattle.mq_model.specs.declared.entries.Call.TheVariants.{MqOpen, MqUnlink, MqSend, MqReceive, Collect, MqTimedSend, MqTimedReceive, Withdraw}
use Rattle.mq_state.specs.Buffers.{room_of}

-- What a call is given: a name, the bytes of its message, or nothing. The end of a wait is not such
-- a request.
abbrev pub IsGiven : Call → List ℕ → Type 0
IsGiven (MqOpen flags attr) given = IsTrue (is_name given)
IsGiven MqUnlink given = IsTrue (is_name given)
IsGiven (MqSend d prio len) given = len ≡ length given
IsGiven (MqTimedSend d prio len until now) given = len ≡ length given
IsGiven Collect given = ⊥
IsGiven (Withdraw now) given = ⊥
IsGiven _ given = given ≡ []

-- the same, with a buffer of this length, which only a receive fills
abbrev pub Brings : Call → List ℕ → ℕ → Type 0
Brings call given room = (room_of call ≡ room) × IsGiven call given

-- the same call without its deadline
abbrev pub without_deadline : Call → Call
without_deadline (MqTimedSend d prio len until now) = MqSend d prio len
without_deadline (MqTimedReceive d room until now) = MqReceive d room
without_deadline call = call
