-- Calls that waited, and those that still wait.
use Rattle.std.proofs.Common.{◌≡◌, ◌∙◌, ℕ, List, [], ◌∷◌, false, None, Ok, IsSome, Bool, refl}
use Rattle.fast_mutex.specs.Items.{Ticket}
use Rattle.mq_model.specs.Record.{Record}
use Rattle.mq_model.specs.declared.entries.Call.{Call}
use Rattle.mq_model.specs.declared.entries.Reply.TheVariants.{Waits}
use Rattle.mq_state.specs.Buffers.{waiting_room}
use Rattle.mq.specs.Calls.{Calls, OneCall, ReceiveCall, WaitsIn, recorded}
use Rattle.mq.specs.Says.{start_receive_says, start_send_says}
use Rattle.mq.proofs.Collecting.{room-waits}
use Rattle.mq.proofs.Growing.{calls-on}
use Rattle.mq.proofs.Others.{call-grown, room-grown, wait-grown}
use Rattle.mq.specs.KindsHold.{receive-waits, send-waits}
use Rattle.script_runner.specs.Runs.{WaitsFor}

-- a wait after other processes' calls
waits-later : {old mid new : Ticket Record} {call : Call} {given : List ℕ} →
    Calls old mid (recorded old.number call given Waits ∷ []) → WaitsIn mid call →
    Calls mid new [] → WaitsFor old new call given
waits-later {old} {mid} {new} {call} {given} first waits later =
    let some : IsSome (waiting_room mid.left mid.number) = rw waits.room refl in
    record {
      calls = calls-on (λ _. []) first later;
      still = rw (later.number, wait-grown later.grows) (room-waits mid.left mid.number some);
      waits = rw later.number (call-grown later.grows ∙ waits.call);
    }

pub send-blocks : {old mid new : Ticket Record} {call : Call} {bytes : List ℕ} →
    OneCall start_send_says old mid call bytes (Ok false) → WaitsIn mid call → Calls mid new [] →
    WaitsFor old new call bytes
send-blocks start waits later =
    waits-later (rw (send-waits start.reply (Ok false) start.says_so refl) at start.calls) waits
    later

pub receive-blocks : {old mid new : Ticket Record} {call : Call} {before between : List ℕ} →
    ReceiveCall start_receive_says old mid call before between (Ok None) → WaitsIn mid call →
    Calls mid new [] → WaitsFor old new call []
receive-blocks {mid = mid} start waits later =
    waits-later (rw (receive-waits mid.left start.reply (Ok None) start.says_so refl) at
    start.calls) waits later

-- a poll of the process set `told`
pub calls-told : {old mid new : Ticket Record} {told : Bool} → Calls old mid [] →
    new ≡ record mid { told = told } → Calls old new []
calls-told {old} {mid} {new} {told} calls is =
    rw is (record {
      lock = calls.lock;
      number = calls.number;
      legal = calls.legal;
      grows = calls.grows;
    })

pub calls-later : {old mid new : Ticket Record} → Calls old mid [] → Calls mid new [] →
    Calls old new []
calls-later first later = calls-on (λ _. []) first later

pub room-later : {old new : Ticket Record} → Calls old new [] →
    waiting_room new.left new.number ≡ waiting_room old.left old.number
room-later calls = rw calls.number (room-grown calls.grows)
