-- The calls that a process made in a phase of a run are a course.
use Rattle.std.proofs.Common.{◌≡◌, ◌≤◌, ◌≢◌, ℕ, ◌+◌, List, [], ◌∷◌, ◌++◌, length, map, refl, sym, subst, append_assoc, append-nil, arith, Vec, Global}
use Rattle.std.specs.List.{All}
use Rattle.std.proofs.lemmas.List.Elements.{All-head, All-tail}
use Rattle.fast_mutex.specs.Items.{Ticket, Grows}
use Rattle.mq.specs.Calls.{author}
use Rattle.mq_model.specs.Record.{Past, Record}
use Rattle.mq_model.specs.declared.entries.Call.TheVariants.{MqOpen, MqClose, MqUnlink, MqGetattr, MqSetattr, MqNotify, NextNotice}
use Rattle.mq_model.specs.declared.entries.Deadline.{Deadline}
use Rattle.mq_model.specs.declared.faults.Fault.TheVariants.{NoMemory}
use Rattle.mq.specs.Says.{attributes_says, done_says, notice_says, open_says}
use Rattle.script_orders.specs.Plans.{given_by, plan, step_by}
use Rattle.script_orders.specs.Progress.{Progress}
use Rattle.script_orders.specs.declared.plan.Planned.{Planned}
use Rattle.script_runner.specs.Buffer.{buffer_given}
use Rattle.script_runner.specs.Runs.{Performs, RunsCalls}
use Rattle.script_text.specs.ReplyLines.{reply_lines}
use Rattle.script_text.specs.Replies.{reply_line}
use Rattle.script_text.specs.Script.{WrittenCall}
use Rattle.script_text.specs.declared.command.Command.{Command}
use Rattle.script_text.specs.declared.command.Command.TheVariants as command
use Rattle.script_text.specs.declared.reply.Completion.{Completion}
use Rattle.script_text.specs.declared.reply.Outcome.{Outcome}
use Rattle.script_text.specs.declared.reply.Outcome.TheVariants as outcomes
use Rattle.text_io.specs.Words.{Word}
use Rattle.script_laws.specs.RunLaws.{HadMemory}
use Rattle.script_laws.proofs.Closing.{AreFirst}
use Rattle.script_laws.proofs.Course.{AreLines, Course}
use Rattle.script_laws.proofs.Growth.{calls-grow}
use Rattle.script_laws.proofs.Joins.{all-right}
use Rattle.script_laws.proofs.Lines.{IsNext, later-lines, next-line}
use Rattle.script_laws.proofs.Moving.{Came, IsAt, Moved}
use Rattle.script_laws.proofs.Performing.{exit-performs, named-moves, one-moves, receive-performs, send-performs, timed_receive-performs, timed_send-performs}
use Rattle.script_laws.proofs.Saying.{attributes-tells, done-tells, notice-tells, open-tells}

-- a line ------------------------------------------------------------------------------------------

performed : (phase : ℕ) (program : Vec Planned Global) (from : Past) (progress : Progress)
    (old new : Ticket Record) → IsAt old.number from old → (old.number ≤ 32) × AreFirst new.left
    → (moment : Deadline) (c : Command Word) (after : List ℕ) (came : Outcome) →
    came ≢ outcomes.Refused NoMemory
    → IsNext phase program progress.begun (step_by moment c) (given_by c) →
    Performs moment c (buffer_given c) after old new came
    → Moved old.number phase program from progress new (reply_line old.number came after)
performed phase program from progress old new at few moment (command.Open name flags attr) after
    came memory next does = named-moves phase program from progress old new at open_says
    outcomes.Opened (MqOpen flags attr) name after came (open-tells after) memory next does
performed phase program from progress old new at few moment (command.Close d) after came memory next
    does = one-moves phase program from progress old new at done_says (λ _. outcomes.Done)
    (MqClose d) [] after came (done-tells after) memory next does
performed phase program from progress old new at few moment (command.Unlink name) after came memory
    next does = named-moves phase program from progress old new at done_says (λ _. outcomes.Done)
    MqUnlink name after came (done-tells after) memory next does
performed phase program from progress old new at few moment (command.Send d prio message) after came
    memory next does = send-performs phase program from progress old new at d prio message after
    came memory next does
performed phase program from progress old new at few moment (command.Receive d room) after came
    memory next does = receive-performs phase program from progress old new at d room after came
    memory next does
performed phase program from progress old new at few moment (command.TimedSend d prio until message)
    after came memory next does = timed_send-performs phase program from progress old new at d prio
    until moment message after came memory next does
performed phase program from progress old new at few moment (command.TimedReceive d room until)
    after came memory next does = timed_receive-performs phase program from progress old new at d
    room until moment after came memory next does
performed phase program from progress old new at few moment (command.Getattr d) after came memory
    next does = one-moves phase program from progress old new at attributes_says outcomes.Attrs
    (MqGetattr d) [] after came (attributes-tells after) memory next does
performed phase program from progress old new at few moment (command.Setattr d nonblock) after came
    memory next does = one-moves phase program from progress old new at attributes_says
    outcomes.Attrs (MqSetattr d nonblock) [] after came (attributes-tells after) memory next does
performed phase program from progress old new at few moment (command.Notify d value) after came
    memory next does = one-moves phase program from progress old new at done_says
    (λ _. outcomes.Done) (MqNotify d value) [] after came (done-tells after) memory next does
performed phase program from progress old new at few moment command.Notice after came memory next
    does = one-moves phase program from progress old new at notice_says outcomes.Notice NextNotice
    [] after came (notice-tells after) memory next does
performed phase program from progress old new at few moment command.Exit after came memory next
    does = exit-performs phase program from progress old new at [] after came memory next few does

-- of the process with this number
moved-as : (p phase : ℕ) (program : Vec Planned Global) (from : Past) (progress : Progress)
    (old new : Ticket Record) (call : WrittenCall) (completion : Completion)
    → IsAt p from old → (p ≤ 32) × AreFirst new.left →
    completion.outcome ≢ outcomes.Refused NoMemory
    → IsNext phase program progress.begun (step_by call.moment call.command) (given_by call.command)
    → Performs call.moment call.command (buffer_given call.command) completion.buffer.items old new
    completion.outcome
    → Moved p phase program from progress new
    (reply_line p completion.outcome completion.buffer.items)
moved-as p phase program from progress old new call completion at few memory next does =
    let own : IsAt old.number from old = record {
      number = refl;
      bounds = at.bounds;
      free = at.free;
      near = subst (λ (n : ℕ). Grows author n from old.left []) (sym at.number) at.near;
    } in
    let moved = performed phase program from progress old new own (
      subst (λ (n : ℕ). n ≤ 32)
          (sym at.number) few.0,
      few.1,
    ) call.moment call.command completion.buffer.items
    completion.outcome memory next does in
    subst (λ (n : ℕ). Moved n phase program from progress new
    (reply_line n completion.outcome completion.buffer.items)) at.number moved

-- all lines ---------------------------------------------------------------------------------------

abbrev end_of : ℕ → List WrittenCall → List Completion → ℕ → List ℕ → Progress
end_of p calls completions begun text = record {
  begun = begun + length calls;
  text = text ++ reply_lines p completions;
}

-- From a journal that extends the one that process p last left by records of others only, the calls
-- of the process in a phase are moves.
pub came-through : (p phase : ℕ) (program : Vec Planned Global) (calls : List WrittenCall)
    (completions : List Completion) (old new : Ticket Record) (from : Past)
    (begun : ℕ) (text : List ℕ)
    → IsAt p from old
    → (p ≤ 32) × AreFirst new.left
    → AreLines program begun (map (plan phase) calls)
    → RunsCalls calls completions old new
    → All HadMemory completions
    → Came p phase program from (record { begun = begun; text = text }) new
    (record { begun = begun + length calls; text = text ++ reply_lines p completions })
came-through p phase program [] [] old new from begun text at few lines ran memory =
    let same : end_of p [] [] begun text ≡ record { begun = begun; text = text } =
    grind (arith, append-nil) in
    record {
      at = from;
      is = subst (λ (t : Ticket Record). IsAt p from t) (sym ran) at;
      goes = λ to end moves course. (
        moves,
        subst (λ (e : Progress). Course p phase program to end
            moves from e) same course,
      );
    }
came-through p phase program (call ∷ calls) (completion ∷ completions) old new from begun text at
    few lines ran memory =
    let mid : Ticket Record = ran.0 in
    let grows = calls-grow calls completions mid new ran.2 in
    let first : AreFirst mid.left = all-right (λ r. author r ≤ 32) grows.more mid.left
    (subst AreFirst grows.is few.1) in
    let line : List ℕ = reply_line p completion.outcome completion.buffer.items in
    let moved = moved-as p phase program from (record { begun = begun; text = text }) old mid call
    completion at (few.0, first) (All-head HadMemory completion completions memory)
    (next-line phase program begun call calls lines) ran.1 in
    let rest = came-through p phase program calls completions mid new moved.at (begun + 1)
    (text ++ line) moved.is few (later-lines phase program begun call calls lines) ran.2
    (All-tail HadMemory completion completions memory) in
    let end : Progress = end_of p (call ∷ calls) (completion ∷ completions) begun text in
    let same : end ≡ end_of p calls completions (begun + 1) (text ++ line) =
    grind (arith, append_assoc) in
    record {
      at = rest.at;
      is = rest.is;
      goes = λ to last moves course.
          let later = rest.goes to last moves
          (subst (λ (e : Progress). Course p phase program to last moves rest.at e) same course)
          in
          moved.goes to last later.0 later.1;
    }
came-through p phase program calls completions old new from begun text at few lines ran memory =
    absurd ran
