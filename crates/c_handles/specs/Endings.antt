-- The effect of a try to end an open wait.
use Rattle.std.specs.Prelude.{ℕ, ◌≡◌, ◌≢◌, ◌<◌, Bool, true, false, List, length, Option, Some, None, IfSome, IsSome}
use Rattle.fast_mutex.specs.Items.{Ticket}
use Rattle.mq_model.specs.Record.{Record}
use Rattle.mq_model.specs.Deadlines.{is_over}
use Rattle.mq_model.specs.Waits.{wait_deadline, is_answered}
use Rattle.mq_model.specs.declared.entries.Deadline.{Deadline}
use Rattle.mq_state.specs.Buffers.{waiting_room}
use Rattle.mq.specs.Calls.{Collects, StillWaits, WithdrawsAt}
use Rattle.c_handles.specs.declared.tried.Ending.{Ending}
use Rattle.c_handles.specs.declared.tried.Looked.{Looked}
use Rattle.c_handles.specs.declared.tried.Looked.TheVariants.{Answered, UnderWay, NotWaiting as NoWait, Unanswered as NotYet}
use Rattle.c_handles.specs.declared.tried.Ending.TheVariants.{NotWaiting, Short, TooEarly, Retry, Unanswered, Withdrawn, Came}

-- With a time, the end of a wait whose deadline has passed at that time; without one, a collect.
-- Either the wait was ended, or the process and the buffer are unchanged, apart from what other
-- processes did meanwhile.
abbrev pub Ends : Option Deadline → Ticket Record → Ticket Record → List ℕ → List ℕ → Ending →
    Type 0
Ends at old new before after (Came outcome) = Collects old new outcome before after
Ends None old new before after Unanswered = StillWaits old new × (after ≡ before) ×
    (old.told ≢ true)
Ends (Some now) old new before after Unanswered = ⊥
Ends None old new before after Withdrawn = ⊥
Ends (Some now) old new before after Withdrawn = WithdrawsAt now old new × (after ≡ before)
Ends None old new before after TooEarly = ⊥
Ends (Some now) old new before after TooEarly = (new ≡ old) × (after ≡ before) ×
    (is_over (wait_deadline old.left old.number) now ≡ false)
Ends at old new before after Retry = (new ≡ old) × (after ≡ before)
Ends at old new before after Short = (new ≡ old) × (after ≡ before) ×
    IfSome (waiting_room old.left old.number) (λ room. length before < room)
Ends at old new before after NotWaiting = (new ≡ old) × (after ≡ before) ×
    (waiting_room old.left old.number ≡ None)

-- The try of an export on a handle that has the process `old`, or none, and afterwards the process
-- `new`.
abbrev pub GivesEnd : {A : Type 0} → Option Deadline → (Option Ending → A) →
    Option (Ticket Record) → Option (Ticket Record) → List ℕ → List ℕ → A → Type 0
GivesEnd at says None None before after code = (code ≡ says None) × (after ≡ before)
GivesEnd at says (Some old) (Some new) before after code = (e : Ending) ×
    Ends at old new before after e × (code ≡ says (Some e))
GivesEnd at says None (Some new) before after code = ⊥
GivesEnd at says (Some old) None before after code = ⊥

-- One poll from outside the lock. Nothing changes, except that a process without an acquisition in
-- progress is told if its wait is answered. If the poll is false, it was not told before, and the
-- journal that it last left does not answer its wait.
abbrev pub Looks : Bool → Ticket Record → Ticket Record → Looked → Type 0
Looks under_way old new NoWait = (new ≡ old) × (waiting_room old.left old.number ≡ None)
Looks under_way old new UnderWay = (new ≡ old) × IsSome (waiting_room old.left old.number) ×
    (under_way ≡ true)
Looks under_way old new Answered = (new ≡ record old { told = true }) ×
    IsSome (waiting_room old.left old.number) × (under_way ≡ false)
Looks under_way old new NotYet = (new ≡ old) × IsSome (waiting_room old.left old.number) ×
    (under_way ≡ false) × (is_answered old.left old.number ≡ false) × (old.told ≡ false)

abbrev pub look_code : Option Looked → ℕ
look_code None = 18
look_code (Some Answered) = 0
look_code (Some UnderWay) = 16
look_code (Some NotYet) = 17
look_code (Some NoWait) = 20

-- a poll for the process that a handle has, or none
abbrev pub GivesLook : Bool → Option (Ticket Record) → Option (Ticket Record) → ℕ → Type 0
GivesLook under_way None None code = code ≡ look_code None
GivesLook under_way (Some old) (Some new) code = (l : Looked) × Looks under_way old new l ×
    (code ≡ look_code (Some l))
GivesLook under_way None (Some new) code = ⊥
GivesLook under_way (Some old) None code = ⊥
