-- Processes that acquired the lock once more.
use Rattle.std.proofs.Common.{◌≡◌, ◌∙◌, ℕ, true, List, [], ◌∷◌, All, length, map, arith, rules}
use Rattle.std.specs.List.{AllZip, list_all}
use Rattle.std.proofs.lemmas.List.Elements.{All-nil, All-cons}
use Rattle.std.proofs.lemmas.Slice.Zip.{AllZip-long}
use Rattle.fast_mutex.specs.Items.{LockId, Ticket}
use Rattle.mq.proofs.Others.{wait-grown}
use Rattle.mq.specs.Blocked.{is_blocked}
use Rattle.mq.specs.Calls.{Calls}
use Rattle.mq_model.specs.Record.{Record}
use Rattle.script_runner.specs.Meeting.{AllLook, FindsBlocked, Meet, MeetBlocked}
use Rattle.script_runner.specs.Runs.{FindsLength, IsReady}
use Rattle.script_runner.specs.declared.turns.Share.{Share}
use Rattle.script_runner.specs.declared.turns.Worked.{Worked}
use Rattle.script_runner.proofs.Blocking.{calls-later}
use Rattle.script_runner.proofs.SideBySide.{zip-all, zip-then, zip-weaker}
use Rattle.script_runner.proofs.Working.{AllWorkOff, all-ready}

abbrev IsOf : LockId → Ticket Record → Type 0
IsOf mq process = process.lock ≡ mq

abbrev Looks : Ticket Record → Ticket Record → Type 0
Looks before after = Calls before after []

-- processes that polled are of the same system
pub look-made : (mq : LockId) (old new : List (Ticket Record)) → AllLook old new →
    All (λ process. process.lock ≡ mq) old → All (λ process. process.lock ≡ mq) new
look-made mq old new looked made = zip-all Looks (IsOf mq) (IsOf mq) (λ a b looks of. looks.lock ∙
    of) old new looked made

-- one poll after another
pub looks-later : (old mid new : List (Ticket Record)) → AllLook old mid → AllLook mid new →
    AllLook old new
looks-later old mid new first later = zip-then Looks Looks Looks
    (λ a b c one two. calls-later one two) old mid new first later

-- processes that met are ready again
pub met-ready : (mq : LockId) (shares : List (Share (Ticket Record)))
    (workers : List (Worked (Ticket Record))) (after : List (Ticket Record)) →
    AllWorkOff shares workers → All (λ share. IsReady mq share.process) shares →
    Meet (map (λ worked. worked.process) workers) after → All (IsReady mq) after
met-ready mq shares workers after off ready met =
    zip-all (FindsLength met.n) (IsReady mq) (IsReady mq)
    (λ a b found is. record {
      made = found.calls.lock ∙ is.made;
      free = rw found.calls.number
          (wait-grown found.calls.grows ∙ is.free);
    }) (map (λ worked. worked.process) workers) after
    met.found
    (all-ready mq shares workers off ready)

-- the same number of processes comes back
pub met-count : (old new : List (Ticket Record)) → Meet old new → length new ≡ length old
met-count old new met = AllZip-long (FindsLength met.n) old new met.found

-- a process that found a length polled
pub found-looks : (n : ℕ) (old new : List (Ticket Record)) → AllZip (FindsLength n) old new →
    AllLook old new
found-looks n old new found = zip-weaker (FindsLength n) Looks
    (λ a b finds. finds.calls) old new found

-- the same after a poll
pub stand-later : (blocked : List ℕ) (old mid new : List (Ticket Record)) → AllLook old mid →
    MeetBlocked blocked mid new → MeetBlocked blocked old new
stand-later blocked old mid new first m = grind (arith, calls-later, zip-then)

-- what all that met found
pub blocked-met : (blocked : List ℕ) (n : ℕ) (old new : List (Ticket Record)) →
    AllZip (FindsBlocked blocked n) old new → AllZip (FindsLength n) old new
blocked-met blocked n old new found = zip-weaker (FindsBlocked blocked n) (FindsLength n)
    (λ a b finds. finds.length) old new found

pub stand-meets : {blocked : List ℕ} {old new : List (Ticket Record)} →
    MeetBlocked blocked old new → Meet old new
stand-meets {blocked} {old} {new} m = record {
  n = m.n;
  found = blocked-met blocked m.n old new m.found;
}

pub blocked-are : (blocked : List ℕ) (n : ℕ) (old new : List (Ticket Record)) →
    AllZip (FindsBlocked blocked n) old new →
    All (λ (process : Ticket Record). list_all (is_blocked process.left) blocked ≡ true) new
blocked-are blocked n [] [] found = All-nil (λ (process : Ticket Record). list_all
    (is_blocked process.left) blocked ≡ true)
blocked-are blocked n (a ∷ old) (b ∷ new) found =
    search (rules, All-cons, blocked-are blocked n old new found.1)
blocked-are blocked n old new found = absurd found
