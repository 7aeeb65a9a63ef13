-- The members of a phase while it runs.
use Rattle.std.specs.Prelude.{◌≡◌, List}
use Rattle.std.specs.List.{AllZip}
use Rattle.fast_mutex.specs.Items.{Ticket}
use Rattle.mq_model.specs.Record.{Record}
use Rattle.script_runner.specs.Phase.{Ends}
use Rattle.script_runner.specs.declared.phase.Member.{Member}
use Rattle.script_runner.specs.declared.phase.Member.TheVariants.{Idle, Busy}
use Rattle.script_runner.specs.declared.turns.Share.{Share}
use Rattle.script_runner.specs.declared.turns.Worked.{Worked}

-- the calls of the share have ended, or the thread of the member promised that
abbrev pub HasShare : {L S W I : Type 0} → Share (Ticket Record) → Member L S W I → Type 0
HasShare share (Idle worked) = Ends share worked
HasShare share (Busy handle) = handle.promise.0.value ≡ share

-- each member has its share
abbrev pub AllHaveShares : {L S W I : Type 0} → List (Share (Ticket Record)) →
    List (Member L S W I) → Type 0
AllHaveShares shares members = AllZip HasShare shares members

-- the member's thread ended with this result
pub record Gives {L S W I : Type 0} (member : Member L S W I)
    (worked : Worked (Ticket Record)) : Type 0 where
  pub of_share : (share : Share (Ticket Record)) → HasShare share member → Ends share worked

abbrev pub AllGive : {L S W I : Type 0} → List (Member L S W I) → List (Worked (Ticket Record)) →
    Type 0
AllGive members workers = AllZip Gives members workers
