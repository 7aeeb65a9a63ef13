-- What a member keeps.
use Rattle.std.proofs.Common.{◌≡◌, true, [], Option, Some, is_some, arith, rules}
use Rattle.fast_mutex.specs.Items.{Ticket}
use Rattle.mq_model.specs.declared.entries.Deadline.{Deadline}
use Rattle.mq.specs.Calls.{Calls}
use Rattle.mq.proofs.Others.{deadline-grown}
use Rattle.mq_model.specs.Record.{Record}
use Rattle.mq_model.specs.Waits.{wait_deadline}
use Rattle.mq_model.proofs.OpenWaits.{deadline-none}

pub some-value : {A : Type 0} (o : Option A) → is_some o ≡ true → (x : A) × (o ≡ Some x)
some-value o e = search rules

-- without an open wait there is no deadline
pub ruleset no_deadline = (deadline-none)

-- what leaves no record of the process leaves its deadline
pub same_deadline : (old new t : Ticket Record) (until : Option Deadline) → Calls old new [] →
    old ≡ t → until ≡ wait_deadline t.left t.number → until ≡ wait_deadline new.left new.number
same_deadline old new t until s same is = grind (arith, deadline-grown)
