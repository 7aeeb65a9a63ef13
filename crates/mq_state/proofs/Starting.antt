-- The tables of the empty journal.
use Rattle.std.proofs.Common.{◌≡◌, ℕ, ◌+◌, List, [], length, replicate, refl, ◌∙◌, arith}
use Rattle.std.proofs.lemmas.List.{length-replicate}
use Rattle.std.proofs.lemmas.List.Folds.{sum_by-replicate}
use Rattle.mq_model.specs.Callers.{waits_count, free_caller}
use Rattle.mq_model.specs.Owners.{free_owner}
use Rattle.mq_model.specs.declared.owners.Owner.{Owner}
use Rattle.mq_model.specs.declared.callers.Caller.{Caller}
use Rattle.mq_model.proofs.OwnersStart.{owners-start, callers-start}
use Rattle.mq_state.specs.InboxShown.{InboxShown}
use Rattle.mq_state.specs.Inboxes.{notices_in}
use Rattle.mq_state.specs.Queues.{queue_in}
use Rattle.mq_state.specs.Tables.{TablesMirror, last_process}
use Rattle.mq_state.proofs.CallersOf.{last-few}
use Rattle.mq_state.specs.WaitCounts.{KnowWaits}

pub mirrors-new : (n : ℕ) (owners : List Owner) (callers : List Caller)
    (inboxes : List InboxShown) → owners ≡ replicate (last_process n + 1) free_owner →
    callers ≡ replicate (n + 1) free_caller → length inboxes ≡ last_process n + 1 →
    ((k : ℕ) → notices_in inboxes k ≡ []) → TablesMirror [] n owners callers [] inboxes
unfolding queue_in
mirrors-new n owners callers inboxes is are count none = record {
  owner_count = rw is (length-replicate (last_process n + 1) free_owner);
  caller_count = rw are (length-replicate (n + 1) free_caller);
  inbox_count = count;
  lines = rw is (owners-start (last_process n + 1) (let few = last-few n in omega (arith, few)));
  waits = rw are (callers-start (n + 1));
  existing = record { places = refl; lines = λ q x e. absurd (cc) };
  notices = none;
}

pub waits_count-new : (m : ℕ) → waits_count (replicate m free_caller) ≡ 0
unfolding waits_count
waits_count-new m = sum_by-replicate _ m free_caller ∙ omega arith

pub knows-new : (callers : List Caller) → KnowWaits callers []
unfolding queue_in
knows-new callers = λ q x e. absurd (cc)
