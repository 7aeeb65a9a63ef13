use Rattle.std.proofs.Common.{rules, arith, ◌≡◌, ◌++◌, ◌∷◌, []}
use Rattle.std.proofs.lemmas.Grind.{common_steps}
use Rattle.std.proofs.lemmas.List.{nil_from_length}
use Rattle.std.proofs.lemmas.List.Elements.{All-head, All-rest}
use Rattle.std.proofs.lemmas.Slice.Zip.{all_zipped_more}
use Rattle.script_runner.specs.Members.{HasShare}
use Rattle.script_runner.specs.Runs.{IsReady}
use Rattle.script_runner.proofs.phase.fn.start_all.scope.Goals.{then-len-eq0, else-len-eq0+in-Ok}
use Rattle.script_runner.proofs.phase.fn.start_all.scope.Goals as goal

pub idle-requires : goal.idle-requires
idle-requires g c =
    let mq = c.captures.mq.now in
    let ready : IsReady mq c.in-Some.share.process = All-head (λ s. IsReady mq s.process)
    c.in-Some.share _ (rw c.in-Some.ensures.steps.0 at c.loop-share.invariant.ready.all) in
    record { free = ready.free; none = search rules }

pub spawn_with-requires-clause-runs : goal.spawn_with-requires-clause-runs
spawn_with-requires-clause-runs g c κs within =
    let mq = c.captures.mq.now in
    let ready : IsReady mq c.in-Some.share.process = All-head (λ s. IsReady mq s.process)
    c.in-Some.share _ (rw c.in-Some.ensures.steps.0 at c.loop-share.invariant.ready.all) in
    search rules

pub loop-share-preserved : goal.loop-share-preserved
loop-share-preserved g c =
    let was = c.loop-share.invariant in let share = c.in-Some.share in let member =
    c.if-len-eq0.member in
    let has : HasShare share member =
    elim c.if-len-eq0.branch [
      | then-len-eq0 w ↦ rw w.member-is w.idle.ensures
      | else-len-eq0+in-Ok
          w ↦ rw w.member-is (grind rules)
    ] in
    let items : c.push.new.self.items ≡ c.loop-share.members.items ++ member ∷ [] = grind rules in
    record {
      all = grind (arith, common_steps);
      left = grind (arith, common_steps);
      ready = record {
        all = All-rest (λ s. IsReady c.captures.mq.now s.process) share _ _
            c.in-Some.ensures.steps.0 was.ready.all;
      };
      members = rw items (all_zipped_more HasShare c.loop-share.yielded c.loop-share.members.items
          share member was.members has);
    }

pub returns : goal.returns
returns g c = grind (arith, common_steps, nil_from_length)
