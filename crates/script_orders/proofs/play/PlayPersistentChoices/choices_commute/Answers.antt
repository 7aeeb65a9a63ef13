use Rattle.std.proofs.Common.{◌≡◌, ◌==◌, inl, inr, Some, false, length, ap, arith, IsSome, ℕ}
use Rattle.mq_model.specs.Legality.{Legal}
use Rattle.schedules.specs.Persistence.{Commutes}
use Rattle.script_orders.specs.Likeness.{AreStagesAlike}
use Rattle.script_orders.specs.Persistence.{IsPersistent}
use Rattle.script_orders.specs.Stage.{Stage, next_stage, stands_still}
use Rattle.script_orders.proofs.Legality.{are-legal}
use Rattle.script_orders.proofs.UsedAlone.{alone-can, alone-moves, alone-passes}
use Rattle.script_orders.proofs.Persisting.{collect-can, collect-moves, collect-passes}
use Rattle.script_orders.proofs.play.PlayPersistentChoices.choices_commute.Goals as goal

can-of : (x : Stage) (choice : ℕ) → IsPersistent x choice → IsSome (next_stage x choice)
can-of x choice (inl may) = collect-can x choice may
can-of x choice (inr alone) = alone-can x choice alone

moves-of : (x : Stage) (choice : ℕ) → IsPersistent x choice → stands_still x ≡ false
moves-of x choice (inl may) = collect-moves x choice may
moves-of x choice (inr alone) = alone-moves x choice alone

commutes-of : (x y z : Stage) (choice other : ℕ) → Legal x.past → IsPersistent x choice →
    (choice == other) ≡ false → next_stage x choice ≡ Some y → next_stage x other ≡ Some z →
    Commutes next_stage AreStagesAlike IsPersistent choice other y z
commutes-of x y z choice other legal (inl may) ne to_y to_z = let both =
    collect-passes x y z choice other legal may ne to_y to_z in record {
      stays = inl both.0;
      alike = both.1;
    }
commutes-of x y z choice other legal (inr alone) ne to_y to_z = let both =
    alone-passes x y z choice other legal alone ne to_y to_z in record {
      stays = inr both.0;
      alike = both.1;
    }

pub returns : goal.returns
returns c =
    let count = ap (λ (t : Stage). length t.programs) c.self.view_is in
    let start = ap (λ (t : Stage). t.start) c.self.view_is in
    let legal = are-legal c.args.self.now (omega (arith, count, c.self.invariant.few))
    (rw (← start) c.self.invariant.legal) in
    record {
      can = λ x choice reached may. can-of x choice may;
      no_goal = λ x choice reached may. moves-of x choice may;
      commutes = λ x y z choice other reached may ne to_y to_z. commutes-of x y z choice other
          (legal reached.0 x reached.1) may ne to_y to_z;
    }
