use Rattle.std.proofs.Common.{◌≡◌, List, Bool, length, sym, ap, ◌∙◌, subst}
use Rattle.std.proofs.lemmas.List.{with_items_is}
use Rattle.std.proofs.Math.ListN.{set}
use Rattle.std.specs.Vec.{with_items}
use Rattle.std.proofs.Common.{◌-◌}
use Rattle.lamport_core.specs.State.{IsProcess}
use Rattle.lamport_core.specs.Safe.{IsPoint, IsSafe}
use Rattle.lamport_core.specs.Machine.{IsSound, Machine, state_of, stepped, count}
use Rattle.lamport_core.specs.declared.At.TheVariants.{Rest}
use Rattle.lamport_core.proofs.Worlds.{count-next}
use Rattle.lamport_core.proofs.Machines.{of_process_read, step_is, stepped_sound}
use Rattle.lamport_core.proofs.World.step.Goals as goal
use Rattle.lamport_core.proofs.World.step.Goals.{After-deref_mut, After-index_mut-2}

is_process : (c : After-deref_mut) → IsProcess (length c.self.inside.flags.items) c.args.i
is_process c = subst (λ m. IsProcess (count m) c.args.i) (sym c.self.view_is) c.requires

pub operate-next-requires-clause-point : goal.operate-next-requires-clause-point
operate-next-requires-clause-point c =
    let inside = c.self.inside in
    let s = c.self.invariant in
    let at = of_process_read Rest inside.points.items c.args.i c.index-point.result.now
    (subst (λ n. IsProcess n c.args.i) (sym s.safe.same_count) (is_process c))
    c.index-point.ensures in
    subst (λ n. IsPoint n c.index-point.result.now) (sym (ap length c.deref_mut.ensures.value))
    (subst (IsPoint (length inside.flags.items)) (sym at) (s.safe.safe.point c.args.i))

-- the fields after the step are the machine after it
whole : (c : After-index_mut-2) →
    ◌≡◌ {A = Machine} (record {
      state = state_of c.operate-next.new.x c.operate-next.new.y
          (with_items c.self.inside.flags c.operate-next.new.flags).items
          (set c.self.inside.points.items
          (c.args.i - 1) c.operate-next.result);
      steps = set c.self.inside.steps.items (c.args.i - 1)
          c.one_more.result;
    }) (stepped c.args.self.now c.args.i)
whole c =
    let f = c.self.inside in
    let o = c.operate-next in
    let p : IsProcess (length f.flags.items) c.args.i = subst (λ m. IsProcess (count m) c.args.i)
    (sym c.self.view_is) c.requires in
    let same : (with_items f.flags o.new.flags).items ≡ o.new.flags =
    with_items_is f.flags o.new.flags (o.auto.flags ∙ c.deref_mut.ensures.len) in
    step_is f.x f.y o.new.x o.new.y c.deref_mut.result.now o.new.flags _ f.points.items
    f.steps.items c.args.i c.index-point.result.now o.result c.index.result.now
    c.one_more.result
    (subst (λ (fs : List Bool). IsSound (record {
      state = state_of f.x f.y fs f.points.items;
      steps = f.steps.items;
    })) (sym c.deref_mut.ensures.value) c.self.invariant)
    (subst (λ (fs : List Bool). IsProcess (length fs) c.args.i) (sym c.deref_mut.ensures.value) p)
    same c.index-point.ensures o.ensures c.index.ensures c.one_more.ensures
    ∙ ap (λ (fs : List Bool). let m : Machine = record {
      state = state_of f.x f.y fs f.points.items;
      steps = f.steps.items;
    } in stepped m c.args.i) c.deref_mut.ensures.value
    ∙ ap (λ m. stepped m c.args.i) c.self.view_is

sound : (c : After-index_mut-2) → IsSound (stepped c.args.self.now c.args.i)
sound c = stepped_sound c.args.self.now c.args.i (subst IsSound c.self.view_is c.self.invariant)
    c.requires

pub invariant_of-self : goal.invariant_of-self
invariant_of-self c = let h = (goal.at.invariant_of-self c).After-index_mut-2 in subst IsSound
    (sym (whole h)) (sound h)

pub returns-clause-step : goal.returns-clause-step
returns-clause-step c = whole (goal.at.returns-clause-step c).After-index_mut-2

pub returns-clause-safe : goal.returns-clause-safe
returns-clause-safe c = let h = (goal.at.returns-clause-safe c).After-index_mut-2 in
    subst (λ (m : Machine). IsSafe m.state) (sym (whole h)) (sound h).safe

pub returns-clause-count : goal.returns-clause-count
returns-clause-count c = let h = (goal.at.returns-clause-count c).After-index_mut-2 in
    ap count (whole h) ∙ count-next c.args.self.now.state c.args.i
