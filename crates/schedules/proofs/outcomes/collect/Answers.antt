use Rattle.std.proofs.lemmas.Bool.Decides.{nat_tests}
use Rattle.std.proofs.lemmas.List.{nil_from_length}
use Rattle.std.proofs.Common.{arith, ◌≡◌, ◌+◌, Some, None, IsSome, Option, inl, inr, ℕ, false, List, [], ◌∷◌, ◌++◌, ◌∙◌, ap, is_some, length, length-append, refl, subst, sym, true}
use Rattle.schedules.specs.Schedules.{IsReached, after, HasNoGoal}
use Rattle.schedules.specs.Likeness.{HasKey}
use Rattle.schedules.specs.Seen.{is_done}
use Rattle.schedules.specs.declared.outcomes.Level.{Level}
use Rattle.schedules.specs.declared.outcomes.Witnessed.{Witnessed}
use Rattle.schedules.proofs.Covering.{Suffices, after-push, front_runs}
use Rattle.schedules.specs.Persistence.{IsFirst, IsFollowing}
use Rattle.schedules.proofs.Collecting.{all-found, is_new_goal, new-alike, new-fewer, noted-is_old, persist-new}
use Rattle.schedules.proofs.Persisting.{IsReachedPersistent, Persist, suffices}
use Rattle.schedules.proofs.Alike.{AreDone, done-fewer, done-leads, done-more}
use Rattle.schedules.proofs.LastKey.{has-kept}
use Rattle.schedules.proofs.Ahead.{CanBeTaken, IsLevel, Leaves, Stands, stands-back, stands-fewer, stands-first, stands-push, step-goes}
use Rattle.schedules.proofs.Counting.{within-first, within-grown, within-same}
use Rattle.schedules.proofs.Working.{HasSpent, spends-entered, spends-first, spends-left, spends-within}
use Rattle.schedules.proofs.outcomes.collect.Goals as goal
use Rattle.schedules.proofs.outcomes.collect.Goals.{in-Some+in_ok-_went-in-Some+in_ok-push-in-Some+in_ok-note-in-Some+in_ok-key-in-Some+in_ok-push-in-Some-2, in-None+in-Some-pop+in_ok-next-in-None+then-is_some+in_ok-go_back-in-None, in-None+in-Some-pop+in_ok-next-in-None+else-is_some}

-- the first choice at a state that is reached
reached-first : {S : Type 0} (next : S → ℕ → Option S) (IsPersistent : S → ℕ → Type 0) (start s : S)
    (first : Option ℕ) →
    IsReached next start s → IsFirst next IsPersistent s first →
    IsFirst next (IsReachedPersistent next IsPersistent start) s first
reached-first next IsPersistent start s first reached is = elim is [
  | inl from ↦ inl from
  | inr alone ↦ inr (record {
    choice = alone.choice;
    is = alone.is;
    persistent = (reached, alone.persistent);
  })
]

-- and the choice that follows one
reached-following : {S : Type 0} (next : S → ℕ → Option S) (IsPersistent : S → ℕ → Type 0)
    (start s : S) (choice : ℕ) (other : Option ℕ) →
    IsReached next start s → IsFollowing next IsPersistent s choice other →
    IsFollowing next (IsReachedPersistent next IsPersistent start) s choice other
reached-following next IsPersistent start s choice other reached is = elim is [
  | inl first ↦ inl first
  | inr alone ↦ inr (alone.0, (reached, alone.1))
]

pub loop-steps-init : goal.loop-steps-init
loop-steps-init g c =
    let next = g.M.Machine.next in
    let start = g.M.Machine.start c.args.machine.now in
    let found = c.note.new.found.items in
    let is_new = is_new_goal g.M.Machine.is_goal g.M.Observable.outcome found in
    let now = c.restart.new.self in
    let IsPersistent = g.M.PersistentChoices.IsPersistent in
    let IsTaken : g.row.M.Denot → ℕ → Type 0 = IsReachedPersistent next IsPersistent start in
    let laws : Persist next g.M.Machine.is_goal g.M.Keyed.IsAlike IsPersistent start = record {
      same_goal = c.keeps_alike.ensures.same_goal;
      same_next = c.keeps_alike.ensures.same_next;
      can = c.choices_commute.ensures.can;
      no_goal = c.choices_commute.ensures.no_goal;
      commutes = c.choices_commute.ensures.commutes;
    }
    in
    let can : CanBeTaken next IsTaken = λ s choice is. laws.can s choice is.0 is.1 in
    let enough : (found : List Witnessed) →
    Suffices next (is_new_goal g.M.Machine.is_goal g.M.Observable.outcome found) IsTaken =
    λ found. suffices next (is_new_goal g.M.Machine.is_goal g.M.Observable.outcome found)
    g.M.Keyed.IsAlike IsPersistent start
    (persist-new next g.M.Machine.is_goal g.M.Observable.outcome g.M.Keyed.IsAlike IsPersistent
    start laws c.have_equal_outcomes.ensures found)
    in
    let first = c.first_choice-next.result in
    let at : now ≡ start = c.in_ok-restart.ensures in
    let old : is_new now ≡ false = noted-is_old g.M.Machine.is_goal g.M.Observable.outcome found now
    c.in_ok-note.ensures.noted in
    let same : g.M.Machine.start now ≡ start = ap g.M.Machine.start at ∙
    g.met.M.Machine.start_is_first c.args.machine.now in
    let is : IsFirst next IsTaken start first = reached-first next IsPersistent start start first
    ([], refl) (rw (← at) c.first_choice-next.ensures) in
    let begins : Stands next is_new IsTaken g.M.Keyed.IsKey [] [] start now first =
    rw at (stands-first next is_new IsTaken g.M.Keyed.IsKey (enough found) can start first
    (rw (← at) old) is)
    in
    record {
      stands = rw (c.new-path.ensures.items, c.new-levels.ensures.items) begins;
      done = λ k noted. let none = c.new-seen.ensures.none k in let h : true ≡ false = sym noted ∙
          none in cc;
      start = same;
      distinct = c.in_ok-note.ensures.distinct;
      witnessed = (rw same at c.in_ok-note.ensures.witnessed);
      spent = λ node at_node. rw c.new-path.ensures.items (spends-first next g.M.Machine.choices
          (λ depth. 1) c.args.budget start node first);
      within = within-first c.new-path.result.items c.note.new.found.items
          (rw c.new-path.ensures.items refl) (rw (c.deref.ensures.value, c.new-found.ensures.items)
          at c.in_ok-note.ensures.grows);
      states = rw (c.new-path.ensures.items, c.new-seen.ensures.count) (omega arith);
      marks = rw c.new-marks.ensures.items (λ k d lt. let none : ⊥ = omega (arith, lt) in
          absurd none);
    }

pub note-requires-in-Some-clause-runs : goal.note-requires-in-Some-clause-runs
note-requires-in-Some-clause-runs g c =
    let next = g.M.Machine.next in
    let stands = (rw c.in-Some.is at c.loop-steps.invariant.stands) in
    let at : c.loop-steps.machine ≡ stands.node = stands.here refl in
    let some : IsSome (next c.loop-steps.machine c.in-Some.choice) = rw at stands.ahead.1 in
    let step = step-goes next c.loop-steps.machine c.step.new.self c.in-Some.choice _
    c.in_ok-_went-in-Some.ensures.went c.in_ok-_went-in-Some.ensures.none some in
    let start = g.met.M.Machine.same_start c.loop-steps.machine c.step.new.self c.in-Some.choice
    step ∙ c.loop-steps.invariant.start in
    let runs : after next c.loop-steps.path.items (g.M.Machine.start c.args.machine.now) ≡
    Some c.loop-steps.machine = rw at stands.runs in
    rw (c.deref-in-Some.ensures.value, start, c.in_ok-push-in-Some.ensures.items)
    (after-push next c.loop-steps.path.items c.in-Some.choice _ c.loop-steps.machine
    c.step.new.self runs step)

pub note-requires-in-Some-clause-witnessed : goal.note-requires-in-Some-clause-witnessed
note-requires-in-Some-clause-witnessed g c = grind (arith, nat_tests, step-goes)

pub returns-in_default-clause-all : goal.returns-in_default-clause-all
returns-in_default-clause-all g c =
    let next = g.M.Machine.next in
    let start = g.M.Machine.start c.args.machine.now in
    let is_new = is_new_goal g.M.Machine.is_goal g.M.Observable.outcome c.loop-steps.found.items in
    let stands = (rw c.in-None.is at c.loop-steps.invariant.stands) in
    let empty : c.loop-steps.path.items ≡ [] =
    nil_from_length _ (omega (arith, c.in_default.ensures.cases)) in
    let here : start ≡ stands.node = (let P : List ℕ → Type 0 = λ xs. after next xs start ≡
    Some stands.node in let h : Some start ≡ Some stands.node = subst P empty stands.runs in
    cc) in
    let from : HasNoGoal next is_new start = rw here stands.ahead in
    λ _. all-found next g.M.Machine.is_goal g.M.Observable.outcome start
    c.loop-steps.found.items from

pub go_back-requires-clause-runs : goal.go_back-requires-clause-runs
go_back-requires-clause-runs g c = grind (arith, nat_tests, front_runs)

pub go_back-requires-clause-marks : goal.go_back-requires-clause-marks
go_back-requires-clause-marks g c = rw c.loop-steps.invariant.start c.loop-steps.invariant.marks

pub loop-steps-preserved : goal.loop-steps-preserved
loop-steps-preserved g c =
    let next = g.M.Machine.next in
    let is_goal = g.M.Machine.is_goal in
    let outcome = g.M.Observable.outcome in
    let IsKey = g.M.Keyed.IsKey in
    let start = g.M.Machine.start c.args.machine.now in
    let path = c.loop-steps.path.items in
    let levels = c.loop-steps.levels.items in
    let now = c.loop-steps.machine in
    let seen = c.loop-steps.seen in
    let each : ℕ → ℕ = λ depth. 1 in
    let found = c.loop-steps.found.items in
    let is_new = is_new_goal is_goal outcome found in
    let IsPersistent = g.M.PersistentChoices.IsPersistent in
    let IsTaken : g.row.M.Denot → ℕ → Type 0 = IsReachedPersistent next IsPersistent start in
    let laws : Persist next g.M.Machine.is_goal g.M.Keyed.IsAlike IsPersistent start = record {
      same_goal = c.keeps_alike.ensures.same_goal;
      same_next = c.keeps_alike.ensures.same_next;
      can = c.choices_commute.ensures.can;
      no_goal = c.choices_commute.ensures.no_goal;
      commutes = c.choices_commute.ensures.commutes;
    }
    in
    let can : CanBeTaken next IsTaken = λ s choice is. laws.can s choice is.0 is.1 in
    let enough : (found : List Witnessed) →
    Suffices next (is_new_goal g.M.Machine.is_goal g.M.Observable.outcome found) IsTaken =
    λ found. suffices next (is_new_goal g.M.Machine.is_goal g.M.Observable.outcome found)
    g.M.Keyed.IsAlike IsPersistent start
    (persist-new next g.M.Machine.is_goal g.M.Observable.outcome g.M.Keyed.IsAlike IsPersistent
    start laws c.have_equal_outcomes.ensures found)
    in
    elim c.match-next.branch [
      | in-Some+in_ok-_went-in-Some+in_ok-push-in-Some+in_ok-note-in-Some+in_ok-key-in-Some+in_ok-push-in-Some-2 w ↦
          let choice = w.in-Some.choice in
          let t = w.step.new.self in
          let more = w.note-in-Some.new.found.items in
          let key = w.in_ok-key-in-Some.key in
          let level : Level = record {
            other = w.following-other.result;
            key = w.kept-key.result;
          } in
          let stands = (rw w.in-Some.is at c.loop-steps.invariant.stands) in
          let at : now ≡ stands.node = stands.here refl in
          let some : IsSome (next now choice) = rw at stands.ahead.1 in
          let step = step-goes next now t choice _ w.in_ok-_went-in-Some.ensures.went
          w.in_ok-_went-in-Some.ensures.none some in
          let same : g.M.Machine.start t ≡ start = g.met.M.Machine.same_start now t choice step ∙
          c.loop-steps.invariant.start in
          let runs : after next path start ≡ Some now = rw at stands.runs in
          let reached : IsReached next start t =
          (path ++ choice ∷ [], after-push next path choice start now t runs step) in
          let old_goal : is_new_goal is_goal outcome more t ≡ false =
          noted-is_old is_goal outcome more t w.in_ok-note-in-Some.ensures.noted in
          let less = new-fewer is_goal outcome found more w.in_ok-note-in-Some.ensures.kept in
          let pushed : length w.push.new.self.items ≡ length path + 1 =
          ap (λ (xs : List ℕ). length xs) w.in_ok-push-in-Some.ensures.items ∙
          length-append path (choice ∷ []) in
          let fewer = stands-fewer next is_new (is_new_goal is_goal outcome more) IsTaken IsKey less
          path levels start now (Some choice) stands in
          let done : AreDone next (is_new_goal is_goal outcome more) IsKey start seen =
          done-fewer next is_new (is_new_goal is_goal outcome more) IsKey start seen less
          c.loop-steps.invariant.done
          in
          let is : IsLevel next IsTaken IsKey now choice level = record {
            following = reached-following next IsPersistent start now choice level.other
                (path, runs) w.following-other.ensures;
            key = λ u there.
                let e : t ≡ u = cc in
                has-kept IsKey u key w.kept-key.result (is_some w.first_at-next.result)
                w.kept-key.ensures (subst (λ (x : g.row.M.Denot). HasKey IsKey x key) e
                w.in_ok-key-in-Some.ensures);
          }
          in
          let further = stands-push next (is_new_goal is_goal outcome more) IsTaken IsKey
          (enough more) can path levels start now t choice level w.first_at-next.result
          (is_done seen key) fewer is step old_goal
          (λ new. reached-first next IsPersistent start t w.first_at-next.result reached
          (w.first_at-next.ensures.new new)) w.first_at-next.ensures.done
          (λ seen_before. done-leads next (is_new_goal is_goal outcome more) IsKey start seen key t
          done reached w.in_ok-key-in-Some.ensures seen_before)
          in
          rw (w.path-is, w.levels-is, w.marks-is, w.machine-is, w.found-is, w.seen-is, w.next-is)
          record {
            stands = rw (w.in_ok-push-in-Some.ensures.items, w.in_ok-push-in-Some-2.ensures.items)
                further;
            done = done;
            start = same;
            distinct = w.in_ok-note-in-Some.ensures.distinct;
            witnessed = (rw same at w.in_ok-note-in-Some.ensures.witnessed);
            spent = λ node at_node.
                let now_there : HasSpent next g.M.Machine.choices each c.args.budget
                c.loop-steps.steps 0 path start now (Some choice) =
                (rw w.in-Some.is at c.loop-steps.invariant.spent now runs) in
                let after_choice = after-push next path choice start now t runs step in
                let there : after next (path ++ choice ∷ []) start ≡ Some node =
                (rw w.in_ok-push-in-Some.ensures.items at at_node) in
                let e : t ≡ node = cc in
                rw w.in_ok-push-in-Some.ensures.items
                (subst (λ (x : g.row.M.Denot). HasSpent next g.M.Machine.choices each c.args.budget
                (c.loop-steps.steps + 1) 0 (path ++ choice ∷ []) start x w.first_at-next.result)
                e
                (spends-entered next g.M.Machine.choices each c.args.budget c.loop-steps.steps 0
                path choice start now t w.first_at-next.result runs step
                (omega arith) now_there));
            within =
                within-same (c.loop-steps.steps + length path + 2)
                (c.loop-steps.steps + 1 + length w.push.new.self.items) more
                (omega (arith, pushed))
                (within-grown (c.loop-steps.steps + length path) w.push.new.self.items found more
                c.loop-steps.invariant.within
                (rw w.deref-in-Some.ensures.value at w.in_ok-note-in-Some.ensures.grows)
                (let h = c.loop-steps.invariant.states in omega (arith, pushed, h)));
            states = let h = c.loop-steps.invariant.states in omega (arith, pushed, h);
            marks = c.loop-steps.invariant.marks;
          }
      | in-None+in-Some-pop+in_ok-next-in-None+then-is_some+in_ok-go_back-in-None w ↦
          let stands = (rw w.in-None.is at c.loop-steps.invariant.stands) in
          let popped : length path ≡ length w.pop.new.self.items + 1 =
          ap (λ (xs : List ℕ). length xs) w.in-Some-pop.ensures.items ∙
          length-append w.pop.new.self.items (w.in-Some-pop._taken ∷ []) in
          let back : Leaves next is_new IsTaken IsKey w.pop.new.self.items w.in-Some-pop._taken
          levels start stands.node = stands-back next is_new IsTaken IsKey (enough found) path
          w.pop.new.self.items w.in-Some-pop._taken levels start now stands
          w.in-Some-pop.ensures.items in
          let last = w.in_ok-next-in-None.ensures.left back.others back.level back.are in
          let runs : after next w.pop.new.self.items start ≡ Some w.go_back.new.machine =
          (rw (w.deref-then-is_some.ensures.value, c.loop-steps.invariant.start) at
          w.in_ok-go_back-in-None.ensures.runs) in
          rw (w.path-is, w.levels-is, w.marks-is, w.machine-is, w.found-is, w.seen-is, w.next-is)
          record {
            stands = rw (last.0, last.1) (back.back w.go_back.new.machine (λ some. runs));
            done =
                done-more next is_new g.M.Keyed.IsAlike IsKey start c.keeps_alike.ensures.by_key
                (new-alike is_goal outcome g.M.Keyed.IsAlike c.keeps_alike.ensures.same_goal
                c.have_equal_outcomes.ensures found) c.keeps_alike.ensures.same_next
                seen w.leave.new.seen back.level.key stands.node last.2 back.key (path, stands.runs)
                stands.ahead c.loop-steps.invariant.done;
            start = w.in_ok-go_back-in-None.ensures.start ∙ c.loop-steps.invariant.start;
            distinct = c.loop-steps.invariant.distinct;
            witnessed = c.loop-steps.invariant.witnessed;
            spent = λ node at_node.
                rw last.0
                (spends-left next g.M.Machine.choices each g.met.M.Machine.no_others c.args.budget
                c.loop-steps.steps 0 0 0 path w.pop.new.self.items w.in-Some-pop._taken start
                stands.node node None back.level.other
                w.in-Some-pop.ensures.items stands.runs at_node (omega arith) (omega arith)
                (omega arith) back.later
                (rw w.in-None.is at c.loop-steps.invariant.spent stands.node stands.runs));
            within = within-same (c.loop-steps.steps + length path)
                (c.loop-steps.steps + 1 + length w.pop.new.self.items) found (omega (arith, popped))
                c.loop-steps.invariant.within;
            states = let h = c.loop-steps.invariant.states in let k =
                w.in_ok-next-in-None.ensures.count in omega (arith, popped, h, k);
            marks = (rw c.loop-steps.invariant.start at w.in_ok-go_back-in-None.ensures.marks);
          }
      | in-None+in-Some-pop+in_ok-next-in-None+else-is_some w ↦
          let stands = (rw w.in-None.is at c.loop-steps.invariant.stands) in
          let popped : length path ≡ length w.pop.new.self.items + 1 =
          ap (λ (xs : List ℕ). length xs) w.in-Some-pop.ensures.items ∙
          length-append w.pop.new.self.items (w.in-Some-pop._taken ∷ []) in
          let back : Leaves next is_new IsTaken IsKey w.pop.new.self.items w.in-Some-pop._taken
          levels start stands.node = stands-back next is_new IsTaken IsKey (enough found) path
          w.pop.new.self.items w.in-Some-pop._taken levels start now stands
          w.in-Some-pop.ensures.items in
          let last = w.in_ok-next-in-None.ensures.left back.others back.level back.are in
          let none : is_some back.level.other ≡ false = rw (← last.0) cc in
          let machine : IsSome back.level.other → after next w.pop.new.self.items start ≡ Some now =
          λ some. let k : true ≡ false = sym some ∙ none in cc in
          rw (w.path-is, w.levels-is, w.marks-is, w.machine-is, w.found-is, w.seen-is, w.next-is)
          record {
            stands = rw (last.0, last.1) (back.back now machine);
            done =
                done-more next is_new g.M.Keyed.IsAlike IsKey start c.keeps_alike.ensures.by_key
                (new-alike is_goal outcome g.M.Keyed.IsAlike c.keeps_alike.ensures.same_goal
                c.have_equal_outcomes.ensures found) c.keeps_alike.ensures.same_next
                seen w.leave.new.seen back.level.key stands.node last.2 back.key (path, stands.runs)
                stands.ahead c.loop-steps.invariant.done;
            start = c.loop-steps.invariant.start;
            distinct = c.loop-steps.invariant.distinct;
            witnessed = c.loop-steps.invariant.witnessed;
            spent = λ node at_node.
                rw last.0
                (spends-left next g.M.Machine.choices each g.met.M.Machine.no_others c.args.budget
                c.loop-steps.steps 0 0 0 path w.pop.new.self.items w.in-Some-pop._taken start
                stands.node node None back.level.other
                w.in-Some-pop.ensures.items stands.runs at_node (omega arith) (omega arith)
                (omega arith) back.later
                (rw w.in-None.is at c.loop-steps.invariant.spent stands.node stands.runs));
            within = within-same (c.loop-steps.steps + length path)
                (c.loop-steps.steps + 1 + length w.pop.new.self.items) found (omega (arith, popped))
                c.loop-steps.invariant.within;
            states = let h = c.loop-steps.invariant.states in let k =
                w.in_ok-next-in-None.ensures.count in omega (arith, popped, h, k);
            marks = c.loop-steps.invariant.marks;
          }
    ]

pub returns-clause-used_up : goal.returns-clause-used_up
returns-clause-used_up g c used =
    let stands = c.loop-steps.invariant.stands in
    spends-within g.M.Machine.next g.M.Machine.choices (λ depth. 1) g.met.M.Machine.no_others
    c.args.budget c.loop-steps.steps 0 c.loop-steps.path.items
    (g.M.Machine.start c.args.machine.now) stands.node c.loop-steps.next
    stands.runs (c.loop-steps.invariant.spent stands.node stands.runs) (omega arith)
