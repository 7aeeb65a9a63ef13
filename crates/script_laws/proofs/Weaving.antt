-- If each process has a course through a phase, some interleaving takes them through it.
use Rattle.std.proofs.Common.{◌≡◌, ◌⊎◌, inl, inr, ℕ, zero, suc, ◌+◌, ◌≤◌, ◌==◌, List, [], ◌∷◌, ◌++◌, length, Some, slice_get, slice_set, refl, ap, sym, ◌∙◌, subst, arith, append_assoc, append-nil, length-set}
use Rattle.std.specs.List.{All}
use Rattle.std.proofs.lemmas.List.{append_cancel_right}
use Rattle.fast_mutex.specs.Items.{items_of}
use Rattle.mq.specs.Calls.{author}
use Rattle.mq_model.proofs.Places.{split, same_place, other_place}
use Rattle.mq_model.specs.Record.{Past, Record}
use Rattle.schedules.specs.Schedules.{after}
use Rattle.script_orders.specs.Progress.{Progress}
use Rattle.script_orders.specs.Stage.{Stage, next_stage}
use Rattle.script_orders.specs.Turns.{Turned, after_turn}
use Rattle.schedules.proofs.Backing.{all-front}
use Rattle.script_orders.proofs.Persisting.{set-other}
use Rattle.script_laws.proofs.Course.{Course, Move}
use Rattle.script_laws.proofs.Courses.{course-end, course-goes-on, first-move, found-here}
use Rattle.script_laws.proofs.Joins.{all-last, both-empty, by-last, owns-last}
use Rattle.script_laws.proofs.Runners.{AreOnCourse, Frame, Runner, ends_in, get-set-here, goes-on, gone, map-agree, map-set-same, programs_in, staged, there-is}

-- a move that leaves no record --------------------------------------------------------------------

record Eager (runners : List Runner) : Type 0 where
  at : ℕ
  runner : Runner
  move : Move
  moves : List Move
  has : slice_get runners at ≡ Some runner
  next : runner.moves ≡ move ∷ moves
  leaves : move.own ≡ []

abbrev StartsEager : List Move → Type 0
StartsEager moves = (move : Move) × (rest : List Move) × (moves ≡ move ∷ rest) × (move.own ≡ [])

abbrev StartsLater : List Move → Type 0
StartsLater moves = (move : Move) (rest : List Move) → moves ≡ move ∷ rest → move.own ≡ [] → ⊥

empty-or : (xs : Past) → (xs ≡ []) ⊎ (xs ≡ [] → ⊥)
empty-or [] = inl refl
empty-or (x ∷ xs) = inr (λ e. cc)

first-eager : (moves : List Move) → StartsEager moves ⊎ StartsLater moves
first-eager [] = inr (λ move rest is leaves. cc)
first-eager (m ∷ ms) =
    elim (empty-or m.own) [
      | inl e ↦ inl (m, ms, refl, e)
      | inr some ↦ inr (λ move rest is leaves. let same : m ≡ move = cc in
          some (ap (λ (x : Move). x.own) same ∙ leaves))
    ]

abbrev AreLater : List Runner → Type 0
AreLater runners = (i : ℕ) (r : Runner) → slice_get runners i ≡ Some r → StartsLater r.moves

later-more : (r : Runner) (runners : List Runner) → StartsLater r.moves → AreLater runners →
    AreLater (r ∷ runners)
later-more r runners one rest h s has = grind arith

find-eager : (runners : List Runner) → Eager runners ⊎ AreLater runners
find-eager [] = inr (λ i r has. cc)
find-eager (r ∷ runners) =
    elim (first-eager r.moves) [
      | inl e ↦ inl (record {
        at = 0;
        runner = r;
        move = e.0;
        moves = e.1;
        has = refl;
        next = e.2;
        leaves = e.3;
      })
      | inr one ↦ elim (find-eager runners) [
        | inl e ↦ inl (record {
          at = suc e.at;
          runner = e.runner;
          move = e.move;
          moves = e.moves;
          has = e.has;
          next = e.next;
          leaves = e.leaves;
        })
        | inr rest ↦ inr (later-more r runners one rest)
      ]
    ]

-- the next move -----------------------------------------------------------------------------------

nothing : (a own b : Past) → [] ≡ (a ++ own) ++ b → own ≡ []
nothing a own b e = (both-empty a own (both-empty (a ++ own) b (sym e)).0).1

-- the process with this number
reached : (runners : List Runner) (p : ℕ) → (1 ≤ p) × (p ≤ length runners) →
    (i : ℕ) × (r : Runner) × (slice_get runners i ≡ Some r) × (p ≡ i + 1)
reached runners zero bounds = let k : ⊥ = omega (arith, bounds.0) in absurd k
reached runners (suc i) bounds = let there = there-is runners i (omega (arith, bounds.1)) in
    (i, there.0, there.1, omega arith)

abbrev pub IsOf : ℕ → Record → Type 0
IsOf count r = (1 ≤ author r) × (author r ≤ count)

-- a process makes its next move from this journal, and all others stay on their courses
record Next (phase : ℕ) (to past : Past) (runners : List Runner) : Type 0 where
  at : ℕ
  runner : Runner
  move : Move
  moves : List Move
  has : slice_get runners at ≡ Some runner
  next : runner.moves ≡ move ∷ moves
  found : move.found ≡ past
  others : (j : ℕ) (r : Runner) → (j ≡ at → ⊥) → slice_get runners j ≡ Some r →
      Course (j + 1) phase r.program to r.end r.moves (move.own ++ past) r.seat

-- all moves are made
record AllMade (to past : Past) (runners : List Runner) : Type 0 where
  here : past ≡ to
  made : (i : ℕ) (r : Runner) → slice_get runners i ≡ Some r → r.moves ≡ []

abbrev CourseOf : ℕ → ℕ → Past → Past → Runner → List Move → Type 0
CourseOf i phase to past r moves = Course (i + 1) phase r.program to r.end moves past r.seat

eager-next : (phase : ℕ) (to past : Past) (runners : List Runner) →
    AreOnCourse phase to past runners → Eager runners → Next phase to past runners
eager-next phase to past runners on e =
    let course : CourseOf e.at phase to past e.runner (e.move ∷ e.moves) =
    subst (λ (moves : List Move). CourseOf e.at phase to past e.runner moves) e.next
    (on e.at e.runner e.has) in
    record {
      at = e.at;
      runner = e.runner;
      move = e.move;
      moves = e.moves;
      has = e.has;
      next = e.next;
      found = course.0.eager e.leaves;
      others = λ j r other has. let P : Past →
          Type 0 = λ own. Course (j + 1) phase r.program to r.end r.moves (own ++ past) r.seat in
          subst P (sym e.leaves) (on j r has);
    }

-- process i + 1, whose record directly follows the journal
own-next : (phase : ℕ) (to past : Past) (runners : List Runner) (i : ℕ) (runner : Runner)
    (ys : Past) (r : Record) → AreOnCourse phase to past runners → AreLater runners →
    slice_get runners i ≡ Some runner → author r ≡ i + 1 → to ≡ (ys ++ r ∷ []) ++ past →
    (moves : List Move) → runner.moves ≡ moves → Next phase to past runners
own-next phase to past runners i runner ys r on later has is at [] e =
    let course : CourseOf i phase to past runner [] =
    subst (λ (moves : List Move). CourseOf i phase to past runner moves) e (on i runner has) in
    let behind : course.1.behind ≡ ys ++ r ∷ [] = append_cancel_right course.1.behind (ys ++ r ∷ [])
    past (sym course.1.is ∙ at) in
    absurd (owns-last author (i + 1) ys r is (ap (λ (l : Past). items_of author (i + 1) l)
    (sym behind) ∙ course.1.mine))
own-next phase to past runners i runner ys r on later has is at (move ∷ moves) e =
    let course : CourseOf i phase to past runner (move ∷ moves) =
    subst (λ (moves : List Move). CourseOf i phase to past runner moves) e (on i runner has) in
    let first = first-move (i + 1) phase runner.program to runner.end move moves past
    runner.seat course in
    let sides : ys ++ r ∷ [] ≡ (first.0 ++ move.own) ++ course.0.others.behind =
    append_cancel_right (ys ++ r ∷ []) ((first.0 ++ move.own) ++ course.0.others.behind) past
    (sym at ∙ first.1) in
    let here : course.0.others.behind ≡ [] = found-here (i + 1) ys (first.0 ++ move.own)
    course.0.others.behind r is course.0.others.mine sides in
    let more : to ≡ (first.0 ++ move.own) ++ past = first.1 ∙ ap (λ (l : Past). l ++ past)
    (ap (λ (l : Past). (first.0 ++ move.own) ++ l) here ∙ append-nil (first.0 ++ move.own)) in
    record {
      at = i;
      runner = runner;
      move = move;
      moves = moves;
      has = has;
      next = e;
      found = course.0.others.is ∙ ap (λ (l : Past). l ++ past) here;
      others = λ j other differ there. course-goes-on (i + 1) (j + 1) phase other.program to
          other.end other.moves past other.seat first.0 move.own
          (λ same. differ (omega (arith, same))) course.0.mine more (later j other there)
          (on j other there);
    }

-- if this is the last journal, and each next move adds a record
no-more : (phase : ℕ) (to past : Past) (runners : List Runner) → AreOnCourse phase to past runners →
    AreLater runners → to ≡ past → (i : ℕ) (r : Runner) → slice_get runners i ≡ Some r →
    (moves : List Move) → r.moves ≡ moves → r.moves ≡ []
no-more phase to past runners on later at i r has [] e = e
no-more phase to past runners on later at i r has (move ∷ moves) e =
    let course : CourseOf i phase to past r (move ∷ moves) =
    subst (λ (moves : List Move). CourseOf i phase to past r moves) e (on i r has) in
    let first = first-move (i + 1) phase r.program to r.end move moves past r.seat course in
    let sides : [] ≡ (first.0 ++ move.own) ++ course.0.others.behind = append_cancel_right []
    ((first.0 ++ move.own) ++ course.0.others.behind) past (sym at ∙ first.1) in
    let leaves : move.own ≡ [] = nothing first.0 move.own course.0.others.behind sides in
    absurd (later i r has move moves e leaves)

find-next : (phase : ℕ) (to past : Past) (runners : List Runner) (behind : Past) →
    AreOnCourse phase to past runners → to ≡ behind ++ past → All (IsOf (length runners)) behind →
    Next phase to past runners ⊎ AllMade to past runners
find-next phase to past runners behind on at of =
    elim (find-eager runners) [
      | inl e ↦ inl (eager-next phase to past runners on e)
      | inr later ↦ elim (by-last behind) [
        | inl z ↦
            let same : to ≡ past = at ∙ ap (λ (l : Past). l ++ past) z in
            inr (record {
              here = sym same;
              made = λ i r has. no-more phase to past runners on later
                  same i r has r.moves refl;
            })
        | inr z ↦
            let whose : IsOf (length runners) z.1 = all-last (IsOf (length runners)) z.0 z.1
            (subst (λ (l : Past). All (IsOf (length runners)) l) z.2 of) in
            let there = reached runners (author z.1) whose in
            inl (own-next phase to past runners there.0 there.1 z.0 z.1 on later there.2 there.3
            (at ∙ ap (λ (l : Past). l ++ past) z.2) there.1.moves refl)
      ]
    ]

-- the order ---------------------------------------------------------------------------------------

abbrev moves_left : List Runner → ℕ
moves_left [] = 0
moves_left (r ∷ runners) = length r.moves + moves_left runners

-- the stage after the phase
abbrev pub ended : Frame → ℕ → Past → List Runner → Stage
ended frame phase to runners =
    record {
      programs = programs_in runners;
      phases = frame.phases;
      script = frame.script;
      start = frame.start;
      phase = phase;
      past = to;
      seats = ends_in runners;
    }

abbrev pub Weaves : Frame → ℕ → Past → Past → List Runner → Type 0
Weaves frame phase to past runners =
    (schedule : List ℕ) × (after next_stage schedule (staged frame phase past runners) ≡
    Some (ended frame phase to runners))

one-less : (runners : List Runner) (i : ℕ) (r : Runner) (seat : Progress) (move : Move)
    (moves : List Move) → slice_get runners i ≡ Some r → r.moves ≡ move ∷ moves →
    suc (moves_left (slice_set runners i (gone r seat moves))) ≡ moves_left runners
one-less [] i r seat move moves has next = cc
one-less (x ∷ runners) zero r seat move moves has next = grind arith
one-less (x ∷ runners) (suc i) r seat move moves has next =
    grind (arith, one-less runners i r seat move moves has next)

all-ended : (frame : Frame) (phase : ℕ) (to past : Past) (runners : List Runner) →
    AreOnCourse phase to past runners → AllMade to past runners → Weaves frame phase to past runners
all-ended frame phase to past runners on all =
    let same : (i : ℕ) (r : Runner) → slice_get runners i ≡ Some r →
    r.seat ≡ r.end = λ i r has. (subst (λ (moves : List Move). CourseOf i phase to past r moves)
    (all.made i r has) (on i r has)).0 in (
      [],
      rw (all.here, map-agree (λ (r : Runner). r.seat) (λ (r : Runner). r.end) runners same)
          refl,
    )

-- after the next move all are on their courses
next-on : (phase : ℕ) (to past : Past) (runners : List Runner) → AreOnCourse phase to past runners →
    (n : Next phase to past runners) →
    AreOnCourse phase to (n.move.own ++ n.move.found)
    (slice_set runners n.at (gone n.runner n.move.next n.moves))
next-on phase to past runners on n i r has =
    split (i == n.at)
    (λ e.
    let here : i ≡ n.at = same_place i n.at e in
    let is : r ≡ gone n.runner n.move.next n.moves = get-set-here runners n.at
    (gone n.runner n.move.next n.moves) r (rw here at has) in
    let course : CourseOf n.at phase to past n.runner (n.move ∷ n.moves) =
    subst (λ (moves : List Move). CourseOf n.at phase to past n.runner moves) n.next
    (on n.at n.runner n.has) in
    rw (is, here) course.1)
    (λ e.
    let differ = other_place i n.at e in
    let there : slice_get runners i ≡ Some r =
    sym (set-other runners n.at i (gone n.runner n.move.next n.moves)
    (λ same. differ (sym same))) ∙ has in
    rw n.found (n.others i r differ there))

-- one move, and then the rest
then-weaves : (frame : Frame) (phase : ℕ) (to past : Past) (runners : List Runner) →
    AreOnCourse phase to past runners → (n : Next phase to past runners) →
    Weaves frame phase to (n.move.own ++ n.move.found)
    (slice_set runners n.at (gone n.runner n.move.next n.moves)) →
    Weaves frame phase to past runners
then-weaves frame phase to past runners on n rest =
    let course : CourseOf n.at phase to past n.runner (n.move ∷ n.moves) =
    subst (λ (moves : List Move). CourseOf n.at phase to past n.runner moves) n.next
    (on n.at n.runner n.has) in
    let turned : Turned = record { past = n.move.own ++ n.move.found; progress = n.move.next } in
    let goes : after_turn past phase (n.at + 1) n.runner.seat n.runner.program ≡ Some turned =
    subst (λ found. after_turn found phase (n.at + 1) n.runner.seat n.runner.program ≡
    Some turned) n.found course.0.turn in
    let step = goes-on frame phase past runners n.at n.runner turned n.moves n.has goes in
    let set : Runner = gone n.runner n.move.next n.moves in (
      n.at ∷ rest.0,
      rw (
        step,
        rest.1,
        map-set-same (λ (r : Runner). r.program) runners n.at n.runner
            set n.has refl,
        map-set-same (λ (r : Runner). r.end) runners n.at n.runner set n.has refl,
      )
          refl,
    )

-- what is added after the next move
next-behind : (phase : ℕ) (to past : Past) (runners : List Runner) (behind : Past) →
    AreOnCourse phase to past runners → to ≡ behind ++ past → All (IsOf (length runners)) behind →
    (n : Next phase to past runners) →
    (more : Past) × (to ≡ more ++ (n.move.own ++ n.move.found)) ×
    All (IsOf (length (slice_set runners n.at (gone n.runner n.move.next n.moves)))) more
next-behind phase to past runners behind on at of n =
    let course : CourseOf n.at phase to past n.runner (n.move ∷ n.moves) =
    subst (λ (moves : List Move). CourseOf n.at phase to past n.runner moves) n.next
    (on n.at n.runner n.has) in
    let more = course-end (n.at + 1) phase n.runner.program to n.runner.end n.moves (n.move.own ++
    n.move.found) n.move.next course.1 in
    let whole : to ≡ (more.0 ++ n.move.own) ++ past = more.1 ∙
    (ap (λ (l : Past). more.0 ++ (n.move.own ++ l)) n.found ∙
    sym (append_assoc more.0 n.move.own past)) in
    let same : behind ≡ more.0 ++ n.move.own = append_cancel_right behind (more.0 ++ n.move.own)
    past (sym at ∙ whole) in
    let few : All (IsOf (length runners)) more.0 = all-front (IsOf (length runners)) more.0 behind
    n.move.own same of in (
      more.0,
      more.1,
      subst (λ (count : ℕ). All (IsOf count) more.0)
          (sym (length-set runners n.at (gone n.runner n.move.next n.moves))) few,
    )

weave : (left : ℕ) (frame : Frame) (phase : ℕ) (to past : Past) (runners : List Runner)
    (behind : Past) → moves_left runners ≡ left → AreOnCourse phase to past runners →
    to ≡ behind ++ past → All (IsOf (length runners)) behind → Weaves frame phase to past runners
weave zero frame phase to past runners behind count on at of =
    elim (find-next phase to past runners behind on at of) [
      | inl n ↦ let less = one-less runners n.at n.runner n.move.next n.move n.moves n.has n.next in
          let k : ⊥ = omega (arith, less, count) in absurd k
      | inr all ↦ all-ended frame phase to past runners on all
    ]
weave (suc left) frame phase to past runners behind count on at of =
    elim (find-next phase to past runners behind on at of) [
      | inl n ↦
          let less = one-less runners n.at n.runner n.move.next n.move n.moves n.has n.next in
          let more = next-behind phase to past runners behind on at of n in
          then-weaves frame phase to past runners on n (weave left frame phase to (n.move.own ++
          n.move.found) (slice_set runners n.at (gone n.runner n.move.next n.moves)) more.0
          (omega (arith, less, count)) (next-on phase to past runners on n) more.1 more.2)
      | inr all ↦ all-ended frame phase to past runners on all
    ]

pub weaving : (frame : Frame) (phase : ℕ) (to past : Past) (runners : List Runner) (behind : Past) →
    AreOnCourse phase to past runners → to ≡ behind ++ past → All (IsOf (length runners)) behind →
    Weaves frame phase to past runners
weaving frame phase to past runners behind on at of = weave (moves_left runners) frame phase to past
    runners behind refl on at of
