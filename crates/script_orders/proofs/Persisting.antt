-- A process that may collect can do so before the steps of the others.
use Rattle.std.proofs.lemmas.Bool.Decides.{nat_tests}
use Rattle.std.proofs.Common.{◌≡◌, ℕ, zero, suc, ◌+◌, ◌≤◌, ◌<◌, ◌==◌, Bool, true, false, ◌&&◌, not, List, [], ◌∷◌, ◌++◌, length, slice_get, slice_set, Option, Some, None, is_some, IsSome, if◌then◌else◌, Vec, nat_lt, refl, sym, ◌∙◌, ap, subst, arith, ne_eqb, rules, Global}
use Rattle.std.specs.Option.{option_and_then, option_map}
use Rattle.std.proofs.lemmas.Bool.{eqb-false}
use Rattle.std.proofs.lemmas.Option.{slice_get_within}
use Rattle.mq_model.proofs.Mates.{shares_own}
use Rattle.mq_model.proofs.Places.{split}
use Rattle.mq_model.specs.Legality.{Legal, reply_to}
use Rattle.mq_model.specs.Record.{Past, Process}
use Rattle.mq_model.specs.Threads.{shares}
use Rattle.mq_model.specs.Waits.{answered_by, is_wait, names_wait, open_wait, wait_deadline}
use Rattle.mq_model.specs.declared.entries.Call.{Call}
use Rattle.mq_model.specs.declared.entries.Call.TheVariants.{Collect}
use Rattle.mq_model.specs.declared.entries.Reply.{Reply}
use Rattle.mq_state.specs.Trails.{can_call, record_of_call}
use Rattle.mq_state.proofs.Trails.{legal-of}
use Rattle.mq_equivalence.specs.Runs.{Request}
use Rattle.mq_equivalence.proofs.Relation.{equivalent-self}
use Rattle.mq_commutation.specs.Commuting.{collect_of, is_withdrawal}
use Rattle.mq_commutation.proofs.Collects.{collect-commutes}
use Rattle.mq_commutation.proofs.Structure.{others-differ}
use Rattle.schedules.specs.Likeness.{AreBothAlike}
use Rattle.script_orders.specs.Likeness.{AreStagesAlike}
use Rattle.script_orders.specs.Persistence.{MayCollect}
use Rattle.script_orders.specs.Progress.{Progress}
use Rattle.script_orders.specs.Said.{said}
use Rattle.script_orders.specs.Scenes.{Scene}
use Rattle.script_orders.specs.Stage.{Stage, after_phase, in_next_phase, next_stage, stands_still, turn_of, waits, with_turn}
use Rattle.script_orders.specs.Turns.{Turned, after_line, after_turn, turned}
use Rattle.script_orders.specs.declared.plan.Planned.{Planned}
use Rattle.script_orders.proofs.Counting.{none_can_turn-false}
use Rattle.script_orders.proofs.Likewise.{may-of, weaken}
use Rattle.script_orders.proofs.Making.{Went, went-of}
use Rattle.script_orders.proofs.Passing.{IsPassable, IsReady, PassesStep, can_make, made, printed, turn-passes}
use Rattle.script_orders.proofs.Turning.{turn_of-is}
use Rattle.mq_equivalence.proofs.Going.{and-false}

-- the steps of two processes ----------------------------------------------------------------------

-- a process after it made a call, having begun this number of lines with it
abbrev pub with_made : ℕ → Past → Request → Progress → Turned
with_made lines past a seat = turned lines seat (let scene : Scene = record {
  past = made past a;
  text = seat.text ++ printed past a;
} in scene)

-- The next step of the process at an index is this call, after each journal after which it may be
-- made.
pub record IsPrepared (s : Stage) (index : ℕ) (a : Request) (lines : ℕ) : Type 0 where
  pub program : Vec Planned Global
  pub seat : Progress
  pub has : slice_get s.programs index ≡ Some program
  pub sits : slice_get s.seats index ≡ Some seat
  pub own : a.process ≡ index + 1
  pub turns : (past : Past) → can_make past a ≡ true →
      after_turn past s.phase (index + 1) seat program ≡ Some (with_made lines past a seat)

-- what the process at an index may do passes the call
pub record PassesTurn (Holds : Past → Type 0) (Passes : Past → Process → Call → Type 0) (s : Stage)
    (index : ℕ) : Type 0 where
  pub collect : is_some (open_wait s.past (index + 1)) ≡ true → Passes s.past (index + 1) Collect
  pub line : (program : Vec Planned Global) (seat : Progress) (next : Planned) →
      slice_get s.programs index ≡ Some program → slice_get s.seats index ≡ Some seat →
      open_wait s.past (index + 1) ≡ None →
      slice_get program.items seat.begun ≡ Some next → (next.phase == s.phase) ≡ true →
      PassesStep Holds Passes s.past (index + 1) next.given.items next.step

-- After a step of another process, which leads from x to z, the call may still be made, and both
-- orders lead to equivalent stages.
pub record BothOrders (x y z : Stage) (index other : ℕ) (a : Request) (lines : ℕ) (Holds : Past →
    Type 0) : Type 0 where
  pub t : Turned
  pub went : Went x other t
  pub later : went.seat.begun ≤ t.progress.begun
  pub is : with_turn x other t ≡ z
  pub holds : Holds t.past
  pub can : can_make t.past a ≡ true
  pub prepared : IsPrepared (with_turn x other t) index a lines
  pub alike : AreBothAlike AreStagesAlike (next_stage y other) (next_stage z index)

some-of : {A : Type 0} (o : Option A) → is_some o ≡ true → (x : A) × (o ≡ Some x)
some-of o h = grind arith

step-of : (s : Stage) (index : ℕ) (program : Vec Planned Global) (t : Turned) →
    slice_get s.programs index ≡ Some program → turn_of s index ≡ Some t →
    next_stage s index ≡ Some (with_turn s index t)
step-of s index program t has turns = grind (arith, slice_get_within)

record StepOf (s z : Stage) (choice : ℕ) : Type 0 where
  t : Turned
  turns : turn_of s choice ≡ Some t
  is : with_turn s choice t ≡ z

-- while a process can take a step, each choice is a step of a process
turn-next : (s z : Stage) (choice : ℕ) → stands_still s ≡ false → next_stage s choice ≡ Some z →
    StepOf s z choice
turn-next s z choice moves step = split (choice == length s.programs)
    (λ t. let phase : after_phase s ≡ Some z = rw t at step in over phase)
    (λ f. let turns : option_map (with_turn s choice) (turn_of s choice) ≡ Some z = rw f at step in
    by (turn_of s choice) refl turns)
  where
    over : after_phase s ≡ Some z → StepOf s z choice
    over phase =
        let more : Bool = nat_lt (s.phase + 1) s.phases in
        let never : (more && (stands_still s && not (waits s))) ≡ false =
        ap (λ (b : Bool). more && (b && not (waits s))) moves ∙ and-false more in
        let after : Bool → Option Stage = λ b. if b then Some (in_next_phase s) else None in
        let bad : None ≡ Some z = sym (ap after never) ∙ phase in
        absurd (cc)

    by : (o : Option Turned) → turn_of s choice ≡ o → option_map (with_turn s choice) o ≡ Some z →
        StepOf s z choice
    by None is h = absurd (cc)
    by (Some t) is h = record { t = t; turns = is; is = cc }

pub set-other : {A : Type 0} (xs : List A) (i j : ℕ) (x : A) → (i ≡ j → ⊥) →
    slice_get (slice_set xs i x) j ≡ slice_get xs j
set-other (y ∷ xs) zero zero x ne = absurd (ne refl)
set-other (y ∷ xs) (suc i) (suc j) x ne = set-other xs i j x (λ e. ne (ap (λ (n : ℕ). suc n) e))
set-other _ _ _ x ne = refl

set-both : {A : Type 0} (xs : List A) (i j : ℕ) (x y : A) → (i ≡ j → ⊥) →
    slice_set (slice_set xs j y) i x ≡ slice_set (slice_set xs i x) j y
set-both (z ∷ xs) zero zero x y ne = absurd (ne refl)
set-both {A} (z ∷ xs) (suc i) (suc j) x y ne = ap (λ (ys : List A). z ∷ ys)
    (set-both xs i j x y (λ e. ne (ap (λ (n : ℕ). suc n) e)))
set-both _ _ _ x y ne = refl

pub prepared-turns : (s : Stage) (index : ℕ) (a : Request) (lines : ℕ)
    (p : IsPrepared s index a lines) → can_make s.past a ≡ true →
    turn_of s index ≡ Some (with_made lines s.past a p.seat)
prepared-turns s index a lines p can = turn_of-is s index p.program p.seat p.has p.sits ∙
    p.turns s.past can

pub prepared-moves : (s : Stage) (index : ℕ) (a : Request) (lines : ℕ) →
    IsPrepared s index a lines → can_make s.past a ≡ true → stands_still s ≡ false
prepared-moves s index a lines p can =
    none_can_turn-false s (length s.programs) index (slice_get_within s.programs index p.program
    p.has) (ap (λ (o : Option Turned). is_some o) (prepared-turns s index a lines p can))

pub both-orders : {Holds : Past → Type 0} {Passes : Past → Process → Call → Type 0} (x y z : Stage)
    (index other : ℕ) (a : Request) (lines : ℕ) → IsPassable a Holds Passes →
    length x.programs ≤ 32 → Legal x.past → Holds x.past →
    IsPrepared x index a lines → can_make x.past a ≡ true → PassesTurn Holds Passes x other →
    (index == other) ≡ false → next_stage x index ≡ Some y → next_stage x other ≡ Some z →
    BothOrders x y z index other a lines Holds
both-orders {Holds} {Passes} x y z index other a lines g few legal holds c can passes ne to_y to_z =
    let p = index + 1 in
    let q = other + 1 in
    let here : Turned = with_made lines x.past a c.seat in
    let turns : turn_of x index ≡ Some here = prepared-turns x index a lines c can in
    let first : Stage = with_turn x index here in
    let is_first : first ≡ y =
    (let e : Some first ≡ Some y = sym (step-of x index c.program here c.has turns) ∙ to_y in
    cc) in
    let s = turn-next x z other (prepared-moves x index a lines c can) to_z in
    let went = went-of x other s.t (slice_get x.programs other) refl s.turns in
    let second : Stage = with_turn x other s.t in
    let distinct : index ≡ other → ⊥ = eqb-false index other ne in
    let inside : other < length x.programs = slice_get_within x.programs other
    went.program went.has in
    let within : index < length x.programs = slice_get_within x.programs index c.program c.has in
    let apart : shares a.process q ≡ false = shares_own a.process q
    (omega (arith, within, few, c.own)) (omega (arith, inside, few)) ∙ ne_eqb a.process q
    (λ e. distinct (omega (arith, e, c.own))) in
    let starts : IsReady a Holds x.past first.past =
    record {
      legal = legal;
      holds = holds;
      can = can;
      journals = equivalent-self first.past
          (legal, legal-of x.past a.process a.call a.given can);
    }
    in
    let pass = turn-passes a Holds Passes g q x.phase x.past first.past went.seat went.program s.t
    apart (omega arith, omega (arith, inside, few))
    passes.collect (λ free next. passes.line went.program went.seat next went.has went.sits free)
    starts went.goes
    in
    let ends : IsReady a Holds s.t.past pass.there.past = pass.moved.ready in
    let sits_first : slice_get first.seats other ≡ Some went.seat =
    set-other x.seats index other here.progress distinct ∙ went.sits in
    let turns_first : turn_of first other ≡ Some pass.there = turn_of-is first other went.program
    went.seat went.has sits_first ∙ pass.is in
    let v : Stage = with_turn first other pass.there in
    let to_v : next_stage first other ≡ Some v = step-of first other went.program pass.there
    went.has turns_first in
    let sits_second : slice_get second.seats index ≡ Some c.seat =
    set-other x.seats other index s.t.progress (λ e. distinct (sym e)) ∙ c.sits in
    let stays : IsPrepared second index a lines = record {
      program = c.program;
      seat = c.seat;
      has = c.has;
      sits = sits_second;
      own = c.own;
      turns = c.turns;
    } in
    let there : Turned = with_made lines s.t.past a c.seat in
    let turns_second : turn_of second index ≡ Some there = prepared-turns second index a lines
    stays ends.can in
    let u : Stage = with_turn second index there in
    let to_u : next_stage second index ≡ Some u = step-of second index c.program there
    c.has turns_second in
    let told : there.progress ≡ here.progress =
    ap (λ (line : List ℕ). let next : Progress = record {
      begun = c.seat.begun + lines;
      text = c.seat.text ++ line;
    } in next) pass.moved.told in
    let seats : u.seats ≡ v.seats =
    ap (λ (progress : Progress). slice_set (slice_set x.seats other s.t.progress) index progress)
    told
    ∙ set-both x.seats index other here.progress s.t.progress distinct
    ∙ ap (λ (progress : Progress). slice_set (slice_set x.seats index here.progress) other progress)
    (sym pass.progress)
    in
    let build : List Progress → Stage = λ seats. record {
      programs = x.programs;
      phases = x.phases;
      script = x.script;
      start = x.start;
      phase = x.phase;
      past = u.past;
      seats = seats;
    } in
    let alike : AreStagesAlike v u = grind (arith, nat_tests, weaken)
    in
    let both : AreBothAlike AreStagesAlike (next_stage first other) (next_stage second index) =
    subst (λ (o : Option Stage). AreBothAlike AreStagesAlike o (next_stage second index)) (sym to_v)
    (subst (λ (o : Option Stage). AreBothAlike AreStagesAlike (Some v) o) (sym to_u) alike)
    in
    record {
      t = s.t;
      went = went;
      later = pass.later;
      is = s.is;
      holds = ends.holds;
      can = ends.can;
      prepared = stays;
      alike =
          subst (λ (m : Stage). AreBothAlike AreStagesAlike (next_stage m other)
          (next_stage z index)) is_first
          (subst (λ (m : Stage). AreBothAlike AreStagesAlike (next_stage first other)
          (next_stage m index)) s.is both);
    }

pub prepared-can : (s : Stage) (index : ℕ) (a : Request) (lines : ℕ) → IsPrepared s index a lines →
    can_make s.past a ≡ true → IsSome (next_stage s index)
prepared-can s index a lines c can =
    subst (λ (o : Option Stage). IsSome o)
    (sym (step-of s index c.program (with_made lines s.past a c.seat) c.has
    (prepared-turns s index a lines c can))) refl

-- a collect ---------------------------------------------------------------------------------------

-- a process that does not wait withdraws nothing
wait-none : (past : Past) (p : Process) → open_wait past p ≡ None → wait_deadline past p ≡ None
wait-none [] p none = refl
wait-none (r ∷ past) p none = split (r.entry.process == p)
    (λ t. split (is_wait r.entry.reply)
    (λ y. let bad : Some (length past) ≡ None = rw (t, y) at none in absurd (cc))
    (λ n. rw (t, n) refl))
    (λ f. let before : open_wait past p ≡ None = rw f at none in rw f (wait-none past p before))

pub kept-of : (past : Past) (p : Process) (call : Call) (given : List ℕ) → open_wait past p ≡ None →
    can_call past p call given ≡ true → is_withdrawal call ≡ false
kept-of past p call given free can = grind (arith, may-of, wait-none, and-false)

names-some : (reply : Reply) (o : Option ℕ) → names_wait reply o ≡ true → is_some o ≡ true
names-some reply o e = grind arith

-- a wait that is answered is open
answered-waits : (past : Past) (p : Process) → is_some (answered_by past p) ≡ true →
    is_some (open_wait past p) ≡ true
answered-waits [] p e = absurd (cc)
answered-waits (r ∷ past) p e = split (r.entry.process == p)
    (λ t. let bad : false ≡ true = rw t at e in absurd (cc))
    (λ f. split (names_wait r.entry.reply (open_wait past p))
    (λ n. rw f (names-some r.entry.reply (open_wait past p) n))
    (λ n. let older : is_some (answered_by past p) ≡ true = rw (f, n) at e in
    rw f (answered-waits past p older)))

-- a collect passes all calls but a withdrawal
abbrev Always : Past → Type 0
Always past = Unit {0}

abbrev Kept : Past → Process → Call → Type 0
Kept past q call = is_withdrawal call ≡ false

collect-passable : (p : Process) → IsPassable (collect_of p) Always Kept
collect-passable p = search (rules, collect-commutes, others-differ)

all-pass : (s : Stage) (index : ℕ) → PassesTurn Always Kept s index
all-pass s index = grind (arith, kept-of)

collect-turns : (past : Past) (phase : ℕ) (p : Process) (seat : Progress)
    (program : Vec Planned Global) → can_call past p Collect [] ≡ true →
    after_turn past phase p seat program ≡ Some (with_made 0 past (collect_of p) seat)
collect-turns past phase p seat program can = grind (arith, answered-waits, may-of)

record Collector (s : Stage) (index : ℕ) : Type 0 where
  prepared : IsPrepared s index (collect_of (index + 1)) 0
  can : can_make s.past (collect_of (index + 1)) ≡ true

collector : (s : Stage) (index : ℕ) → MayCollect s index → Collector s index
collector s index may =
    let t = some-of (turn_of s index) may.can in
    let went = went-of s index t.0 (slice_get s.programs index) refl t.1 in
    let p = index + 1 in
    let scene : Past →
    Scene = λ new. record {
      past = new;
      text = went.seat.text ++
          said new p (reply_to s.past p Collect []);
    } in
    let begins : Option Turned = option_map (turned 1 went.seat)
    (option_and_then (after_line s.past s.phase p went.seat)
    (slice_get went.program.items went.seat.begun)) in
    let collects : Bool →
    Option Turned = λ b. option_map (turned 0 went.seat)
    (option_map scene (if b then Some (record_of_call s.past p Collect [] ∷ s.past) else None))
    in
    let here : collects (can_call s.past p Collect []) ≡ Some t.0 =
    sym (ap (λ (b : Bool). if b then collects (can_call s.past p Collect []) else begins)
    may.waits) ∙ went.goes
    in
    record {
      prepared = record {
        program = went.program;
        seat = went.seat;
        has = went.has;
        sits = went.sits;
        own = refl;
        turns = λ past can. collect-turns past s.phase p went.seat went.program can;
      };
      can = split (can_call s.past p Collect []) (λ y. y) (λ n. let bad : None ≡ Some t.0 = sym
          (ap collects n) ∙ here in absurd (cc));
    }

pub collect-can : (s : Stage) (index : ℕ) → MayCollect s index → IsSome (next_stage s index)
collect-can s index may = let c = collector s index may in prepared-can s index
    (collect_of (index + 1)) 0 c.prepared c.can

pub collect-moves : (s : Stage) (index : ℕ) → MayCollect s index → stands_still s ≡ false
collect-moves s index may = let c = collector s index may in prepared-moves s index
    (collect_of (index + 1)) 0 c.prepared c.can

-- the collect of a process, and a step of another
pub collect-passes : (x y z : Stage) (index other : ℕ) → Legal x.past → MayCollect x index →
    (index == other) ≡ false → next_stage x index ≡ Some y → next_stage x other ≡ Some z →
    MayCollect z index × AreBothAlike AreStagesAlike (next_stage y other) (next_stage z index)
collect-passes x y z index other legal may ne to_y to_z =
    let p = index + 1 in
    let c = collector x index may in
    let both = both-orders x y z index other (collect_of p) 0 (collect-passable p) may.few legal tt
    c.prepared c.can (all-pass x other) ne to_y to_z in
    grind (arith, nat_tests, answered-waits, may-of, prepared-turns)
