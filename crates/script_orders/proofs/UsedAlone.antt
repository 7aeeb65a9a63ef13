-- A send or a receive on a queue that no other process will use can be made before the steps of the
-- others.
use Rattle.std.proofs.lemmas.Bool.Decides.{nat_tests}
use Rattle.std.proofs.Common.{◌≡◌, ℕ, zero, suc, ◌+◌, ◌≤◌, ◌<◌, ◌==◌, Bool, true, false, ◌&&◌, ◌||◌, not, List, [], ◌∷◌, length, slice_get, Option, Some, None, is_none, IfSome, IsSome, Vec, refl, sym, ◌∙◌, ap, subst, arith, eqb-true, rules, drop, Global}
use Rattle.std.specs.List.{list_any}
use Rattle.std.specs.Option.{option_map, unwrap_or}
use Rattle.std.proofs.lemmas.Bool.{and_parts, eqb-false, false_from_ne_true, or_from}
use Rattle.std.proofs.lemmas.Option.{slice_get_within}
use Rattle.mq_model.proofs.Places.{split}
use Rattle.mq_model.proofs.HeldQueues.{called-alive}
use Rattle.mq_model.specs.Descriptors.{called_queue, is_place}
use Rattle.mq_model.specs.Legality.{IsLegalNext, Legal, may_call}
use Rattle.mq_model.specs.Notices.{registered}
use Rattle.mq_model.specs.Record.{Past, Process, Queue}
use Rattle.mq_model.specs.Threads.{owner_of, shares}
use Rattle.mq_model.specs.Waits.{open_wait}
use Rattle.mq_model.specs.declared.entries.Call.{Call}
use Rattle.mq_model.specs.declared.entries.Call.TheVariants.{MqOpen, MqClose, MqUnlink, MqSend, MqReceive, MqTimedSend, MqTimedReceive, MqGetattr, MqSetattr, MqNotify}
use Rattle.mq_model.specs.declared.entries.Description.{Description}
use Rattle.mq_model.specs.declared.entries.Registration.{Registration}
use Rattle.mq_model.specs.declared.entries.Reply.{Reply}
use Rattle.mq_state.specs.Trails.{can_call}
use Rattle.mq_equivalence.specs.Runs.{Request}
use Rattle.mq_equivalence.specs.Views.{Registered, registered_as, unplaced}
use Rattle.mq_commutation.specs.Commuting.{Commute, is_covered, is_withdrawal, record_for}
use Rattle.mq_commutation.specs.Independence.{are_independent, changes_names, changes_queues, differ, notified_registration, queue_touched, reply_of, whose_notices, whose_notices_by}
use Rattle.mq_commutation.proofs.Frames.{stays-at}
use Rattle.mq_commutation.proofs.Independent.{independent-commute}
use Rattle.mq_commutation.proofs.Orders.{apart-back, paid, touched-is}
use Rattle.mq_commutation.proofs.Replies.{called-same}
use Rattle.mq_commutation.proofs.Structure.{flagged, held-by, held-other, shares-back}
use Rattle.schedules.specs.Likeness.{AreBothAlike}
use Rattle.script_orders.specs.Likeness.{AreStagesAlike, is_to_come}
use Rattle.script_orders.specs.Persistence.{IsNextOn, StartsOn, UsesAlone, is_held_among, is_held_on, is_transfer, line_may_use, may_use, others_will_use, step_may_use, will_use}
use Rattle.script_orders.specs.Progress.{Progress}
use Rattle.script_orders.specs.Scenes.{close_first}
use Rattle.script_orders.specs.Stage.{Stage, next_stage, stands_still, with_turn}
use Rattle.script_orders.specs.Turns.{Turned, after_turn}
use Rattle.script_orders.specs.declared.plan.Planned.{Planned}
use Rattle.script_orders.specs.declared.plan.Step.{Step}
use Rattle.script_orders.specs.declared.plan.Step.TheVariants as steps
use Rattle.script_orders.proofs.Likewise.{begun-set, begun_at, may-of}
use Rattle.script_orders.proofs.Passing.{IsPassable, PassesStep, can_make, made}
use Rattle.script_orders.proofs.Persisting.{IsPrepared, PassesTurn, both-orders, kept-of, prepared-can, prepared-moves, set-other, with_made}
use Rattle.mq_state.proofs.QueuesKeep.{alive-below}

-- sends and receives ------------------------------------------------------------------------------

record TransferFacts (past : Past) (p : ℕ) (call : Call) : Type 0 where
  covered : is_covered call ≡ true
  names : changes_names call ≡ false
  queues : changes_queues call ≡ false
  own : (reply : Reply) →
      whose_notices_by past p call reply ≡ option_map (λ (n : Registered). owner_of n.process)
      (notified_registration past p call reply)
  free : may_call past p call ≡ is_none (open_wait past p)

transfer-facts : (past : Past) (p : ℕ) (call : Call) → is_transfer call ≡ true →
    TransferFacts past p call
transfer-facts past p call e = grind arith

-- a call on a queue without a registration notifies nobody
notifies-none : (past : Past) (p q : ℕ) (call : Call) (reply : Reply) →
    called_queue past p call ≡ Some q → registered_as past q ≡ None →
    notified_registration past p call reply ≡ None
notifies-none past p q call reply on none = grind arith

differs-from : (q : ℕ) (o : Option ℕ) → is_place q o ≡ false → differ (Some q) o ≡ true
differs-from q o e = grind (arith, apart-back)

and-right : (b : Bool) → (b && false) ≡ false
and-right b = grind arith

-- what another process may do beside a call on queue q: a call that opens, unlinks and withdraws
-- nothing and is not made on the queue
abbrev pub IsElsewhere : Queue → Past → Process → Call → Type 0
IsElsewhere q past p call = (is_covered call ≡ true) × (is_place q (called_queue past p call) ≡
    false)

-- The request is made on queue q, where nobody is registered. No process holds more descriptors of
-- the queue than at first.
pub record IsUndisturbed (a : Request) (q : Queue) (origin past : Past) : Type 0 where
  pub on : called_queue past a.process a.call ≡ Some q
  pub unregistered : registered_as past q ≡ None
  pub fewer : (p d : ℕ) → is_held_on past p q d ≡ true → is_held_on origin p q d ≡ true

transfers-commute : (a : Request) (q : Queue) (origin past : Past) (b : Request) →
    is_transfer a.call ≡ true → IsUndisturbed a q origin past → Legal past →
    IsLegalNext past (record_for past a) → IsLegalNext past (record_for past b) →
    shares a.process b.process ≡ false → IsElsewhere q past b.process b.call → Commute past a b
transfers-commute a q origin past b transfers u legal first second ne far =
    let f = transfer-facts past a.process a.call transfers in
    let none : whose_notices past a ≡ None = f.own (reply_of past a) ∙
    ap (option_map (λ (n : Registered). owner_of n.process))
    (notifies-none past a.process q a.call (reply_of past a) u.on u.unregistered) in
    let notices : differ (whose_notices past a) (whose_notices past b) ≡ true =
    ap (λ (o : Option ℕ). differ o (whose_notices past b)) none in
    let on_a : queue_touched past a ≡ Some q = touched-is past a.process a.call f.covered ∙ u.on in
    let on_b : queue_touched past b ≡ called_queue past b.process b.call =
    touched-is past b.process b.call far.0 in
    let queues : differ (queue_touched past a) (queue_touched past b) ≡ true =
    (λ i. differ (on_a i) (on_b i)) ∙ differs-from q (called_queue past b.process b.call) far.1
    in
    let names : (changes_names a.call && changes_queues b.call || changes_names b.call &&
    changes_queues a.call) ≡ false =
    or_from (changes_names a.call && changes_queues b.call)
    (changes_names b.call && changes_queues a.call)
    (ap (λ (v : Bool). v && changes_queues b.call) f.names)
    (ap (λ (v : Bool). changes_names b.call && v) f.queues ∙ and-right (changes_names b.call))
    in
    let all : are_independent past a b ≡ true = rw (ne, names, notices, queues) refl in
    independent-commute past a b legal first second f.covered far.0 all

-- descriptors -------------------------------------------------------------------------------------

abbrev on_queue : Queue → Option Description → Bool
on_queue q o = is_place q (option_map (λ (h : Description). h.queue) o)

transfers-stay : (a : Request) (q : Queue) (origin past : Past) (b : Request) →
    IsUndisturbed a q origin past → Legal past → IsLegalNext past (record_for past b) →
    shares a.process b.process ≡ false → IsElsewhere q past b.process b.call →
    IsUndisturbed a q origin (made past b)
transfers-stay a q origin past b u legal second ne far = grind (
  arith,
  nat_tests,
  eqb-false,
  alive-below,
  called-alive,
  called-same,
  made,
  held-other,
  shares-back,
  paid,
  stays-at,
  flagged,
  held-by,
)

transfer-passable : (a : Request) (q : Queue) (origin : Past) → is_transfer a.call ≡ true →
    IsPassable a (IsUndisturbed a q origin) (IsElsewhere q)
transfer-passable a q origin transfers = search (rules, transfers-commute, transfers-stay)

-- the lines of the others -------------------------------------------------------------------------

not-any : {A : Type 0} (is_such : A → Bool) (xs : List A) (n : ℕ) (x : A) →
    list_any is_such (drop n xs) ≡ false → slice_get xs n ≡ Some x → is_such x ≡ false
not-any is_such [] zero x e is = absurd (cc)
not-any is_such [] (suc n) x e is = absurd (cc)
not-any {A} is_such (y ∷ xs) zero x e is = grind arith
not-any is_such (y ∷ xs) (suc n) x e is = not-any is_such xs n x e is

not-to-come : (is_such : Planned → Bool) (s : Stage) (index : ℕ) (program : Vec Planned Global)
    (seat : Progress) → slice_get s.programs index ≡ Some program →
    slice_get s.seats index ≡ Some seat →
    is_to_come is_such s index ≡ false → list_any is_such (drop seat.begun program.items) ≡ false
not-to-come is_such s index program seat has sits e = grind arith

others-none : (s : Stage) (q : Queue) (index n k : ℕ) → k < n → (index == k) ≡ false →
    others_will_use s q index n ≡ false → will_use s q k ≡ false
others-none s q index zero k lt ne e = absurd (omega (arith, lt))
others-none s q index (suc n) k lt ne e =
    let before : others_will_use s q index n ≡ false = split (others_will_use s q index n)
    (λ y. let bad : true ≡ false = rw y at e in absurd (cc)) (λ f. f) in
    let here : (not (n == index) && will_use s q n) ≡ false = rw before at e in
    split (k == n)
    (λ t.
    grind (arith, nat_tests, eqb-true, eqb-false))
    (λ f. let distinct : k ≡ n → ⊥ = eqb-false k n f in others-none s q index n k
    (omega (arith, lt, distinct)) ne before)

among-none : (past : Past) (p q n d : ℕ) → d < n → is_held_among past p q n ≡ false →
    is_held_on past p q d ≡ false
among-none past p q zero d lt e = absurd (omega (arith, lt))
among-none past p q (suc n) d lt e =
    let before : is_held_among past p q n ≡ false = split (is_held_among past p q n)
    (λ y. let bad : true ≡ false = rw y at e in absurd (cc)) (λ f. f) in
    let here : is_held_on past p q n ≡ false = rw before at e in
    split (d == n)
    (λ t. subst (λ (m : ℕ). is_held_on past p q m ≡ false) (sym (eqb-true d n t)) here)
    (λ f. let distinct : d ≡ n → ⊥ = eqb-false d n f in among-none past p q n d
    (omega (arith, lt, distinct)) before)

-- a call that does not use the queue is elsewhere
elsewhere-of : (past : Past) (p : ℕ) (q : Queue) (call : Call) → may_use past p q call ≡ false →
    is_withdrawal call ≡ false → IsElsewhere q past p call
elsewhere-of past p q call e kept = grind arith

line-passes : (origin : Past) (a : Request) (q : Queue) (p : ℕ) (next : Planned) →
    open_wait origin p ≡ None → step_may_use origin p q next.step ≡ false →
    PassesStep (IsUndisturbed a q origin) (IsElsewhere q) origin p next.given.items next.step
line-passes origin a q p next free unused = record {
  call = λ call is can.
      let none : may_use origin p q call ≡ false = sym (ap (step_may_use origin p q) is) ∙ unused in
      elsewhere-of origin p q call none (kept-of origin p call next.given.items free can);
  closes = λ is n lt u.
      let none : is_held_among origin p q 16 ≡ false = sym (ap (step_may_use origin p q) is) ∙
      unused in
      let before : is_held_on origin p q n ≡ false = among-none origin p q 16 n lt none in (
        refl,
        false_from_ne_true (is_held_on (close_first origin p n) p q n) (λ t. let bad : true ≡
            false = sym (u.fewer p n t) ∙ before in absurd (cc)),
      );
}

turn-passes : (s : Stage) (index other : ℕ) (a : Request) (q : Queue) → will_use s q other ≡ false →
    PassesTurn (IsUndisturbed a q s.past) (IsElsewhere q) s other
turn-passes s index other a q unused = record {
  collect = λ waits. (refl, refl);
  line = λ program seat next has sits free line now.
      let none = not-to-come (line_may_use s.past s.phase (other + 1) q) s other program seat
      has sits unused in
      let here : line_may_use s.past s.phase (other + 1) q next ≡ false =
      not-any (line_may_use s.past s.phase (other + 1) q) program.items seat.begun
      next none line in
      let step : step_may_use s.past (other + 1) q next.step ≡ false = rw now at here in
      line-passes s.past a q (other + 1) next free step;
}

-- the call ----------------------------------------------------------------------------------------

abbrev next_request : (s : Stage) (index : ℕ) (q : Queue) → IsNextOn s index q → Request
next_request s index q n = record {
  process = index + 1;
  call = n.starts.call;
  given = n.starts.next.given.items;
}

next-turns : (s : Stage) (index : ℕ) (q : Queue) (n : IsNextOn s index q) (past : Past) →
    can_make past (next_request s index q n) ≡ true →
    after_turn past s.phase (index + 1) n.seat n.program ≡
    Some (with_made 1 past (next_request s index q n) n.seat)
next-turns s index q n past can = grind (arith, transfer-facts, may-of, made)

next-prepared : (s : Stage) (index : ℕ) (q : Queue) (n : IsNextOn s index q) →
    IsPrepared s index (next_request s index q n) 1
next-prepared s index q n = search (rules, next-turns)

pub alone-can : (s : Stage) (index : ℕ) → UsesAlone s index → IsSome (next_stage s index)
alone-can s index u = prepared-can s index (next_request s index u.queue u.next) 1
    (next-prepared s index u.queue u.next) u.next.starts.can

pub alone-moves : (s : Stage) (index : ℕ) → UsesAlone s index → stands_still s ≡ false
alone-moves s index u = prepared-moves s index (next_request s index u.queue u.next) 1
    (next-prepared s index u.queue u.next) u.next.starts.can

-- it stays alone ----------------------------------------------------------------------------------

use-fewer : (x y : Past) (p : ℕ) (q : Queue) (call : Call) →
    ((p d : ℕ) → is_held_on x p q d ≡ true → is_held_on y p q d ≡ true) →
    may_use x p q call ≡ true → may_use y p q call ≡ true
use-fewer x y p q (MqOpen flags attr) fewer e = refl
use-fewer x y p q MqUnlink fewer e = refl
use-fewer x y p q (MqClose d) fewer e = fewer p d e
use-fewer x y p q (MqSend d prio len) fewer e = fewer p d e
use-fewer x y p q (MqReceive d room) fewer e = fewer p d e
use-fewer x y p q (MqTimedSend d prio len until now) fewer e = fewer p d e
use-fewer x y p q (MqTimedReceive d room until now) fewer e = fewer p d e
use-fewer x y p q (MqGetattr d) fewer e = fewer p d e
use-fewer x y p q (MqSetattr d nonblock) fewer e = fewer p d e
use-fewer x y p q (MqNotify d value) fewer e = fewer p d e
use-fewer x y p q call fewer e = e

among-fewer : (x y : Past) (p q n : ℕ) →
    ((p d : ℕ) → is_held_on x p q d ≡ true → is_held_on y p q d ≡ true) →
    is_held_among x p q n ≡ true → is_held_among y p q n ≡ true
among-fewer x y p q zero fewer e = e
among-fewer x y p q (suc n) fewer e = split (is_held_among x p q n)
    (λ t. rw (among-fewer x y p q n fewer t) refl)
    (λ f. let here : is_held_on x p q n ≡ true = rw f at e in by (is_held_among y p q n)
    (fewer p n here))
  where
    by : (b : Bool) → is_held_on y p q n ≡ true → (b || is_held_on y p q n) ≡ true
    by true h = refl
    by false h = h

step-fewer : (x y : Past) (p : ℕ) (q : Queue) (step : Step) →
    ((p d : ℕ) → is_held_on x p q d ≡ true → is_held_on y p q d ≡ true) →
    step_may_use x p q step ≡ true → step_may_use y p q step ≡ true
step-fewer x y p q (steps.Call call) fewer e = use-fewer x y p q call fewer e
step-fewer x y p q (steps.Refusal fault) fewer e = e
step-fewer x y p q steps.Exit fewer e = among-fewer x y p q 16 fewer e

any-fewer : {A : Type 0} (f g : A → Bool) (xs : List A) → ((a : A) → f a ≡ true → g a ≡ true) →
    list_any f xs ≡ true → list_any g xs ≡ true
any-fewer f g [] fewer e = e
any-fewer f g (a ∷ xs) fewer e = split (f a)
    (λ t. rw (fewer a t) refl)
    (λ n. let rest : list_any f xs ≡ true = rw n at e in by (g a) (any-fewer f g xs fewer rest))
  where
    by : (b : Bool) → list_any g xs ≡ true → (b || list_any g xs) ≡ true
    by true h = refl
    by false h = h

to-come-fewer : (f g : Planned → Bool) (s : Stage) (k : ℕ) →
    ((a : Planned) → f a ≡ true → g a ≡ true) → is_to_come f s k ≡ true → is_to_come g s k ≡ true
to-come-fewer f g s k fewer e = grind (arith, any-fewer)

line-fewer : (x y : Past) (phase p : ℕ) (q : Queue) (next : Planned) →
    ((p d : ℕ) → is_held_on x p q d ≡ true → is_held_on y p q d ≡ true) →
    line_may_use x phase p q next ≡ true → line_may_use y phase p q next ≡ true
line-fewer x y phase p q next fewer e = grind (arith, and_parts, step-fewer)

-- after a step of a process, each one will use the queue only if it would before
will-fewer : (s : Stage) (q : Queue) (choice k : ℕ) (t : Turned) →
    begun_at s choice ≤ t.progress.begun →
    ((p d : ℕ) → is_held_on t.past p q d ≡ true → is_held_on s.past p q d ≡ true) →
    will_use (with_turn s choice t) q k ≡ true → will_use s q k ≡ true
will-fewer s q choice k t later fewer e =
    let now = line_may_use t.past s.phase (k + 1) q in
    let before = line_may_use s.past s.phase (k + 1) q in
    begun-set before s choice k t (begun_at s choice) refl later (to-come-fewer now before
    (with_turn s choice t) k (λ next h. line-fewer t.past s.past s.phase (k + 1) q next fewer h)
    e)

others-fewer : (s t : Stage) (q : Queue) (index n : ℕ) →
    ((k : ℕ) → will_use t q k ≡ true → will_use s q k ≡ true) →
    others_will_use s q index n ≡ false → others_will_use t q index n ≡ false
others-fewer s t q index zero fewer e = refl
others-fewer s t q index (suc n) fewer e =
    let before : others_will_use s q index n ≡ false = split (others_will_use s q index n)
    (λ y. let bad : true ≡ false = rw y at e in absurd (cc)) (λ f. f) in
    let here : (not (n == index) && will_use s q n) ≡ false = rw before at e in
    let rest = others-fewer s t q index n fewer before in
    rw rest (by (not (n == index)) (will_use t q n) refl here)
  where
    by : (b c : Bool) → will_use t q n ≡ c → (b && will_use s q n) ≡ false → (b && c) ≡ false
    by false c is h = refl
    by true false is h = refl
    by true true is h = let bad : true ≡ false = sym (fewer n is) ∙ h in absurd (cc)

unregistered-as : (o : Option Registration) → option_map unplaced o ≡ None → o ≡ None
unregistered-as o e = grind arith

begun-is : (s : Stage) (index : ℕ) (seat : Progress) → slice_get s.seats index ≡ Some seat →
    begun_at s index ≡ seat.begun
begun-is s index seat sits =
    ap (λ (o : Option Progress). unwrap_or (option_map (λ (seat : Progress). seat.begun) o) 0) sits

-- a send or a receive of a process, and a step of another
pub alone-passes : (x y z : Stage) (index other : ℕ) → Legal x.past → UsesAlone x index →
    (index == other) ≡ false → next_stage x index ≡ Some y → next_stage x other ≡ Some z →
    UsesAlone z index × AreBothAlike AreStagesAlike (next_stage y other) (next_stage z index)
alone-passes x y z index other legal u ne to_y to_z =
    let n = u.next in
    let q = u.queue in
    let a = next_request x index q n in
    let prepared = next-prepared x index q n in
    let few = u.few in
    let starts : IsUndisturbed a q x.past x.past = record {
      on = n.starts.on;
      unregistered = ap (option_map unplaced) n.starts.unregistered;
      fewer = λ p d h. h;
    } in
    let used : (k : ℕ) → k < length x.programs → (index == k) ≡ false →
    will_use x q k ≡ false = λ k lt other. others-none x q index (length x.programs) k lt
    other u.alone in
    let unused : will_use x q other ≡ false = beyond (slice_get x.programs other) refl used in
    let both = both-orders x y z index other a 1 (transfer-passable a q x.past n.starts.transfers)
    few legal starts prepared n.starts.can (turn-passes x index other a q unused) ne to_y to_z
    in
    let t = both.t in
    let second : Stage = with_turn x other t in
    let distinct : other ≡ index → ⊥ = λ e. eqb-false index other ne (sym e) in
    let begun = begun-is x other both.went.seat both.went.sits in
    let later : begun_at x other ≤ t.progress.begun = omega (arith, begun, both.later) in
    let next : IsNextOn second index q = record {
      program = n.program;
      seat = n.seat;
      has = n.has;
      sits = set-other x.seats other index t.progress distinct ∙ n.sits;
      starts = record {
        next = n.starts.next;
        call = n.starts.call;
        line = n.starts.line;
        in_phase = n.starts.in_phase;
        is = n.starts.is;
        transfers = n.starts.transfers;
        can = both.can;
        on = both.holds.on;
        unregistered = unregistered-as (registered t.past q) both.holds.unregistered;
      };
    }
    in
    grind (arith, nat_tests, others-fewer, will-fewer)
  where
    beyond : (o : Option (Vec Planned Global)) → slice_get x.programs other ≡ o →
        ((k : ℕ) → k < length x.programs → (index == k) ≡ false → will_use x u.queue k ≡ false) →
        will_use x u.queue other ≡ false
    beyond None is used = rw is refl
    beyond (Some program) is used = used other (slice_get_within x.programs other program is) ne

-- what was found is so ----------------------------------------------------------------------------

pub starts-on : (past : Past) (phase p : ℕ) (seat : Progress) (program : List Planned)
    (next : Planned) (call : Call) (o : Option Queue) → slice_get program seat.begun ≡ Some next →
    (next.phase == phase) ≡ true → next.step ≡ steps.Call call →
    IfSome o (λ q. is_transfer call ≡ true) →
    IfSome o (λ q. can_call past p call next.given.items ≡ true) →
    IfSome o (λ q. called_queue past p call ≡ Some q) →
    IfSome o (λ q. registered past q ≡ None) → IfSome o (StartsOn past phase p seat program)
starts-on past phase p seat program next call None line now is transfers can on none = tt
starts-on past phase p seat program next call (Some q) line now is transfers can on none =
    search rules

pub next-on : (s : Stage) (index : ℕ) (program : Vec Planned Global) (seat : Progress)
    (o : Option Queue) → slice_get s.programs index ≡ Some program →
    slice_get s.seats index ≡ Some seat →
    IfSome o (StartsOn s.past s.phase (index + 1) seat program.items) → IfSome o (IsNextOn s index)
next-on s index program seat None has sits starts = tt
next-on s index program seat (Some q) has sits starts = record {
  program = program;
  seat = seat;
  has = has;
  sits = sits;
  starts = starts;
}
