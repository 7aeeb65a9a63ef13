-- Calls, shares and phases, by induction on their number.
use Rattle.std.proofs.lemmas.Grind.{common_steps}
use Rattle.std.proofs.Common.{◌≡◌, ◌<◌, ◌≤◌, ◌+◌, ◌++◌, ℕ, List, [], ◌∷◌, length, get_or, take, map, refl, ap, arith, ◌∙◌, append-nil, All, Vec, Global, None, zero, suc}
use Rattle.std.proofs.lemmas.List.{length-map, take_more, map-append}
use Rattle.std.proofs.lemmas.List.Elements.{All-nil, All-cons, All-head, All-tail, All-from_recursion, All-map, recursion_from_All}
use Rattle.std.proofs.lemmas.Slice.Zip.{AllZip-long}
use Rattle.std.specs.List.{AllByRecursion as ByRecursion, AllZip}
use Rattle.fast_mutex.specs.Items.{LockId, Ticket, tickets_from, tickets_with}
use Rattle.mq.specs.Calls.{IsFree}
use Rattle.mq_model.specs.Record.{Past, Record}
use Rattle.mq_model.specs.Waits.{open_wait}
use Rattle.script_runner.specs.Buffer.{buffer_given}
use Rattle.text_io.specs.Words.{Word}
use Rattle.script_runner.specs.Meeting.{RunsAndMeets}
use Rattle.script_runner.specs.Phase.{calls_in, text_in}
use Rattle.script_runner.specs.Runs.{IsReady, IsSameProcess, NoneWaits, Performs, RunsCalls, RunsPhase, RunsPhases, calls_of}
use Rattle.script_text.specs.Script.{WrittenCall, said_calls, said_phases}
use Rattle.script_text.specs.declared.line.ScriptCall.{ScriptCall}
use Rattle.script_text.specs.declared.reply.Completion.{Completion}
use Rattle.script_runner.specs.declared.turns.Share.{Share}
use Rattle.script_runner.specs.declared.turns.Worked.{Worked}
use Rattle.script_runner.proofs.SideBySide.{zip-all}
use denote.Ref.{Bor}

-- a process made the calls of its share, in order, and has no open wait
pub record WorksOff (share : Share (Ticket Record)) (worked : Worked (Ticket Record)) : Type 0 where
  pub same : IsSameProcess share.process worked.process
  pub free : IsFree worked.process
  pub calls : RunsCalls (calls_in share.turns.items) worked.completions.items
      share.process worked.process

-- each process made the calls of its share
abbrev pub AllWorkOff : List (Share (Ticket Record)) → List (Worked (Ticket Record)) → Type 0
AllWorkOff shares workers = AllZip WorksOff shares workers

-- one more call
pub RunsCalls-push : (calls : List WrittenCall) (call : WrittenCall) (completions : List Completion)
    (completion : Completion) (old mid new : Ticket Record) → RunsCalls calls completions old mid →
    Performs call.moment call.command (buffer_given call.command) completion.buffer.items mid new
    completion.outcome → RunsCalls (calls ++ call ∷ []) (completions ++ completion ∷ []) old new
RunsCalls-push [] call [] completion old mid new ran last = grind arith
RunsCalls-push (c ∷ calls) call (a ∷ completions) completion old mid new ran last =
    grind (arith, RunsCalls-push calls call completions completion ran.0 mid new ran.2 last)
RunsCalls-push calls call completions completion old mid new ran last = absurd ran

-- what holds of the image of each element
all-unmap : {X Y : Type 0} (P : X → Type 0) (f : Y → X) (ys : List Y) → All P (map f ys) →
    All (λ y. P (f y)) ys
all-unmap P f [] all = All-nil (λ y. P (f y))
all-unmap P f (y ∷ ys) all = All-cons (λ y. P (f y)) y ys (All-head P (f y) (map f ys) all)
    (all-unmap P f ys (All-tail P (f y) (map f ys) all))

-- the processes of the shares are ready
pub shares-ready : {mq : LockId} (shares : List (Share (Ticket Record))) {before : List
    (Ticket Record)} → map (λ share. share.process) shares ≡ before → All (IsReady mq) before →
    All (λ share. IsReady mq share.process) shares
shares-ready {mq} shares {before} processes ready = all-unmap (IsReady mq)
    (λ (s : Share (Ticket Record)). s.process) shares (rw processes ready)

-- the processes that come back are ready again
pub all-ready : (mq : LockId) (shares : List (Share (Ticket Record)))
    (workers : List (Worked (Ticket Record))) → AllWorkOff shares workers →
    All (λ share. IsReady mq share.process) shares →
    All (IsReady mq) (map (λ (worked : Worked (Ticket Record)). worked.process) workers)
all-ready mq shares workers off ready =
    All-map (IsReady mq) (λ worked. worked.process) workers
    (zip-all WorksOff (λ (s : Share (Ticket Record)). IsReady mq s.process)
    (λ (w : Worked (Ticket Record)). IsReady mq w.process)
    (λ s w works is. record { made = works.same.lock ∙ is.made; free = works.free }) shares
    workers off ready)

-- the shares of these calls were completed: the phase was run
phase-ran : (calls : List WrittenCall) (shares : List (Share (Ticket Record)))
    (workers : List (Worked (Ticket Record))) → AllWorkOff shares workers →
    ByRecursion (λ (share : Share (Ticket Record)). calls_in share.turns.items ≡
    calls_of share.process.number calls) shares → RunsPhase calls
    (map (λ (share : Share (Ticket Record)). share.process) shares)
    (map (λ (worked : Worked (Ticket Record)). worked.process) workers) (text_in workers)
phase-ran calls [] [] off dealt = refl
phase-ran calls (s ∷ shares) (w ∷ workers) off dealt =
    grind (arith, phase-ran calls shares workers off.1 dealt.1)
phase-ran calls shares workers off dealt = absurd off

pub phase-done : (calls : List WrittenCall) (shares : List (Share (Ticket Record)))
    (workers : List (Worked (Ticket Record))) (before after : List (Ticket Record))
    (text : List ℕ) → AllWorkOff shares workers →
    All (λ share. calls_in share.turns.items ≡ calls_of share.process.number calls) shares →
    map (λ share. share.process) shares ≡ before → after ≡ map (λ worked. worked.process) workers →
    text ≡ text_in workers → RunsPhase calls before after text
phase-done calls shares workers before after text off dealt processes back is =
    grind (arith, phase-ran, recursion_from_All)

-- one more phase
RunsPhases-push : (phases : List (List WrittenCall)) (calls : List WrittenCall)
    (before mid after : List (Ticket Record)) (text more : List ℕ) →
    RunsPhases phases before mid text → RunsAndMeets calls mid after more →
    RunsPhases (phases ++ calls ∷ []) before after (text ++ more)
RunsPhases-push [] calls before mid after text more ran last = grind (arith, append-nil)
RunsPhases-push (c ∷ phases) calls before mid after text more ran last =
    grind (arith, common_steps, RunsPhases-push phases calls ran.1 mid after ran.4 more ran.7 last)

pub phases-more : (phases : List (Vec (ScriptCall (Bor Word)) Global)) (i : ℕ)
    (d : Vec (ScriptCall (Bor Word)) Global) (before mid after : List (Ticket Record))
    (text more : List ℕ) → i < length phases →
    RunsPhases (said_phases (take i phases)) before mid text →
    RunsAndMeets (said_calls (get_or phases i d).items) mid after more →
    RunsPhases (said_phases (take (i + 1) phases)) before after (text ++ more)
phases-more phases i d before mid after text more low ran last =
    grind (arith, common_steps, take_more, map-append, RunsPhases-push)

pub same-lengths : (shares : List (Share (Ticket Record))) (workers : List (Worked (Ticket Record)))
    (before after : List (Ticket Record)) → AllWorkOff shares workers →
    map (λ share. share.process) shares ≡ before → after ≡ map (λ worked. worked.process) workers →
    length after ≡ length before
same-lengths shares workers before after off processes back = grind (arith, length-map, AllZip-long)

-- new processes are ready
each-new-ready : (lock : LockId) (k n : ℕ) → ByRecursion (IsReady lock) (tickets_from lock k n)
each-new-ready lock k zero = tt
each-new-ready lock k (suc n) = (record { made = refl; free = refl }, each-new-ready lock (suc k) n)

pub new-ready : (lock : LockId) (n : ℕ) → All (IsReady lock) (tickets_from lock 1 n)
new-ready lock n = All-from_recursion (IsReady lock) (tickets_from lock 1 n)
    (each-new-ready lock 1 n)

pub count-after : (lock : LockId) (past : Past) (k n : ℕ) → length (tickets_with lock past k n) ≡ n
count-after lock past k zero = refl
count-after lock past k (suc n) = ap suc (count-after lock past (suc k) n)

pub new-count : (lock : LockId) (k n : ℕ) → length (tickets_from {I = Record} lock k n) ≡ n
new-count lock k n = count-after lock [] k n

-- processes that continue from a journal in which none of them waits are ready
each-after-ready : (lock : LockId) (past : Past) (k n : ℕ) →
    ((p : ℕ) → k ≤ p → p < k + n → open_wait past p ≡ None) →
    ByRecursion (IsReady lock) (tickets_with lock past k n)
each-after-ready lock past k zero free = tt
each-after-ready lock past k (suc n) free = (
  record { made = refl; free = free k (omega arith) (omega arith) },
  each-after-ready lock past
      (suc k) n (λ p low high. free p (omega arith) (omega arith)),
)

pub after-ready : (lock : LockId) (past : Past) (n : ℕ) → NoneWaits past n →
    All (IsReady lock) (tickets_with lock past 1 n)
after-ready lock past n free = grind (arith, All-from_recursion, each-after-ready)
