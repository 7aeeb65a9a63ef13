-- Phases whose calls ended, or that deadlocked.
use Rattle.std.proofs.Common.{arith, ◌≡◌, ◌≢◌, ◌<◌, ◌+◌, ◌++◌, ◌∷◌, ◌∙◌, [], ℕ, List, All, ap, get_or, length, map, take, true, Option, Err, IsErrOf, Result, Vec, Global, vec_len, ◌==◌}
use Rattle.std.specs.List.{AllByRecursion as ByRecursion, AllZip}
use Rattle.std.proofs.lemmas.Grind.{common_steps}
use Rattle.std.proofs.lemmas.List.{length-map, nil_from_length}
use Rattle.std.proofs.lemmas.List.Elements.{All-map, recursion_from_All}
use Rattle.std.proofs.lemmas.Slice.Zip.{AllZip-long}
use Rattle.fast_mutex.specs.Items.{LockId, Ticket}
use Rattle.mq_model.specs.Record.{Record}
use Rattle.script_text.specs.Script.{WrittenCall}
use Rattle.script_runner.specs.Phase.{AllEnd, AreReady, Ends, calls_in}
use Rattle.script_runner.specs.Meeting.{MeetBlocked}
use Rattle.script_runner.specs.Runs.{IsReady, calls_of}
use Rattle.script_runner.specs.Stands.{ComesToAStand, EndsPhase, blocked_lines, blocked_processes, line_in, process_in}
use Rattle.script_runner.specs.declared.stop.Stop.{Stop}
use Rattle.script_runner.specs.declared.stop.Stop.TheVariants.{Stuck}
use Rattle.script_runner.specs.declared.turns.Share.{Share}
use Rattle.script_runner.specs.declared.turns.Worked.{Worked}
use Rattle.script_runner.proofs.Agreeing.{blocked-are, blocked-met, found-looks, look-made}
use Rattle.script_runner.proofs.Lists.{flat_map-more}
use Rattle.script_runner.proofs.SideBySide.{zip-all}
use Rattle.script_runner.proofs.Working.{AllWorkOff}

-- the processes are of the system of their shares
pub all-made : (mq : LockId) (shares : List (Share (Ticket Record)))
    (workers : List (Worked (Ticket Record))) → AllEnd shares workers → AreReady mq shares →
    All (λ (w : Worked (Ticket Record)). w.process.lock ≡ mq) workers
all-made mq shares workers ends ready =
    zip-all Ends (λ (s : Share (Ticket Record)). IsReady mq s.process)
    (λ (w : Worked (Ticket Record)). w.process.lock ≡ mq) (λ s w end is. end.same.lock ∙
    is.made) shares workers ends ready.all

-- if no call waits, all were made
pub through : (shares : List (Share (Ticket Record))) (workers : List (Worked (Ticket Record))) →
    AllEnd shares workers → blocked_lines workers ≡ [] → AllWorkOff shares workers
through [] [] ends none = tt
through (s ∷ shares) (w ∷ workers) ends none = grind (arith, through shares workers ends.1)
through shares workers ends none = absurd ends

-- lines that are none
pub none-left : (lines : Vec ℕ Global) → (vec_len lines == 0) ≡ true → lines.items ≡ []
none-left lines is = grind (arith, common_steps, nil_from_length)

-- if shares of these calls deadlocked, so did the phase
each-ends : (calls : List WrittenCall) (shares : List (Share (Ticket Record)))
    (ended : List (Worked (Ticket Record))) → AllEnd shares ended →
    ByRecursion (λ (share : Share (Ticket Record)). calls_in share.turns.items ≡
    calls_of share.process.number calls) shares
    → AllZip (EndsPhase calls) (map (λ (share : Share (Ticket Record)). share.process) shares) ended
each-ends calls [] [] ends dealt = tt
each-ends calls (s ∷ shares) (w ∷ ended) ends dealt =
    grind (arith, each-ends calls shares ended ends.1 dealt.1)
each-ends calls shares ended ends dealt = absurd ends

pub phase-stands : (calls : List WrittenCall) (shares : List (Share (Ticket Record)))
    (workers : List (Worked (Ticket Record))) (before : List (Ticket Record))
    (lines blocked : List ℕ) (after : List (Ticket Record)) → AllEnd shares workers →
    All (λ share. calls_in share.turns.items ≡ calls_of share.process.number calls) shares →
    map (λ share. share.process) shares ≡ before → lines ≡ blocked_lines workers → lines ≢ [] →
    blocked ≡ blocked_processes workers →
    MeetBlocked blocked (map (λ worked. worked.process) workers) after →
    ComesToAStand calls before lines after
phase-stands calls shares workers before lines blocked after ends dealt processes are some waits
    met = grind (arith, each-ends, recursion_from_All, blocked-met, blocked-are)

-- what holds of the processes and the lines of a stop holds of those of an equal one
pub stuck-same : (P : List ℕ → List (Ticket Record) → Type 0) {A : Type 0}
    (r : Result A (Stop (Ticket Record))) (after other : Vec (Ticket Record) Global)
    (lines those : Vec ℕ Global) → r ≡ Err (Stuck after lines) → IsErrOf r (Stuck other those) →
    P lines.items after.items → P those.items other.items
stuck-same P r after other lines those is same holds = grind arith

-- the processes come back: they are of the same system, and as many
pub stand-made : (mq : LockId) (calls : List WrittenCall) (before : List (Ticket Record))
    (lines : List ℕ) (after : List (Ticket Record)) → ComesToAStand calls before lines after →
    All (IsReady mq) before → All (λ process. process.lock ≡ mq) after
stand-made mq calls before lines after stands ready =
    let ended = map (λ (w : Worked (Ticket Record)). w.process) stands.ended in
    let made = zip-all (EndsPhase calls) (IsReady mq)
    (λ (w : Worked (Ticket Record)). w.process.lock ≡ mq) (λ b w ends is. ends.same.lock ∙
    is.made) before stands.ended stands.each ready in
    look-made mq ended after (found-looks stands.n ended after stands.met)
    (All-map (λ (p : Ticket Record). p.lock ≡ mq) (λ w. w.process) stands.ended made)

pub stand-count : (calls : List WrittenCall) (before : List (Ticket Record)) (lines : List ℕ)
    (after : List (Ticket Record)) → ComesToAStand calls before lines after →
    length after ≡ length before
stand-count = grind (arith, AllZip-long, length-map)

-- one worker more
pub lines-more : (workers : List (Worked (Ticket Record))) (i : ℕ) (d : Worked (Ticket Record))
    (o : Option ℕ) → i < length workers → (get_or workers i d).blocked ≡ o →
    blocked_lines (take (i + 1) workers) ≡ blocked_lines (take i workers) ++ line_in o
lines-more workers i d o low is = flat_map-more (λ (w : Worked (Ticket Record)). line_in w.blocked)
    workers i d low ∙ ap (λ b. blocked_lines (take i workers) ++ line_in b) is

pub processes-more : (workers : List (Worked (Ticket Record))) (i : ℕ) (d : Worked (Ticket Record))
    (o : Option ℕ) → i < length workers → (get_or workers i d).blocked ≡ o →
    blocked_processes (take (i + 1) workers) ≡ blocked_processes (take i workers) ++ process_in o
    (get_or workers i d).process.number
processes-more workers i d o low is = grind (arith, common_steps, flat_map-more)
