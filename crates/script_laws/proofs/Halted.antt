-- The end of a phase that deadlocked: no process can go on, and at least one waits.
use Rattle.std.proofs.Common.{◌≡◌, ◌≢◌, ℕ, zero, suc, ◌+◌, ◌<◌, true, false, List, [], ◌∷◌, ◌++◌, length, Option, Some, None, slice_get, refl, ap, ◌∙◌, subst, arith, append_assoc, append-nil}
use Rattle.std.proofs.lemmas.List.{length-map}
use Rattle.std.proofs.lemmas.Option.{slice_get_within}
use Rattle.std.proofs.lemmas.Option.{slice_get-map}
use Rattle.fast_mutex.specs.Items.{Ticket}
use Rattle.std.proofs.lemmas.Bool.{and_parts}
use Rattle.mq_model.specs.Record.{Past, Record}
use Rattle.script_orders.specs.Stage.{Stage, one_waits, stands_still, observed, wait_of, waiting_lines}
use Rattle.script_orders.specs.Turns.{after_turn}
use Rattle.script_runner.specs.Stands.{blocked_lines, line_in}
use Rattle.script_runner.specs.declared.turns.Worked.{Worked}
use Rattle.script_laws.specs.StandLaws.{stand_text, stand_outcome}
use Rattle.script_laws.proofs.Course.{Course}
use Rattle.script_laws.proofs.Halting.{Halts}
use Rattle.script_laws.proofs.Resting.{no-turn, still-where}
use Rattle.script_laws.proofs.Runners.{Frame, Runner, programs_in, there-is}
use Rattle.script_laws.proofs.Sitting.{Through}
use Rattle.script_laws.proofs.Weaving.{ended}

-- p completed the phase, or waits for ever in the call of a line
abbrev pub Rests : Option ℕ → ℕ → ℕ → Past → Past → Runner → Type 0
Rests None p phase past to r = Through p phase past to r
Rests (Some line) p phase past to r = Halts p phase line past to r

pub rests-course : (b : Option ℕ) (p phase : ℕ) (past to : Past) (r : Runner) →
    Rests b p phase past to r → Course p phase r.program to r.end r.moves past r.seat
rests-course b p phase past to r rests = grind arith

-- no turn -----------------------------------------------------------------------------------------

rests-turn : (b : Option ℕ) (p phase : ℕ) (past to : Past) (r : Runner) →
    Rests b p phase past to r → after_turn to phase p r.end r.program ≡ None
rests-turn b p phase past to r rests = grind (arith, no-turn, and_parts)

-- what is reported --------------------------------------------------------------------------------

stand-more : (script first more : List ℕ) →
    stand_text script (first ++ more) ≡ stand_text script first ++ stand_text script more
stand-more script [] more = refl
stand-more script (line ∷ first) more = grind (arith, append_assoc, stand-more script first more)

rests-said : (b : Option ℕ) (i : ℕ) (frame : Frame) (phase : ℕ) (past to : Past)
    (runners : List Runner) (r : Runner) → slice_get runners i ≡ Some r →
    Rests b (i + 1) phase past to r → wait_of (ended frame phase to runners) i ≡
    stand_text frame.script (line_in b)
rests-said b i frame phase past to runners r has rests =
    grind (arith, and_parts, slice_get-map, append-nil)

-- if each process reports the line in which it waits, from the process at index i on
lines-from : (s : Stage) (ended : List (Worked (Ticket Record))) (i : ℕ) →
    ((j : ℕ) (w : Worked (Ticket Record)) → slice_get ended j ≡ Some w → wait_of s (i + j) ≡
    stand_text s.script (line_in w.blocked)) →
    waiting_lines s (i + length ended) ≡ waiting_lines s i ++ stand_text s.script
    (blocked_lines ended)
lines-from s [] i says = grind (arith, append-nil)
lines-from s (w ∷ ended) i says =
    let here : i + 0 ≡ i = omega arith in
    let next : i + suc (length ended) ≡ suc i + length ended = omega arith in
    let first : wait_of s i ≡ stand_text s.script (line_in w.blocked) =
    subst (λ (k : ℕ). wait_of s k ≡ stand_text s.script (line_in w.blocked)) here
    (says 0 w refl) in
    let rest = lines-from s ended (suc i) (λ j x has.
    let there : i + suc j ≡ suc i + j = omega arith in
    subst (λ (k : ℕ). wait_of s k ≡ stand_text s.script (line_in x.blocked)) there
    (says (suc j) x has))
    in
    rw (next, rest, first, stand-more s.script (line_in w.blocked) (blocked_lines ended))
    (append_assoc (waiting_lines s i) (stand_text s.script (line_in w.blocked))
    (stand_text s.script (blocked_lines ended)))

-- if no process waits, no line is reported
none-waiting : (s : Stage) (n : ℕ) → one_waits s.past n ≡ false → waiting_lines s n ≡ []
none-waiting s zero none = refl
none-waiting s (suc n) none = grind (arith, none-waiting s n)

-- if some line waits, one is reported
some-waiting : (script lines : List ℕ) → lines ≢ [] → stand_text script lines ≡ [] → ⊥
some-waiting script [] some none = some refl
some-waiting script (line ∷ lines) some none = cc

-- none can go on, and one of them waits
module _ (frame : Frame) (phase : ℕ) (past to : Past) (runners : List Runner)
    (worked : List (Worked (Ticket Record))) (count : length runners ≡ length worked)
    (rest : (i : ℕ) (r : Runner) (w : Worked (Ticket Record)) → slice_get runners i ≡ Some r →
    slice_get worked i ≡ Some w → Rests w.blocked (i + 1) phase past to r) where
  of-runner : (i : ℕ) (r : Runner) → slice_get runners i ≡ Some r →
      (w : Worked (Ticket Record)) × Rests w.blocked (i + 1) phase past to r
  of-runner i r has =
      let below : i < length runners = slice_get_within runners i r has in
      let there = there-is worked i (omega (arith, below, count)) in
      (there.0, rest i r there.0 has there.1)

  pub halted-course : (i : ℕ) (r : Runner) → slice_get runners i ≡ Some r →
      Course (i + 1) phase r.program to r.end r.moves past r.seat
  halted-course i r has = let w = of-runner i r has in rests-course w.0.blocked
      (i + 1) phase past to r w.1

  pub halted-still : stands_still (ended frame phase to runners) ≡ true
  halted-still = still-where frame phase to runners (λ i r has. let w = of-runner i r has in
      rests-turn w.0.blocked (i + 1) phase past to r w.1)

  halted-lines : waiting_lines (ended frame phase to runners) (length (programs_in runners)) ≡
      stand_text frame.script (blocked_lines worked)
  halted-lines =
      let s : Stage = ended frame phase to runners in
      let many : length (programs_in runners) ≡ 0 + length worked =
      omega (arith, length-map runners (λ (r : Runner). r.program), count) in
      ap (λ (k : ℕ). waiting_lines s k) many ∙ lines-from s worked 0 (λ i w has.
      let below : i < length worked = slice_get_within worked i w has in
      let there = there-is runners i (omega (arith, below, count)) in
      let here : i ≡ 0 + i = omega arith in
      subst (λ (k : ℕ). wait_of s k ≡ stand_text s.script (line_in w.blocked)) here
      (rests-said w.blocked i frame phase past to runners there.0 there.1
      (rest i there.0 w there.1 has)))

  pub halted-outcome : (lines : List ℕ) → blocked_lines worked ≡ lines → lines ≢ [] →
      observed (ended frame phase to runners) ≡ stand_outcome frame.script phase lines
  halted-outcome lines are some = grind (arith, halted-lines, some-waiting, none-waiting)
