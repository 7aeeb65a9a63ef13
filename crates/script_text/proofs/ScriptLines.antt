-- One line of a script, and what follows it.
use Rattle.std.proofs.Common.{◌≡◌, ◌+◌, ℕ, List, ◌∷◌, sym, ◌∙◌, Option, Some, Result, Ok, arith}
use Rattle.script_text.specs.ScriptFault.{Fails}
use Rattle.script_text.specs.declared.fault.ScriptFault.{ScriptFault}
use Rattle.script_text.specs.declared.line.Line.{Line}
use Rattle.script_text.specs.declared.script.Place.{Place}
use Rattle.script_text.specs.declared.script.Phases.{Phases}
use Rattle.script_text.specs.Phases.{whole_behind}
use Rattle.script_text.specs.Script.{Written, WrittenCall, Whole, line_read, or_fault, processes_behind, result_map, script_read, with_line}

-- what no error stopped was read
read_some : {A : Type 0} (o : Option A) (n : ℕ) (x : A) → or_fault o n (λ read. Ok read) ≡ Ok x →
    o ≡ Some x
read_some o n x gives = grind arith

fused : {A B : Type 0} (f : A → A) (g h : A → B) (r : Result A ℕ) → ((x : A) → h x ≡ g (f x)) →
    result_map h r ≡ result_map g (result_map f r)
fused f g h r same = grind arith

onward : (o : Option (Line WrittenCall × Place)) (n : ℕ) (line : Line WrittenCall) (place : Place)
    (next : Line WrittenCall × Place → Result Written ℕ) (g : Written → Whole) →
    o ≡ Some (line, place) → result_map g (or_fault o n next) ≡ result_map g (next (line, place))
onward o n line place next g is = rw is

pub whole_behind-line : (old new : Phases) (processes : Option ℕ) (at place : Place)
    (bytes : List ℕ) (rest : List (List ℕ)) (line : Line WrittenCall) →
    or_fault (line_read processes at bytes) (at.lines + 1) (λ read. Ok read) ≡ Ok (line, place) →
    ((script : Written) → whole_behind new script ≡ whole_behind old (with_line line script)) →
    result_map (whole_behind new) (script_read (processes_behind line processes) place rest) ≡
    result_map (whole_behind old) (script_read processes at (bytes ∷ rest))
whole_behind-line old new processes at place bytes rest line gives same =
    let is : line_read processes at bytes ≡ Some (line, place) =
    read_some (line_read processes at bytes) (at.lines + 1) (line, place) gives in
    let next : Line WrittenCall × Place →
    Result Written ℕ = λ read. result_map (with_line read.0)
    (script_read (processes_behind read.0 processes) read.1 rest) in
    fused (with_line line) (whole_behind old) (whole_behind new)
    (script_read (processes_behind line processes) place rest) same
    ∙ sym (onward (line_read processes at bytes) (at.lines + 1) line place next
    (whole_behind old) is)

fails_on : (o : Option (Line WrittenCall × Place)) (n : ℕ) (next : Line WrittenCall × Place →
    Result Written ℕ) (g : Written → Whole) (fault : ScriptFault) → Fails fault
    (or_fault o n (λ read. Ok read)) → Fails fault (result_map g (or_fault o n next))
fails_on o n next g fault fails = grind arith

-- an error in the next line is the first one of the script
pub fails-line : (phases : Phases) (processes : Option ℕ) (at : Place) (bytes : List ℕ)
    (rest : List (List ℕ)) (fault : ScriptFault) →
    Fails fault (or_fault (line_read processes at bytes) (at.lines + 1) (λ read. Ok read)) →
    Fails fault (result_map (whole_behind phases) (script_read processes at (bytes ∷ rest)))
fails-line phases processes at bytes rest fault fails = grind (arith, fails_on)
