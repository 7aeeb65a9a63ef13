-- What a process did is a step of the play.
use Rattle.std.proofs.Common.{◌≡◌, ℕ, ◌+◌, ◌<◌, Bool, List, length, get_or, Some, None, IfOk, IsTrue, IsFalse, Result, sym, ◌∙◌, ap, slice_get, Vec, arith, Global}
use Rattle.std.specs.Option.{option_map}
use Rattle.std.specs.declared.alloc.AllocError.{AllocError}
use Rattle.std.proofs.lemmas.Option.{slice_get-get_or}
use Rattle.script_orders.specs.Progress.{Progress}
use Rattle.script_orders.specs.Turns.{Turned, after_turn}
use Rattle.script_orders.specs.Stage.{Stage, turn_of, with_turn}
use Rattle.script_orders.specs.declared.plan.Planned.{Planned}

-- what a process does next, by its lines and how far it has come
pub turn_of-is : (s : Stage) (index : ℕ) (program : Vec Planned Global) (seat : Progress) →
    slice_get s.programs index ≡ Some program → slice_get s.seats index ≡ Some seat →
    turn_of s index ≡ after_turn s.past s.phase (index + 1) seat program
turn_of-is s index program seat has sits = grind arith

-- the element that was read
pub element-is : {A : Type 0} (xs : List A) (index : ℕ) (x : A) → index < length xs →
    x ≡ get_or xs index x → slice_get xs index ≡ Some x
element-is {A} xs index x below is = slice_get-get_or xs index x below ∙
    ap (λ (y : A). Some y) (sym is)

pub went-of : (s : Stage) (index : ℕ) (program : Vec Planned Global) (seat : Progress)
    (turned : Turned) (result : Result Bool AllocError) →
    turn_of s index ≡ after_turn s.past s.phase (index + 1) seat program →
    IfOk result (λ went. IsTrue went → after_turn s.past s.phase (index + 1) seat program ≡
    Some turned) →
    IfOk result (λ went. IsTrue went → option_map (with_turn s index) (turn_of s index) ≡
    Some (with_turn s index turned))
went-of s index program seat turned result is goes = grind arith

pub none-of : (s : Stage) (index : ℕ) (program : Vec Planned Global) (seat : Progress)
    (result : Result Bool AllocError) →
    turn_of s index ≡ after_turn s.past s.phase (index + 1) seat program →
    IfOk result (λ went. IsFalse went → after_turn s.past s.phase (index + 1) seat program ≡ None) →
    IfOk result (λ went. IsFalse went → turn_of s index ≡ None)
none-of s index program seat result is goes = grind arith
