-- The script that was read, and its phases and known bytes if a write failed.
use Rattle.std.proofs.Common.{◌≡◌, ◌<◌, ◌++◌, ℕ, List, ◌∷◌, length, get_or, take, drop, ap, sym, ◌∙◌, suc, subst, Ok, Option, Vec, Global, Bor}
use Rattle.std.proofs.KnownBytes.{Appends-trans}
use Rattle.std.proofs.Math.Seq.{drop-cons}
use Rattle.std.proofs.lemmas.List.{take-append-drop, map-append}
use Rattle.std.specs.Io.KnownBytes.{Appends}
use Rattle.text_io.specs.Output.{AppendsTooLittle}
use Rattle.text_io.specs.Words.{Word}
use Rattle.script_text.specs.Script.{Whole, WrittenCall, said_calls, said_phases, script_written}
use Rattle.script_text.specs.declared.line.ScriptCall.{ScriptCall}
use Rattle.script_runner.specs.Stops.{AppendsInto}

-- what holds of the script that was read holds of the one that the input writes
pub of-script : (P : Whole → Type 0) {text slice front : List ℕ} {read script : Whole} →
    text ≡ front → slice ≡ text → script_written slice ≡ Ok read →
    script_written front ≡ Ok script → P read → P script
of-script P {read = read} {script = script} whole sliced first second holds = let same : read ≡
    script = cc in subst P same holds

-- the phases before one, that one, and the later ones
pub phases-split : (phases : List (Vec (ScriptCall (Bor Word)) Global)) (i : ℕ)
    (d : Vec (ScriptCall (Bor Word)) Global) → i < length phases →
    said_phases phases ≡ said_phases (take i phases) ++ said_calls (get_or phases i d).items ∷
    said_phases (drop (suc i) phases)
phases-split phases i d low =
    let said : Vec (ScriptCall (Bor Word)) Global →
    List WrittenCall = λ phase. said_calls phase.items in
    let split : phases ≡ take i phases ++ get_or phases i d ∷ drop (suc i) phases =
    sym (take-append-drop i phases) ∙ ap (λ rest. take i phases ++ rest)
    (drop-cons phases i d low) in
    ap said_phases split ∙ map-append said (take i phases) (get_or phases i d ∷ drop (suc i) phases)

-- a whole text was written, and a prefix of the next
pub appends-into : (a b c : Option (List ℕ)) (text next : List ℕ) → Appends a b text →
    AppendsTooLittle b c next → AppendsInto a c text next
appends-into a b c text next whole part =
    (part.0, part.1, Appends-trans a b c text (take part.0 next) whole part.2)
