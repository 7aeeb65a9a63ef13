-- The text of several calls.
use Rattle.std.proofs.lemmas.Grind.{common_steps}
use Rattle.std.proofs.Common.{◌≡◌, ◌++◌, List, ℕ, [], ◌∷◌, append-nil, arith}
use Rattle.history_judge.specs.Fitting.{AllFit, Fits}
use Rattle.history_judge.specs.Text.{history_text, line_text}
use Rattle.history_judge.specs.declared.line.Called.{Called}

-- a call after others
pub history_text-last : (calls : List Called) (c : Called) →
    history_text (calls ++ c ∷ []) ≡ history_text calls ++ line_text c
history_text-last [] c = append-nil (line_text c)
history_text-last (d ∷ calls) c = grind (arith, common_steps, history_text-last calls c)

-- a text that was read up to a line, read up to the next one
pub next_line : (text rest line others : List ℕ) (calls : List Called) (c : Called) →
    text ≡ history_text calls ++ rest →
    rest ≡ line ++ others → line ≡ line_text c → text ≡ history_text (calls ++ c ∷ []) ++ others
next_line text rest line others calls c so_far whole is =
    grind (arith, common_steps, history_text-last)

-- one call more whose numbers fit
pub fits-more : (calls : List Called) (c : Called) → AllFit calls → Fits c →
    AllFit (calls ++ c ∷ [])
fits-more [] c all one = (one, tt)
fits-more (d ∷ calls) c all one = (all.0, fits-more calls c all.1 one)
