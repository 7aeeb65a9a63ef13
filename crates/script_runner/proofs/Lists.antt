-- The completions and shares of a phase, by induction on their number.
use Rattle.std.proofs.Common.{◌≡◌, ◌<◌, ◌+◌, ◌++◌, ℕ, List, [], ◌∷◌, length, get_or, take, ap, sym, ◌∙◌}
use Rattle.std.specs.List.{flat_map}
use Rattle.std.proofs.lemmas.List.{flat_map_more, take_more, map-append}
use Rattle.fast_mutex.specs.Items.{Ticket}
use Rattle.mq_model.specs.Record.{Record}
use Rattle.script_runner.specs.Phase.{calls_in, text_in}
use Rattle.script_text.specs.ReplyLines.{reply_lines}
use Rattle.script_text.specs.Script.{said_call}
use Rattle.script_runner.specs.declared.turns.Turn.{Turn}
use Rattle.script_runner.specs.declared.turns.Worked.{Worked}

-- the result for the first i items, and one more
pub flat_map-more : {A B : Type 0} (f : A → List B) (xs : List A) (i : ℕ) (d : A) → i < length xs →
    flat_map f (take (i + 1) xs) ≡ flat_map f (take i xs) ++ f (get_or xs i d)
flat_map-more f xs i d low = ap (flat_map f) (take_more xs i d low) ∙
    sym (flat_map_more f [] (take i xs) (get_or xs i d))

pub text_in-more : (workers : List (Worked (Ticket Record))) (i : ℕ) (d : Worked (Ticket Record)) →
    i < length workers → text_in (take (i + 1) workers) ≡ text_in (take i workers) ++ reply_lines
    (get_or workers i d).process.number (get_or workers i d).completions.items
text_in-more workers i d low = flat_map-more (λ (w : Worked (Ticket Record)). reply_lines
    w.process.number w.completions.items) workers i d low

pub calls_in-push : (turns : List Turn) (turn : Turn) →
    calls_in (turns ++ turn ∷ []) ≡ calls_in turns ++ said_call turn.call ∷ []
calls_in-push turns turn = map-append (λ (t : Turn). said_call t.call) turns (turn ∷ [])
