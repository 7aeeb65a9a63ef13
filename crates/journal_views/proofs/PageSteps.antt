-- One record or one byte more.
use Rattle.std.proofs.Common.{◌≡◌, ◌+◌, ◌++◌, ◌∙◌, ℕ, List, [], ◌∷◌, refl, ap, sym, add-one, append-nil, append_assoc}
use Rattle.std.specs.List.{flat_map}
use Rattle.mq_model.specs.Record.{Past, Place, first}
use Rattle.journal_views.specs.Page.{last_line, lines_text, shielded}

pub lines-none : (past : Past) (from : Place) → lines_text past from 0 ≡ []
unfolding lines_text
lines-none past from = refl

pub lines-more : (past : Past) (from : Place) (k : ℕ) →
    lines_text past from (k + 1) ≡ lines_text past from k ++ last_line (first (from + k + 1) past)
unfolding lines_text
lines-more past from k = rw add-one refl

pub shielded-append : (xs ys : List ℕ) → flat_map shielded (xs ++ ys) ≡ flat_map shielded xs ++
    flat_map shielded ys
shielded-append [] ys = refl
shielded-append (x ∷ xs) ys = ap (λ t. shielded x ++ t) (shielded-append xs ys) ∙
    sym (append_assoc (shielded x) (flat_map shielded xs) (flat_map shielded ys))

pub ruleset shielded_steps = (shielded-append, append_assoc, append-nil)

pub ruleset lines_steps = (lines-none, lines-more, shielded-append, append-nil, append_assoc)
