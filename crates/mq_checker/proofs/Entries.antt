-- The entry at a place.
use Rattle.std.proofs.Common.{◌≡◌, ◌≢◌, ℕ, ◌+◌, ◌<◌, ◌==◌, List, [], ◌∷◌, length, Some, None, arith}
use Rattle.std.proofs.lemmas.Bool.{eqb-false}
use Rattle.std.specs.Option.{option_map}
use Rattle.mq_model.specs.Record.{Record, Past, first, record_at}
use Rattle.mq_model.specs.Names.{name_of}
use Rattle.mq_model.specs.declared.entries.Entry.{Entry}
use Rattle.mq_model.proofs.Places.{split}
use Rattle.mq_model.proofs.Prefixes.{first-more}

abbrev recorded : Entry → List ℕ → Record
recorded e payload = record { entry = e; payload = payload }

pub entry-here : (past : Past) (place : ℕ) (e : Entry) →
    Some e ≡ option_map (λ r. r.entry) (record_at past place) →
    first (place + 1) past ≡ record { entry = e; payload = name_of past place } ∷ first place past
entry-here past place e is = grind (arith, first-more)

pub entry-there : (past : Past) (place : ℕ) → place < length past →
    None ≡ option_map (λ (r : Record). r.entry) (record_at past place) → ⊥
entry-there [] place lt e = absurd (omega arith)
entry-there (s ∷ past) place lt e = split (place == length past)
    (λ t. let bad : None ≡ Some s.entry = rw t at e in absurd (cc))
    (λ f. let ne : place ≢ length past = eqb-false place (length past) f in
    let old : None ≡ option_map (λ (r : Record). r.entry) (record_at past place) = rw f at e in
    entry-there past place (omega arith) old)
