-- What the records of other processes leave of a wait.
use Rattle.std.proofs.Common.{◌≡◌, ◌≢◌, ℕ, suc, ◌<◌, ◌==◌, Bool, true, false, not, List, [], ◌∷◌, ◌++◌, length, Some, None, if◌then◌else◌, refl, arith, ne_eqb}
use Rattle.std.specs.List.{All}
use Rattle.std.proofs.lemmas.List.Elements.{All-head, All-tail}
use Rattle.std.proofs.lemmas.Bool.{and_parts, not-true}
use Rattle.mq_model.specs.Record.{Record, Past}
use Rattle.mq_model.specs.Waits.{is_wait, open_wait, is_answered, names_wait, are_of_others, OthersLeave}
use Rattle.mq_model.proofs.Places.{split}

-- the place of an open wait is below the journal's length
pub open_wait-below : (past : Past) (p w : ℕ) → open_wait past p ≡ Some w → w < length past
open_wait-below [] p w e = absurd (cc)
open_wait-below (r ∷ past) p w e = split (r.entry.process == p)
    (λ own. let last : (if is_wait r.entry.reply then Some (length past) else None) ≡
    Some w = rw own at e in newest (is_wait r.entry.reply) last)
    (λ other. let old : open_wait past p ≡ Some w = rw other at e in let lt = open_wait-below past p
    w old in omega (arith, lt))
  where
    newest : (b : Bool) → (if b then Some (length past) else None) ≡ Some w → w < suc (length past)
    newest true e = let same : length past ≡ w = cc in omega arith
    newest false e = absurd (let bad : None ≡ Some w = e in cc)

pub others-leave : (past : Past) (p : ℕ) → OthersLeave past p
others-leave past p = record { wait = wait; answered = answered }
  where
    other : (r : Record) (more : List Record) → are_of_others p (r ∷ more) ≡ true →
        ((r.entry.process == p) ≡ false) × (are_of_others p more ≡ true)
    other r more e = let parts = and_parts (not (r.entry.process == p)) (are_of_others p more) e in
        (not-true _ parts.0, parts.1)

    wait : (more : List Record) → are_of_others p more ≡ true →
        open_wait (more ++ past) p ≡ open_wait past p
    wait [] e = refl
    wait (r ∷ more) e = let x = other r more e in rw x.0 (wait more x.1)

    answered : (more : List Record) → are_of_others p more ≡ true → is_answered past p ≡ true →
        is_answered (more ++ past) p ≡ true
    answered [] e h = h
    answered (r ∷ more) e h = let x = other r more e in
        split (names_wait r.entry.reply (open_wait (more ++ past) p)) (λ t. rw (x.0, t) refl)
        (λ f. rw (x.0, f) (answered more x.1 h))

-- the same, of records that are known by their processes one by one
pub answered-stays : (p : ℕ) (more before : List Record) → All (λ r. r.entry.process ≢ p) more →
    is_answered before p ≡ true → is_answered (more ++ before) p ≡ true
answered-stays p more before all h = (others-leave before p).answered more (of-others more all) h
  where
    of-others : (more : List Record) → All (λ r. r.entry.process ≢ p) more →
        are_of_others p more ≡ true
    of-others [] all = refl
    of-others (r ∷ more) all =
        let other = All-head (λ (r : Record). r.entry.process ≢ p) r more all in
        rw (
          ne_eqb r.entry.process p other,
          of-others more
              (All-tail (λ (r : Record). r.entry.process ≢ p) r more all),
        ) refl
