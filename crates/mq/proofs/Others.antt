-- What the records of other processes leave as it is.
use Rattle.std.proofs.Common.{◌≡◌, ℕ, ◌<◌, ◌==◌, true, not, List, [], ◌∷◌, ◌++◌, length, refl, ◌∙◌, arith}
use Rattle.std.proofs.lemmas.Bool.{and_parts, not-true}
use Rattle.mq_model.specs.Record.{Record, Past, record_at}
use Rattle.mq_model.specs.Waits.{open_wait, wait_deadline, are_of_others}
use Rattle.mq_model.proofs.OthersLeave.{others-leave, open_wait-below}
use Rattle.mq_model.proofs.Frames.{record_at-older}
use Rattle.mq_state.specs.Buffers.{waiting_call, waiting_room}
use Rattle.fast_mutex.specs.Items.{Grows, items_of}
use Rattle.mq.specs.Calls.{author}

-- if p has no record of its own, all are of others
none-own : (p : ℕ) (more : List Record) → items_of author p more ≡ [] → are_of_others p more ≡ true
none-own p [] e = refl
none-own p (r ∷ more) e = grind (arith, none-own p more)

pub wait-grown : {p : ℕ} {before after : Past} → Grows author p before after [] →
    open_wait after p ≡ open_wait before p
wait-grown {p} {before} g = rw g.is ((others-leave before p).wait g.behind
    (none-own p g.behind g.mine))

deadline-others : (past : Past) (p : ℕ) (more : List Record) → are_of_others p more ≡ true →
    wait_deadline (more ++ past) p ≡ wait_deadline past p
deadline-others past p [] e = refl
deadline-others past p (r ∷ more) e = let parts = and_parts (not (r.entry.process == p))
    (are_of_others p more) e in rw (not-true _ parts.0) (deadline-others past p more parts.1)

pub deadline-grown : {p : ℕ} {before after : Past} → Grows author p before after [] →
    wait_deadline after p ≡ wait_deadline before p
deadline-grown {p} {before} g =
    rw g.is (deadline-others before p g.behind (none-own p g.behind g.mine))

record_at-grown : (more past : Past) (k : ℕ) → k < length past →
    record_at (more ++ past) k ≡ record_at past k
record_at-grown [] past k lt = refl
record_at-grown (r ∷ more) past k lt = record_at-older (more ++ past) r k (below more) ∙
    record_at-grown more past k lt
  where
    below : (more : Past) → k < length (more ++ past)
    below [] = lt
    below (x ∷ more) = let rest = below more in omega (arith, rest)

-- a wait is that of the same call
pub call-grown : {p : ℕ} {before after : Past} → Grows author p before after [] →
    waiting_call after p ≡ waiting_call before p
call-grown {p} {before} {after} g = grind (arith, open_wait-below, record_at-grown, wait-grown)

pub room-grown : {p : ℕ} {before after : Past} → Grows author p before after [] →
    waiting_room after p ≡ waiting_room before p
room-grown {p} {before} {after} g = grind (arith, call-grown, wait-grown)
