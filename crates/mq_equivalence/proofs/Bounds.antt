-- Above the bounds there is nothing: no wait of a caller, and no descriptor and no notice of a
-- process.
use Rattle.std.proofs.lemmas.Bool.Decides.{nat_tests}
use Rattle.std.proofs.Common.{◌≡◌, ℕ, ◌≤◌, ◌<◌, false, ne_eqb, List, [], ◌∷◌, drop, zero, suc, None, refl, ◌∙◌, ap, arith}
use Rattle.mq_model.specs.Record.{Past, record_at}
use Rattle.mq_model.specs.Threads.{owner_of, shares}
use Rattle.mq_model.specs.Descriptors.{held}
use Rattle.mq_model.specs.Notices.{notices, notices_given, value_given, values_notified}
use Rattle.mq_model.specs.Waits.{answered_by, open_wait, wait_deadline}
use Rattle.mq_model.proofs.Mates.{owner_below}
use Rattle.mq_equivalence.specs.Key.{number_bound, process_bound}

pub held-above : (past : Past) (p d : ℕ) → number_bound past ≤ d → held past p d ≡ None
held-above [] p d le = refl
held-above (r ∷ past) p d le = grind (arith, nat_tests, held-above past p d (omega arith))

-- a caller below the first thread of a process is none of its threads
other : (q b p : ℕ) → q < b → b ≤ owner_of p → shares q p ≡ false
other q b p lt le = let below = owner_below q in ne_eqb (owner_of q) (owner_of p)
    (λ e. omega (arith, below, lt, le, e))

-- no registration of the process is notified
not-given : (past : Past) (p k : ℕ) → process_bound past ≤ owner_of p →
    value_given p (record_at past k) ≡ None
not-given [] p k le = refl
not-given (r ∷ past) p k le = let none = other r.entry.process (process_bound (r ∷ past)) p
    (omega arith) le in grind (arith, not-given past p k (omega (arith, le)))

no-values : (past : Past) (p : ℕ) → process_bound past ≤ owner_of p → values_notified past p ≡ []
no-values [] p le = refl
no-values (r ∷ past) p le = grind (arith, no-values past p (omega (arith, le)), not-given)

-- the caller has no wait
pub record IsIdle (past : Past) (p : ℕ) : Type 0 where
  pub waits : open_wait past p ≡ None
  pub deadline : wait_deadline past p ≡ None
  pub answered : answered_by past p ≡ None

-- its process has no descriptor and no notice
pub record HasNothing (past : Past) (p : ℕ) : Type 0 where
  pub held : (d : ℕ) → held past p d ≡ None
  pub notices : notices past p ≡ []

quiet-above : (past : Past) (p : ℕ) → process_bound past ≤ p →
    (open_wait past p ≡ None) × (wait_deadline past p ≡ None) × (answered_by past p ≡ None)
quiet-above [] p le = (refl, refl, refl)
quiet-above (r ∷ past) p le = grind (arith, quiet-above past p (omega arith))

pub idle-above : (past : Past) (p : ℕ) → process_bound past ≤ p → IsIdle past p
idle-above past p le = let quiet = quiet-above past p le in record {
  waits = quiet.0;
  deadline = quiet.1;
  answered = quiet.2;
}

none-held-above : (past : Past) (p d : ℕ) → process_bound past ≤ owner_of p → held past p d ≡ None
none-held-above [] p d le = refl
none-held-above (r ∷ past) p d le = rw (other r.entry.process (process_bound (r ∷ past)) p
    (omega arith) le) (none-held-above past p d (omega (arith, le)))

pub nothing-above : (past : Past) (p : ℕ) → process_bound past ≤ owner_of p → HasNothing past p
nothing-above past p le = record {
  held = λ d. none-held-above past p d le;
  notices = ap (λ (vs : List ℕ). drop (notices_given past p) vs) (no-values past p le) ∙
      drop-nothing (notices_given past p);
}
  where
    none : List ℕ
    none = []

    drop-nothing : (n : ℕ) → drop n none ≡ none
    drop-nothing zero = refl
    drop-nothing (suc n) = refl
