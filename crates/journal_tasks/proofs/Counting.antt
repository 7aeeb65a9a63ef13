-- What is counted, one record or one process more.
use Rattle.std.proofs.Common.{◌≡◌, ◌+◌, ◌-◌, ◌==◌, ℕ, zero, suc, Bool, true, [], ◌∷◌, refl, ap, sym, ◌∙◌, drop, length, arith, add-one, if◌then◌else◌, eq-eqb}
use Rattle.std.proofs.lemmas.Bool.Decides.{nat_tests}
use Rattle.std.specs.List.{list_any}
use Rattle.mq_model.specs.Record.{Past, Record, first}
use Rattle.mq_model.specs.Threads.{owner_of}
use Rattle.journal_tasks.specs.Verdict.{has_process, processes_to}

pub processes_to-zero : (past : Past) → processes_to 0 past ≡ 0
unfolding processes_to
processes_to-zero past = refl

pub processes_to-more : (past : Past) (n : ℕ) →
    processes_to (n + 1) past ≡ processes_to n past + (if has_process past (n + 1) then 1 else 0)
unfolding processes_to
processes_to-more past n = rw add-one refl

pub ruleset process_counts = (processes_to-zero, processes_to-more)

any_drop : (test : Record → Bool) (n : ℕ) (past : Past) → list_any test (drop n past) ≡ true →
    list_any test past ≡ true
any_drop test zero past some = some
any_drop test (suc n) [] some = some
any_drop test (suc n) (r ∷ past) some = let rest = any_drop test n past some in
    grind (arith, nat_tests)

pub any_first : (p k : ℕ) (past : Past) → has_process (first k past) p ≡ true →
    has_process past p ≡ true
any_first p k past some = any_drop (λ r. owner_of r.entry.process == p) (length past - k) past some

-- a record of the process was found
pub process_at : (p k : ℕ) (past : Past) (r : Record) → first (k + 1) past ≡ r ∷ first k past →
    owner_of r.entry.process ≡ p → true ≡ has_process past p
process_at p k past r step is =
    let here : has_process (r ∷ first k past) p ≡ true =
    rw (eq-eqb (owner_of r.entry.process) p is) refl in
    sym (any_first p (k + 1) past (ap (λ t. has_process t p) step ∙ here))
