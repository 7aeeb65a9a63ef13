-- How the processes of a script begin.
use Rattle.std.proofs.Common.{◌≡◌, ℕ, zero, suc, ◌+◌, ◌<◌, ◌≤◌, List, [], ◌∷◌, ◌++◌, length, map, None, replicate, refl, ap, arith, Vec, Global}
use Rattle.fast_mutex.specs.Items.{LockId, tickets_with}
use Rattle.mq.specs.Calls.{bounds_in}
use Rattle.mq_model.specs.Record.{Past}
use Rattle.mq_model.specs.Waits.{open_wait}
use Rattle.script_orders.specs.Plans.{Plan, plan_of, program_of, programs_of}
use Rattle.script_orders.specs.Stage.{fresh}
use Rattle.script_orders.specs.declared.plan.Planned.{Planned}
use Rattle.script_runner.specs.Runs.{NoneWaits}
use Rattle.script_text.specs.Script.{WrittenCall}
use Rattle.script_laws.proofs.Growth.{AllLeft}
use Rattle.script_laws.proofs.Sitting.{AllSit}

abbrev shown : Vec Planned Global → List Plan
shown program = map plan_of program.items

-- the lines of n processes from number p on
abbrev programs_from : List (List WrittenCall) → ℕ → ℕ → List (List Plan)
programs_from phases p zero = []
programs_from phases p (suc n) = program_of 0 phases p ∷ programs_from phases (suc p) n

one-more : (phases : List (List WrittenCall)) (p n : ℕ) →
    programs_from phases p (suc n) ≡ programs_from phases p n ++ program_of 0 phases (p + n) ∷ []
one-more phases p zero = let e : p ≡ p + zero = omega arith in
    ap (λ (k : ℕ). program_of 0 phases k ∷ []) e
one-more phases p (suc n) = grind (arith, one-more phases (suc p) n)

pub in-order : (phases : List (List WrittenCall)) (n : ℕ) →
    programs_of phases n ≡ programs_from phases 1 n
in-order phases zero = refl
in-order phases (suc n) = grind (arith, one-more, in-order phases n)

begin-sit : (past : Past) (phases : List (List WrittenCall)) (lock : LockId) (p n : ℕ)
    (programs : List (Vec Planned Global)) → bounds_in lock.fixed ≡ None →
    ((q : ℕ) → p ≤ q → q < p + n → open_wait past q ≡ None) →
    map shown programs ≡ programs_from phases p n →
    AllSit 0 phases p programs (replicate n fresh) (tickets_with lock past p n)
begin-sit past phases lock p zero [] unbounded free are = (refl, refl)
begin-sit past phases lock p (suc n) (program ∷ programs) unbounded free are =
    let lines : map plan_of program.items ≡ program_of 0 phases p = cc in
    let rest : map shown programs ≡ programs_from phases (suc p) n = cc in (
      program,
      programs,
      fresh,
      replicate n fresh,
      refl,
      refl,
      record {
        number = refl;
        unbounded = unbounded;
        free = free p (omega arith) (omega arith);
        earlier = [];
        are = lines;
        count = refl;
        text = refl;
      },
      begin-sit past phases lock (suc p) n programs unbounded
          (λ q low high. free q (omega (arith, low)) (omega (arith, high))) rest,
    )
begin-sit past phases lock p n programs unbounded free are = cc

pub all-begin : (past : Past) (phases : List (List WrittenCall)) (lock : LockId) (n : ℕ)
    (programs : List (Vec Planned Global)) → bounds_in lock.fixed ≡ None → NoneWaits past n →
    map shown programs ≡ programs_of phases n →
    AllSit 0 phases 1 programs (replicate n fresh) (tickets_with lock past 1 n)
all-begin past phases lock n programs unbounded free are = grind (arith, begin-sit, in-order)

-- with the journal before
pub all-left-with : (past : Past) (lock : LockId) (p n : ℕ) →
    AllLeft past (tickets_with lock past p n)
all-left-with past lock p zero = tt
all-left-with past lock p (suc n) = (refl, all-left-with past lock (suc p) n)

pub count-from : (phases : List (List WrittenCall)) (p n : ℕ) →
    length (programs_from phases p n) ≡ n
count-from phases p zero = refl
count-from phases p (suc n) = ap (λ (k : ℕ). suc k) (count-from phases (suc p) n)
