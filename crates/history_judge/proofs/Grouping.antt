-- The operations of the processes with one more call.
use Rattle.std.proofs.Common.{◌≡◌, ◌≢◌, ℕ, ◌+◌, ◌<◌, ◌==◌, Bool, false, List, [], ◌∷◌, ◌++◌, length, Some, refl, ap, sym, ◌∙◌, subst, arith, set, slice_get, if◌then◌else◌, Vec, append-nil, eq-eqb, rules, Global}
use Rattle.std.proofs.lemmas.Bool.{cases_eq, ne_eqb}
use Rattle.std.proofs.lemmas.Option.{slice_get_within}
use Rattle.histories.specs.declared.operation.Operation.{Operation}
use Rattle.histories.specs.Histories.{Histories}
use Rattle.history_judge.specs.Processes.{AreByProcess, operations_of}
use Rattle.history_judge.specs.declared.line.Called.{Called}
use Rattle.history_judge.proofs.Lists.{each-more, get-behind, get-other, get-same}
use Rattle.history_judge.specs.Descriptors.{no_numbers, renamed}

more : (b : Bool) (o : Operation) (xs ys zs : List Operation) → ys ≡ xs ++ zs →
    (if b then o ∷ ys else ys) ≡ (if b then o ∷ xs else xs) ++ zs
more b o xs ys zs e = grind arith

operations-more : (p : ℕ) (calls : List Called) (c : Called) →
    operations_of p (calls ++ c ∷ []) ≡ operations_of p calls ++
    (if c.process == p then c.operation ∷ [] else [])
operations-more p [] c = refl
operations-more p (d ∷ calls) c = grind (arith, more, operations-more p calls c)

operations-other : (p : ℕ) (calls : List Called) (c : Called) → (c.process == p) ≡ false →
    operations_of p (calls ++ c ∷ []) ≡ operations_of p calls
operations-other p calls c other = grind (arith, operations-more, append-nil)

-- a call of none of the processes
pub by_process-stranger : (calls : List Called) (histories : Histories) (c : Called) →
    ((index : ℕ) → index < length histories → c.process ≢ index + 1) →
    AreByProcess calls histories → AreByProcess (calls ++ c ∷ []) histories
by_process-stranger calls histories c stranger grouped index operations is =
    search (rules, slice_get_within, operations-other, ne_eqb)

-- a call of one of them
pub by_process-more : (calls : List Called) (histories : Histories) (c : Called) (at : ℕ)
    (old v : Vec Operation Global) → slice_get histories at ≡ Some old → c.process ≡ at + 1 →
    v.items ≡ old.items ++ c.operation ∷ [] → AreByProcess calls histories →
    AreByProcess (calls ++ c ∷ []) (set histories at v)
by_process-more calls histories c at old v was own added grouped index operations is =
    grind (
      arith,
      slice_get_within,
      cases_eq,
      get-same,
      eq-eqb,
      get-other,
      ne_eqb,
      operations-other,
      operations-more,
    )

-- the operations of the first processes by own numbers
abbrev pub AreOwn : List Called → Histories → Type 0
AreOwn calls histories =
    (index : ℕ) (operations : Vec Operation Global) → slice_get histories index ≡ Some operations →
    operations.items ≡ renamed no_numbers (operations_of (index + 1) calls)

pub own-more : (calls : List Called) (grouped histories done rest : Histories)
    (operations own : Vec Operation Global) → AreByProcess calls grouped →
    grouped ≡ done ++ operations ∷ rest → length histories ≡ length done →
    own.items ≡ renamed no_numbers operations.items → AreOwn calls histories →
    AreOwn calls (histories ++ own ∷ [])
own-more calls grouped histories done rest operations own by_process is count renames was =
    let at : slice_get grouped (length done) ≡ Some operations =
    subst (λ (xs : Histories). slice_get xs (length done) ≡ Some operations) (sym is)
    (get-behind done rest operations) in
    let here : operations.items ≡ operations_of (length done + 1) calls =
    by_process (length done) operations at in
    let last : own.items ≡ renamed no_numbers (operations_of (length histories + 1) calls) =
    renames ∙ ap (λ (os : List Operation). renamed no_numbers os) here ∙
    ap (λ n. renamed no_numbers (operations_of (n + 1) calls)) (sym count) in
    each-more (λ index (o : Vec Operation Global). o.items ≡ renamed no_numbers
    (operations_of (index + 1) calls)) histories own was last
