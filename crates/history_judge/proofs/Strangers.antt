-- Calls of processes from 1 to 32 alone.
use Rattle.std.proofs.Common.{◌≡◌, ℕ, Bool, true, List, [], ◌∷◌, Option, None, Some, refl, ap, sym, ◌∙◌, slice_get, if◌then◌else◌, nat_le, arith}
use Rattle.std.specs.List.{list_all}
use Rattle.std.proofs.lemmas.List.Folds.{list_all-map}
use Rattle.history_judge.specs.Fitting.{AllFit}
use Rattle.history_judge.specs.Fronts.{Return, front_by, front_or, front_part, had_returned, is_held, under_way}
use Rattle.history_judge.specs.Processes.{AreOfProcesses, is_process}
use Rattle.history_judge.specs.Seen.{AreSameCalls, SeenCall, seen_call}
use Rattle.history_judge.specs.declared.line.Called.{Called}
use Rattle.std.proofs.lemmas.Bool.{and_parts, and_from}

abbrev own : Called → Bool
own c = is_process c.process

-- the same for calls that look the same
pub of-processes-alike : (xs ys : List Called) → AreSameCalls xs ys → AreOfProcesses ys →
    AreOfProcesses xs
of-processes-alike xs ys same all =
    let seen : SeenCall → Bool = λ s. is_process s.process in
    sym (list_all-map seen seen_call xs) ∙ ap (list_all seen) same ∙
    list_all-map seen seen_call ys ∙ all

-- calls that a history can have
pub of-fitting : (calls : List Called) → AllFit calls → AreOfProcesses calls
of-fitting [] fits = refl
of-fitting (c ∷ calls) fits = and_from (own c) (list_all own calls) fits.0.process
    (of-fitting calls fits.1)

one-of : (returned began : Bool) (c : Called) (calls : List Called) → own c ≡ true →
    AreOfProcesses calls →
    AreOfProcesses (if returned then c ∷ calls else if began then under_way c ∷ calls else calls)
one-of returned began c calls is all = grind (arith, and_from)

front-of-processes : (moment : ℕ) (held : ℕ → Bool) (calls : List Called) → AreOfProcesses calls →
    AreOfProcesses (front_by moment held calls)
front-of-processes moment held [] all = refl
front-of-processes moment held (c ∷ calls) all =
    let parts = and_parts (own c) (list_all own calls) all in
    one-of (had_returned moment (held c.process) c.operation) (nat_le c.operation.begin moment) c
    (front_by moment held calls) parts.0
    (front-of-processes moment held calls parts.1)

front-or-of-processes : (calls : List Called) (last : Option Return) → AreOfProcesses calls →
    AreOfProcesses (front_or calls last)
front-or-of-processes calls None all = all
front-or-of-processes calls (Some last) all = front-of-processes last.0
    (λ p. is_held last p calls) calls all

-- of a prefix
pub part-of-processes : (calls : List Called) (returns : List Return) (number : ℕ) →
    AreOfProcesses calls → AreOfProcesses (front_part calls returns number)
part-of-processes calls returns number all = front-or-of-processes calls
    (slice_get returns number) all
