-- Calls that look the same as well-formed ones are well-formed.
use Rattle.std.proofs.Common.{◌≡◌, ◌∙◌, ◌<◌, ◌^◌, ℕ, zero, suc, Bool, true, false, All, List, [], ◌∷◌, map, Option, None, Some, slice_get, if◌then◌else◌, refl, sym, subst, ap, arith}
use Rattle.std.specs.Prelude.{nat_le}
use Rattle.std.specs.Option.{option_and_then, option_map}
use Rattle.std.proofs.lemmas.Option.{slice_get-map}
use Rattle.journal_format.specs.Fitting.{CallFits}
use Rattle.histories.specs.Histories.{is_pending}
use Rattle.histories.specs.declared.operation.Outcome.{Outcome}
use Rattle.history_judge.specs.Fitting.{AllFit, Fits, OutcomeFits}
use Rattle.history_judge.specs.Fronts.{Return, front_by, front_or, front_part, had_returned, is_held, under_way}
use Rattle.history_judge.specs.Processes.{is_process}
use Rattle.history_judge.specs.Seen.{AreSameCalls, SeenCall, seen_call}
use Rattle.history_judge.specs.Text.{message_of, written_reply}
use Rattle.history_judge.specs.WellFormed.{IsWellFormed, LatestMoments, fault_behind, fault_of, has_pending, is_pending_by, latest, moment_by}
use Rattle.history_judge.specs.declared.line.Called.{Called}
use Rattle.history_judge.proofs.Forming.{front-until-formed}

-- ---- calls that look the same

at-alike : (xs ys : List Called) (n : ℕ) → AreSameCalls xs ys →
    option_map seen_call (slice_get xs n) ≡ option_map seen_call (slice_get ys n)
at-alike xs ys n same = sym (slice_get-map seen_call xs n) ∙
    ap (λ (zs : List SeenCall). slice_get zs n) same ∙ slice_get-map seen_call ys n

pending-alike : (o d : Outcome) → written_reply o ≡ written_reply d → is_pending o ≡ is_pending d
pending-alike o d same = grind arith

begin-alike : (p : ℕ) (a b : Option Called) → option_map seen_call a ≡ option_map seen_call b →
    moment_by (λ o. o.begin) p a ≡ moment_by (λ o. o.begin) p b
begin-alike p a b same = grind arith

end-alike : (p : ℕ) (a b : Option Called) → option_map seen_call a ≡ option_map seen_call b →
    moment_by (λ o. o.end) p a ≡ moment_by (λ o. o.end) p b
end-alike p a b same = grind arith

pending-by-alike : (p : ℕ) (a b : Option Called) → option_map seen_call a ≡ option_map seen_call b →
    is_pending_by p a ≡ is_pending_by p b
pending-by-alike p a b same = grind (arith, pending-alike)

begins-alike : (xs ys : List Called) (p n : ℕ) → AreSameCalls xs ys →
    latest (λ o. o.begin) xs p n ≡ latest (λ o. o.begin) ys p n
begins-alike xs ys p zero same = refl
begins-alike xs ys p (suc n) same = rw (
  begins-alike xs ys p n same,
  begin-alike p (slice_get xs n)
      (slice_get ys n) (at-alike xs ys n same),
) refl

ends-alike : (xs ys : List Called) (p n : ℕ) → AreSameCalls xs ys →
    latest (λ o. o.end) xs p n ≡ latest (λ o. o.end) ys p n
ends-alike xs ys p zero same = refl
ends-alike xs ys p (suc n) same = rw (
  ends-alike xs ys p n same,
  end-alike p (slice_get xs n)
      (slice_get ys n) (at-alike xs ys n same),
) refl

has-pending-alike : (xs ys : List Called) (p n : ℕ) → AreSameCalls xs ys →
    has_pending xs p n ≡ has_pending ys p n
has-pending-alike xs ys p zero same = refl
has-pending-alike xs ys p (suc n) same = rw (
  has-pending-alike xs ys p n same,
  pending-by-alike p
      (slice_get xs n) (slice_get ys n) (at-alike xs ys n same),
) refl

fault-alike : (pending : Bool) (before : LatestMoments) (c d : Called) → seen_call c ≡ seen_call d →
    fault_behind pending before c ≡ fault_behind pending before d
fault-alike pending before c d same = let one = pending-alike c.operation.outcome
    d.operation.outcome (ap (λ (s : SeenCall). s.operation.reply) same) in grind arith

fault-of-alike : (xs ys : List Called) (n : ℕ) (c d : Called) → AreSameCalls xs ys →
    seen_call c ≡ seen_call d → fault_of xs n c ≡ fault_of ys n d
fault-of-alike xs ys n c d same one =
    let process : c.process ≡ d.process = ap (λ (s : SeenCall). s.process) one in
    rw (
      has-pending-alike xs ys c.process n same,
      begins-alike xs ys c.process n same,
      ends-alike xs ys c.process n same,
      process,
    )
    (fault-alike (has_pending ys d.process n)
    (record {
      begin = latest (λ o. o.begin) ys d.process n;
      end = latest (λ o. o.end) ys d.process n;
    }) c d one)

fault-at-alike : (xs ys : List Called) (n : ℕ) (a b : Option Called) → AreSameCalls xs ys →
    option_map seen_call a ≡ option_map seen_call b →
    option_and_then (fault_of xs n) a ≡ option_and_then (fault_of ys n) b
fault-at-alike xs ys n None None same one = refl
fault-at-alike xs ys n None (Some d) same one = absurd (let no : ⊥ = cc in no)
fault-at-alike xs ys n (Some c) None same one = absurd (let no : ⊥ = cc in no)
fault-at-alike xs ys n (Some c) (Some d) same one = fault-of-alike xs ys n c d same
    (let is : seen_call c ≡ seen_call d = cc in is)

formed-alike : (xs ys : List Called) → AreSameCalls xs ys → IsWellFormed ys → IsWellFormed xs
formed-alike xs ys same formed n = fault-at-alike xs ys n (slice_get xs n) (slice_get ys n) same
    (at-alike xs ys n same) ∙ formed n

-- ---- their numbers fit

outcome-fits-alike : (o d : Outcome) → written_reply o ≡ written_reply d →
    message_of o ≡ message_of d → OutcomeFits d → OutcomeFits o
outcome-fits-alike o d reply message fits = grind arith

fits-alike : (c d : Called) → seen_call c ≡ seen_call d → Fits d → Fits c
fits-alike c d same fits =
    let back : seen_call d ≡ seen_call c = sym same in
    let pending = pending-alike c.operation.outcome d.operation.outcome
    (ap (λ (s : SeenCall). s.operation.reply) same) in
    record {
      process = ap (λ (s : SeenCall). is_process s.process) same ∙ fits.process;
      begin = subst (λ (s : SeenCall). s.operation.begin < 2 ^ 64) back fits.begin;
      end = subst (λ (s : SeenCall). s.operation.end < 2 ^ 64) back fits.end;
      call = subst (λ (s : SeenCall). CallFits s.operation.call) back fits.call;
      given = subst (λ (s : SeenCall). All (λ b. b < 256) s.operation.given) back fits.given;
      outcome = outcome-fits-alike c.operation.outcome d.operation.outcome
          (ap (λ (s : SeenCall). s.operation.reply) same)
          (ap (λ (s : SeenCall). s.operation.message) same) fits.outcome;
      pending = λ is. ap (λ (s : SeenCall). s.operation.end) same ∙ fits.pending (sym pending ∙ is);
    }

all-fit-alike : (xs ys : List Called) → AreSameCalls xs ys → AllFit ys → AllFit xs
all-fit-alike [] [] same fits = tt
all-fit-alike [] (d ∷ ys) same fits = tt
all-fit-alike (c ∷ xs) [] same fits = absurd (let no : ⊥ = cc in no)
all-fit-alike (c ∷ xs) (d ∷ ys) same fits = (
  fits-alike c d (let one : seen_call c ≡ seen_call d = cc in one) fits.0,
  all-fit-alike xs ys (let rest : map seen_call xs ≡ map seen_call ys = cc in rest) fits.1,
)

-- ---- those of a prefix

under-way-fits : (c : Called) → Fits c → Fits (under_way c)
under-way-fits c fits = record {
  process = fits.process;
  begin = fits.begin;
  end = omega arith;
  call = fits.call;
  given = fits.given;
  outcome = tt;
  pending = λ is. refl;
}

one-fits : (returned begun : Bool) (c : Called) (front : List Called) → Fits c → AllFit front →
    AllFit (if returned then c ∷ front else if begun then under_way c ∷ front else front)
one-fits true begun c front fits rest = (fits, rest)
one-fits false true c front fits rest = (under-way-fits c fits, rest)
one-fits false false c front fits rest = rest

front-fits : (moment : ℕ) (held : ℕ → Bool) (calls : List Called) → AllFit calls →
    AllFit (front_by moment held calls)
front-fits moment held [] fits = tt
front-fits moment held (c ∷ calls) fits =
    one-fits (had_returned moment (held c.process) c.operation) (nat_le c.operation.begin moment) c
    (front_by moment held calls) fits.0 (front-fits moment held calls fits.1)

part-formed : (calls : List Called) (last : Option Return) → AllFit calls → IsWellFormed calls →
    AllFit (front_or calls last) × IsWellFormed (front_or calls last)
part-formed calls None fits formed = (fits, formed)
part-formed calls (Some last) fits formed = (
  front-fits last.0 (λ p. is_held last p calls) calls fits,
  front-until-formed last
      calls fits formed,
)

-- a prefix of a well-formed history is well-formed, and the numbers of its calls fit
pub front-is-formed : (front calls : List Called) (returns : List Return) (number : ℕ) →
    AreSameCalls front (front_part calls returns number) →
    AllFit calls → IsWellFormed calls → AllFit front × IsWellFormed front
front-is-formed front calls returns number same fits formed =
    let part = part-formed calls (slice_get returns number) fits formed in (
      all-fit-alike front (front_part calls returns number) same part.0,
      formed-alike front
          (front_part calls returns number) same part.1,
    )
