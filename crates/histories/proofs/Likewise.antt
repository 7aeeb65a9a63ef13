-- Equivalent stages remain equivalent under each choice.
use Rattle.std.proofs.lemmas.Bool.Decides.{nat_tests}
use Rattle.std.proofs.Common.{◌≡◌, ℕ, zero, suc, ◌+◌, ◌-◌, ◌==◌, Bool, true, false, not, ◌&&◌, List, [], ◌∷◌, length, Option, Some, None, refl, ap, sym, ◌∙◌, subst, arith, if◌then◌else◌}
use Rattle.std.specs.Option.{option_and_then, option_map}
use Rattle.std.proofs.lemmas.Bool.{and_parts, cases_lt}
use Rattle.std.proofs.lemmas.Option.{slice_get_within}
use Rattle.mq_model.specs.Record.{Past, Process}
use Rattle.mq_model.specs.Deadlines.{deadline_of}
use Rattle.mq_model.specs.Legality.{Legal, may_call, reply_to}
use Rattle.mq_model.specs.declared.entries.Call.{Call}
use Rattle.mq_model.specs.declared.entries.Call.TheVariants.{Collect, Withdraw}
use Rattle.mq_model.specs.declared.entries.Deadline.{Deadline}
use Rattle.mq_state.specs.Trails.{can_call, record_of_call}
use Rattle.histories.specs.OwnCalls.{ends_wait, made}
use Rattle.mq_state.proofs.Trails.{legal-of}
use Rattle.mq_equivalence.proofs.Calls.{can-alike}
use Rattle.mq_equivalence.specs.Equivalence.{Equivalent}
use Rattle.mq_equivalence.specs.Structure.{extended}
use Rattle.mq_equivalence.proofs.SameKeys.{same-key}
use Rattle.mq_equivalence.proofs.Runs.{steps-equivalent}
use Rattle.schedules.specs.Likeness.{AreBothAlike}
use Rattle.schedules.specs.Schedules.{IsReached}
use Rattle.schedules.proofs.Covering.{reach-start}
use Rattle.histories.specs.Outcomes.{fits}
use Rattle.histories.specs.Histories.{Histories, are_through, current_of, in_time, none_ended, with_end, with_fitting, with_operation, with_withdrawal}
use Rattle.histories.specs.Likeness.{AreStagesAlike, HaveBegunAlike, IsStageKey, counts_then}
use Rattle.histories.specs.Linearizations.{IsLinearization}
use Rattle.histories.specs.Stage.{Stage, first_stage, is_linearized, next_stage, with_past}
use Rattle.histories.specs.StageLaws.{next-first}
use Rattle.histories.specs.declared.operation.Operation.{Operation}
use Rattle.histories.specs.declared.operation.Outcome.{Outcome}
use Rattle.histories.proofs.Fitting.{fits-alike, shape-same}
use Rattle.histories.proofs.Linearizing.{schedule-makes-linearization}

-- how far the processes are -----------------------------------------------------------------------

current-alike : (histories : Histories) (x y : Past) (index : ℕ) → Equivalent x y →
    HaveBegunAlike (length histories) x y →
    current_of histories y index ≡ current_of histories x index
current-alike histories x y index alike begun = grind (arith, slice_get_within)

none-ended-alike : (histories : Histories) (x y : Past) (moment n : ℕ) → Equivalent x y →
    HaveBegunAlike (length histories) x y →
    none_ended histories y moment n ≡ none_ended histories x moment n
none-ended-alike histories x y moment zero alike begun = refl
none-ended-alike histories x y moment (suc n) alike begun =
    grind (arith, current-alike, none-ended-alike histories x y moment n alike begun)

through-alike : (histories : Histories) (x y : Past) (n : ℕ) → Equivalent x y →
    HaveBegunAlike (length histories) x y → are_through histories y n ≡ are_through histories x n
through-alike histories x y zero alike begun = refl
through-alike histories x y (suc n) alike begun =
    grind (arith, current-alike, through-alike histories x y n alike begun)

-- a call ------------------------------------------------------------------------------------------

record GrownAlike (n : ℕ) (x y : Past) : Type 0 where
  begun : HaveBegunAlike n x y
  journals : Equivalent x y

call-alike : (x y : Past) (n index : ℕ) (call : Call) (given : List ℕ) → Equivalent x y →
    HaveBegunAlike n x y →
    can_call x (index + 1) call given ≡ true →
    GrownAlike n (record_of_call x (index + 1) call given ∷ x)
    (record_of_call y (index + 1) call given ∷ y)
call-alike x y n index call given alike begun can_x =
    let p = index + 1 in
    record {
      begun = λ i below. ap (λ (k : ℕ). if (p == i + 1) && not (ends_wait call) then k + 1 else k)
          (begun i below);
      journals = record {
        to = extended alike.to (length x) (length y);
        equivalent = (steps-equivalent alike.to x y alike.equivalent p call given).next
            (legal-of x p call given can_x);
      };
    }

may-of : (past : Past) (p : Process) (call : Call) (given : List ℕ) →
    can_call past p call given ≡ true → may_call past p call ≡ true
may-of past p call given can = let one = and_parts _ _ can in let two = and_parts _ _ one.0 in two.1

fitting-alike : (x y : Past) (n index : ℕ) (outcome : Outcome) (call : Call) (given : List ℕ) →
    Equivalent x y → HaveBegunAlike n x y →
    AreBothAlike (GrownAlike n) (with_fitting x index outcome call given)
    (with_fitting y index outcome call given)
fitting-alike x y n index outcome call given alike begun =
    let p = index + 1 in
    let to = alike.to in
    let steps = steps-equivalent to x y alike.equivalent p call given in
    let longer : Past → Bool → Option Past = λ past can. if can
    then Some (record_of_call past p call given ∷ past) else None in
    let after : Past → Bool → Bool → Option Past = λ past fit can. if fit
    then longer past can else None in
    let by_fit : (f g : Bool) → g ≡ f → can_call x p call given ≡ true →
    AreBothAlike (GrownAlike n) (after x f true) (after y g true) =
    λ (f g : Bool). elim f as (λ f. g ≡ f → can_call x p call given ≡ true → AreBothAlike
    (GrownAlike n) (after x f true) (after y g true)) [
      | true ↦ (elim g as (λ g. g ≡ true → can_call x p call given ≡ true → AreBothAlike
          (GrownAlike n) (after x true true) (after y g true)) [
            | true ↦ (λ e can_x. call-alike x y n index call given alike begun can_x)
            | false ↦
                (λ e can_x. absurd (cc))
          ])
      | false ↦ (elim g as (λ g. g ≡ false → can_call x p call given ≡ true → AreBothAlike
          (GrownAlike n) (after x false true) (after y g true))
          [ true ↦ (λ e can_x. absurd (cc)) | false ↦ (λ e can_x. tt) ])
    ]
    in
    let neither : (f g : Bool) → AreBothAlike (GrownAlike n) (after x f false) (after y g false) =
    λ (f g : Bool). elim f as (λ f. AreBothAlike (GrownAlike n) (after x f false) (after y g false)) [
      | true ↦ (elim g as (λ g. AreBothAlike (GrownAlike n) (after x true false) (after y g false))
          [ true ↦ tt | false ↦ tt ])
      | false ↦ (elim g as (λ g. AreBothAlike (GrownAlike n) (after x false false)
          (after y g false)) [ true ↦ tt | false ↦ tt ])
    ]
    in
    let fit_x = fits x (reply_to x p call given) outcome in
    let fit_y = fits y (reply_to y p call given) outcome in
    let by_can : (b c : Bool) → can_call x p call given ≡ b → can_call y p call given ≡ c → c ≡ b →
    AreBothAlike (GrownAlike n) (after x fit_x b) (after y fit_y c) =
    grind (arith, nat_tests, fits-alike, may-of)
    in
    by_can (can_call x p call given) (can_call y p call given) refl refl
    (can-alike x y p call given steps.turn (shape-same to x y p call given steps))

-- an operation ------------------------------------------------------------------------------------

withdrawal-alike : (x y : Past) (n index : ℕ) (outcome : Outcome) (deadline : Option Deadline) →
    Equivalent x y → HaveBegunAlike n x y →
    AreBothAlike (GrownAlike n) (with_withdrawal x index outcome deadline)
    (with_withdrawal y index outcome deadline)
withdrawal-alike x y n index outcome None alike begun = tt
withdrawal-alike x y n index outcome (Some until) alike begun = fitting-alike x y n index outcome
    (Withdraw until) [] alike begun

end-alike : (x y : Past) (n index : ℕ) (operation : Operation) → Equivalent x y →
    HaveBegunAlike n x y →
    AreBothAlike (GrownAlike n) (with_end x index operation) (with_end y index operation)
end-alike x y n index operation alike begun =
    let p = index + 1 in
    let ends : Past → Bool → Option Past = λ past b. if b
    then with_fitting past index operation.outcome Collect []
    else with_withdrawal past index operation.outcome (deadline_of operation.call) in
    let goes : (b : Bool) → AreBothAlike (GrownAlike n) (ends x b) (ends y b) =
    λ (b : Bool). elim b as (λ b. AreBothAlike (GrownAlike n) (ends x b) (ends y b)) [
      | true ↦ fitting-alike x y n index operation.outcome Collect [] alike begun
      | false ↦ withdrawal-alike x y n index operation.outcome
          (deadline_of operation.call) alike begun
    ]
    in
    let P : Bool →
    Type 0 = λ b. AreBothAlike (GrownAlike n) (ends x (can_call x p Collect [])) (ends y b) in
    let steps = steps-equivalent alike.to x y alike.equivalent p Collect [] in
    subst P (sym (can-alike x y p Collect [] steps.turn (shape-same alike.to x y p Collect []
    steps))) (goes (can_call x p Collect []))

operation-alike : (x y : Past) (n index : ℕ) (operation : Operation) → Equivalent x y →
    HaveBegunAlike n x y →
    AreBothAlike (GrownAlike n) (with_operation x index operation)
    (with_operation y index operation)
operation-alike x y n index operation alike begun = grind (arith, fitting-alike, end-alike)

-- a step ------------------------------------------------------------------------------------------

timely-alike : (histories : Histories) (x y : Past) (index : ℕ) (o : Option Operation) →
    Equivalent x y → HaveBegunAlike (length histories) x y →
    AreBothAlike (GrownAlike (length histories)) (option_and_then (in_time histories x index) o)
    (option_and_then (in_time histories y index) o)
timely-alike histories x y index None alike begun = tt
timely-alike histories x y index (Some operation) alike begun =
    let n = length histories in
    let timed : Past → Bool → Option Past = λ past b. if b then with_operation past index operation
    else None in
    let goes : (b : Bool) → AreBothAlike (GrownAlike n) (timed x b) (timed y b) =
    λ (b : Bool). elim b as (λ b. AreBothAlike (GrownAlike n) (timed x b) (timed y b)) [
      | true ↦
          operation-alike x y n index operation alike begun
      | false ↦ tt
    ]
    in
    let P : Bool →
    Type 0 = λ b. AreBothAlike (GrownAlike n)
    (timed x (none_ended histories x operation.begin n)) (timed y b) in
    subst P (sym (none-ended-alike histories x y operation.begin n alike begun))
    (goes (none_ended histories x operation.begin n))

stages-of : (s : Stage) (past : Past) (o q : Option Past) →
    AreBothAlike (GrownAlike (length s.histories)) o q →
    AreBothAlike AreStagesAlike (option_map (with_past s) o)
    (option_map (with_past (with_past s past)) q)
stages-of s past o q alike = grind arith

pub stages-next : (x y : Stage) (index : ℕ) → AreStagesAlike x y →
    AreBothAlike AreStagesAlike (next_stage x index) (next_stage y index)
stages-next x y index alike = grind (arith, stages-of, current-alike, timely-alike)

pub stages-goal : (x y : Stage) → AreStagesAlike x y → is_linearized x ≡ is_linearized y
stages-goal x y alike = sym (through-alike x.histories x.past y.past (length x.histories)
    alike.journals alike.begun) ∙ ap is_linearized (sym alike.differ)

-- keys --------------------------------------------------------------------------------------------

-- two lists of counts, and what follows them
counts-tell : (x y : Past) (n : ℕ) (u v : List ℕ) → counts_then x n u ≡ counts_then y n v →
    HaveBegunAlike n x y × (u ≡ v)
counts-tell x y zero u v e = ((λ index below. absurd (omega arith)), e)
counts-tell x y (suc n) u v e = grind (
  arith,
  cases_lt,
  counts-tell x y n (made x (n + 1) ∷ u)
      (made y (n + 1) ∷ v) e,
)

linear-legal : (histories : Histories) (past : Past) → IsLinearization histories past → Legal past
linear-legal histories [] linear = tt
linear-legal histories (r ∷ past) linear = (linear-legal histories past linear.0, linear.1)

-- stages that are reached from one, and have one key
pub stages-key : (from x y : Stage) (key : List ℕ) → IsReached next_stage (first_stage from) x →
    IsReached next_stage (first_stage from) y → IsStageKey x key → IsStageKey y key →
    AreStagesAlike x y
stages-key from x y key to_x to_y key_x key_y =
    let first : first_stage y ≡ first_stage x =
    reach-start next_stage first_stage next-first to_y.0 (first_stage from) y to_y.1 ∙
    sym (reach-start next_stage first_stage next-first to_x.0 (first_stage from) x to_x.1)
    in
    grind (arith, nat_tests, linear-legal, schedule-makes-linearization, counts-tell, same-key)
