-- An explanation of a history also explains each history that looks the same.
use Rattle.std.proofs.lemmas.Bool.Decides.{nat_tests}
use Rattle.std.proofs.Common.{◌≡◌, ℕ, ◌+◌, ◌<◌, zero, suc, Bool, true, false, List, [], ◌∷◌, length, IfSome, Option, Some, None, is_none, nat_lt, refl, ap, sym, ◌∙◌, subst, slice_get, get_or, Vec, ◌⊎◌, arith, Global}
use Rattle.std.specs.Option.{option_and_then, option_map}
use Rattle.std.proofs.lemmas.Option.{slice_get-map, slice_get_within, slice_get-get_or}
use Rattle.mq_model.specs.Record.{Record, Past}
use Rattle.mq_model.specs.declared.entries.Call.TheVariants.{Collect}
use Rattle.mq_model.specs.declared.entries.Reply.{Reply}
use Rattle.mq_model.specs.declared.entries.Reply.TheVariants as reply
use Rattle.histories.specs.declared.operation.Operation.{Operation}
use Rattle.histories.specs.declared.operation.Outcome.TheVariants.{Done, Opened, Got, Notice, Refused}
use Rattle.histories.specs.Outcomes.{brings, completes, fits, is_notice, opens, refuses, shows}
use Rattle.histories.specs.Histories.{Histories, are_through, completed, current, current_of, is_complete, is_through, none_ended}
use Rattle.histories.specs.Linearizations.{ComesFrom, IsCallOf, IsLinearization, IsWithdrawalOf}
use Rattle.journal_format.specs.Text.{journal_text}
use Rattle.histories.proofs.RealTime.{linearization-agrees}
use Rattle.histories.specs.Contradiction.{IsContradiction}
use Rattle.histories.specs.declared.contradiction.Contradiction.{Contradiction}
use Rattle.history_judge.specs.Seen.{AreSameCalls, AreSameOperations, Seen, seen}
use Rattle.history_judge.specs.Verdicts.{AreHistoriesOf, Explains, HasContradiction, IsAnswer, IsExplainedBy, IsImpossible, UsesUp}
use Rattle.history_judge.specs.declared.line.Called.{Called}
use Rattle.history_judge.specs.declared.judgement.Answer.{Answer}
use Rattle.history_judge.specs.declared.judgement.Answer.TheVariants as answer
use Rattle.history_judge.proofs.Alike.{own_operations-alike, process_count-alike}

-- the current operations of two histories look the same
pub record AreAlike (a b : Histories) : Type 0 where
  pub count : length a ≡ length b
  pub current : (past : Past) (index : ℕ) → option_map seen (current_of a past index) ≡
      option_map seen (current_of b past index)

alike-item : (xs ys : List Operation) (k : ℕ) → AreSameOperations xs ys →
    option_map seen (slice_get xs k) ≡ option_map seen (slice_get ys k)
alike-item xs ys k same = sym (slice_get-map seen xs k) ∙ ap (λ (zs : List Seen). slice_get zs k)
    same ∙ slice_get-map seen ys k

no-process : (a b : Histories) (index : ℕ) (v : Vec Operation Global) → length a ≡ length b →
    slice_get a index ≡ None → slice_get b index ≡ Some v → ⊥
no-process a b index v count none some =
    let within : index < length b = slice_get_within b index v some in
    let here : index < length a = subst (λ n. index < n) (sym count) within in
    let read = slice_get-get_or a index v here in
    let e : None ≡ Some (get_or a index v) = sym none ∙ read in
    let no : ⊥ = cc in no

-- histories of the same calls
pub alike-of : (calls : List Called) (a b : Histories) → AreHistoriesOf calls a →
    AreHistoriesOf calls b → AreAlike a b
alike-of calls a b of_a of_b =
    let count : length a ≡ length b = of_a.count ∙ sym of_b.count in
    record {
      count = count;
      current = λ past index.
          let goes : (v w : Option (Vec Operation Global)) → slice_get a index ≡ v →
          slice_get b index ≡ w →
          option_map seen (option_and_then (current past index) v) ≡
          option_map seen (option_and_then (current past index) w) =
          λ (v w : Option (Vec Operation Global)). elim v as (λ v. slice_get a index ≡ v →
          slice_get b index ≡ w →
          option_map seen (option_and_then (current past index) v) ≡
          option_map seen (option_and_then (current past index) w)) [
            | None ↦ grind (arith, nat_tests, no-process)
            | Some x ↦ elim w as (λ w. slice_get a index ≡ Some x → slice_get b index ≡ w →
                option_map seen (current past index x) ≡
                option_map seen (option_and_then (current past index) w)) [
                  | None ↦ (λ e f. absurd (no-process b a index x (sym count) f e))
                  | Some y ↦ (λ e f. alike-item x.items y.items (completed past (index + 1))
                      (of_a.each index x e ∙ sym (of_b.each index y f)))
                ]
          ]
          in
          goes (slice_get a index) (slice_get b index) refl refl;
    }

-- what is asked of operations goes by what is seen of them ----------------------------------------

abbrev ended_seen : ℕ → Option Seen → Bool
ended_seen moment None = false
ended_seen moment (Some s) = nat_lt s.end moment

abbrev through_seen : Option Seen → Bool
through_seen None = true
through_seen (Some s) = is_none s.reply

through-is : (o : Option Operation) → is_through o ≡ through_seen (option_map seen o)
through-is o = grind arith

abbrev fits_seen : Past → Reply → Option Reply → List ℕ → Bool
fits_seen past r None message = true
fits_seen past r (Some reply.Done) message = completes past r
fits_seen past r (Some (reply.Opened d created)) message = opens r d
fits_seen past r (Some (reply.Got prio admitted notified)) message = brings past r prio message
fits_seen past r (Some (reply.Attrs status)) message = shows r status
fits_seen past r (Some (reply.Notice value)) message = is_notice r value
fits_seen past r (Some (reply.Refused fault)) message = refuses r fault
fits_seen past r (Some other) message = true

fits-alike : (past : Past) (r : Reply) (x y : Operation) → seen x ≡ seen y →
    fits past r x.outcome ≡ fits past r y.outcome
fits-alike past r x y same = grind arith

ended-alike : (a b : Histories) → AreAlike a b → (past : Past) (moment n : ℕ) →
    none_ended a past moment n ≡ none_ended b past moment n
ended-alike a b alike past moment zero = refl
ended-alike a b alike past moment (suc n) = grind (arith, ended-alike a b alike past moment n)

through-alike : (a b : Histories) → AreAlike a b → (past : Past) (n : ℕ) →
    are_through a past n ≡ are_through b past n
through-alike a b alike past zero = refl
through-alike a b alike past (suc n) = grind (arith, through-is, through-alike a b alike past n)

-- linearizations ----------------------------------------------------------------------------------

call-alike : (r : Record) (x y : Operation) → seen x ≡ seen y →
    (r.entry.call ≡ Collect) ⊎ (IsWithdrawalOf r x ⊎ IsCallOf r x) →
    (r.entry.call ≡ Collect) ⊎ (IsWithdrawalOf r y ⊎ IsCallOf r y)
call-alike r x y same h = grind arith

some-alike : (x : Operation) (o : Option Operation) → Some (seen x) ≡ option_map seen o →
    (y : Operation) × (o ≡ Some y) × (seen x ≡ seen y)
some-alike x None e = absurd (let no : ⊥ = cc in no)
some-alike x (Some y) e = (y, refl, (let h : seen x ≡ seen y = cc in h))

comes-alike : (a b : Histories) → AreAlike a b → (past : Past) (r : Record) → ComesFrom a past r →
    ComesFrom b past r
comes-alike a b alike past r from =
    let x = from.operation in
    let image : Some (seen x) ≡ option_map seen (current_of b past from.index) =
    sym (ap (option_map seen) from.is) ∙ alike.current past from.index in
    let found = some-alike x (current_of b past from.index) image in
    let y : Operation = found.0 in
    let same : seen x ≡ seen y = found.2 in
    let begin : x.begin ≡ y.begin = ap (λ (s : Seen). s.begin) same in
    record {
      index = from.index;
      process = from.process;
      operation = y;
      is = found.1;
      in_time = sym (ended-alike a b alike past y.begin (length b)) ∙
          ap (λ n. none_ended a past y.begin n) (sym alike.count)
          ∙ ap (λ m. none_ended a past m (length a)) (sym begin) ∙ from.in_time;
      fits = sym (fits-alike past r.entry.reply x y same) ∙ from.fits;
      call = call-alike r x y same from.call;
    }

linear-alike : (a b : Histories) → AreAlike a b → (past : Past) → IsLinearization a past →
    IsLinearization b past
linear-alike a b alike [] linear = tt
linear-alike a b alike (r ∷ past) linear = (
  linear-alike a b alike past linear.0,
  linear.1,
  comes-alike a b alike past r linear.2,
)

-- verdicts ----------------------------------------------------------------------------------------

-- if the histories of these calls have no linearization, the calls are not linearizable
pub is-impossible : (calls : List Called) (histories : Histories) → AreHistoriesOf calls histories →
    ((past : Past) → IsLinearization histories past → is_complete histories past ≡ false) →
    IsImpossible calls
is-impossible calls histories are nothing past e = grind (arith, alike-of, linear-alike)

-- if they have one, its text explains the calls
pub explained : (calls : List Called) (histories : Histories) (past : Past) (text : List ℕ) →
    AreHistoriesOf calls histories →
    IsLinearization histories past × (is_complete histories past ≡ true) →
    text ≡ journal_text past → IsExplainedBy calls text
explained calls histories past text are found written = record {
  past = past;
  explains = record { histories = histories; are = are; linear = found.0; complete = found.1 };
  real_time = λ ordered. linearization-agrees histories ordered past found.0;
  written = written;
}

histories-alike : (xs ys : List Called) → AreSameCalls xs ys → (histories : Histories) →
    AreHistoriesOf xs histories → AreHistoriesOf ys histories
histories-alike xs ys same histories are = record {
  count = are.count ∙ process_count-alike xs ys same;
  each = λ index operations is. are.each index operations is ∙ own_operations-alike
      (index + 1) xs ys same;
}

abbrev explains-alike : (xs ys : List Called) → AreSameCalls xs ys → (past : Past) →
    Explains xs past → Explains ys past
explains-alike xs ys same past e = record {
  histories = e.histories;
  are = histories-alike xs ys same e.histories e.are;
  linear = e.linear;
  complete = e.complete;
}

pub impossible-alike : (xs ys : List Called) → AreSameCalls xs ys → IsImpossible xs →
    IsImpossible ys
impossible-alike xs ys same none past e = none past (explains-alike ys xs (sym same) past e)

pub explained-alike : (xs ys : List Called) (text : List ℕ) → AreSameCalls xs ys →
    IsExplainedBy xs text → IsExplainedBy ys text
explained-alike xs ys text same by = record {
  past = by.past;
  explains = explains-alike xs ys same by.past by.explains;
  real_time = by.real_time;
  written = by.written;
}

-- what uses up the budget with these calls does so with calls that look the same
pub uses-up-alike : (budget : ℕ) (xs ys : List Called) → AreSameCalls xs ys → UsesUp budget xs →
    UsesUp budget ys
uses-up-alike budget xs ys same u = record {
  histories = u.histories;
  are = histories-alike xs ys same u.histories u.are;
  takes = u.takes;
}

pub contradiction-alike : (xs ys : List Called) → AreSameCalls xs ys → (histories : Histories) →
    AreHistoriesOf xs histories → (found : Option Contradiction) →
    IfSome found (IsContradiction histories) → IfSome found (HasContradiction ys)
contradiction-alike xs ys same histories are None is = is
contradiction-alike xs ys same histories are (Some e) is = record {
  histories = histories;
  are = histories-alike xs ys same histories are;
  contradiction = is;
}

pub answer-alike : (budget : ℕ) (xs ys : List Called) → AreSameCalls xs ys → (a : Answer) →
    IsAnswer budget xs a → IsAnswer budget ys a
answer-alike budget xs ys same (answer.Possible journal) is =
    explained-alike xs ys journal.items same is
answer-alike budget xs ys same answer.Impossible is = impossible-alike xs ys same is
answer-alike budget xs ys same answer.OutOfBudget is = uses-up-alike budget xs ys same is
