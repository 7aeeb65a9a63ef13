use Rattle.std.proofs.Common.{◌≡◌, ◌∙◌, ℕ, Err, List, Result, Vec, ap, length, subst, sym, Global}
use Rattle.history_judge.specs.Processes.{AreOfProcesses}
use Rattle.history_judge.specs.Said.{judgement_text}
use Rattle.history_judge.specs.Verdicts.{IsJudgement}
use Rattle.history_judge.specs.declared.line.Called.{Called}
use Rattle.history_judge.proofs.Strangers.{of-fitting}
use Rattle.journal_format.specs.declared.fault.JournalFault.{JournalFault}
use Rattle.journal_format.specs.declared.fault.JournalFault.TheVariants as journal
use Rattle.history_judge.specs.WellFormed.{IsFirstFault, IsWellFormed}
use Rattle.history_judge.specs.declared.well_formed.IllFormed.{IllFormed}
use Rattle.journal_tasks.specs.Judged.{budget_for}
use Rattle.journal_tasks.specs.LogFault.{of_journal_fault}
use Rattle.journal_tasks.specs.declared.fault.LogFault.TheVariants.{NoMemory, IllFormed as OfForm}
use Rattle.journal_tasks.proofs.Naming.{named_line}
use Rattle.journal_tasks.proofs.judge.judge_history.Goals as goal

-- no other error says that a history is ill-formed
journal-well_formed : (fault : JournalFault) (line : ℕ) (why : IllFormed) →
    OfForm line why ≡ of_journal_fault fault → ⊥
journal-well_formed (journal.BadLine at) line why is = cc
journal-well_formed journal.Input line why is = cc
journal-well_formed journal.NoMemory line why is = cc

pub returns-in_err-calls-clause-ill_formed : goal.returns-in_err-calls-clause-ill_formed
returns-in_err-calls-clause-ill_formed g c = λ all line why known bad.
    absurd (journal-well_formed c.in_err-calls.field-0.0 line why
    (rw bad at c.from_residual.ensures.1))

pub returns-in_err-judgement-clause-ill_formed : goal.returns-in_err-judgement-clause-ill_formed
returns-in_err-judgement-clause-ill_formed g c = λ all line why known bad.
    absurd (let no : OfForm line why ≡
    NoMemory = rw bad at c.from_residual-in_err-judgement.ensures.1 in cc)

pub returns-in_err-said-clause-ill_formed : goal.returns-in_err-said-clause-ill_formed
returns-in_err-said-clause-ill_formed g c = λ all line why known bad.
    absurd (let no : OfForm line why ≡ NoMemory = rw bad at c.from_residual-in_err-said.ensures.1 in
    cc)

pub returns-in-Some-clause-ill_formed : goal.returns-in-Some-clause-ill_formed
returns-in-Some-clause-ill_formed g c = λ all line why known bad.
    let calls = c.in_ok-calls.calls.items in
    let first = rw c.in-Some.is at c.first_fault.ensures.some in
    let of_calls : IsFirstFault calls c.in-Some.line c.in-Some.why =
    subst (λ (cs : List Called). IsFirstFault cs c.in-Some.line c.in-Some.why)
    c.deref.ensures.value first in
    let same_line : c.in-Some.line ≡ line = cc in
    let same_why : c.in-Some.why ≡ why = cc in
    record {
      calls = calls;
      text = c.in_ok-calls.ensures.found all known;
      fits = c.in_ok-calls.ensures.fits;
      first = subst (λ (w : IllFormed). IsFirstFault calls line w) same_why
          (subst (λ (n : ℕ). IsFirstFault calls n c.in-Some.why) same_line of_calls);
    }

pub first_fault-requires : goal.first_fault-requires
first_fault-requires g c =
    let calls = c.in_ok-calls.calls.items in
    subst (λ (cs : List Called). AreOfProcesses cs) (sym c.deref.ensures.value)
    (of-fitting calls c.in_ok-calls.ensures.fits)

pub judge_calls-requires : goal.judge_calls-requires
judge_calls-requires g c =
    let calls = c.in_ok-calls.calls.items in
    subst (λ (cs : List Called). AreOfProcesses cs) (sym c.deref-2.ensures.value)
    (of-fitting calls c.in_ok-calls.ensures.fits)

pub returns-in_err-write_all-clause-output : goal.returns-in_err-write_all-clause-output
returns-in_err-write_all-clause-output g c = λ all known failed.
    let calls = c.in_ok-calls.calls.items in
    let judgement = c.in_ok-judgement.judgement in
    let budget : c.budget_for-budget.result ≡ budget_for c.args.question.budget (length calls) =
    c.budget_for-budget.ensures ∙ ap (λ n. budget_for c.args.question.budget n) (c.len.ensures ∙
    c.in_ok-calls.calls.ok.0) in
    let said : c.as_slice.result.now ≡ judgement_text calls (budget_for c.args.question.budget
    (length calls)) c.args.question.journal judgement =
    c.as_slice.ensures.value ∙ c.in_ok-said.ensures ∙
    ap (λ (cs : List Called). judgement_text cs c.budget_for-budget.result
    c.args.question.journal judgement) c.deref-3.ensures.value
    ∙ ap (λ n. judgement_text calls n c.args.question.journal judgement) budget in
    record {
      calls = calls;
      judgement = judgement;
      judged = record {
        text = c.in_ok-calls.ensures.found all known;
        fits = c.in_ok-calls.ensures.fits;
        formed = subst (λ (cs : List Called). IsWellFormed cs) c.deref.ensures.value
            (c.first_fault.ensures.none c.in_default.is);
        judges = subst (λ n. IsJudgement n calls judgement) budget
            (subst (λ (cs : List Called). IsJudgement c.budget_for-budget.result cs judgement)
            c.deref-2.ensures.value c.in_ok-judgement.ensures);
      };
      written = rw said at c.in_err-write_all.ensures.failed;
    }

pub returns-in_err-calls-clause-bad_line : goal.returns-in_err-calls-clause-bad_line
returns-in_err-calls-clause-bad_line g c = λ all line known bad.
    let named : ◌≡◌ {A = Result (Vec Called Global) JournalFault} (Err c.in_err-calls.field-0.0)
    (Err (journal.BadLine line)) =
    ap (λ fault. Err fault) (named_line c.in_err-calls.field-0.0 line
    (rw bad at c.from_residual.ensures.1)) in
    c.in_err-calls.ensures.bad_line all line known named
