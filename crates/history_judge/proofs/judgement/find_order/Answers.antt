use Rattle.std.proofs.Common.{◌≡◌, [], true, false, ap, ◌∙◌, subst, refl}
use Rattle.mq_model.specs.Record.{Past}
use Rattle.journal_format.specs.Text.{journal_text}
use Rattle.histories.specs.Histories.{Histories, is_complete}
use Rattle.histories.specs.Linearizations.{IsLinearization}
use Rattle.histories.specs.Stage.{Stage}
use Rattle.histories.specs.Judgements.{TakesAllOrders}
use Rattle.history_judge.proofs.Pending.{not-pending}
use Rattle.history_judge.proofs.Transport.{explained, is-impossible}
use Rattle.history_judge.proofs.judgement.find_order.Goals as goal

pub returns-in-Found-clause-answer : goal.returns-in-Found-clause-answer
returns-in-Found-clause-answer c =
    let past : Past = c.judge.new.linearizer.past in
    let found = rw c.in-Found.is at c.in_ok-judge.ensures.found in
    let same : c.in_ok-linearizer.linearizer.histories ≡ c.in_ok-histories.histories.items =
    ap (λ (s : Stage). s.histories) c.in_ok-linearizer.ensures in
    explained c.args.calls.items c.in_ok-histories.histories.items past
    c.in_ok-journal-in-Found.journal.items c.in_ok-histories.ensures.are
    (subst (λ (h : Histories). IsLinearization h past × (is_complete h past ≡ true)) same found)
    (c.in_ok-journal-in-Found.ensures.text ∙ ap journal_text c.journal.ensures)

pub returns-in-Some-clause-answer : goal.returns-in-Some-clause-answer
returns-in-Some-clause-answer c =
    let none = rw c.in-Some.is at c.in_ok-reason.ensures.none in
    is-impossible c.args.calls.items c.in_ok-histories.histories.items c.in_ok-histories.ensures.are
    (none refl)

pub returns-in-Some-clause-returned : goal.returns-in-Some-clause-returned
returns-in-Some-clause-returned c is =
    let none = rw c.in-Some.is at c.in_ok-reason.ensures.none in
    not-pending c.args.calls.items c.in_ok-histories.histories.items c.in_ok-histories.ensures.are
    (none refl [] tt)

pub returns-in-Nothing-clause-answer : goal.returns-in-Nothing-clause-answer
returns-in-Nothing-clause-answer c =
    let none = c.judge.ensures.nothing (rw c.in-Nothing.is at c.in_ok-judge.was) in
    let same : c.in_ok-linearizer.linearizer.histories ≡ c.in_ok-histories.histories.items =
    ap (λ (s : Stage). s.histories) c.in_ok-linearizer.ensures in
    is-impossible c.args.calls.items c.in_ok-histories.histories.items c.in_ok-histories.ensures.are
    (subst (λ (h : Histories). (past : Past) → IsLinearization h past → is_complete h past ≡
    false) same none)

pub returns-in-Nothing-clause-returned : goal.returns-in-Nothing-clause-returned
returns-in-Nothing-clause-returned c is =
    let none = c.judge.ensures.nothing (rw c.in-Nothing.is at c.in_ok-judge.was) in
    let same : c.in_ok-linearizer.linearizer.histories ≡ c.in_ok-histories.histories.items =
    ap (λ (s : Stage). s.histories) c.in_ok-linearizer.ensures in
    let not_complete : is_complete c.in_ok-histories.histories.items [] ≡ false =
    subst (λ (h : Histories). (past : Past) → IsLinearization h past → is_complete h past ≡
    false) same none [] tt
    in
    not-pending c.args.calls.items c.in_ok-histories.histories.items c.in_ok-histories.ensures.are
    not_complete

pub returns-clause-answer : goal.returns-clause-answer
returns-clause-answer c =
    let takes = c.judge.ensures.used_up (rw c.in-OutOfBudget.is at c.in_ok-judge.was) in
    let same : c.in_ok-linearizer.linearizer.histories ≡ c.in_ok-histories.histories.items =
    ap (λ (s : Stage). s.histories) c.in_ok-linearizer.ensures in
    record {
      histories = c.in_ok-histories.histories.items;
      are = c.in_ok-histories.ensures.are;
      takes = subst (λ (h : Histories). TakesAllOrders c.args.budget h) same takes;
    }
