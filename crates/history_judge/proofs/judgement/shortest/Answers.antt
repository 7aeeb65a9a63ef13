use Rattle.std.proofs.Common.{rules, arith, ◌≡◌, ◌≤◌, ◌<◌, ℕ, ◌+◌, ◌-◌, true, false, Some, length, min, refl, sym, ◌∙◌, subst, slice_get}
use Rattle.std.proofs.lemmas.Grind.{common_steps}
use Rattle.std.proofs.lemmas.Option.{slice_get_read}
use Rattle.history_judge.specs.Fronts.{Return, front_part}
use Rattle.history_judge.specs.Verdicts.{IsImpossible, UsesUp}
use Rattle.history_judge.proofs.Copies.{front-is-formed}
use Rattle.history_judge.proofs.Narrowing.{impossible-part, impossible-whole, possible-before, used-up-at}
use Rattle.history_judge.proofs.judgement.shortest.Goals.{in-Impossible, in-Possible, in-OutOfBudget}
use Rattle.history_judge.proofs.Pending.{has-return}
use Rattle.history_judge.proofs.judgement.shortest.Goals as goal

pub loop-good-init : goal.loop-good-init
loop-good-init c =
    let all : length c.in_ok-returns.returns.items ≤ c.len-bad.result = search rules in
    record {
      order = omega arith;
      within = search rules;
      impossible = impossible-whole c.args.calls.now c.in_ok-returns.returns.items c.len-bad.result
          all c.requires.impossible;
      shortest = λ t before next. absurd (omega (arith, next));
      unsure = λ f. absurd (cc);
    }

pub loop-good-preserved-after-answer : goal.loop-good-preserved-after-answer
loop-good-preserved-after-answer c =
    let was = c.loop-good.invariant in let calls = c.args.calls.now in let returns =
    c.in_ok-returns.returns.items in
    let middle : ℕ = c.next_to_try-middle.result in
    let from : c.loop-good.good ≤ middle = c.next_to_try-middle.ensures.0 in
    let to : middle < c.loop-good.bad = c.next_to_try-middle.ensures.1 in
    elim c.match-answer.branch [
      | in-Impossible w ↦ record {
        order = omega (arith, w.good-is, w.bad-is, from);
        within = omega (arith, w.bad-is, to, was.within);
        impossible = impossible-part c.front_budget-share.result calls returns middle
            c.match-answer.bad c.in_ok-answer.answer w.in-Impossible.is
            c.in_ok-answer.ensures w.bad-is;
        shortest = λ t before next. was.shortest (sym w.is_shortest-is ∙ t) before
            (next ∙ w.good-is);
        unsure = λ f. let old = was.unsure (sym w.is_shortest-is ∙ f) in let below = old.1 in
            (old.0, omega (arith, below, w.good-is), old.2);
      }
      | in-Possible w ↦ record {
        order = omega (arith, w.good-is, w.bad-is, to);
        within = omega (arith, w.bad-is, was.within);
        impossible = subst (λ n. IsImpossible (front_part calls returns n))
            (sym w.bad-is) was.impossible;
        shortest = λ t before next. possible-before c.front_budget-share.result calls returns middle
            c.in_ok-answer.answer _ w.in-Possible.is c.in_ok-answer.ensures before
            (next ∙ w.good-is);
        unsure = λ f. let old = was.unsure (sym w.is_shortest-is ∙ f) in let below = old.1 in
            (old.0, omega (arith, below, from, w.good-is), old.2);
      }
      | in-OutOfBudget w ↦ record {
        order = omega (arith, w.good-is, w.bad-is, to);
        within = omega (arith, w.bad-is, was.within);
        impossible = subst (λ n. IsImpossible (front_part calls returns n))
            (sym w.bad-is) was.impossible;
        shortest = λ t before next. absurd (let e : false ≡ true = sym w.is_shortest-is ∙ t in
            let no : ⊥ = cc in no);
        unsure = λ f. (
          middle,
          omega (arith, w.good-is),
          used-up-at c.front_budget-share.result
              calls returns middle c.in_ok-answer.answer w.in-OutOfBudget.is c.in_ok-answer.ensures,
        );
      }
    ]

pub loop-good-preserved : goal.loop-good-preserved
loop-good-preserved c =
    let was = c.loop-good.invariant in let calls = c.args.calls.now in let returns =
    c.in_ok-returns.returns.items in
    let middle : ℕ = c.next_to_try-middle.result in
    let from : c.loop-good.good ≤ middle = c.next_to_try-middle.ensures.0 in
    let to : middle < c.loop-good.bad = c.next_to_try-middle.ensures.1 in
    elim c.match-answer.branch [
      | in-Impossible w ↦ record {
        order = omega (arith, w.good-is, w.bad-is, from);
        within = omega (arith, w.bad-is, to, was.within);
        impossible = impossible-part c.front_budget-share.result calls returns middle
            c.match-answer.bad c.in_ok-answer.answer w.in-Impossible.is
            c.in_ok-answer.ensures w.bad-is;
        shortest = λ t before next. was.shortest (sym w.is_shortest-is ∙ t) before
            (next ∙ w.good-is);
        unsure = λ f. let old = was.unsure (sym w.is_shortest-is ∙ f) in let below = old.1 in
            (old.0, omega (arith, below, w.good-is), old.2);
      }
      | in-Possible w ↦ record {
        order = omega (arith, w.good-is, w.bad-is, to);
        within = omega (arith, w.bad-is, was.within);
        impossible = subst (λ n. IsImpossible (front_part calls returns n))
            (sym w.bad-is) was.impossible;
        shortest = λ t before next. possible-before c.front_budget-share.result calls returns middle
            c.in_ok-answer.answer _ w.in-Possible.is c.in_ok-answer.ensures before
            (next ∙ w.good-is);
        unsure = λ f. let old = was.unsure (sym w.is_shortest-is ∙ f) in let below = old.1 in
            (old.0, omega (arith, below, from, w.good-is), old.2);
      }
      | in-OutOfBudget w ↦ record {
        order = omega (arith, w.good-is, w.bad-is, to);
        within = omega (arith, w.bad-is, was.within);
        impossible = subst (λ n. IsImpossible (front_part calls returns n))
            (sym w.bad-is) was.impossible;
        shortest = λ t before next. absurd (let e : false ≡ true = sym w.is_shortest-is ∙ t in
            let no : ⊥ = cc in no);
        unsure = λ f. (
          middle,
          omega (arith, w.good-is),
          used-up-at c.front_budget-share.result
              calls returns middle c.in_ok-answer.answer w.in-OutOfBudget.is c.in_ok-answer.ensures,
        );
      }
    ]

pub returns : goal.returns
returns c =
    let was = c.loop-good.invariant in let returns = c.in_ok-returns.returns.items in
    let last : Return = c.index-last.result.now in
    let same : c.min-at.result ≡ min c.loop-good.bad (length returns - 1) =
    grind (arith, common_steps) in
    let some = has-return c.args.calls.now returns c.in_ok-returns.ensures c.requires.returned in
    let within : c.min-at.result < length returns = omega (arith, some, same) in
    record {
      returns = returns;
      are = c.in_ok-returns.ensures;
      number = c.loop-good.bad;
      last = last;
      at = subst (λ i. slice_get returns i ≡ Some last) same
          (slice_get_read returns (length returns) c.min-at.result last refl within
          c.index-last.ensures);
      of = refl;
      part = c.in_ok-front.ensures;
      formed = front-is-formed c.in_ok-front.front.items c.args.calls.now returns c.loop-good.bad
          c.in_ok-front.ensures;
      impossible = was.impossible;
      reason = c.in_ok-reason.ensures;
      unsure = λ f. let old = was.unsure f in let below = old.1 in (
        old.0,
        omega (arith, below, was.order),
        subst (λ b. UsesUp b (front_part c.args.calls.now returns old.0))
            c.front_budget-share.ensures old.2,
      );
      shortest = λ t before next. was.shortest t before (let e : before + 1 ≡
          c.loop-good.good = omega (arith, next, was.order) in e);
    }

pub index-last-requires : goal.index-last-requires
index-last-requires c =
    let returns = c.in_ok-returns.returns.items in
    let some = has-return c.args.calls.now returns c.in_ok-returns.ensures c.requires.returned in
    let same : c.min-at.result ≡ min c.loop-good.bad (length returns - 1) =
    grind (arith, common_steps) in
    omega (arith, some, same)
