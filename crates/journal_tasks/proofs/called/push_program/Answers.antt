use Rattle.std.proofs.Common.{arith, ◌≡◌, ◌+◌, inr, length, slice_get, sym, length-take, ◌++◌, ◌∙◌, ap, subst, append_assoc, get_or, map, take}
use Rattle.std.proofs.lemmas.List.{length-map, map_more, take-map}
use Rattle.script_orders.specs.Plans.{plan_of}
use Rattle.journal_tasks.specs.Histories.{Makes, MakesAll, asked, completions_of}
use Rattle.journal_tasks.proofs.Historic.{came-beyond, came-within, makes-as, makes-one_more}
use Rattle.journal_tasks.proofs.called.push_program.Goals as goal

pub loop-index-preserved : goal.loop-index-preserved
loop-index-preserved c =
    let was = c.loop-index.invariant in let now = c.in_ok-push_line.ensures in
    let program = c.args.program.now in let i = c.loop-index.index in let d =
    c.index-program-index.result in
    let completions = completions_of c.args.process c.args.noted.now in
    let came = slice_get completions in
    let plans = map plan_of (take i program) in let plan = plan_of (get_or program i d) in
    let is : d ≡ get_or program i d = c.index-program-index.is in
    let within = came-within _ c.completion_of-came.result completions i
    c.completion_of-came.ensures c.if-is_none-3.ensures in
    let own : Makes c.args.process d.given.items d.step (came i) now.0 =
    makes-as c.span_of-span.result.process c.args.process d.given.items d.step _ (came i) now.0
    c.span_of-span.ensures.process c.completion_of-came.ensures now.1 in
    let at : Makes c.args.process plan.given plan.step (came i) now.0 =
    subst (λ planned. Makes c.args.process planned.given.items planned.step (came i) now.0) is
    own in
    let count : length plans ≡ i =
    (let e = length-map (take i program) plan_of in let f = length-take i program in
    omega (arith, e, f, c.loop-index-test.true)) in
    let makes : Makes c.args.process plan.given plan.step (came (length plans)) now.0 =
    subst (λ k. Makes c.args.process plan.given plan.step (came k) now.0) (sym count) at in (
      was.0 ++ now.0,
      rw (map_more plan_of program i d c.loop-index-test.true)
          (makes-one_more c.args.process came plans plan was.0 now.0 was.1 makes),
      now.2 ∙ ap (λ calls. calls ++ now.0) was.2 ∙ append_assoc
          (map asked c.args.calls.now.items) was.0 now.0,
      omega (arith, within),
    )

pub returns-then-is_none-2 : goal.returns-then-is_none-2
returns-then-is_none-2 c =
    let was = c.loop-index.invariant in
    let completions = completions_of c.args.process c.args.noted.now in
    let i = c.loop-index.index in
    let low = was.3 in (
      was.0,
      record {
        count = i;
        makes = rw (take-map plan_of i c.args.program.now) was.1;
        all = inr (came-beyond _ c.completion_of-came.result completions i
            c.completion_of-came.ensures c.if-is_none.ensures);
        one = omega (arith, low);
      },
      was.2,
    )

pub returns-then-is_none-3 : goal.returns-then-is_none-3
returns-then-is_none-3 c =
    let was = c.loop-index.invariant in let now = c.in_ok-push_line.ensures in
    let program = c.args.program.now in let i = c.loop-index.index in let d =
    c.index-program-index.result in
    let completions = completions_of c.args.process c.args.noted.now in
    let came = slice_get completions in
    let plans = map plan_of (take i program) in let plan = plan_of (get_or program i d) in
    let is : d ≡ get_or program i d = c.index-program-index.is in
    let own : Makes c.args.process d.given.items d.step (came i) now.0 =
    makes-as c.span_of-span.result.process c.args.process d.given.items d.step _ (came i) now.0
    c.span_of-span.ensures.process c.completion_of-came.ensures now.1 in
    let at : Makes c.args.process plan.given plan.step (came i) now.0 =
    subst (λ planned. Makes c.args.process planned.given.items planned.step (came i) now.0) is
    own in
    let count : length plans ≡ i =
    (let e = length-map (take i program) plan_of in let f = length-take i program in
    omega (arith, e, f, c.loop-index-test.true)) in
    let makes : Makes c.args.process plan.given plan.step (came (length plans)) now.0 =
    subst (λ k. Makes c.args.process plan.given plan.step (came k) now.0) (sym count) at in
    let more : MakesAll c.args.process came (map plan_of (take (i + 1) program)) (was.0 ++ now.0) =
    rw (map_more plan_of program i d c.loop-index-test.true)
    (makes-one_more c.args.process came plans plan was.0 now.0 was.1 makes) in
    let beyond = came-beyond _ c.completion_of-came.result completions i
    c.completion_of-came.ensures c.if-is_none-3.ensures in
    let low = was.3 in (
      was.0 ++ now.0,
      record {
        count = i + 1;
        makes = rw (take-map plan_of (i + 1) program) more;
        all = inr (omega (arith, beyond));
        one = omega (arith, low);
      },
      now.2 ∙ ap (λ calls. calls ++ now.0) was.2 ∙ append_assoc
          (map asked c.args.calls.now.items) was.0 now.0,
    )
