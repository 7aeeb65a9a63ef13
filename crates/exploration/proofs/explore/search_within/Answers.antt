use Rattle.std.proofs.Common.{◌∙◌, refl, arith}
use Rattle.exploration.specs.Shown.{none}
use Rattle.exploration.proofs.Opening.{opens-fit, opens-kept, possible-kept}
use Rattle.exploration.proofs.explore.search_within.Goals as goal

pub runs-init : goal.runs-init
runs-init g c = record {
  limits = c.new-search.ensures.limits;
  path = rw (c.first-request.ensures, c.new-search.ensures.path) refl;
  open_nodes = rw c.new-search.ensures.nodes tt;
  asked = rw c.first-request.ensures none;
}

pub runs-preserved : goal.runs-preserved
runs-preserved g c =
    let could = g.P.Program.could c.runs.program in
    let now = g.P.Program.could c.run.new.self in
    let opened = opens-kept could now c.runs.search.path.items 0 c.runs.search.nodes.items
    c.in_ok-trace.ensures.keeps c.runs.invariant.open_nodes in
    let asked = possible-kept c.in_ok-trace.ensures.keeps c.runs.invariant.asked in
    let learned = c.in_ok-goes_on.ensures.open now opened (rw c.runs.invariant.path at asked)
    c.in_ok-trace.ensures.shows in
    let next = c.in_ok-next.ensures.possible now learned in
    record {
      limits = c.in_ok-next.ensures.limits ∙ c.in_ok-goes_on.ensures.limits ∙
          c.runs.invariant.limits;
      path = rw c.in-Some.is at c.in_ok-next.ensures.path;
      open_nodes = next.0;
      asked = (rw c.in-Some.is at next.1);
    }

pub runs-smaller : goal.runs-smaller
runs-smaller g c =
    let could = g.P.Program.could c.runs.program in
    let now = g.P.Program.could c.run.new.self in
    let opened = opens-kept could now c.runs.search.path.items 0 c.runs.search.nodes.items
    c.in_ok-trace.ensures.keeps c.runs.invariant.open_nodes in
    let asked = possible-kept c.in_ok-trace.ensures.keeps c.runs.invariant.asked in
    let learned = c.in_ok-goes_on.ensures.open now opened (rw c.runs.invariant.path at asked)
    c.in_ok-trace.ensures.shows in
    let fits = opens-fit now _ _ learned in
    let first = rw c.runs.invariant.limits at c.in_ok-goes_on.ensures.work in
    let second = rw (c.in_ok-goes_on.ensures.limits ∙ c.runs.invariant.limits) at
    (rw c.in-Some.is at c.in_ok-next.ensures.work fits) in
    rw c.runs.invariant.path (omega (arith, first, second))
