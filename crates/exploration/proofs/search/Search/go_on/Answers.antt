use Rattle.std.proofs.Common.{◌≡◌, length, arith}
use Rattle.exploration.proofs.Opening.{left-next, opens-after, possible-next}
use Rattle.exploration.proofs.search.Search.go_on.Goals as goal

pub returns-clause-possible : goal.returns-clause-possible
returns-clause-possible c = λ could opened is.
    let nodes = c.args.self.now.nodes.items in
    let path = c.args.self.now.path.items in
    let choice = c.remove-choice.result in
    let at : c.len-place.result ≡ length nodes = omega arith in (
      rw (c.in_ok-push_node.ensures, c.in_ok-push_choice.ensures, c.truncate.ensures.items, at)
          (opens-after could path nodes c.args.node _ c.args.at choice opened is
          c.remove-choice.ensures.items),
      rw (
        c.in_ok-choices.ensures,
        c.deref.ensures.value,
        c.in_ok-push_choice.ensures,
        c.truncate.ensures.items,
        at,
      )
          (possible-next could path (length nodes) c.args.node choice c.args.at c.requires
          c.remove-choice.ensures.value is),
    )

pub returns-clause-work : goal.returns-clause-work
returns-clause-work c = λ within.
    let nodes = c.args.self.now.nodes.items in
    let path = c.args.self.now.path.items in
    let choice = c.remove-choice.result in
    let at : c.len-place.result ≡ length nodes = omega arith in
    rw (
      c.in_ok-push_node.ensures,
      c.in_ok-choices.ensures,
      c.deref.ensures.value,
      c.in_ok-push_choice.ensures,
      c.truncate.ensures.items,
      at,
    )
    (left-next c.args.self.now.limits.choices c.args.self.now.limits.steps nodes c.args.node _
    c.args.at path choice
    c.requires c.remove-choice.ensures.items within)
