use Rattle.std.proofs.Common.{◌≡◌, ◌++◌, map, take}
use Rattle.script_orders.specs.Waiting.{spaced}
use Rattle.script_orders.proofs.waiting.push_spaced.Given as goal

abbrev pub invariant-loop-word : goal.invariant-loop-word
invariant-loop-word l = l.text.items ≡ l.initial.text.items ++
    spaced (map (λ word. word.now) (take l.word-index l.words))
