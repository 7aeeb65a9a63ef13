use Rattle.std.proofs.Common.{◌≡◌, ◌++◌, drop}
use Rattle.history_judge.specs.Text.{history_text}
use Rattle.history_judge.proofs.text.write_history.Given as goal

abbrev pub invariant-loop-called : goal.invariant-loop-called
invariant-loop-called l = l.text.items ++ history_text (drop l.called-index l.calls) ≡
    history_text l.calls
