use Rattle.std.proofs.Common.{◌≡◌, ◌<◌, ◌≤◌, ◌+◌, ℕ, get_or, length}
use Rattle.fast_mutex.specs.Marks.{flag}
use Rattle.fast_mutex.proofs.fast.FastMutex.first_words.Given as goal

abbrev pub invariant-loop-process : goal.invariant-loop-process
invariant-loop-process g l = record {
  many : length l.words ≡ 66;
  low : (i : ℕ) → i < l.count + 2 → get_or l.words i 0 ≡ 0;
  marks : (p : ℕ) → 1 ≤ p → p < l.process →
      get_or l.words (l.count + 1 + p) 0 ≡
      flag (g.S.Logged.is_answered p (g.S.Logged.items l.state));
}
