use Rattle.std.proofs.Common.{refl, arith}
use Rattle.std.proofs.lemmas.List.{get_or-replicate}
use Rattle.fast_mutex.proofs.fast.FastMutex.first_words.Goals as goal

pub loop-process-init : goal.loop-process-init
loop-process-init g c = record {
  many = refl;
  low = λ i lt. get_or-replicate 66 i 0 0 (omega (arith, lt, c.requires));
  marks = λ p some few. absurd (omega (arith, some, few));
}
