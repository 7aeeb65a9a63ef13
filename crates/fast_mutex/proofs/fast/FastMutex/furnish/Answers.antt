use Rattle.std.proofs.Common.{rules, ℕ, ◌+◌, ◌*◌, List, take, refl, sym, ap, ◌∙◌, arith}
use Rattle.std.proofs.lemmas.List.{get_or-take, length-take-le}
use Rattle.fast_mutex.specs.Marks.{flag, ShowAnswers}
use Rattle.fast_mutex.proofs.FastKeeps.{starts}
use Rattle.fast_mutex.proofs.fast.FastMutex.furnish.Goals as goal

pub furnish-requires : goal.furnish-requires
furnish-requires g c =
    let n : ℕ = c.args.count in
    let words : List ℕ = c.first_words-words.result in
    let first : ShowAnswers g.S.Logged.is_answered n (g.S.Logged.items c.of.result.value)
    (take (2 * n + 2) words) = record {
      wide = length-take-le (2 * n + 2) words (omega (arith, c.requires));
      low = λ i lt. get_or-take (2 * n + 2) words i 0 (omega arith) ∙
          c.first_words-words.ensures.low i lt;
      marks = λ p some few. get_or-take (2 * n + 2) words (n + 1 + p) 0 (omega arith) ∙
          c.first_words-words.ensures.marks p some few ∙
          ap (λ s. flag (g.S.Logged.is_answered p (g.S.Logged.items s))) (sym c.of.ensures);
    } in
    starts g.S.Logged.items g.S.Logged.fixed g.S.Logged.author g.S.Logged.is_answered
    (record { count = n; state = c.of.result }) (take (2 * n + 2) words) c.args.state _ first
    refl c.of.ensures

pub invariant_of-result : goal.invariant_of-result
invariant_of-result g c = let t = c.in_ok-table.ensures.table in
    record {
      shape = (
        t.0 ∙ search rules,
        t.1,
        sym (ap (λ a. a.count) t.2),
        c.requires.0,
        c.requires.1,
      );
    }
