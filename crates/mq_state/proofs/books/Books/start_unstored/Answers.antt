use Rattle.std.proofs.Common.{◌≡◌, [], arith, sym, ◌∙◌, subst}
use Rattle.mq_state.specs.Kept.{IsWhole}
use Rattle.mq_state.specs.declared.books.Inner.{Inner}
use Rattle.mq_state.proofs.Reachable.{none-needed}
use Rattle.mq_state.proofs.books.Books.start_unstored.Goals as goal

pub invariant_of-result : goal.invariant_of-result
invariant_of-result c =
    let j = c.unstored.result in
    let t = c.in_ok-new.field-0 in
    let new = c.in_ok-new.ensures in
    let nil : j.records ≡ [] = c.unstored.ensures.records ∙ c.new.ensures in
    let whole : IsWhole j t = record {
      kept = record {
        tables = rw nil (record {
          legal = tt;
          few = let n = new.empty.0 in let few = c.requires.1 in omega (arith, n, few);
          mirror = new.empty.1;
          waits = new.empty.3 ∙ sym new.empty.2;
          known = new.known;
          notice_room = new.empty.4;
          calls = record { count = rw new.empty.0 new.calls; at = λ p w e. absurd (cc) };
        });
        processes = rw nil (λ k d lt. absurd (omega (arith, lt)));
        room = let none = new.empty.2 in omega (arith, none);
        bounded = rw new.bounds tt;
        notices = rw (new.bounds, nil, new.empty.0) new.notices;
        readable = rw nil (λ k needed. absurd (none-needed k needed));
        stored = λ some. absurd (some new.bounds);
      };
      pool = new.pool;
    } in
    subst (λ (s : Inner). IsWhole s.journal s.tables) (sym c.in_ok-new-2.ensures.ok) whole
