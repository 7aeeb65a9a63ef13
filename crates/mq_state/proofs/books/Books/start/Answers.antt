use Rattle.std.proofs.Common.{◌≡◌, [], inl, arith, sym, ◌∙◌, subst}
use Rattle.mq_state.specs.Kept.{IsWhole}
use Rattle.mq_state.specs.declared.books.Inner.{Inner}
use Rattle.mq_state.proofs.Reachable.{room-same}
use Rattle.mq_state.proofs.books.Books.start.Goals as goal

pub invariant_of-result : goal.invariant_of-result
invariant_of-result c =
    let j = c.stored.result in
    let t = c.in_ok-new.field-0 in
    let new = c.in_ok-new.ensures in
    let nil : j.records ≡ [] = c.stored.ensures.records ∙ c.in_ok-empty_journal.ensures.empty in
    let room = c.in_ok-empty_journal.ensures.room in
    let whole : IsWhole j t = record {
      kept = record {
        tables = rw nil (record {
          legal = tt;
          few = let n = new.empty.0 in let few = c.requires.1 in omega (arith, n, few);
          mirror = new.empty.1;
          waits = new.empty.3 ∙ sym new.empty.2;
          known = new.known;
          notice_room = new.empty.4;
          calls = record { count = rw new.empty.0 new.calls; at = λ p w e. absurd (cc) };
        });
        processes = rw nil (λ k d lt. absurd (omega (arith, lt)));
        room = let none = new.empty.2 in omega (arith, none);
        bounded = rw new.bounds (room-same c.args.bounds _ j c.stored.ensures.records
            c.stored.ensures.entry_room c.stored.ensures.byte_room room);
        notices = rw (new.bounds, nil, new.empty.0) new.notices;
        readable = λ k needed. inl c.stored.ensures.stored;
        stored = λ some. c.stored.ensures.stored;
      };
      pool = new.pool;
    } in
    subst (λ (s : Inner). IsWhole s.journal s.tables) (sym c.in_ok-new-2.ensures.ok) whole
