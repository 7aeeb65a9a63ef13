use Rattle.std.proofs.Common.{◌≡◌, [], sym, ap, refl, List, ℕ, Option, unwrap_or}
use Rattle.mq_state.specs.Buffers.{with_front, message_at}
use Rattle.mq_state.proofs.buffers.put_message.Goals as goal

pub returns-clause-buffer : goal.returns-clause-buffer
unfolding with_front
returns-clause-buffer c =
    let found = rw c.in-Some.is at (c.message-prio.ensures.payload c.requires.readable) in
    let e : message_at c.args.journal.now.records c.args.place ≡ c.in-Some.message.now =
    ap (λ (o : Option (List ℕ)). unwrap_or o []) (sym found) in
    rw (e, c.copy_from_slice.ensures.after) refl

pub returns-in_default-clause-buffer : goal.returns-in_default-clause-buffer
unfolding with_front
returns-in_default-clause-buffer c =
    let found = rw c.in_default.is at (c.message-prio.ensures.payload c.requires.readable) in
    let e : message_at c.args.journal.now.records c.args.place ≡ [] =
    ap (λ (o : Option (List ℕ)). unwrap_or o []) (sym found) in
    rw e refl
