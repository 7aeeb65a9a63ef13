-- The legal journals of first threads are exactly the legal ones of processes with one thread.
use Rattle.std.proofs.Common.{◌≡◌, ℕ, ◌≤◌, true, ◌&&◌, [], ◌∷◌, nat_le, refl, sym, ◌∙◌, arith, leb-true}
use Rattle.std.proofs.lemmas.Bool.Decides.{nat_tests}
use Rattle.std.specs.Bool.{IsTrue}
use Rattle.std.proofs.lemmas.Bool.{and_parts}
use Rattle.std.proofs.lemmas.List.Elements.{All-nil, All-cons}
use Rattle.mq_model.specs.Record.{Record, Past}
use Rattle.mq_model.specs.Legality.{Legal}
use Rattle.mq_laws.specs.Before as one
use Rattle.mq_laws.specs.Sharing.{AreFirst, AreThoseBefore}
use Rattle.mq_laws.proofs.AsBefore.{head, tail, replies-as}

leb : (a b : ℕ) → a ≤ b → nat_le a b ≡ true
leb a b le = grind (arith, nat_tests)

number : (low high p : ℕ) → p ≤ high → IsTrue (nat_le 1 p && nat_le p low) →
    IsTrue (nat_le 1 p && nat_le p high)
number low high p le h = let parts = and_parts (nat_le 1 p) (nat_le p low) h in
    rw (parts.0, leb p high le) refl

few : (p : ℕ) → IsTrue (nat_le 1 p && nat_le p 32) → p ≤ 32
few p h = leb-true p 32 (and_parts (nat_le 1 p) (nat_le p 32) h).1

wide : (p : ℕ) → p ≤ 32 → p ≤ 2048
wide p le = omega (arith, le)

to : (past : Past) → Legal past → AreFirst past → one.Legal past
to [] legal all = tt
to (r ∷ past) legal all = (
  to past legal.0 (tail r past all),
  record {
    process = number 2048 32 r.entry.process (head r past all) legal.1.process;
    turn = legal.1.turn;
    payload = legal.1.payload;
    reply = legal.1.reply ∙ replies-as past (tail r past all) r.entry.process r.entry.call r.payload
        (head r past all);
  },
)

back : (past : Past) → one.Legal past → Legal past × AreFirst past
back [] legal = (tt, All-nil (λ (r : Record). r.entry.process ≤ 32))
back (r ∷ past) legal =
    let older = back past legal.0 in
    let le = few r.entry.process legal.1.process in (
      (
        older.0,
        record {
          process = number 32 2048 r.entry.process (wide r.entry.process le) legal.1.process;
          turn = legal.1.turn;
          payload = legal.1.payload;
          reply = legal.1.reply ∙
              sym (replies-as past older.1 r.entry.process r.entry.call r.payload le);
        },
      ),
      All-cons (λ (r : Record). r.entry.process ≤ 32) r past le older.1,
    )

pub are-those-before : (past : Past) → AreThoseBefore past
are-those-before past = record { first_threads = to past; one_thread = back past }
