use Rattle.std.proofs.Common.{arith, ap}
use Rattle.mq.specs.Calls.{Entrant, closes}
use Rattle.mq.proofs.Calling.{came-in, came-calls, came-in_turn, came-stops, same-number}
use Rattle.mq.proofs.Closings.{own-closes, all-closes}
use Rattle.mq.proofs.guard.Guard.exit.Goals as goal

pub depart-requires-clause-grows : goal.depart-requires-clause-grows
depart-requires-clause-grows g c = grind (arith, all-closes, came-in)

pub returns-clause-call : goal.returns-clause-call
returns-clause-call g c =
    let came = came-in c.begin-inside.ensures.came (ap (λ (e : Entrant). e.process) c.self.view_is)
    c.requires.made in
    let closing = c.close_all-done.ensures.closing in
    rw (c.departed_of.ensures, c.depart.ensures.left) (record {
      found = c.begin-inside.result.1.books.records;
      closing = record {
        ds = closing.ds;
        is = rw came.process at closing.is;
        in_turn = came-in_turn closing.ds came c.requires.made closing.in_turn;
      };
      calls = came-calls (λ q. closes q closing.ds) came c.requires.made closing.is
          (own-closes c.self.inside.number closing.ds) c.depart.ensures.legal;
      ok = rw (same-number came) c.close_all-done.ensures.ok;
      err = came-stops c.close_all-done.new.books.records c.close_all-done.result came
          c.requires.made c.close_all-done.ensures.err;
    })
