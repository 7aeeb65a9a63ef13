use Rattle.std.proofs.Common.{◌≡◌, inl, true, false, length, Ok, arith, refl, sym, ◌∙◌}
use Rattle.mq_state.proofs.Fitting.{reply-fits}
use Rattle.mq_state.proofs.Reachable.{reply-readable}
use Rattle.mq_state.proofs.Bounded.{called, full-by}
use Rattle.mq_state.proofs.tables.Tables.settle.Goals as goal

pub fill-received-requires : goal.fill-received-requires
fill-received-requires c =
    record {
      readable = reply-readable c.args.journal.now c.requires.may_call.kept.readable
          c.requires.may_call.kept.tables.legal c.args.p c.args.call c.args.given.now c.args.reply
          c.requires.replies;
      room = grind (arith, reply-fits);
    }

pub returns-clause-called : goal.returns-clause-called
returns-clause-called c =
    let j = c.args.journal.now in
    let t = c.args.self.now in
    let n = length c.args.given.now in
    let within = c.requires.within in
    called j j c.record.new.journal t c.record.new.self c.args.p c.args.call c.args.given.now
    c.args.reply 2 n (Ok tt)
    (full-by t.bounds j.records c.args.p c.args.call c.args.given.now 2 n c.requires.entries
    c.requires.bytes)
    (record {
      full = λ e. let bad : true ≡ false = sym e ∙ within in absurd (cc);
      room = λ e. inl refl;
    })
    refl c.requires.replies refl
    c.record.ensures.appends c.record.ensures.kept c.record.ensures.pool c.record.ensures.n
    c.record.ensures.bounds c.record.ensures.stored
