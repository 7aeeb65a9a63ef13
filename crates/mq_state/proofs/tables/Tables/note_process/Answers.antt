use Rattle.std.proofs.Common.{◌≡◌, ◌∙◌, ◌+◌, sym, arith}
use Rattle.mq_model.specs.Callers.{waits_count}
use Rattle.mq_model.specs.CallersNoted.{noted_waits}
use Rattle.mq_state.proofs.WaitsNoted.{waits-few, waits-moved}
use Rattle.mq_state.proofs.tables.Tables.note_process.Goals as goal

pub returns-in-Stays-clause-waits : goal.returns-in-Stays-clause-waits
returns-in-Stays-clause-waits c =
    let e = c.args.entry in
    let same : waits_count (noted_waits c.args.self.now.callers.items c.args.here e.process e.call
    e.reply c.args.q) ≡ waits_count c.args.self.now.callers.items =
    rw c.in-Stays.is at (waits-moved c.args.self.now.callers.items c.args.here e.process e.call
    e.reply c.args.q c.args.wait c.requires.moves c.requires.own c.requires.caller) in
    c.requires.waits ∙ sym same

pub overflow_add-self : goal.overflow_add-self
overflow_add-self c = let few = waits-few c.args.self.now.callers.items in
    omega (arith, few, c.requires.few, c.requires.waits)

pub returns-in-Begins-clause-waits : goal.returns-in-Begins-clause-waits
returns-in-Begins-clause-waits c =
    let e = c.args.entry in
    let more : waits_count (noted_waits c.args.self.now.callers.items c.args.here e.process e.call
    e.reply c.args.q) ≡ waits_count c.args.self.now.callers.items + 1 =
    rw c.in-Begins.is at (waits-moved c.args.self.now.callers.items c.args.here e.process e.call
    e.reply c.args.q c.args.wait c.requires.moves c.requires.own c.requires.caller) in
    omega (arith, more, c.requires.waits)

pub overflow_sub-self : goal.overflow_sub-self
overflow_sub-self c =
    let e = c.args.entry in
    let fewer : waits_count (noted_waits c.args.self.now.callers.items c.args.here e.process e.call
    e.reply c.args.q) + 1 ≡ waits_count c.args.self.now.callers.items =
    rw c.in-Ends.is at (waits-moved c.args.self.now.callers.items c.args.here e.process e.call
    e.reply c.args.q c.args.wait c.requires.moves c.requires.own c.requires.caller) in
    omega (arith, fewer, c.requires.waits)

pub returns-in-Ends-clause-waits : goal.returns-in-Ends-clause-waits
returns-in-Ends-clause-waits c =
    let e = c.args.entry in
    let fewer : waits_count (noted_waits c.args.self.now.callers.items c.args.here e.process e.call
    e.reply c.args.q) + 1 ≡ waits_count c.args.self.now.callers.items =
    rw c.in-Ends.is at (waits-moved c.args.self.now.callers.items c.args.here e.process e.call
    e.reply c.args.q c.args.wait c.requires.moves c.requires.own c.requires.caller) in
    omega (arith, fewer, c.requires.waits)
