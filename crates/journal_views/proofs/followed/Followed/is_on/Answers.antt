use Rattle.std.proofs.Common.{◌∙◌, ap, sym}
use Rattle.mq_model.specs.Record.{Record}
use Rattle.mq_model.specs.Names.{name_of}
use Rattle.mq_model.specs.Descriptors.{is_place}
use Rattle.journal_views.proofs.Follows.{on-here}
use Rattle.journal_views.proofs.followed.Followed.is_on.Goals as goal

pub returns-in-None : goal.returns-in-None
returns-in-None c =
    let r : Record = record {
      entry = c.args.entry;
      payload = name_of c.args.journal.now.records
          c.args.place;
    } in
    ap (is_place c.args.q) (sym c.in-None.is)
    ∙ on-here c.args.journal.now.records c.args.place r c.args.self.now.on.items c.args.q
    c.index.result.now c.requires.entry c.requires.place c.requires.follows.on
    c.requires.follows.on_count c.index.ensures

pub returns-in-Some : goal.returns-in-Some
returns-in-Some c =
    let r : Record = record {
      entry = c.args.entry;
      payload = name_of c.args.journal.now.records
          c.args.place;
    } in
    ap (is_place c.args.q) (sym c.in-Some.is)
    ∙ on-here c.args.journal.now.records c.args.place r c.args.self.now.on.items c.args.q
    c.index.result.now c.requires.entry c.requires.place c.requires.follows.on
    c.requires.follows.on_count c.index.ensures
