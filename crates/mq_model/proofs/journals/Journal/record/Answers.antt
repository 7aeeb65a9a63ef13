use Rattle.std.proofs.Common.{◌≡◌, arith, ap, length}
use Rattle.mq_model.specs.Record.{Shown}
use Rattle.mq_model.specs.Stored.{records_of, record_of}
use Rattle.mq_model.proofs.Records.{record_at-read, length-records_of}
use Rattle.mq_model.proofs.Prefixes.{first-more}
use Rattle.mq_model.proofs.journals.Journal.record.Goals as goal

pub returns : goal.returns
returns c =
    let apart = c.self.inside.apart.items in
    let bytes = c.self.inside.bytes.items in
    let stored = c.self.inside.stored.items in
    let records : records_of apart bytes stored ≡ c.args.self.now.records =
    ap (λ (v : Shown). v.records) c.self.view_is in
    rw (c.entry_of.ensures, c.deref.ensures.value, c.deref-2.ensures.value, ← records)
    (first-more (records_of apart bytes stored) c.args.place
    (record_of apart bytes c.index-s.result.now) (record_at-read apart bytes stored c.args.place
    c.index-s.result.now (omega (
      arith,
      length-records_of apart bytes stored,
      ap length records,
    )) c.index-s.ensures))
