use Rattle.std.proofs.Common.{◌≡◌, arith, ap, length, sym, ◌≤◌}
use Rattle.std.specs.Option.{option_map}
use Rattle.mq_model.specs.Record.{Shown, Record}
use Rattle.mq_model.specs.Stored.{records_of}
use Rattle.mq_model.proofs.Records.{record_at-read, record_at-past, length-records_of}
use Rattle.mq_model.proofs.journals.Journal.payload.Goals as goal

pub returns-then-place-len : goal.returns-then-place-len
returns-then-place-len c = let past : length c.args.self.now.records ≤ c.args.place = omega arith in
    ap (option_map (λ (r : Record). r.payload))
    (sym (record_at-past c.args.self.now.records c.args.place past))

pub returns : goal.returns
returns c =
    let apart = c.self.inside.apart.items in
    let bytes = c.self.inside.bytes.items in
    let stored = c.self.inside.stored.items in
    let records : records_of apart bytes stored ≡ c.args.self.now.records =
    ap (λ (v : Shown). v.records) c.self.view_is in
    rw (c.deref.ensures.value, ← records) (ap (option_map (λ (r : Record). r.payload))
    (sym (record_at-read apart bytes stored c.args.place c.index-s.result.now
    (omega (arith, length-records_of apart bytes stored, ap length records))
    c.index-s.ensures)))
