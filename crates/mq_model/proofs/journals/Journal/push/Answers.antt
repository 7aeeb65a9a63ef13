use Rattle.std.proofs.Common.{◌≡◌, ◌≤◌, ◌+◌, ◌-◌, refl, arith, ap, vec_capacity, vec_len, length}
use Rattle.mq_model.specs.Record.{Shown, payload_bytes}
use Rattle.mq_model.specs.Stored.{needs, kept_apart, records_of}
use Rattle.mq_model.proofs.Records.{records_of-push, lies-push}
use Rattle.mq_model.proofs.journals.Journal.push.Goals as goal

pub add_bytes-requires : goal.add_bytes-requires
add_bytes-requires c =
    let bytes = c.self.inside.bytes in
    let shows : vec_capacity bytes - vec_len bytes ≡ c.args.self.now.byte_room =
    ap (λ (v : Shown). v.byte_room) c.self.view_is in
    omega (arith, shows, c.requires.byte_room, bytes.ok.0)

pub invariant_of-self : goal.invariant_of-self
invariant_of-self c = record {
  entries =
      let bytes = c.self.inside.bytes in
      let there : needs c.store_call-call.result ≤ length c.store_call-call.new.apart.items =
      omega (arith, c.store_call-call.ensures.needs) in
      rw (c.add_bytes.ensures.items, c.push_reserved.ensures.items, c.store_call-call.ensures.apart)
      (lies-push c.self.inside.apart.items (kept_apart c.store_call-call.result c.args.entry.call)
      bytes.items c.args.payload.now c.self.inside.stored.items _ c.self.invariant.entries
      (omega (arith, bytes.ok.0)) (omega (arith, bytes.ok.0, c.add_bytes.ensures.len))
      (rw (← c.store_call-call.ensures.apart) there));
  total =
      let bytes = c.self.inside.bytes in
      let stored = c.self.inside.stored.items in
      let added = records_of-push c.self.inside.apart.items
      (kept_apart c.store_call-call.result c.args.entry.call) bytes.items c.args.payload.now
      stored _ c.args.entry c.self.invariant.entries
      (omega (arith, bytes.ok.0)) (omega (arith, bytes.ok.0, c.add_bytes.ensures.len)) refl
      (rw (← c.store_call-call.ensures.apart) c.store_call-call.ensures.call)
      c.store_reply-reply.ensures in
      let more : payload_bytes (records_of c.store_call-call.new.apart.items
      c.add_bytes.new.bytes.items c.push_reserved.new.self.items) ≡ length c.args.payload.now +
      payload_bytes (records_of c.self.inside.apart.items bytes.items stored) =
      rw (c.add_bytes.ensures.items, c.push_reserved.ensures.items, c.store_call-call.ensures.apart)
      (ap payload_bytes added) in
      omega (arith, more, c.self.invariant.total, c.add_bytes.ensures.len);
}

pub returns-clause-records : goal.returns-clause-records
returns-clause-records c =
    let bytes = c.self.inside.bytes in
    let stored = c.self.inside.stored.items in
    let records : records_of c.self.inside.apart.items bytes.items stored ≡
    c.args.self.now.records = ap (λ (v : Shown). v.records) c.self.view_is in
    rw (
      c.add_bytes.ensures.items,
      c.push_reserved.ensures.items,
      c.store_call-call.ensures.apart,
      ← records,
    )
    (records_of-push c.self.inside.apart.items
    (kept_apart c.store_call-call.result c.args.entry.call) bytes.items c.args.payload.now
    stored _ c.args.entry c.self.invariant.entries
    (omega (arith, bytes.ok.0)) (omega (arith, bytes.ok.0, c.add_bytes.ensures.len)) refl
    (rw (← c.store_call-call.ensures.apart) c.store_call-call.ensures.call)
    c.store_reply-reply.ensures)
