use Rattle.std.proofs.Common.{◌≡◌, ◌-◌, ◌^◌, ◌∷◌, min, arith, ap, sym, ◌∙◌}
use Rattle.mq_ledger.specs.Seen.{Seen}
use Rattle.mq_ledger.specs.Keeping.{vacant_in}
use Rattle.mq_laws.specs.Needed.{ended_last}
use Rattle.mq_model.specs.Record.{Record}
use Rattle.mq_ledger.proofs.Keeping.{true-more}
use Rattle.mq_ledger.proofs.unstored.Unstored.add_passing.Goals as goal

pub invariant_of-self : goal.invariant_of-self
invariant_of-self c =
    let a = c.self.inside in
    let r : Record = record { entry = c.args.entry.now; payload = c.args.payload.now } in
    let room : min (2 ^ 62 - a.len) (vacant_in a.slots.items) ≡ c.args.self.now.entry_room =
    ap (λ (v : Seen). v.entry_room) c.self.view_is in
    let past : c.note.new.self.past ≡ r ∷ a.past.past = c.note.ensures in
    record {
      count = rw past (omega (arith, c.self.invariant.count));
      few = omega (arith, room, c.requires.room);
      kept = rw past (true-more a.past.past r a.slots.items c.self.invariant.kept);
      vacant = c.self.invariant.vacant;
      ended = c.requires.ended ∙ sym (ap ended_last past);
      empty = c.self.invariant.empty;
    }
