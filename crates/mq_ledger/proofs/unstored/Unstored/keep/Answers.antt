use Rattle.std.proofs.Common.{◌≡◌, ◌-◌, ◌^◌, ◌∷◌, min, arith, refl, ap, sym, subst, ◌∙◌}
use Rattle.mq_ledger.specs.Seen.{Seen}
use Rattle.mq_ledger.specs.Keeping.{vacant_in}
use Rattle.mq_laws.specs.Needed.{ended_last, home_of}
use Rattle.mq_model.specs.Record.{Record}
use Rattle.mq_ledger.proofs.unstored.Unstored.keep.Goals as goal

pub invariant_of-self : goal.invariant_of-self
invariant_of-self c =
    let a = c.self.inside in
    let r : Record = record { entry = c.args.entry.now; payload = c.args.payload.now } in
    let room : min (2 ^ 62 - a.len) (vacant_in a.slots.items) ≡ c.args.self.now.entry_room =
    ap (λ (v : Seen). v.entry_room) c.self.view_is in
    let past : c.note.new.self.past ≡ r ∷ a.past.past = c.note.ensures in
    record {
      count = rw past (omega (arith, c.self.invariant.count));
      few = omega (arith, room, c.requires.room);
      kept = rw past (c.replace.ensures.are_true a.past.past r c.self.invariant.count
          c.requires.prio (subst (λ (v : Seen). c.args.home ≡ home_of v.records r r.entry.reply)
          (sym c.self.view_is) c.requires.home) refl c.self.invariant.kept);
      vacant = c.self.invariant.vacant ∙ sym c.replace.ensures.vacant;
      ended = sym (ap ended_last past ∙ c.requires.ended);
      empty = c.replace.ensures.empty;
    }
