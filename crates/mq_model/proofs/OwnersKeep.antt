-- The table of processes remains that of the journal when it is updated for each entry.
use Rattle.std.proofs.Common.{◌≡◌, ℕ, ◌<◌, ◌==◌, Bool, true, List, ◌∷◌, length, Option, Some, None, is_some, if◌then◌else◌, refl, sym, ◌∙◌, subst, arith, eqb-true}
use Rattle.std.specs.Option.{option_map}
use Rattle.mq_model.specs.Record.{Record, Past}
use Rattle.mq_model.specs.Threads.{owner_of, shares}
use Rattle.mq_model.proofs.Mates.{held-mates}
use Rattle.mq_model.specs.Descriptors.{held, held_after, description, with_nonblock, opened_queue}
use Rattle.mq_model.specs.Legality.{reply_to}
use Rattle.mq_model.specs.Owners.{held_in, with_slot, OwnersMirror}
use Rattle.mq_model.specs.OwnersNoted.{EntryQueue, FitsSlots, noted, noted_done, noted_attributes}
use Rattle.mq_model.specs.declared.owners.Owner.{Owner}
use Rattle.mq_model.specs.declared.entries.Attr.{Attr}
use Rattle.mq_model.specs.declared.entries.Status.{Status}
use Rattle.mq_model.specs.declared.entries.OpenFlags.{OpenFlags}
use Rattle.mq_model.specs.declared.faults.Fault.TheVariants.{BadDescriptor}
use Rattle.mq_model.specs.declared.entries.Description.{Description}
use Rattle.mq_model.specs.declared.entries.Call.{Call}
use Rattle.mq_model.specs.declared.entries.Call.TheVariants.{MqOpen, MqClose, MqSend, MqReceive, MqSetattr, NextNotice, Collect, MqTimedSend, MqTimedReceive, Withdraw}
use Rattle.mq_model.specs.declared.entries.Reply.{Reply}
use Rattle.mq_model.specs.declared.entries.Reply.TheVariants.{Opened, Attrs, Done, Refused}
use Rattle.mq_model.proofs.Places.{split}
use Rattle.mq_model.proofs.Cases.{Says, reply_says}
use Rattle.mq_model.proofs.OwnerLines.{held_in-with_slot, held_in-number, slots-with_slot, length-with_slot}
use Rattle.mq_model.proofs.OpenReplies.{opened-says, lowest_free-is}

abbrev rec : ℕ → Call → Reply → List ℕ → Record
rec p call reply payload = record {
  entry = record { process = p; call = call; reply = reply };
  payload = payload;
}

-- the entry leaves the descriptors of its process alone
abbrev IsQuiet : Past → ℕ → Call → Reply → List ℕ → Type 0
IsQuiet past p call reply payload = (d : ℕ) → held_after past call payload reply d (held past p d) ≡
    held past p d

held-quiet : (past : Past) (r : Record) →
    IsQuiet past r.entry.process r.entry.call r.entry.reply r.payload → (k d : ℕ) →
    held (r ∷ past) k d ≡ held past k d
held-quiet past r same k d = split (shares r.entry.process k)
    (λ t. let e : owner_of r.entry.process ≡ owner_of k = eqb-true _ _ t in
    rw t (rw (← held-mates past r.entry.process k e d) (same d))) (λ f. rw f refl)

keep-quiet : (past : Past) (owners : List Owner) → OwnersMirror past owners →
    (p : ℕ) (call : Call) (reply : Reply) (payload : List ℕ) → IsQuiet past p call reply payload →
    OwnersMirror (rec p call reply payload ∷ past) owners
keep-quiet past owners m p call reply payload quiet =
    record {
      few = m.few;
      slots = m.slots;
      held = λ k d. m.held k d ∙ sym (held-quiet past (rec p call reply payload) quiet k d);
    }

-- one descriptor of the process stands for this after the entry
record ChangesSlot (past : Past) (p : ℕ) (call : Call) (reply : Reply) (payload : List ℕ) (d : ℕ)
    (v : Option Description) : Type 0 where
  number : d < 16
  descriptors : (e : ℕ) → held_after past call payload reply e (held past p e) ≡
      (if d == e then v else held past p e)

keep-slot : (past : Past) (owners : List Owner) → OwnersMirror past owners →
    (p : ℕ) (call : Call) (reply : Reply) (payload : List ℕ) (d : ℕ) (v : Option Description) →
    owner_of p < length owners → ChangesSlot past p call reply payload d v →
    OwnersMirror (rec p call reply payload ∷ past) (with_slot owners p d v)
keep-slot past owners m p call reply payload d v lt changes =
    record {
      few = omega (arith, m.few, length-with_slot owners p d v);
      slots = slots-with_slot owners p d v m.slots;
      held = held-slot;
    }
  where
    mates : (k e : ℕ) → owner_of p ≡ owner_of k →
        held_after past call payload reply e (held past k e) ≡
        (if d == e then v else held_in owners k e)
    mates k e same = rw (m.held k e, ← held-mates past p k same e) (changes.descriptors e)

    held-slot : (k e : ℕ) → held_in (with_slot owners p d v) k e ≡
        held (rec p call reply payload ∷ past) k e
    held-slot k e = held_in-with_slot owners p d k e v m.slots lt changes.number ∙
        split (shares p k)
        (λ t. rw t (sym (mates k e (eqb-true _ _ t))))
        (λ n. rw n (m.held k e))

-- what an open, a close, a setattr do to the descriptors of their process
after-open : (past : Past) (p : ℕ) (flags : OpenFlags) (attr : Option Attr) (payload : List ℕ)
    (d : ℕ) (created : Bool) (q : ℕ) → q ≡ opened_queue past payload created → (e : ℕ) →
    held_after past (MqOpen flags attr) payload (Opened d created) e (held past p e) ≡
    (if d == e then Some (description q flags) else held past p e)
after-open past p flags attr payload d created q same e = rw same refl

after-flag : (past : Past) (owners : List Owner) → OwnersMirror past owners →
    (p d : ℕ) (nonblock : Bool) (payload : List ℕ) (s : Status) (e : ℕ) →
    held_after past (MqSetattr d nonblock) payload (Attrs s) e (held past p e) ≡
    (if d == e then option_map (with_nonblock nonblock) (held_in owners p d) else held past p e)
after-flag past owners m p d nonblock payload s e = grind (arith, eqb-true)

-- what the replies Done and Attrs say of the descriptor of a close or a setattr
close-held : (past : Past) (p d : ℕ) (payload : List ℕ) (s : Reply) →
    reply_to past p (MqClose d) payload ≡ Done → is_some (held past p d) ≡ true
close-held past p d payload s e = split (is_some (held past p d)) (λ t. t)
    (λ f. let bad : Refused BadDescriptor ≡ Done = rw f at e in absurd (cc))

setattr-held : (past : Past) (p d : ℕ) (nonblock : Bool) (payload : List ℕ) (s : Status) →
    reply_to past p (MqSetattr d nonblock) payload ≡ Attrs s → is_some (held past p d) ≡ true
setattr-held past p d nonblock payload s e = grind arith

held-small : (past : Past) (owners : List Owner) → OwnersMirror past owners → (p d : ℕ) →
    is_some (held past p d) ≡ true → d < 16
held-small past owners m p d e = grind (arith, held_in-number)

keep-opened : (past : Past) (owners : List Owner) → OwnersMirror past owners →
    (p : ℕ) (call : Call) (payload : List ℕ) (d : ℕ) (created : Bool) (q : ℕ) →
    Opened d created ≡ reply_to past p call payload → owner_of p < length owners →
    q ≡ opened_queue past payload created →
    OwnersMirror (rec p call (Opened d created) payload ∷ past)
    (noted owners p call (Opened d created) q)
keep-opened past owners m p (MqOpen flags attr) payload d created q is lt at =
    keep-slot past owners m p (MqOpen flags attr) (Opened d created) payload d
    (Some (description q flags)) lt
    (record {
      number = (lowest_free-is past p d (opened-says past p flags attr payload d created
          is).free).1;
      descriptors = after-open past p flags attr payload d created q at;
    })
keep-opened past owners m p call payload d created q is lt at = keep-quiet past owners m p call
    (Opened d created) payload (λ e. refl)

keep-done : (past : Past) (owners : List Owner) → OwnersMirror past owners →
    (p : ℕ) (call : Call) (payload : List ℕ) → Done ≡ reply_to past p call payload →
    owner_of p < length owners →
    OwnersMirror (rec p call Done payload ∷ past) (noted_done owners p call)
keep-done past owners m p (MqClose d) payload is lt =
    keep-slot past owners m p (MqClose d) Done payload d None lt
    (record {
      number = held-small past owners m p d (close-held past p d payload Done (sym is));
      descriptors = λ e. refl;
    })
keep-done past owners m p call payload is lt = keep-quiet past owners m p call Done
    payload (λ d. refl)

keep-attributes : (past : Past) (owners : List Owner) → OwnersMirror past owners →
    (p : ℕ) (call : Call) (s : Status) (payload : List ℕ) → Attrs s ≡ reply_to past p call payload →
    owner_of p < length owners →
    OwnersMirror (rec p call (Attrs s) payload ∷ past) (noted_attributes owners p call)
keep-attributes past owners m p (MqSetattr d nonblock) s payload is lt =
    keep-slot past owners m p (MqSetattr d nonblock) (Attrs s) payload d
    (option_map (with_nonblock nonblock) (held_in owners p d)) lt
    (record {
      number = held-small past owners m p d (setattr-held past p d nonblock payload s
          (sym is));
      descriptors = after-flag past owners m p d nonblock payload s;
    })
keep-attributes past owners m p call s payload is lt = keep-quiet past owners m p call
    (Attrs s) payload (λ d. refl)

-- the table remains that of the journal when it is updated for an entry that may follow
pub noted-keeps : (past : Past) (owners : List Owner) → OwnersMirror past owners →
    (p : ℕ) (call : Call) (reply : Reply) (payload : List ℕ) (q : ℕ) →
    reply ≡ reply_to past p call payload → owner_of p < length owners →
    EntryQueue past p call payload reply q →
    OwnersMirror (rec p call reply payload ∷ past) (noted owners p call reply q)
noted-keeps past owners m p call (Opened d created) payload q is lt at =
    keep-opened past owners m p call payload d created q is lt at
noted-keeps past owners m p call Done payload q is lt at =
    keep-done past owners m p call payload is lt
noted-keeps past owners m p call (Attrs s) payload q is lt at = keep-attributes past owners m p
    call s payload is lt
noted-keeps past owners m p call reply payload q is lt at = keep-quiet past owners m p call reply
    payload (λ d. refl)

-- what the entry changes of the descriptors has a number that a descriptor may have
pub noted-fits : (past : Past) (owners : List Owner) → OwnersMirror past owners →
    (p : ℕ) (call : Call) (reply : Reply) (payload : List ℕ) →
    reply ≡ reply_to past p call payload → FitsSlots call reply
noted-fits past owners m p call (Opened d created) payload is =
    opened call is (subst (Says past p call) (sym is) (reply_says past p call payload))
  where
    opened : (call : Call) → Opened d created ≡ reply_to past p call payload →
        Says past p call (Opened d created) → d < 16
    opened (MqOpen flags attr) is says =
        (lowest_free-is past p d (opened-says past p flags attr payload d created is).free).1
    opened (MqClose e) is says = absurd says.0
    opened (MqSend e prio len) is says = absurd says.3
    opened (MqTimedSend e prio len until now) is says = absurd says.3
    opened (MqReceive e room) is says = absurd says.3
    opened (MqTimedReceive e room until now) is says = absurd says.3
    opened NextNotice is says = absurd (cc)
    opened Collect is says = absurd (cc)
    opened (Withdraw now) is says = absurd (cc)
    opened call is says = absurd says
noted-fits past owners m p (MqClose d) Done payload is = held-small past owners m p d
    (close-held past p d payload Done (sym is))
noted-fits past owners m p call Done payload is = tt
noted-fits past owners m p (MqSetattr d nonblock) (Attrs s) payload is =
    held-small past owners m p d (setattr-held past p d nonblock payload s (sym is))
noted-fits past owners m p call (Attrs s) payload is = tt
noted-fits past owners m p call reply payload is = tt
