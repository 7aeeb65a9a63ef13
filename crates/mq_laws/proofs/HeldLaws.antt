-- What the processes held at the sends, receives, collects and withdrawals of a legal journal, and
-- which messages its receives got.
use Rattle.std.proofs.lemmas.Bool.Decides.{nat_tests}
use Rattle.std.proofs.Common.{◌≡◌, ℕ, ◌<◌, ◌==◌, Bool, true, false, not, ◌||◌, [], ◌∷◌, length, Some, is_some, refl, sym, ◌∙◌, ap, arith, eqb-true, unwrap_or}
use Rattle.mq_model.specs.Record.{Past, first}
use Rattle.mq_model.specs.Descriptors.{held, descriptor_of, called_queue}
use Rattle.mq_model.specs.Messages.{is_send, is_receive}
use Rattle.mq_model.specs.Waits.{open_wait, answered_by}
use Rattle.mq_model.specs.ErrorOrder.{is_read_only, is_write_only}
use Rattle.mq_model.specs.Legality.{Legal, is_refused, may_call}
use Rattle.mq_laws.specs.Laws.{message_given, is_lone, GivesBest, HoldsDescriptors}
use Rattle.mq_model.specs.Threads.{shares}
use Rattle.mq_model.specs.Record.{Record}
use Rattle.mq_model.proofs.Mates.{shares_self}
use Rattle.std.proofs.lemmas.Bool.{and_parts}
use Rattle.mq_model.proofs.Places.{split}
use Rattle.mq_model.proofs.Cases.{Says, SendSays, ReceiveSays}
use Rattle.mq_model.proofs.LegalReplies.{legal_says, got_says}
use Rattle.mq_model.proofs.Prefixes.{record_at-below, length-first, first-all}
use Rattle.mq_model.proofs.Frames.{answered_by-none}
use Rattle.mq_model.proofs.OpenWaits.{withdrawn-open}
use Rattle.mq_model.proofs.OthersLeave.{open_wait-below}
use Rattle.mq_laws.proofs.LegalPlaces.{legal-at, has-record, first-older, first-first}
use Rattle.mq_laws.proofs.GivenOnce.{given-reply}
use Rattle.mq_model.specs.declared.entries.Description.{Description}
use Rattle.mq_model.specs.declared.entries.Call.{Call}
use Rattle.mq_model.specs.declared.entries.Call.TheVariants.{MqSend, MqReceive, MqTimedSend, MqTimedReceive, Withdraw}
use Rattle.mq_model.specs.declared.entries.Reply.{Reply}
use Rattle.mq_model.specs.declared.entries.Reply.TheVariants.{Got}

called-receive : (past : Past) (p d : ℕ) (call : Call) (h : Description) →
    descriptor_of call ≡ Some d → held past p d ≡ Some h → called_queue past p call ≡ Some h.queue
called-receive past p d call h c e = rw (c, e) refl

-- what a receive got was the best message of its queue
pub gives-best : (past : Past) → Legal past → GivesBest past
gives-best past legal k m e =
    let x = has-record message_given past k m e in
    let at = legal-at past legal k x.r x.at in
    let is = given-reply x.r.entry.reply m x.is in
    let says : Says (first k past) x.r.entry.process x.r.entry.call (Got m is.0 is.1) =
    rw is.2 at (legal_says (first k past) x.r at.next) in
    let got = got_says (first k past) x.r.entry.process x.r.entry.call m is.0 is.1 says in
    let on : called_queue (first k past) x.r.entry.process x.r.entry.call ≡ Some got.2.queue =
    called-receive (first k past) x.r.entry.process got.0 x.r.entry.call got.2 got.3.1 got.4 in
    (got.2.queue, record { r = x.r; at = x.at; on = on; gets = x.is }, got.6)

-- descriptors -------------------------------------------------------------------------------------

record IsHeldWith (past : Past) (p d : ℕ) (passes : Description → Bool) : Type 0 where
  h : Description
  held : held past p d ≡ Some h
  access : passes h ≡ true

-- the reply tells a send, or a receive, what its descriptor is
send-says : (past : Past) (p d : ℕ) (call : Call) (reply : Reply) → is_send call ≡ true →
    descriptor_of call ≡ Some d → Says past p call reply →
    (prio : ℕ) × (len : ℕ) × SendSays past (held past p d) prio len reply
send-says past p d (MqSend x prio len) reply s e says = let same : x ≡ d =
    cc in (prio, len, rw (← same) says)
send-says past p d (MqTimedSend x prio len until now) reply s e says = let same : x ≡ d =
    cc in (prio, len, rw (← same) says)
send-says past p d call reply s e says = absurd (let bad : false ≡ true = s in cc)

receive-says : (past : Past) (p d : ℕ) (call : Call) (reply : Reply) → is_receive call ≡ true →
    descriptor_of call ≡ Some d → Says past p call reply →
    (room : ℕ) × ReceiveSays past (held past p d) room reply
receive-says past p d (MqReceive x room) reply s e says = let same : x ≡ d =
    cc in (room, rw (← same) says)
receive-says past p d (MqTimedReceive x room until now) reply s e says = let same : x ≡ d =
    cc in (room, rw (← same) says)
receive-says past p d call reply s e says = absurd (let bad : false ≡ true = s in cc)

send-holds : (past : Past) (p d prio len : ℕ) (reply : Reply) →
    SendSays past (held past p d) prio len reply → is_refused reply ≡ false →
    IsHeldWith past p d (λ h. not (is_read_only h.access))
send-holds past p d prio len reply says e = grind arith

receive-holds : (past : Past) (p d room : ℕ) (reply : Reply) →
    ReceiveSays past (held past p d) room reply → is_refused reply ≡ false →
    IsHeldWith past p d (λ h. not (is_write_only h.access))
receive-holds past p d room reply says e = grind arith

lone-parts : (past : Past) (r : Record) (p : ℕ) → is_lone (r ∷ past) p ≡ true →
    ((r.entry.process == p) ≡ false → shares r.entry.process p ≡ false) × (is_lone past p ≡ true)
lone-parts past r p e =
    let parts = and_parts (not (shares r.entry.process p) || r.entry.process == p)
    (is_lone past p) e in
    (λ other. apart (shares r.entry.process p) (r.entry.process == p) parts.0 other, parts.1)
  where
    apart : (a b : Bool) → (not a || b) ≡ true → b ≡ false → a ≡ false
    apart a b h f = grind arith

-- a process with one thread that waits holds what it held when its wait began
pub wait-holds : (past : Past) (p w : ℕ) → open_wait past p ≡ Some w → is_lone past p ≡ true →
    (d : ℕ) → held past p d ≡ held (first w past) p d
wait-holds [] p w e lone d = absurd (cc)
wait-holds (r ∷ past) p w e lone d = split (r.entry.process == p)
    (λ own.
    let same : r.entry.process ≡ p = eqb-true _ _ own in
    let shared : shares r.entry.process p ≡ true = rw same (shares_self p) in
    grind (arith, nat_tests, first-older, first-all))
    (λ other.
    let old : open_wait past p ≡ Some w = rw other at e in
    let parts = lone-parts past r p lone in
    let apart : shares r.entry.process p ≡ false = parts.0 other in
    let lt = open_wait-below past p w old in
    rw apart (wait-holds past p w old parts.1 d ∙ ap (λ before. held before p d)
    (sym (first-older past r w (omega (arith, lt))))))

-- an answered process waits
pub answered-waits : (past : Past) (p : ℕ) → is_some (answered_by past p) ≡ true →
    (w : ℕ) × (open_wait past p ≡ Some w)
answered-waits past p t = grind (arith, answered_by-none)

-- the same for a wait that is open at a place
wait-held : (past : Past) (k p w : ℕ) → k < length past → open_wait (first k past) p ≡ Some w →
    is_lone (first k past) p ≡ true → (d : ℕ) → held (first k past) p d ≡ held (first w past) p d
wait-held past k p w below e lone d =
    let lt = open_wait-below (first k past) p w e in
    let same : first w (first k past) ≡ first w past = first-first past w k
    (let long = length-first k past (omega (arith, below)) in omega (arith, lt, long)) in
    wait-holds (first k past) p w e lone d ∙ ap (λ before. held before p d) same

pub holds-descriptors : (past : Past) → Legal past → HoldsDescriptors past
holds-descriptors past legal = record {
  sends = λ k d r e c on not.
      let at = legal-at past legal k r e in
      let says = send-says (first k past) r.entry.process d r.entry.call r.entry.reply c on
      (legal_says (first k past) r at.next) in
      let x = send-holds (first k past) r.entry.process d says.0 says.1 r.entry.reply says.2 not in
      record { h = x.h; held = x.held; access = x.access };
  receives = λ k d r e c on not.
      let at = legal-at past legal k r e in
      let says = receive-says (first k past) r.entry.process d r.entry.call r.entry.reply c on
      (legal_says (first k past) r at.next) in
      let x = receive-holds (first k past) r.entry.process d says.0 r.entry.reply says.1 not in
      record { h = x.h; held = x.held; access = x.access };
  collects = λ k r e c.
      let at = legal-at past legal k r e in
      let turn : is_some (answered_by (first k past) r.entry.process) ≡ true =
      rw c at at.next.turn in
      let x = answered-waits (first k past) r.entry.process turn in
      (x.0, x.1, wait-held past k r.entry.process x.0 (record_at-below past k r e) x.1);
  withdrawals = λ k now r e c.
      let at = legal-at past legal k r e in
      let turn : may_call (first k past) r.entry.process (Withdraw now) ≡ true =
      rw c at at.next.turn in
      let w = unwrap_or (open_wait (first k past) r.entry.process) 0 in
      let x = withdrawn-open (first k past) r.entry.process (Withdraw now) w refl turn in
      (w, x.0, wait-held past k r.entry.process w (record_at-below past k r e) x.0);
}
