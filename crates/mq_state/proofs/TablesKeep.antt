-- The tables remain those of the journal when they are updated for an entry.
use Rattle.std.proofs.Common.{◌≡◌, ℕ, ◌≤◌, true, false, List, [], ◌∷◌, ◌++◌, length, Option, Some, None, is_some, refl, sym, ◌∙◌, ap, arith}
use Rattle.mq_model.specs.Record.{Past}
use Rattle.mq_model.specs.Names.{creates, attributes_given}
use Rattle.mq_model.specs.Notices.{registered, notified, gives_notice, notices}
use Rattle.mq_model.specs.Legality.{Legal, IsLegalNext}
use Rattle.mq_model.specs.Owners.{OwnersMirror}
use Rattle.mq_model.specs.OwnersNoted.{noted}
use Rattle.mq_model.specs.CallersNoted.{noted_waits}
use Rattle.mq_model.specs.declared.callers.Caller.{Caller}
use Rattle.mq_model.specs.declared.owners.Owner.{Owner}
use Rattle.mq_model.specs.declared.entries.Entry.{Entry}
use Rattle.mq_model.specs.declared.entries.Registration.{Registration}
use Rattle.mq_model.specs.declared.entries.Call.{Call}
use Rattle.mq_model.specs.declared.entries.Reply.{Reply}
use Rattle.mq_model.specs.declared.entries.Reply.TheVariants.{Opened, Queued, Got, Notice}
use Rattle.mq_model.proofs.OwnersKeep.{noted-keeps}
use Rattle.mq_model.proofs.CallersKeep.{noted_waits-keeps}
use Rattle.mq_state.proofs.CallersOf.{owner-inside}
use Rattle.mq_model.proofs.NoticeSteps.{notices-same, notices-notified, notices-given}
use Rattle.mq_slots.specs.Held.{Held}
use Rattle.mq_state.specs.QueueShown.{QueueShown}
use Rattle.mq_state.specs.InboxShown.{InboxShown}
use Rattle.mq_state.specs.Inboxes.{notices_in}
use Rattle.mq_state.specs.Moves.{line_move, moves_of}
use Rattle.mq_state.specs.Queues.{registration_in, noted_queues, fresh, QueuesMirror, AllowsIn}
use Rattle.mq_state.specs.Tables.{TablesMirror, IsFresh, BringsOrder, noted_values, with_fresh}
use Rattle.mq_state.proofs.Moving.{rec, EntryOn, entry-queue, notifies-alive, notifies-registered}
use Rattle.mq_state.proofs.QueueLines.{mapped}
use Rattle.mq_state.proofs.QueuesNoted.{noted-queues-keeps, noted-queues-creates}
use Rattle.mq_state.proofs.Reading.{registration-read}

-- notices -----------------------------------------------------------------------------------------

brings-one : (past : Past) → Legal past →
    (p : ℕ) (call : Call) (reply : Reply) (payload : List ℕ) (q j : ℕ) →
    EntryOn past p call payload reply q → notified reply ≡ Some j → gives_notice reply ≡ false →
    (o : Option Registration) → o ≡ registered past q → (k : ℕ) →
    noted_values p o (moves_of past call reply) k (notices past k) ≡
    notices (rec p call reply payload ∷ past) k
brings-one past legal p call reply payload q j on is quiet o same k =
    let n = mapped (λ (n : Registration). n.place) (registered past q) j
    (notifies-registered past p call reply payload q on j is) in
    let now = notices-notified past legal (rec p call reply payload) q n.0 k n.1
    (is ∙ ap Some (sym n.2)) quiet in
    grind arith

pub notices-keep : (past : Past) → Legal past →
    (p : ℕ) (call : Call) (reply : Reply) (payload : List ℕ) (q : ℕ) →
    EntryOn past p call payload reply q → (o : Option Registration) →
    (is_some (notified reply) ≡ true → o ≡ registered past q) → (k : ℕ) →
    noted_values p o (moves_of past call reply) k (notices past k) ≡
    notices (rec p call reply payload ∷ past) k
notices-keep past legal p call (Queued (Some j)) payload q on o same k =
    brings-one past legal p call (Queued (Some j)) payload q j on refl refl o (same refl) k
notices-keep past legal p call (Got m a (Some j)) payload q on o same k =
    brings-one past legal p call (Got m a (Some j)) payload q j on refl refl o (same refl) k
notices-keep past legal p call (Notice (Some v)) payload q on o same k = let now =
    notices-given past p call v payload k in grind arith
notices-keep past legal p call reply payload q on o same k = let now =
    notices-same past (rec p call reply payload) k refl refl in grind arith

-- all tables --------------------------------------------------------------------------------------

-- the tables after an entry, as the code leaves them
pub record IsNotedBy (past : Past) (e : Entry) (q : ℕ) (brought : Option Held)
    (owners after_owners : List Owner) (callers after_callers : List Caller)
    (queues after_queues : List QueueShown) (inboxes after_inboxes : List InboxShown) : Type 0 where
  pub owners_are : after_owners ≡ noted owners e.process e.call e.reply q
  pub callers_are : after_callers ≡ noted_waits callers (length past) e.process e.call e.reply q
  pub queues_are : after_queues ≡ with_fresh brought (attributes_given e.call) (length past)
      (noted_queues after_owners (length past) e q (moves_of past e.call e.reply) queues)
  pub inbox_count : length after_inboxes ≡ length inboxes
  pub inboxes_are : (k : ℕ) →
      notices_in after_inboxes k ≡ noted_values e.process (registration_in queues q)
      (moves_of past e.call e.reply) k (notices_in inboxes k)

creates-open : (past : Past) → Legal past → (owners : List Owner) (queues : List QueueShown) →
    QueuesMirror past queues →
    (p : ℕ) (call : Call) (reply : Reply) (payload : List ℕ) (q len capacity : ℕ) (o : Held) →
    EntryOn past p call payload reply q → creates call reply ≡ true → IsFresh call len capacity o →
    QueuesMirror (rec p call reply payload ∷ past) (noted_queues owners (length past)
    (record { process = p; call = call; reply = reply }) q (moves_of past call reply) queues ++
    fresh (length past) o.cap (attributes_given call) ∷ [])
creates-open past legal owners queues m p call (Opened d true) payload q len capacity o on c f =
    noted-queues-creates past legal owners queues m p call d payload q o.cap on f.roomy
creates-open past legal owners queues m p call reply payload q len capacity o on c f = absurd (cc)

-- the tables after an entry are those of the journal with it
pub tables-keep : (past : Past) → Legal past →
    (n : ℕ) (owners after_owners : List Owner) (callers after_callers : List Caller)
    (queues after_queues : List QueueShown) (inboxes after_inboxes : List InboxShown) →
    TablesMirror past n owners callers queues inboxes →
    (p : ℕ) (call : Call) (reply : Reply) (payload : List ℕ) (len capacity : ℕ)
    (brought : Option Held) (q : ℕ) → IsLegalNext past (rec p call reply payload) →
    EntryOn past p call payload reply q → p ≤ n → BringsOrder call reply len capacity brought →
    AllowsIn queues q (line_move past call reply) →
    IsNotedBy past (record { process = p; call = call; reply = reply }) q brought owners
    after_owners callers after_callers queues after_queues inboxes after_inboxes →
    length after_owners ≡ length owners → length after_callers ≡ length callers →
    TablesMirror (rec p call reply payload ∷ past) n after_owners after_callers
    after_queues after_inboxes
tables-keep past legal n owners after_owners callers after_callers queues after_queues inboxes
    after_inboxes m p call reply payload len capacity brought q next on le brings allows by
    owner_count caller_count = record {
      owner_count = owner_count ∙ m.owner_count;
      caller_count = caller_count ∙ m.caller_count;
      inbox_count = by.inbox_count ∙ m.inbox_count;
      lines = lines;
      waits = rw by.callers_are (noted_waits-keeps past callers m.waits legal
          (rec p call reply payload)
          q next (let c = m.caller_count in omega (arith, c, le))
          (entry-queue past p call reply payload q on));
      existing = rw by.queues_are (queues-by brought brings);
      notices = λ k. rw (by.inboxes_are k, m.notices k)
          (notices-keep past legal p call reply payload q on (registration_in queues q)
          (λ some. registration-read past queues m.existing q
          (notifies-alive past legal p call reply payload q on some)) k);
    }
  where
    lines : OwnersMirror (rec p call reply payload ∷ past) after_owners
    lines = rw by.owners_are (noted-keeps past owners m.lines p call reply payload q next.reply
        (let inside = owner-inside p n le in let c = m.owner_count in omega (arith, c, inside))
        (entry-queue past p call reply payload q on))

    queues-by : (brought : Option Held) → BringsOrder call reply len capacity brought →
        QueuesMirror (rec p call reply payload ∷ past) (with_fresh brought (attributes_given call)
        (length past) (noted_queues after_owners (length past) (record {
          process = p;
          call = call;
          reply = reply;
        }) q (moves_of past call reply) queues))
    queues-by None brings = noted-queues-keeps past legal after_owners queues m.existing p call
        reply payload q on allows lines brings
    queues-by (Some o) brings = creates-open past legal after_owners queues m.existing p call reply
        payload q len capacity o on brings.0 brings.1
