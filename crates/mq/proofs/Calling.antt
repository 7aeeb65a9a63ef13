-- The effect of a call in one critical section.
use Rattle.std.proofs.Common.{◌≡◌, ℕ, Bool, true, false, List, ◌++◌, Option, None, is_some, IsSome, Result, IfErr, refl, ap, sym, subst, ◌∙◌, rules, arith}
use Rattle.std.specs.List.{All}
use Rattle.std.proofs.lemmas.List.{append-nil}
use Rattle.std.specs.Option.{option_map}
use Rattle.mq_model.specs.Record.{Record, Past}
use Rattle.mq_model.specs.Waits.{open_wait, is_wait, named_wait}
use Rattle.mq_model.specs.Legality.{Legal}
use Rattle.mq_model.specs.Bounds.{has_entry, HeedsBounds}
use Rattle.mq_model.proofs.Frames.{answered_by-none}
use Rattle.mq_model.proofs.Places.{split}
use Rattle.mq_model.specs.declared.entries.Call.{Call}
use Rattle.mq_model.specs.declared.entries.Reply.{Reply}
use Rattle.mq_model.specs.declared.entries.Reply.TheVariants.{Waits}
use Rattle.mq_model.specs.declared.faults.Fault.{Fault}
use Rattle.mq_state.specs.Kept.{Kept}
use Rattle.mq_state.specs.Buffers.{waiting_call, waiting_room, room_of}
use Rattle.fast_mutex.specs.Items.{LockId, Ticket, Grows, GrowsBy, items_of}
use Rattle.mq.specs.Calls.{author, recorded, made, Calls, Found, AreInTurn, Stops, bounds_of, bounds_in, Came, IsFree, WaitsIn, answered_bits}
use Rattle.mq.proofs.Answering.{answers-kept, bits-kept}
use Rattle.mq.proofs.Others.{wait-grown, call-grown, room-grown}
use Rattle.mq.proofs.Growing.{grows-on, own-made, all-made}

module _ {old stay : Ticket Record} {system : LockId} {books : Kept} {p : ℕ} where
  -- a process that entered its critical section by an acquisition of its own, in this system
  pub came-in : {t : Ticket Record} → Came t t.lock stay books p → t ≡ old → old.lock ≡ system →
      Came old system stay books p
  came-in c same lock = subst (λ (l : LockId). Came old l stay books p) lock
      (subst (λ (t : Ticket Record). Came t t.lock stay books p) same c)

  pub same-number : Came old system stay books p → stay.number ≡ p
  same-number c = c.number ∙ sym c.process

  -- a process that enters its critical section finds the open wait that it left
  pub came-wait : Came old system stay books p →
      open_wait books.records p ≡ open_wait old.left old.number
  came-wait c = rw (c.process) (wait-grown c.grows)

  pub came-room : Came old system stay books p →
      waiting_room books.records p ≡ waiting_room old.left old.number
  came-room c = rw (c.process) (room-grown c.grows)

  pub came-call : Came old system stay books p →
      waiting_call books.records p ≡ waiting_call old.left old.number
  came-call c = rw (c.process) (call-grown c.grows)

  pub came-free : Came old system stay books p → IsFree old → open_wait books.records p ≡ None
  came-free c free = came-wait c ∙ free

  -- what a critical section adds is of its process
  pub came-grows_by : {records : Past} (added : Past) → Came old system stay books p →
      records ≡ added ++ books.records → All (λ x. author x ≡ p) added →
      GrowsBy author stay.number stay.left records
  came-grows_by {records} added c is mine = grind (arith, same-number)

  pub came-grows : {records : Past} (call : Call) (given : List ℕ) (reply : Reply) →
      Came old system stay books p → records ≡ made p call given reply ++ books.records →
      GrowsBy author stay.number stay.left records
  came-grows {records} call given reply c is = came-grows_by (made p call given reply) c is
      (all-made p call given reply)

  -- the journal after a critical section that adds these records
  pub came-calls : {records : Past} (own : ℕ → Past) → Came old system stay books p →
      old.lock ≡ system → records ≡ own p ++ books.records → items_of author p (own p) ≡ own p →
      Legal records
      → Calls old (record { lock = system; number = stay.number; left = records; told = false })
      (own old.number)
  came-calls {records} own c lock is mine legal = record {
    lock = sym lock;
    number = c.number;
    legal = legal;
    grows =
        let added : Grows author old.number books.records records (own old.number) =
        record { behind = own p; is = is; mine = rw (sym c.process) mine } in
        rw append-nil at (grows-on c.grows added);
  }

  pub came-made : {records : Past} (call : Call) (given : List ℕ) (reply : Reply) →
      Came old system stay books p → old.lock ≡ system →
      records ≡ made p call given reply ++ books.records → Legal records
      → Calls old (record { lock = system; number = stay.number; left = records; told = false })
      (made old.number call given reply)
  came-made call given reply c lock is legal = came-calls (λ q. made q call given reply) c lock is
      (own-made p call given reply) legal

  -- the bounds and the number of processes that it finds are those of its system
  pub came-bounds : Came old system stay books p → old.lock ≡ system → books.bounds ≡ bounds_of old
  came-bounds c lock = c.bounds ∙ ap (λ (l : LockId). bounds_in l.fixed) (sym lock)

  -- the journal that it found, whose bounds are those of its system
  pub came-found : {records : Past} (call : Call) (given : List ℕ) (reply : Reply) →
      Came old system stay books p → old.lock ≡ system →
      records ≡ made p call given reply ++ books.records →
      HeedsBounds books.bounds books.records p call given reply
      → Found old (record { lock = system; number = stay.number; left = records; told = false })
      call given reply
  came-found call given reply c lock is heeds = grind (arith, came-bounds)

  -- how an exit stops, by the bounds of its system
  pub came-stops : (records : Past) (result : Result (Unit {0}) Fault) →
      Came old system stay books p → old.lock ≡ system →
      IfErr result (Stops books.bounds records p) →
      IfErr result (Stops (bounds_of old) records old.number)
  came-stops records result c lock stops = grind (arith, came-bounds)

  -- the closes of an exit, by the bounds of its system
  pub came-in_turn : (ds : List ℕ) → Came old system stay books p → old.lock ≡ system →
      AreInTurn books.bounds books.records p ds →
      AreInTurn (bounds_of old) books.records old.number ds
  came-in_turn ds c lock in_turn = grind (arith, came-bounds)

  -- a call that adds no record of its process leaves the wait unchanged
  pub still-free : {records : Past} (call : Call) (given : List ℕ) (reply : Reply) →
      Came old system stay books p → IsFree old →
      records ≡ made p call given reply ++ books.records → is_wait reply ≡ false →
      open_wait records stay.number ≡ None
  still-free call given reply c free is answered = grind (arith, came-free, same-number)

  -- if its reply serves no wait, each answer is unchanged
  pub came-quiet : {records : Past} (call : Call) (given : List ℕ) (reply : Reply) →
      Came old system stay books p → IsFree old →
      records ≡ made p call given reply ++ books.records → is_some (named_wait reply) ≡ false
      → answered_bits stay.left ≡ answered_bits records
  came-quiet call given reply c free is quiet = rw (c.found, is) (sym (by (has_entry reply) refl))
    where
      by : (b : Bool) → has_entry reply ≡ b →
          answered_bits (made p call given reply ++ books.records) ≡ answered_bits books.records
      by false e = rw e refl
      by true e =
          rw e (bits-kept _ _ (answers-kept books.records books.records
          (recorded p call given reply) p refl quiet
          (ap is_some (answered_by-none books.records p (came-free c free))) (λ q. refl)) 1 32)

  -- if it waits, it waits in this call
  pub now-waits : {records : Past} (call : Call) (given : List ℕ) → Came old system stay books p →
      records ≡ made p call given Waits ++ books.records
      → WaitsIn (record { lock = system; number = stay.number; left = records; told = false }) call
  now-waits call given c is = grind (arith, same-number)

is-waits : (reply : Reply) → is_wait reply ≡ true → reply ≡ Waits
is-waits reply e = search rules

pub free-room : (past : Past) (p : ℕ) → open_wait past p ≡ None → waiting_room past p ≡ None
free-room past p free =
    ap (λ (o : Option ℕ). option_map (λ (w : ℕ). room_of (waiting_call past p)) o) free

module _ {old stay : Ticket Record} {system : LockId} {books : Kept} {p : ℕ} where
  -- if it has an open wait afterwards, it waits in this call
  pub begun : {records : Past} (call : Call) (given : List ℕ) (reply : Reply) →
      Came old system stay books p → IsFree old →
      records ≡ made p call given reply ++ books.records → IsSome (waiting_room records stay.number)
      → WaitsIn (record { lock = system; number = stay.number; left = records; told = false }) call
  begun {records} call given reply c free is some = split (is_wait reply)
      (λ yes. let same = is-waits reply yes in now-waits call given c (rw same at is))
      (λ other. let none = free-room records stay.number (still-free call given reply c free is
      other) in absurd (let bad : false ≡ true = subst IsSome none some in cc))
