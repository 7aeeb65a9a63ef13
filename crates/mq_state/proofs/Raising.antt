-- Tables with a row for one more caller.
use Rattle.std.proofs.Common.{◌≡◌, ℕ, zero, suc, ◌+◌, ◌<◌, ◌≤◌, ◌==◌, List, [], ◌∷◌, ◌++◌, length, length-append, Option, Some, None, refl, sym, ◌∙◌, ap, arith, eqb-true, slice_get, slice_index_or, replicate}
use Rattle.std.specs.Option.{option_map, option_and_then, unwrap_or}
use Rattle.std.proofs.lemmas.Bool.Decides.{nat_tests}
use Rattle.std.proofs.lemmas.List.Sums.{sum_by_push}
use Rattle.std.proofs.lemmas.Option.{slice_get_past}
use Rattle.mq_model.specs.Record.{Record, Past}
use Rattle.mq_model.specs.Threads.{owner_of}
use Rattle.mq_model.specs.Owners.{OwnersMirror, held_in, slot_of, free_owner}
use Rattle.mq_model.specs.Callers.{CallersMirror, wait_in, answer_in, waits_count, free_caller}
use Rattle.mq_model.specs.declared.entries.Call.{Call}
use Rattle.mq_model.specs.declared.entries.Call.TheVariants.{Collect}
use Rattle.mq_model.specs.declared.entries.Description.{Description}
use Rattle.mq_model.specs.declared.owners.Owner.{Owner}
use Rattle.mq_model.specs.declared.callers.OpenWait.{OpenWait}
use Rattle.mq_model.specs.declared.callers.Caller.{Caller}
use Rattle.mq_model.proofs.Places.{split}
use Rattle.mq_model.proofs.Records.{slice_get-push}
use Rattle.mq_model.proofs.Mates.{owner_own, owner_few, owner_owner}
use Rattle.mq_state.specs.InboxShown.{InboxShown}
use Rattle.mq_state.specs.QueueShown.{QueueShown}
use Rattle.mq_state.specs.Inboxes.{notices_in, room_in}
use Rattle.std.proofs.lemmas.List.Elements.{All-weaker}
use Rattle.mq_ledger.specs.Ledgers.{Shown}
use Rattle.mq_state.specs.Kept.{AreThoseOf, IsWhole}
use Rattle.mq_state.specs.Raising.{IsRaised}
use Rattle.mq_state.specs.Tables.{AreCalls, last_process}
use Rattle.mq_state.specs.WaitCounts.{wait_count, KnowWaits}
use Rattle.mq_state.specs.declared.tables.Tables.{Tables}

-- what is read of a table with one more row that says nothing
read-push : {A X : Type 0} (g : A → Option X) (rows : List A) (row : A) (k : ℕ) → g row ≡ None →
    option_and_then g (slice_get (rows ++ row ∷ []) k) ≡ option_and_then g (slice_get rows k)
read-push g rows row k none = rw (slice_get-push rows row k) (split (k == length rows)
    (λ t. let at : k ≡ length rows = eqb-true _ _ t in
    rw (t, none, slice_get_past rows k (omega (arith, at))) refl)
    (λ f. rw f refl))

none-there : (m d : ℕ) → unwrap_or (slice_get (replicate {A = Option Description} m None) d) None ≡
    None
none-there (suc m) (suc d) = none-there m d
none-there _ _ = refl

held_in-push : (owners : List Owner) (p d : ℕ) → held_in (owners ++ free_owner ∷ []) p d ≡
    held_in owners p d
unfolding held_in
held_in-push owners p d = read-push (slot_of d) owners free_owner (owner_of p) (none-there 16 d)

wait_in-push : (callers : List Caller) (p : ℕ) → wait_in (callers ++ free_caller ∷ []) p ≡
    wait_in callers p
unfolding wait_in
wait_in-push callers p = read-push (λ (x : Caller). x.wait) callers free_caller p refl

answer_in-push : (callers : List Caller) (p : ℕ) → answer_in (callers ++ free_caller ∷ []) p ≡
    answer_in callers p
unfolding answer_in
answer_in-push callers p = read-push (λ (x : Caller). x.answer) callers free_caller p refl

pub owners-push : (past : Past) (owners : List Owner) → OwnersMirror past owners →
    length owners ≤ 32 → OwnersMirror past (owners ++ free_owner ∷ [])
owners-push past owners m few = record {
  few = omega (arith, few, length-append owners (free_owner ∷ []));
  slots = slots;
  held = λ p d. held_in-push owners p d ∙ m.held p d;
}
  where
    slots : (p : ℕ) (o : Owner) → slice_get (owners ++ free_owner ∷ []) p ≡ Some o →
        length o.descriptors ≡ 16
    slots p o e = split (p == length owners)
        (λ t. let is : Some free_owner ≡ Some o = rw t at
        (sym (slice_get-push owners free_owner p) ∙ e) in let same : free_owner ≡ o =
        cc in ap (λ (x : Owner). length x.descriptors) (sym same))
        (λ f. m.slots p o (rw f at (sym (slice_get-push owners free_owner p) ∙ e)))

pub callers-push : (past : Past) (callers : List Caller) → CallersMirror past callers →
    CallersMirror past (callers ++ free_caller ∷ [])
callers-push past callers m = record {
  waits = λ p. ap (option_map (λ (w : OpenWait). w.place)) (wait_in-push callers p) ∙ m.waits p;
  blocked = λ p w e. m.blocked p w (sym (wait_in-push callers p) ∙ e);
  deadlines = λ p. ap (option_and_then (λ (w : OpenWait). w.until)) (wait_in-push callers p) ∙
      m.deadlines p;
  answers = λ p. answer_in-push callers p ∙ m.answers p;
}

pub waits_count-push : (callers : List Caller) → waits_count (callers ++ free_caller ∷ []) ≡
    waits_count callers
unfolding waits_count
waits_count-push callers = sum_by_push _ callers free_caller ∙ omega arith

wait_count-push : (q : ℕ) (callers : List Caller) → wait_count q (callers ++ free_caller ∷ []) ≡
    wait_count q callers
unfolding wait_count
wait_count-push q callers = sum_by_push _ callers free_caller ∙ omega arith

pub knows-push : (callers : List Caller) (queues : List QueueShown) → KnowWaits callers queues →
    KnowWaits (callers ++ free_caller ∷ []) queues
knows-push callers queues knows = λ q x e. knows q x e ∙ sym (wait_count-push q callers)

call-push : (calls : List Call) (p : ℕ) → slice_index_or (calls ++ Collect ∷ []) p Collect ≡
    slice_index_or calls p Collect
call-push [] zero = refl
call-push [] (suc p) = refl
call-push (x ∷ calls) zero = refl
call-push (x ∷ calls) (suc p) = call-push calls p

pub calls-push : (past : Past) (n : ℕ) (calls : List Call) → AreCalls past n calls →
    AreCalls past (n + 1) (calls ++ Collect ∷ [])
calls-push past n calls are = record {
  count = let long = length-append calls (Collect ∷ []) in omega (arith, long, are.count);
  at = λ p w e. call-push calls p ∙ are.at p w e;
}

-- inboxes
-- ----------------------------------------------------------------

pub notices-push : (inboxes : List InboxShown) (y : InboxShown) → y.values ≡ [] → (p : ℕ) →
    notices_in (inboxes ++ y ∷ []) p ≡ notices_in inboxes p
unfolding notices_in
notices-push inboxes y none p = rw (slice_get-push inboxes y (owner_of p))
    (split (owner_of p == length inboxes)
    (λ t. let at : owner_of p ≡ length inboxes = eqb-true _ _ t in
    rw (t, none, slice_get_past inboxes (owner_of p) (omega (arith, at))) refl)
    (λ f. rw f refl))

pub rooms-push : (inboxes : List InboxShown) (y : InboxShown) (p : ℕ) →
    room_in inboxes p ≤ room_in (inboxes ++ y ∷ []) p
unfolding room_in
rooms-push inboxes y p = rw (slice_get-push inboxes y (owner_of p))
    (split (owner_of p == length inboxes)
    (λ t. let at : owner_of p ≡ length inboxes = eqb-true _ _ t in
    rw (t, slice_get_past inboxes (owner_of p) (omega (arith, at))) (omega arith))
    (λ f. rw f (omega arith)))

pub room-of-new : (inboxes : List InboxShown) (y : InboxShown) (p : ℕ) →
    owner_of p ≡ length inboxes → room_in (inboxes ++ y ∷ []) p ≡ y.room
unfolding room_in
room-of-new inboxes y p at = rw (slice_get-push inboxes y (owner_of p))
    (rw at (grind (arith, nat_tests)))

-- threads of one process have the same room
room-of-process : (inboxes : List InboxShown) (p : ℕ) →
    room_in inboxes (owner_of p) ≡ room_in inboxes p
unfolding room_in
room-of-process inboxes p = rw (owner_owner p) refl

-- all tables
-- ----------------------------------------------------------------

pub notice-room-raised : (bounds-room entries n : ℕ) (inboxes : List InboxShown) (y : InboxShown) →
    n < 32 → length inboxes ≡ n + 1 → bounds-room ≤ y.room →
    ((p : ℕ) → p ≤ n → bounds-room ≤ entries + room_in inboxes p) → (p : ℕ) → p ≤ n + 1 →
    bounds-room ≤ entries + room_in (inboxes ++ y ∷ []) p
notice-room-raised wanted entries n inboxes y few count room has p le = split (p == n + 1)
    (λ t. let at : p ≡ n + 1 = eqb-true _ _ t in
    let own = owner_own p (omega (arith, at, few)) in
    let new = room-of-new inboxes y p (own ∙ at ∙ sym count) in
    omega (arith, new, room))
    (λ f. let below : p ≤ n = grind (arith, nat_tests) in
    let old = has p below in let more = rooms-push inboxes y p in omega (arith, old, more))

pub notice-room-threads : (wanted entries n : ℕ) (inboxes : List InboxShown) → 32 ≤ n →
    ((p : ℕ) → p ≤ n → wanted ≤ entries + room_in inboxes p) → (p : ℕ) →
    wanted ≤ entries + room_in inboxes p
notice-room-threads wanted entries n inboxes many has p =
    let few = owner_few p in let old = has (owner_of p) (omega (arith, few, many)) in let same =
    room-of-process inboxes p in omega (arith, old, same)

pub last-own : (n : ℕ) → n ≤ 32 → last_process n ≡ n
last-own n few = grind (arith, nat_tests)

pub last-most : (n : ℕ) → 32 ≤ n → last_process n ≡ 32
last-most n many = grind (arith, nat_tests)

pub raised-process : (past : Past) (old new : Tables) (y : InboxShown) → AreThoseOf past old →
    old.n < 32 → y.values ≡ [] → new.n ≡ old.n + 1 →
    new.callers.items ≡ old.callers.items ++ free_caller ∷ [] →
    new.calls.items ≡ old.calls.items ++ Collect ∷ [] →
    new.owners.items ≡ old.owners.items ++ free_owner ∷ [] →
    new.inboxes.items ≡ old.inboxes.items ++ y ∷ [] → new.queues.items ≡ old.queues.items →
    new.waits ≡ old.waits → AreThoseOf past new
raised-process past old new y are few none n callers calls owners inboxes queues waits =
    let m = are.mirror in
    let own = last-own old.n (omega (arith, few)) in
    let own_now = last-own (old.n + 1) (omega (arith, few)) in
    let owner_count : length old.owners.items ≡ old.n + 1 = m.owner_count ∙ ap (λ k. k + 1) own in
    let inbox_count : length old.inboxes.items ≡ old.n + 1 = m.inbox_count ∙ ap (λ k. k + 1) own in
    record {
      legal = are.legal;
      few = omega (arith, n, few);
      mirror = record {
        owner_count = rw (owners, n, own_now) (let long = length-append old.owners.items
            (free_owner ∷ []) in omega (arith, long, owner_count));
        caller_count = rw (callers, n) (let long = length-append old.callers.items (free_caller ∷
            []) in let c = m.caller_count in omega (arith, long, c));
        inbox_count = rw (inboxes, n, own_now) (let long = length-append old.inboxes.items
            (y ∷ []) in omega (arith, long, inbox_count));
        lines = rw owners (owners-push past old.owners.items m.lines
            (omega (arith, owner_count, few)));
        waits = rw callers (callers-push past old.callers.items m.waits);
        existing = rw queues m.existing;
        notices = λ p. rw inboxes (notices-push old.inboxes.items y none p ∙ m.notices p);
      };
      waits = rw (waits, callers) (are.waits ∙ sym (waits_count-push old.callers.items));
      known = rw (callers, queues) (knows-push old.callers.items old.queues.items are.known);
      notice_room = rw (queues, inboxes) (λ p. let has = are.notice_room p in
          let more = rooms-push old.inboxes.items y p in omega (arith, has, more));
      calls = rw (n, calls) (calls-push past old.n old.calls.items are.calls);
    }

pub raised-thread : (past : Past) (old new : Tables) → AreThoseOf past old → 32 ≤ old.n →
    old.n < 2048 → new.n ≡ old.n + 1 → new.callers.items ≡ old.callers.items ++ free_caller ∷ [] →
    new.calls.items ≡ old.calls.items ++ Collect ∷ [] → new.owners.items ≡ old.owners.items →
    new.inboxes.items ≡ old.inboxes.items → new.queues.items ≡ old.queues.items →
    new.waits ≡ old.waits → AreThoseOf past new
raised-thread past old new are many few n callers calls owners inboxes queues waits =
    let m = are.mirror in
    let most = last-most old.n many in
    let most_now = last-most (old.n + 1) (omega (arith, many)) in
    record {
      legal = are.legal;
      few = omega (arith, n, few);
      mirror = record {
        owner_count = rw (owners, n, most_now) (m.owner_count ∙ ap (λ k. k + 1) most);
        caller_count = rw (callers, n) (let long = length-append old.callers.items (free_caller ∷
            []) in let c = m.caller_count in omega (arith, long, c));
        inbox_count = rw (inboxes, n, most_now) (m.inbox_count ∙ ap (λ k. k + 1) most);
        lines = rw owners m.lines;
        waits = rw callers (callers-push past old.callers.items m.waits);
        existing = rw queues m.existing;
        notices = λ p. rw inboxes (m.notices p);
      };
      waits = rw (waits, callers) (are.waits ∙ sym (waits_count-push old.callers.items));
      known = rw (callers, queues) (knows-push old.callers.items old.queues.items are.known);
      notice_room = rw (queues, inboxes) are.notice_room;
      calls = rw (n, calls) (calls-push past old.n old.calls.items are.calls);
    }

pub raised-same : (t : Tables) → IsRaised t t
raised-same t = record {
  tables = λ past are. are;
  notices = λ past entries are has. has;
  queues = refl;
  spares = refl;
  bounds = refl;
  waits = refl;
  more = omega arith;
}

pub raised-then : (a b c : Tables) → IsRaised a b → IsRaised b c → IsRaised a c
raised-then a b c x y = record {
  tables = λ past are. y.tables past (x.tables past are);
  notices = λ past entries are has. y.notices past entries (x.tables past are)
      (x.notices past entries are has);
  queues = y.queues ∙ x.queues;
  spares = y.spares ∙ x.spares;
  bounds = y.bounds ∙ x.bounds;
  waits = y.waits ∙ x.waits;
  more = let one = x.more in let two = y.more in omega (arith, one, two);
}

-- tables with the same rows, and more room for others
pub raised-reserved : (old new : Tables) → new.n ≡ old.n → new.callers.items ≡ old.callers.items →
    new.calls.items ≡ old.calls.items → new.owners.items ≡ old.owners.items →
    new.inboxes.items ≡ old.inboxes.items → new.queues ≡ old.queues → new.spares ≡ old.spares →
    new.bounds ≡ old.bounds → new.waits ≡ old.waits → IsRaised old new
raised-reserved old new n callers calls owners inboxes queues spares bounds waits = record {
  tables = λ past are. record {
    legal = are.legal;
    few = rw n are.few;
    mirror = rw (n, owners, callers, queues, inboxes) are.mirror;
    waits = rw (waits, callers) are.waits;
    known = rw (callers, queues) are.known;
    notice_room = rw (queues, inboxes) are.notice_room;
    calls = rw (n, calls) are.calls;
  };
  notices = λ past entries are has. rw (bounds, n, inboxes) has;
  queues = queues;
  spares = spares;
  bounds = bounds;
  waits = waits;
  more = omega (arith, n);
}

pub raised-whole : (j : Shown) (old new : Tables) → IsWhole j old → IsRaised old new → IsWhole j new
raised-whole j old new w x =
    let kept = w.kept in
    let are = x.tables j.records kept.tables in
    record {
      kept = record {
        tables = are;
        processes = All-weaker (λ (r : Record). r.entry.process ≤ old.n)
            (λ (r : Record). r.entry.process ≤ new.n) (λ r le. let more = x.more in
            omega (arith, le, more)) j.records kept.processes;
        room = let was = kept.tables.waits in let now = are.waits in let same = x.waits in let has =
            kept.room in omega (arith, was, now, same, has);
        bounded = rw x.bounds kept.bounded;
        notices = x.notices j.records (length j.records) kept.tables kept.notices;
        readable = kept.readable;
        stored = λ some. kept.stored (λ none. some (x.bounds ∙ none));
      };
      pool = rw (x.bounds, x.queues, x.spares) w.pool;
    }
