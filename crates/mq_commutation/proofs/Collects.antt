-- A collect and a call of another process commute.
use Rattle.std.proofs.Common.{◌≡◌, inl, inr, ℕ, ◌≤◌, ◌==◌, Bool, true, false, not, List, [], ◌∷◌, length, map, Option, Some, None, is_some, if◌then◌else◌, refl, sym, ◌∙◌, ap, subst, arith, eqb-true}
use Rattle.std.proofs.lemmas.Bool.{eqb-false}
use Rattle.std.specs.List.{filter}
use Rattle.std.specs.Option.{option_map, unwrap_or}
use Rattle.mq_model.specs.Record.{Record, Past}
use Rattle.mq_model.specs.Threads.{shares}
use Rattle.mq_model.specs.Names.{bound_queue}
use Rattle.mq_model.specs.Descriptors.{alive, called_queue, held, is_place}
use Rattle.mq_model.specs.Messages.{ended_receives, ended_sends, is_in}
use Rattle.mq_model.specs.Notices.{gives_notice, notices}
use Rattle.mq_model.specs.Waits.{answered_by, is_wait, open_wait, wait_deadline}
use Rattle.mq_model.specs.Deadlines.{deadline_of}
use Rattle.mq_model.specs.Legality.{IsLegalNext, Legal, may_call, payload_of, reply_to}
use Rattle.mq_model.specs.declared.entries.Call.{Call}
use Rattle.mq_model.specs.declared.entries.Call.TheVariants.{MqOpen, MqUnlink, Collect}
use Rattle.mq_model.specs.declared.entries.Reply.{Reply}
use Rattle.mq_model.specs.declared.entries.Reply.TheVariants.{Opened, Collected, Done, Refused}
use Rattle.mq_model.proofs.Places.{split}
use Rattle.mq_model.proofs.Cases.{Says}
use Rattle.mq_model.proofs.Frames.{attributes-older}
use Rattle.mq_model.proofs.LegalReplies.{legal_says}
use Rattle.mq_model.proofs.PresentFew.{present-new}
use Rattle.mq_model.proofs.Alive.{alive-same_queues, rec}
use Rattle.mq_state.specs.Buffers.{room_of, waiting_room}
use Rattle.mq_equivalence.specs.Views.{Message, Registered, Sender, answer, at, author, contents, lined, prio_of, receivers, registered_as, sender, senders, sent, unplaced}
use Rattle.mq_equivalence.specs.Steps.{message_collected, message_given, record_of}
use Rattle.mq_equivalence.specs.Outline.{outline}
use Rattle.mq_equivalence.specs.Structure.{Corresponds, SameStructure, extended, renumbered}
use Rattle.mq_equivalence.specs.Equivalence.{Equivalent}
use Rattle.mq_equivalence.specs.Runs.{Request, after_calls}
use Rattle.mq_equivalence.proofs.Calls.{collected-alike}
use Rattle.mq_equivalence.proofs.Correspondence.{corresponds-self}
use Rattle.mq_equivalence.proofs.Structure.{structure-stays}
use Rattle.mq_equivalence.proofs.Effects.{after_answer, after_contents, after_receivers, after_senders, answer-step, contents-step, is_withdrawn, receivers-step, senders-step}
use Rattle.mq_equivalence.proofs.Notified.{after_notices, notices-step, notified_as}
use Rattle.mq_equivalence.proofs.Registrations.{after_registered, registered-step}
use Rattle.mq_equivalence.proofs.Going.{room-step, blocked_sends-new, blocked_receives-new}
use Rattle.mq_commutation.specs.Independence.{changes_names}
use Rattle.mq_commutation.specs.Commuting.{Commute, collect_of, is_covered, is_withdrawal, record_for}
use Rattle.mq_commutation.proofs.Orders.{option-id, own-two, stays-answered}
use Rattle.mq_commutation.proofs.Apart.{AreSeparate, apart-commute}
use Rattle.mq_state.proofs.QueuesNoted.{registered-later}
use Rattle.mq_state.proofs.QueuesKeep.{alive-below}

-- a queue that is not yet created -----------------------------------------------------------------

contents-new : (past : Past) → Legal past → (q : ℕ) → length past ≤ q → contents past q ≡ []
contents-new past legal q le = ap (λ (ks : List ℕ). lined prio_of (map (at sent past) ks))
    (present-new past legal q le)

senders-new : (past : Past) → Legal past → (q : ℕ) → length past ≤ q → senders past q ≡ []
senders-new past legal q le =
    ap (λ (ks : List ℕ). map (at sender past) (filter (λ m. not (is_in (ended_sends past) m)) ks))
    (blocked_sends-new past legal q le)

receivers-new : (past : Past) → Legal past → (q : ℕ) → length past ≤ q → receivers past q ≡ []
receivers-new past legal q le =
    ap (λ (ks : List ℕ). map (at author past) (filter (λ m. not (is_in (ended_receives past) m))
    ks)) (blocked_receives-new past legal q le)

-- calls on no queue -------------------------------------------------------------------------------

-- an open, an unlink and a collect
abbrev is_still : Call → Bool
is_still (MqOpen flags attr) = true
is_still MqUnlink = true
is_still Collect = true
is_still _ = false

-- their replies
abbrev is_plain : Reply → Bool
is_plain (Opened d created) = true
is_plain Done = true
is_plain (Refused fault) = true
is_plain _ = false

abbrev is_quiet : Reply → Bool
is_quiet (Collected b) = true
is_quiet reply = is_plain reply

still-names : (call : Call) → changes_names call ≡ true → is_still call ≡ true
still-names call e = grind arith

plain-names : (past : Past) (p : ℕ) (call : Call) (reply : Reply) → changes_names call ≡ true →
    Says past p call reply → is_plain reply ≡ true
plain-names past p call reply e says = grind arith

quiet-plain : (reply : Reply) → is_plain reply ≡ true → is_quiet reply ≡ true
quiet-plain reply e = grind arith

on-none : (past : Past) (p : ℕ) (call : Call) (k : ℕ) → is_still call ≡ true →
    is_place k (called_queue past p call) ≡ false
on-none past p call k e = grind arith

contents-quiet : (call : Call) (payload : List ℕ) (on : Bool) (reply : Reply)
    (ss : List (Option Sender)) (cs : List (Option Message)) → is_quiet reply ≡ true →
    after_contents call payload on reply ss cs ≡ cs
contents-quiet call payload on reply ss cs e = grind arith

senders-quiet : (p : ℕ) (call : Call) (payload : List ℕ) (on : Bool) (reply : Reply)
    (ss : List (Option Sender)) → is_quiet reply ≡ true → after_senders p call payload on reply ss ≡
    ss
senders-quiet p call payload on reply ss e = grind arith

receivers-quiet : (p : ℕ) (call : Call) (on : Bool) (reply : Reply) (rs : List (Option ℕ)) →
    is_quiet reply ≡ true → after_receivers p call on reply rs ≡ rs
receivers-quiet p call on reply rs e = grind arith

registered-quiet : (p : ℕ) (call : Call) (reply : Reply) (before : Option Registered) →
    is_still call ≡ true → is_quiet reply ≡ true → after_registered false p call reply before ≡
    before
registered-quiet p call reply before still e = grind arith

notices-quiet : (past : Past) (p : ℕ) (call : Call) (reply : Reply) (k : ℕ) (values : List ℕ) →
    is_quiet reply ≡ true → after_notices p (gives_notice reply) (notified_as past p call reply)
    k values ≡ values
notices-quiet past p call reply k values e = grind arith

kept-quiet : (reply : Reply) → is_quiet reply ≡ true → is_withdrawn reply ≡ false
kept-quiet reply e = grind arith

goes-on : (reply : Reply) → is_plain reply ≡ true → is_wait reply ≡ false
goes-on reply e = grind arith

answer-plain : (p : ℕ) (call : Call) (payload : List ℕ) (reply : Reply) (ss : List (Option Sender))
    (rs : List (Option ℕ)) (k : ℕ) (before : Option (Option (Option Message))) →
    is_plain reply ≡ true → after_answer p call payload reply ss rs k before ≡ before
answer-plain p call payload reply ss rs k before e = grind arith

message-plain : (past : Past) (reply : Reply) → is_plain reply ≡ true →
    message_given past reply ≡ None
message-plain past reply e = grind arith

collected-plain : (past : Past) (reply : Reply) → is_plain reply ≡ true →
    message_collected past reply ≡ None
collected-plain past reply e = grind arith

-- a record that leaves the queues and the notices unchanged
record Still (past : Past) (r : Record) : Type 0 where
  messages : (k : ℕ) → contents (r ∷ past) k ≡ contents past k
  sending : (k : ℕ) → senders (r ∷ past) k ≡ senders past k
  receiving : (k : ℕ) → receivers (r ∷ past) k ≡ receivers past k
  registrations : (k : ℕ) → registered_as (r ∷ past) k ≡ registered_as past k
  values : (k : ℕ) → notices (r ∷ past) k ≡ notices past k

stays-still : (past : Past) → Legal past →
    (p : ℕ) (call : Call) (reply : Reply) (payload : List ℕ) →
    IsLegalNext past (rec p call reply payload) → is_still call ≡ true → is_quiet reply ≡ true →
    Still past (rec p call reply payload)
stays-still past legal p call reply payload next still quiet =
    let says : Says past p call reply = legal_says past (rec p call reply payload) next in
    let kept : is_withdrawn reply ≡ false = kept-quiet reply quiet in
    record {
      messages = λ k. contents-step past legal p call reply payload k says ∙
          contents-quiet call payload (is_place k (called_queue past p call)) reply (senders past k)
          (contents past k) quiet;
      sending = λ k. senders-step past p call reply payload k (legal, next) says kept ∙
          senders-quiet p call payload (is_place k (called_queue past p call)) reply
          (senders past k) quiet;
      receiving = λ k. receivers-step past p call reply payload k (legal, next) says kept ∙
          receivers-quiet p call (is_place k (called_queue past p call)) reply
          (receivers past k) quiet;
      registrations = λ k. registered-step past p call reply payload next k
          ∙ ap (λ (b : Bool). after_registered b p call reply (registered_as past k))
          (on-none past p call k still)
          ∙ registered-quiet p call reply (registered_as past k) still quiet;
      values = λ k. notices-step past legal p call reply payload says k ∙ notices-quiet past p call
          reply k (notices past k) quiet;
    }

-- a collect ---------------------------------------------------------------------------------------

abbrev collect : ℕ → ℕ → Record
collect p b = rec p Collect (Collected b) []

collect-held : (past : Past) (p b k d : ℕ) → held (collect p b ∷ past) k d ≡ held past k d
collect-held past p b k d = split (shares p k) (λ t. rw t refl) (λ f. rw f refl)

collect-alive : (past : Past) (p b : ℕ) → alive (collect p b ∷ past) ≡ alive past
collect-alive past p b = alive-same_queues past (collect p b) refl refl (λ e. refl)

collect-answer : (past : Past) → Legal past → (p b k : ℕ) → IsLegalNext past (collect p b) →
    answer (collect p b ∷ past) k ≡ (if p == k then None else answer past k)
collect-answer past legal p b k next = answer-step past legal p Collect (Collected b) [] k
    (legal_says past (collect p b) next) (λ no. absurd (let bad : true ≡ false = no in cc))

-- an open or an unlink ----------------------------------------------------------------------------

names-reply : (past : Past) (p b q : ℕ) (call : Call) (given : List ℕ) → changes_names call ≡ true →
    reply_to (collect p b ∷ past) q call given ≡ reply_to past q call given
names-reply past p b q (MqOpen flags attr) given e = grind (arith, collect-held, collect-alive)
names-reply past p b q MqUnlink given e = refl
names-reply past p b q call given e = absurd (let bad : false ≡ true = e in cc)

names-turn : (past : Past) (p b q : ℕ) (call : Call) → (p ≡ q → ⊥) → changes_names call ≡ true →
    may_call past q call ≡ true → may_call (collect p b ∷ past) q call ≡ true
names-turn past p b q call ne e turn = grind arith

names-free : (past : Past) (q : ℕ) (call : Call) → changes_names call ≡ true →
    may_call past q call ≡ true → open_wait past q ≡ None
names-free past q call e turn = grind arith

module _ (past : Past) (p q : ℕ) (call : Call) (given : List ℕ) (legal : Legal past)
    (first : IsLegalNext past (record_of past p Collect [])) (second : IsLegalNext past
    (record_of past q call given)) (ne : p ≡ q → ⊥) (names : changes_names call ≡ true) where
  abbrev b : Reply
  b = reply_to past q call given

  abbrev bytes : List ℕ
  bytes = payload_of call b given

  abbrev by_p : ℕ
  by_p = unwrap_or (answered_by past p) 0

  -- the collect first
  abbrev mid : Past
  mid = collect p by_p ∷ past

  abbrev y : Past
  y = rec q call b bytes ∷ mid

  -- the other call first
  abbrev x : Past
  x = rec q call b bytes ∷ past

  abbrev then_by : ℕ
  then_by = unwrap_or (answered_by x p) 0

  abbrev both : Past
  both = collect p then_by ∷ x

  same-reply : reply_to mid q call given ≡ b
  same-reply = names-reply past p by_p q call given names

  says : Says past q call b
  says = legal_says past (rec q call b bytes) second

  plain : is_plain b ≡ true
  plain = plain-names past q call b names says

  quiet : is_quiet b ≡ true
  quiet = quiet-plain b plain

  still : is_still call ≡ true
  still = still-names call names

  legal-mid : Legal mid
  legal-mid = (legal, first)

  legal-x : Legal x
  legal-x = (legal, second)

  next-y : IsLegalNext mid (rec q call b bytes)
  next-y = record {
    process = second.process;
    turn = names-turn past p by_p q call ne names second.turn;
    payload = second.payload;
    reply = second.reply ∙ sym (names-reply past p by_p q call bytes names);
  }

  next-both : IsLegalNext x (collect p then_by)
  next-both = record {
    process = first.process;
    turn = stays-answered past (rec q call b bytes) p (λ e. ne (sym e)) first.turn;
    payload = refl;
    reply = refl;
  }

  collect-still : Still past (collect p by_p)
  collect-still = stays-still past legal p Collect (Collected by_p) [] first refl refl

  y-still : Still mid (rec q call b bytes)
  y-still = stays-still mid legal-mid q call b bytes next-y still quiet

  x-still : Still past (rec q call b bytes)
  x-still = stays-still past legal q call b bytes second still quiet

  both-still : Still x (collect p then_by)
  both-still = stays-still x legal-x p Collect (Collected then_by) [] next-both refl refl

  abbrev onto : ℕ → ℕ
  onto = extended (λ j. j) (length mid) (length past)

  -- what is the same at all queues that are not yet created is the same under the renumbering
  at-onto : {X : Type 0} (f : ℕ → X) (none : X) → ((k : ℕ) → length past ≤ k → f k ≡ none) →
      (k : ℕ) → f (onto k) ≡ f k
  at-onto f none new k = split (k == length mid)
      (λ t. let here : k ≡ length mid = eqb-true k (length mid) t in
      rw t (new (length past) (omega arith) ∙ sym (new k (omega (arith, here)))))
      (λ g. rw g refl)

  base : SameStructure (λ j. j) mid past
  base = record {
    names = λ name. option-id (λ (j : ℕ). j) (λ v. refl) (bound_queue past name);
    descriptors = λ k d. option-id (renumbered (λ (j : ℕ). j)) (λ v. refl) (held past k d) ∙
        ap (option_map (renumbered (λ (j : ℕ). j))) (sym (collect-held past p by_p k d));
    queues = subst (λ (qs : List ℕ). Corresponds (λ (j : ℕ). j) qs (alive past))
        (sym (collect-alive past p by_p)) (corresponds-self (alive past));
    limits = λ k h. sym (attributes-older past (collect p by_p) k
        (alive-below past k (subst (λ (qs : List ℕ). is_in qs k ≡ true)
        (collect-alive past p by_p) h)));
  }

  stepped : SameStructure onto y x
  stepped = structure-stays (λ j. j) mid past q call bytes b b (record {
    equivalent = base;
    same = refl;
    legal_x = (legal-mid, next-y);
    legal_y = legal-x;
  })

  structure : SameStructure onto y both
  structure = record {
    names = stepped.names;
    descriptors = λ k d. collect-held x p then_by k d ∙ stepped.descriptors k d;
    queues = subst (λ (qs : List ℕ). Corresponds onto (alive y) qs)
        (sym (collect-alive x p then_by)) stepped.queues;
    limits = λ k h. attributes-older x (collect p then_by) (onto k)
        (alive-below x (onto k) (stepped.queues.each k h)) ∙ stepped.limits k h;
  }

  waits-same : (k : ℕ) → is_some (open_wait both k) ≡ is_some (open_wait y k)
  waits-same k =
      let goes : is_wait b ≡ false = goes-on b plain in
      split (p == k)
      (λ t. split (q == k)
      (λ u. absurd (ne (eqb-true p k t ∙ sym (eqb-true q k u))))
      (λ v. rw (t, v) refl))
      (λ f. split (q == k) (λ u. rw (f, u, goes) refl) (λ v. rw (f, v) refl))

  rooms-same : (k : ℕ) → waiting_room both k ≡ waiting_room y k
  rooms-same k =
      let room : Option ℕ = if is_wait b then Some (room_of call) else None in
      room-step x p Collect (Collected then_by) [] k
      ∙ ap (λ (o : Option ℕ). if p == k then None else o) (room-step past q call b bytes k)
      ∙ own-two p q k ne None room (waiting_room past k)
      ∙ sym (ap (λ (o : Option ℕ). if q == k then room else o) (room-step past p Collect
      (Collected by_p) [] k))
      ∙ sym (room-step mid q call b bytes k)

  deadlines-same : (k : ℕ) → wait_deadline both k ≡ wait_deadline y k
  deadlines-same k = own-two p q k ne None (if is_wait b then deadline_of call else None)
      (wait_deadline past k)

  x-answer : (k : ℕ) → answer x k ≡ answer past k
  x-answer k = answer-step past legal q call b bytes k says
      (λ no. names-free past q call names second.turn) ∙ answer-plain q call bytes b _ _ k
      (answer past k) plain

  y-answer : (k : ℕ) → answer y k ≡ answer mid k
  y-answer k =
      answer-step mid legal-mid q call b bytes k (legal_says mid (rec q call b bytes) next-y)
      (λ no. names-free mid q call names next-y.turn)
      ∙ answer-plain q call bytes b _ _ k (answer mid k) plain

  answers-same : (k : ℕ) → answer both k ≡ answer y k
  answers-same k =
      collect-answer x legal-x p then_by k next-both
      ∙ ap (λ (o : Option (Option (Option Message))). if p == k then None else o) (x-answer k)
      ∙ sym (collect-answer past legal p by_p k first)
      ∙ sym (y-answer k)

  journals : Equivalent y both
  journals = record {
    to = onto;
    equivalent = record {
      legal = ((legal-mid, next-y), (legal-x, next-both));
      structure = structure;
      messages = λ k h. both-still.messages (onto k) ∙ x-still.messages (onto k) ∙
          at-onto (contents past) [] (contents-new past legal) k ∙ sym (y-still.messages k ∙
          collect-still.messages k);
      sending = λ k h. both-still.sending (onto k) ∙ x-still.sending (onto k) ∙
          at-onto (senders past) [] (senders-new past legal) k ∙
          sym (y-still.sending k ∙ collect-still.sending k);
      receiving = λ k h. both-still.receiving (onto k) ∙ x-still.receiving (onto k) ∙
          at-onto (receivers past) [] (receivers-new past legal) k ∙ sym (y-still.receiving k ∙
          collect-still.receiving k);
      registrations = λ k h. both-still.registrations (onto k) ∙ x-still.registrations (onto k)
          ∙ at-onto (registered_as past) None (λ j le. ap (option_map unplaced)
          (registered-later past legal j le)) k
          ∙ sym (y-still.registrations k ∙ collect-still.registrations k);
      values = λ k. both-still.values k ∙ x-still.values k ∙
          sym (y-still.values k ∙ collect-still.values k);
      waits = waits-same;
      rooms = rooms-same;
      deadlines = deadlines-same;
      answered = answers-same;
    };
  }

  abbrev other : Request
  other = record { process = q; call = call; given = given }

  -- the record of the call after the collect, by its reply
  abbrev with_reply : Reply → Record
  with_reply reply = rec q call reply (payload_of call reply given)

  pub names-commute : Commute past (collect_of p) other
  names-commute = record {
    second = record {
      next = subst (λ (reply : Reply). IsLegalNext mid (with_reply reply)) (sym same-reply) next-y;
      reply = ap outline same-reply;
      message = message-plain (after_calls past (other ∷ (collect_of p ∷ [])))
          (reply_to mid q call given) (ap is_plain same-reply ∙ plain) ∙
          sym (message-plain x b plain);
      collected = collected-plain (after_calls past (other ∷ (collect_of p ∷ [])))
          (reply_to mid q call given) (ap is_plain same-reply ∙ plain) ∙
          sym (collected-plain x b plain);
    };
    first = record {
      next = next-both;
      reply = refl;
      message = refl;
      collected =
          collected-alike past x p Collect (Collected by_p) (Collected then_by) [] [] refl
          (λ some. x-answer p) (next-both.turn ∙ sym first.turn)
          refl refl first.turn;
    };
    journals = subst (λ (reply : Reply). Equivalent (with_reply reply ∷ mid) both)
        (sym same-reply) journals;
  }

-- each call ---------------------------------------------------------------------------------------

pub names-off : (call : Call) → is_covered call ≡ true → changes_names call ≡ false
names-off call e = grind arith

names-else : (call : Call) → is_covered call ≡ false → is_withdrawal call ≡ false →
    changes_names call ≡ true
names-else call e f = grind arith

pub collect-commutes : (past : Past) (p : ℕ) (b : Request) → Legal past →
    IsLegalNext past (record_for past (collect_of p)) → IsLegalNext past (record_for past b) →
    (p == b.process) ≡ false → is_withdrawal b.call ≡ false → Commute past (collect_of p) b
collect-commutes past p b legal first second ne kept = split (is_covered b.call)
    (λ covered. apart-commute past (collect_of p) b (record {
      legal = legal;
      first = first;
      second = second;
      apart = apart covered;
    }))
    (λ uncovered. names-commute past p b.process b.call b.given legal first second
    (eqb-false p b.process ne) (names-else b.call uncovered kept))
  where
    apart : is_covered b.call ≡ true → AreSeparate past (collect_of p) b
    apart covered = record {
      processes = eqb-false p b.process ne;
      holders = inr (inl refl);
      calls = (refl, covered);
      queues = refl;
      notices = refl;
    }
