-- What a receive and a hand-over leave in the queues.
use Rattle.std.proofs.lemmas.Bool.Decides.{nat_tests}
use Rattle.std.proofs.Common.{◌≡◌, ◌≢◌, ℕ, ◌<◌, ◌≤◌, ◌==◌, true, false, ◌&&◌, ◌||◌, not, List, [], ◌∷◌, length, Option, Some, None, if◌then◌else◌, refl, sym, ◌∙◌, ap, subst, arith, eqb-true, eq-eqb, ne_eqb, ◌⊎◌, inl, inr}
use Rattle.std.specs.List.{filter}
use Rattle.std.specs.Option.{option_map, unwrap_or}
use Rattle.std.proofs.lemmas.Bool.{eqb-false, and_parts, false_from_ne_true, not-true}
use Rattle.mq_model.specs.Record.{Record, Past, record_at}
use Rattle.mq_model.specs.Descriptors.{is_place, is_on, called_queue}
use Rattle.mq_model.specs.Messages.{is_in, with_place, if_in, queues, admits, ends_send, blocks_send, blocked_sends, waiting_sends, ended_sends, entered, admitted, taken, taken_by, present, least, priority, priority_given}
use Rattle.mq_model.specs.Legality.{Legal}
use Rattle.mq_model.specs.declared.entries.Call.{Call}
use Rattle.mq_model.specs.declared.entries.Reply.{Reply}
use Rattle.mq_model.specs.declared.entries.Reply.TheVariants.{Queued, Handed, Waits, Got}
use Rattle.mq_model.proofs.Places.{split, clash, is_in-filter, find-in, is_in-with_place}
use Rattle.mq_model.proofs.Cases.{Says}
use Rattle.mq_model.proofs.LegalReplies.{legal_says, got_says}
use Rattle.mq_model.proofs.Frames.{filter-same, record_at-older}
use Rattle.mq_model.proofs.NamedWaits.{least-in}
use Rattle.mq_model.proofs.Steps.{Below, without, filter-both, admitted-below, blocked_sends-below, taken-below, if_in-inside}

-- the queue that the call at a place was made on
abbrev pub sent_to : Past → ℕ → Option ℕ
sent_to [] m = None
sent_to (r ∷ past) m = if m == length past then called_queue past r.entry.process r.entry.call
    else sent_to past m

abbrev pub reply_at : Past → ℕ → Option Reply
reply_at past m = option_map (λ r. r.entry.reply) (record_at past m)

pub place-is : (o : Option ℕ) (q : ℕ) → is_place q o ≡ true → o ≡ Some q
place-is o q e = grind (arith, eqb-true)

sent_to-older : (past : Past) (r : Record) (m : ℕ) → m < length past →
    sent_to (r ∷ past) m ≡ sent_to past m
sent_to-older past r m lt = rw (ne_eqb m (length past) (λ e. omega arith)) refl

reply_at-older : (past : Past) (r : Record) (m : ℕ) → m < length past →
    reply_at (r ∷ past) m ≡ reply_at past m
reply_at-older past r m lt = ap (option_map (λ (x : Record). x.entry.reply))
    (record_at-older past r m lt)

reply_at-newest : (past : Past) (r : Record) →
    reply_at (r ∷ past) (length past) ≡ Some r.entry.reply
reply_at-newest past r = rw (eq-eqb (length past) (length past) refl) refl

-- a blocked send is on its queue, and has the reply Waits
pub record IsBlockedOn (past : Past) (q w : ℕ) : Type 0 where
  pub to : sent_to past w ≡ Some q
  pub reply : reply_at past w ≡ Some Waits

pub blocked-on : (past : Past) (q w : ℕ) → is_in (blocked_sends past q) w ≡ true →
    IsBlockedOn past q w
blocked-on [] q w h = absurd (cc)
blocked-on (r ∷ past) q w h = split (blocks_send r.entry.call r.entry.reply && is_on past r.entry q)
    (λ t. let new : (length past == w || is_in (blocked_sends past q) w) ≡ true = rw t at h in
    let parts = and_parts (blocks_send r.entry.call r.entry.reply) (is_on past r.entry q) t in
    split (length past == w)
    (λ e. grind (arith, nat_tests, eqb-true, eq-eqb, place-is, reply_at-newest))
    (λ n. older (blocked-on past q w (rw n at new)) (blocked_sends-below past q w (rw n at new))))
    (λ f. older (blocked-on past q w (rw f at h)) (blocked_sends-below past q w (rw f at h)))
  where
    older : IsBlockedOn past q w → w < length past → IsBlockedOn (r ∷ past) q w
    older x lt = record {
      to = sent_to-older past r w lt ∙ x.to;
      reply = reply_at-older past r w lt ∙ x.reply;
    }

pub queues-reply : (call : Call) (reply : Reply) → queues call reply ≡ true →
    (n : Option ℕ) × (reply ≡ Queued n)
queues-reply call reply e = grind arith

-- a reply that admits a waiting send ends its wait
pub admits-ends : (reply : Reply) (m : ℕ) → admits reply ≡ Some m → ends_send reply ≡ Some m
admits-ends reply m e = grind arith

-- a message that entered a queue was sent to it, and either it entered at once or its wait ended
pub record IsAdmittedTo (past : Past) (q m : ℕ) : Type 0 where
  pub to : sent_to past m ≡ Some q
  pub how : ((n : Option ℕ) × (reply_at past m ≡ Some (Queued n))) ⊎ (is_in (ended_sends past) m ≡
      true)

pub admitted-to : (past : Past) (q m : ℕ) → is_in (admitted past q) m ≡ true → IsAdmittedTo past q m
admitted-to [] q m h = absurd (cc)
admitted-to (r ∷ past) q m h = by (entered past r.entry q) refl h
    (λ rest. admitted-to past q m rest)
  where
    older : IsAdmittedTo past q m → m < length past → IsAdmittedTo (r ∷ past) q m
    older x lt = record { to = sent_to-older past r m lt ∙ x.to; how = how x.how }
      where
        how : ((n : Option ℕ) × (reply_at past m ≡ Some (Queued n))) ⊎ (is_in (ended_sends past) m ≡
            true) → ((n : Option ℕ) × (reply_at (r ∷ past) m ≡ Some (Queued n))) ⊎
            (is_in (ended_sends (r ∷ past)) m ≡ true)
        how (inl y) = inl (y.0, reply_at-older past r m lt ∙ y.1)
        how (inr y) = inr (is_in-with_place (ends_send r.entry.reply) (ended_sends past) m y)

    here : entered past r.entry q ≡ Some m → IsAdmittedTo (r ∷ past) q m
    here e = split (queues r.entry.call r.entry.reply && is_on past r.entry q)
        (λ t. grind (arith, nat_tests, and_parts, queues-reply, eq-eqb, place-is, reply_at-newest))
        (λ f. grind (
          arith,
          nat_tests,
          if_in-inside,
          blocked_sends-below,
          sent_to-older,
          blocked-on,
          admits-ends,
          eq-eqb,
        ))

    by : (o : Option ℕ) → entered past r.entry q ≡ o →
        is_in (with_place (entered past r.entry q) (admitted past q)) m ≡ true →
        (is_in (admitted past q) m ≡ true → IsAdmittedTo past q m) → IsAdmittedTo (r ∷ past) q m
    by None e h rest = let old : is_in (admitted past q) m ≡ true = rw e at h in older (rest old)
        (admitted-below past q m old)
    by (Some k) e h rest =
        let h' : (k == m || is_in (admitted past q) m) ≡ true = rw e at h in
        split (k == m)
        (λ t. let same : k ≡ m = eqb-true _ _ t in here (e ∙ ap Some same))
        (λ f. let old : is_in (admitted past q) m ≡ true = rw f at h' in older (rest old)
        (admitted-below past q m old))

pub present-admitted : (past : Past) (q m : ℕ) → is_in (present past q) m ≡ true →
    is_in (admitted past q) m ≡ true
present-admitted past q m h = (is_in-filter (λ k. not (is_in (taken past) k))
    (admitted past q) m h).0

-- a message is in one queue
pub present-once : (past : Past) (q k m : ℕ) → is_in (present past q) m ≡ true →
    is_in (present past k) m ≡ true → q ≡ k
present-once past q k m h g =
    let a = (admitted-to past q m (present-admitted past q m h)).to in
    let b = (admitted-to past k m (present-admitted past k m g)).to in
    let same : Some q ≡ Some k = sym a ∙ b in cc

-- what was taken was handed over, or had entered a queue
pub taken-cases : (past : Past) → Legal past → (m : ℕ) → is_in (taken past) m ≡ true →
    ((w : ℕ) × (reply_at past m ≡ Some (Handed w))) ⊎ ((q : ℕ) × (is_in (admitted past q) m ≡ true))
taken-cases [] legal m h = absurd (cc)
taken-cases (r ∷ past) legal m h = by (taken_by (length past) r.entry.reply) refl h
    (λ rest. taken-cases past legal.0 m rest)
  where
    older : ((w : ℕ) × (reply_at past m ≡ Some (Handed w))) ⊎
        ((q : ℕ) × (is_in (admitted past q) m ≡ true)) → m < length past →
        ((w : ℕ) × (reply_at (r ∷ past) m ≡ Some (Handed w))) ⊎
        ((q : ℕ) × (is_in (admitted (r ∷ past) q) m ≡ true))
    older (inl x) lt = inl (x.0, reply_at-older past r m lt ∙ x.1)
    older (inr x) lt = inr (
      x.0,
      is_in-with_place (entered past r.entry x.0)
          (admitted past x.0) m x.1,
    )

    here : (reply : Reply) → r.entry.reply ≡ reply → Says past r.entry.process r.entry.call reply →
        taken_by (length past) reply ≡ Some m →
        ((w : ℕ) × (reply_at (r ∷ past) m ≡ Some (Handed w))) ⊎
        ((q : ℕ) × (is_in (admitted (r ∷ past) q) m ≡ true))
    here (Got k a n) is says e =
        let got = got_says past r.entry.process r.entry.call k a n says in
        let same : k ≡ m = cc in
        let inside = (find-in _ (present past got.2.queue) k got.6).0 in
        let P : ℕ → Type 0 = λ j. is_in (admitted past got.2.queue) j ≡ true in
        let there : P m = subst P same (present-admitted past got.2.queue k inside) in
        inr (
          got.2.queue,
          is_in-with_place (entered past r.entry got.2.queue)
              (admitted past got.2.queue) m there,
        )
    here (Handed w) is says e = let same : length past ≡ m =
        cc in inl (w, rw (← same) (reply_at-newest past r ∙ ap Some is))
    here reply is says e = absurd (cc)

    by : (o : Option ℕ) → taken_by (length past) r.entry.reply ≡ o →
        is_in (with_place (taken_by (length past) r.entry.reply) (taken past)) m ≡ true →
        (is_in (taken past) m ≡ true → ((w : ℕ) × (reply_at past m ≡ Some (Handed w))) ⊎
        ((q : ℕ) × (is_in (admitted past q) m ≡ true))) →
        ((w : ℕ) × (reply_at (r ∷ past) m ≡ Some (Handed w))) ⊎
        ((q : ℕ) × (is_in (admitted (r ∷ past) q) m ≡ true))
    by None e h rest = let old : is_in (taken past) m ≡ true = rw e at h in older (rest old)
        (taken-below past legal.0 m old)
    by (Some k) e h rest =
        let h' : (k == m || is_in (taken past) m) ≡ true = rw e at h in
        split (k == m)
        (λ t. let same : k ≡ m = eqb-true _ _ t in here r.entry.reply refl
        (legal_says past r legal.1) (e ∙ ap Some same))
        (λ f. let old : is_in (taken past) m ≡ true = rw f at h' in older (rest old)
        (taken-below past legal.0 m old))

-- a send that still waits entered no queue, and was not taken
pub waiting-not_admitted : (past : Past) (q w k : ℕ) → is_in (waiting_sends past q) w ≡ true →
    is_in (admitted past k) w ≡ false
waiting-not_admitted past q w k h = grind (
  arith,
  is_in-filter,
  blocked-on,
  false_from_ne_true,
  not-true,
  admitted-to,
  clash,
)

pub waiting-not_taken : (past : Past) → Legal past → (q w : ℕ) →
    is_in (waiting_sends past q) w ≡ true → is_in (taken past) w ≡ false
waiting-not_taken past legal q w h = grind (
  arith,
  is_in-filter,
  blocked-on,
  false_from_ne_true,
  taken-cases,
  clash,
  waiting-not_admitted,
)

pub without-absent : (m : ℕ) (xs : List ℕ) → is_in xs m ≡ false → without m xs ≡ xs
without-absent m [] e = refl
without-absent m (x ∷ xs) e = split (x == m)
    (λ t. let bad : true ≡ false = rw t at e in absurd (cc))
    (λ f. let rest : is_in xs m ≡ false = rw f at e in
    rw (ne_eqb m x (λ same. eqb-false _ _ f (sym same)), without-absent m xs rest) refl)

pub without-fewer : (m : ℕ) (xs : List ℕ) → is_in xs m ≡ true → length (without m xs) < length xs
without-fewer m [] e = absurd (cc)
without-fewer m (x ∷ xs) e = split (x == m)
    (λ t. let same : (m == x) ≡ true = eq-eqb m x (sym (eqb-true _ _ t)) in
    rw same (let le = without-le m xs in omega (arith, le)))
    (λ f. let rest : is_in xs m ≡ true = rw f at e in
    rw (ne_eqb m x (λ same. eqb-false _ _ f (sym same))) (let lt = without-fewer m xs rest in
    omega (arith, lt)))
  where
    without-le : (m : ℕ) (xs : List ℕ) → length (without m xs) ≤ length xs
    without-le m [] = omega arith
    without-le m (x ∷ xs) = let le = without-le m xs in split (m == x)
        (λ t. rw t (omega (arith, le))) (λ f. rw f (omega (arith, le)))

-- the receive's own queue, and the others
pub record GotFacts (past : Past) (q m : ℕ) (a : Option ℕ) : Type 0 where
  pub inside : is_in (present past q) m ≡ true
  pub admitted : a ≡ least (waiting_sends past q)

abbrev rec : ℕ → Call → Reply → List ℕ → Record
rec p call reply payload = record {
  entry = record { process = p; call = call; reply = reply };
  payload = payload;
}

-- a receive leaves the other queues
pub present-got_elsewhere : (past : Past) (p : ℕ) (call : Call) (m : ℕ) (a n : Option ℕ)
    (payload : List ℕ) (q k : ℕ) → GotFacts past q m a → k ≢ q →
    present (rec p call (Got m a n) payload ∷ past) k ≡ present past k
present-got_elsewhere past p call m a n payload q k facts ne =
    ap (λ xs. filter (λ j. not (m == j || is_in (taken past) j)) xs)
    (same-admitted a facts.admitted)
    ∙ filter-both (λ j. m == j) (is_in (taken past)) (admitted past k)
    ∙ without-absent m (present past k)
    (false_from_ne_true _ (λ there. ne (present-once past k q m there facts.inside)))
  where
    same-admitted : (a : Option ℕ) → a ≡ least (waiting_sends past q) →
        with_place (if_in (blocked_sends past k) a) (admitted past k) ≡ admitted past k
    same-admitted None e = refl
    same-admitted (Some w) e =
        let inside = least-in (waiting_sends past q) w (sym e) in
        let mine = (blocked-on past q w (is_in-filter (λ w. not (is_in (ended_sends past) w))
        (blocked_sends past q) w inside).0).to in
        let out : is_in (blocked_sends past k) w ≡ false = false_from_ne_true _
        (λ there. let its = (blocked-on past k w there).to in let same : Some q ≡
        Some k = sym mine ∙ its in let e : q ≡ k = cc in ne (sym e)) in
        rw out refl

-- a receive takes its message out of its queue, and lets in the one that it admits
pub present-got_here : (past : Past) → Legal past →
    (p : ℕ) (call : Call) (m : ℕ) (a n : Option ℕ) (payload : List ℕ) (q : ℕ) →
    GotFacts past q m a → present (rec p call (Got m a n) payload ∷ past) q ≡
    with_place a (without m (present past q))
present-got_here past legal p call m None n payload q facts = filter-both (λ k. m == k)
    (is_in (taken past)) (admitted past q)
present-got_here past legal p call m (Some w) n payload q facts =
    let waits = least-in (waiting_sends past q) w (sym facts.admitted) in
    let blocked : is_in (blocked_sends past q) w ≡ true =
    (is_in-filter (λ w. not (is_in (ended_sends past) w)) (blocked_sends past q) w waits).0 in
    let fresh : is_in (taken past) w ≡ false = waiting-not_taken past legal q w waits in
    let other : (m == w) ≡ false = ne_eqb m w (λ same. clash (is_in (admitted past q) w)
    (rw same at (present-admitted past q m facts.inside))
    (waiting-not_admitted past q w q waits)) in
    rw blocked (filter-both (λ k. m == k) (is_in (taken past)) (w ∷ admitted past q) ∙
    rw (fresh, other) refl)

-- a hand-over leaves what is present
pub present-handed : (past : Past) (p : ℕ) (call : Call) (w : ℕ) (payload : List ℕ) (q : ℕ) →
    present (rec p call (Handed w) payload ∷ past) q ≡ present past q
present-handed past p call w payload q = grind (arith, filter-same, admitted-below)

-- a priority does not change
pub priority-older : (past : Past) (r : Record) (m : ℕ) → m < length past →
    priority (r ∷ past) m ≡ priority past m
priority-older past r m lt =
    ap (λ o. unwrap_or (option_map (λ (x : Record). priority_given x.entry.call) o) 0)
    (record_at-older past r m lt)

pub present-below : (past : Past) (q : ℕ) → Below (length past) (present past q)
present-below past q m h = admitted-below past q m (present-admitted past q m h)
