-- No two entries of a legal journal have the same value in these parts of their replies.
use Rattle.std.proofs.lemmas.Bool.Decides.{nat_tests}
use Rattle.std.proofs.Common.{◌≡◌, ◌≢◌, ℕ, ◌<◌, ◌==◌, Bool, true, false, ◌&&◌, [], ◌∷◌, length, Option, Some, None, is_some, if◌then◌else◌, refl, sym, ◌∙◌, ap, subst, arith, eqb-true, eq-eqb, rules}
use Rattle.std.specs.Option.{option_map, option_and_then}
use Rattle.std.proofs.lemmas.Bool.{eqb-false, not-true}
use Rattle.mq_model.specs.Record.{Record, Past}
use Rattle.mq_model.specs.Descriptors.{is_place, is_on}
use Rattle.mq_model.specs.Messages.{is_in, taken, taken_by, present}
use Rattle.mq_model.specs.Notices.{notified, registered, registered_place, registration_of, only_if, unless, ends}
use Rattle.mq_model.specs.Waits.{is_wait, open_wait, named_wait, names_wait, answered_by}
use Rattle.mq_model.specs.Legality.{Legal, IsLegalNext}
use Rattle.mq_model.proofs.Prefixes.{record_at-below}
use Rattle.mq_laws.specs.Laws.{reply_at, message_given, cause, Has, GivesOnce}
use Rattle.mq_model.proofs.Places.{split, clash, is_in-filter, find-in, is_in-with_place}
use Rattle.mq_model.proofs.Cases.{Says}
use Rattle.mq_model.proofs.LegalReplies.{legal_says, got_says}
use Rattle.mq_model.proofs.Frames.{record_at-older}
use Rattle.mq_model.proofs.OpenWaits.{same-waiter}
use Rattle.mq_model.proofs.NoticeSteps.{registered-made, made-of, only-some}
use Rattle.mq_model.proofs.Presence.{present-admitted, present-below}
use Rattle.mq_laws.proofs.EndedWaits.{with-first, has-older, has-named, ended-below, ended-once, named-once, withdrawn-unnamed, withdrawn-not_accepted, admitted-not_handed}
use Rattle.mq_laws.proofs.LegalPlaces.{has-record, has-here, has-cases, once}
use Rattle.mq_model.specs.declared.entries.Registration.{Registration}
use Rattle.mq_model.specs.declared.entries.Call.{Call}
use Rattle.mq_model.specs.declared.entries.Call.TheVariants.{MqOpen, MqClose, MqUnlink, MqSend, MqReceive, MqGetattr, MqSetattr, MqNotify, NextNotice, Collect, MqTimedSend, MqTimedReceive, Withdraw}
use Rattle.mq_model.specs.declared.entries.Reply.{Reply}
use Rattle.mq_model.specs.declared.entries.Reply.TheVariants.{Queued, Handed, Got, Collected}
use Rattle.mq_laws.proofs.Registered.{unless-parts}

-- messages ----------------------------------------------------------------------------------------

pub given-reply : (reply : Reply) (m : ℕ) → message_given reply ≡ Some m →
    (a : Option ℕ) × (n : Option ℕ) × (reply ≡ Got m a n)
given-reply reply m e = grind arith

-- a message that a legal record returns was present in a queue
pub given-present : (past : Past) (r : Record) → IsLegalNext past r → (m : ℕ) →
    message_given r.entry.reply ≡ Some m → (q : ℕ) × (is_in (present past q) m ≡ true)
given-present past r next m e =
    let is = given-reply r.entry.reply m e in
    let says : Says past r.entry.process r.entry.call (Got m is.0 is.1) =
    rw is.2 at (legal_says past r next) in
    let got = got_says past r.entry.process r.entry.call m is.0 is.1 says in
    (got.2.queue, (find-in _ (present past got.2.queue) m got.6).0)

pub given-taken : (past : Past) (j m : ℕ) → Has message_given past j m → is_in (taken past) m ≡ true
given-taken [] j m e = absurd (cc)
given-taken (r ∷ past) j m e = has-cases message_given past r j m e
    (λ here is. let g = given-reply r.entry.reply m is in rw g.2 (with-first m (taken past)))
    (λ old lt. is_in-with_place (taken_by (length past) r.entry.reply) (taken past) m
    (given-taken past j m old))

given-fresh : (past : Past) (r : Record) → Legal past → IsLegalNext past r → (j m : ℕ) →
    message_given r.entry.reply ≡ Some m → Has message_given past j m → ⊥
given-fresh past r legal next j m e old = grind (
  arith,
  given-present,
  not-true,
  is_in-filter,
  clash,
  given-taken,
)

pub given-earlier : (past : Past) → Legal past → (k m : ℕ) → Has message_given past k m → m < k
given-earlier [] legal k m e = absurd (cc)
given-earlier (r ∷ past) legal k m e = has-cases message_given past r k m e
    (λ here is. let there = given-present past r legal.1 m is in let lt = present-below past there.0
    m there.1 in omega (arith, lt, here))
    (λ old lt. given-earlier past legal.0 k m old)

-- what was handed over ----------------------------------------------------------------------------

given-not_handed : (past : Past) → Legal past → (k m w : ℕ) → Has message_given past k m →
    reply_at past m ≢ Some (Handed w)
given-not_handed [] legal k m w e h = absurd (cc)
given-not_handed (r ∷ past) legal k m w e h = has-cases message_given past r k m e
    (λ here is. let there = given-present past r legal.1 m is in
    admitted-not_handed past legal.0 there.0 m w (present-admitted past there.0 m there.1)
    (sym (older (present-below past there.0 m there.1)) ∙ h))
    (λ old lt. let before = given-earlier past legal.0 k m old in
    given-not_handed past legal.0 k m w old (sym (older (omega (arith, before, lt))) ∙ h))
  where
    older : m < length past → reply_at (r ∷ past) m ≡ reply_at past m
    older lt = ap (option_map (λ (x : Record). x.entry.reply)) (record_at-older past r m lt)

-- registrations -----------------------------------------------------------------------------------

abbrev IsStanding : Past → ℕ → Type 0
IsStanding past k = (q : ℕ) × (n : Registration) × (registered past q ≡ Some n) × (n.place ≡ k)

standing-if : (past : Past) (q k : ℕ) (b : Bool) (n : Option ℕ) →
    n ≡ (if b then registered_place past q else None) → n ≡ Some k → IsStanding past k
standing-if past q k b n is e = grind arith

-- a registration that a legal record notifies existed
notified-standing : (past : Past) (r : Record) → IsLegalNext past r → (k : ℕ) →
    notified r.entry.reply ≡ Some k → IsStanding past k
notified-standing past r next k e = by r.entry.call r.entry.reply (legal_says past r next) e
  where
    by : (call : Call) (reply : Reply) → Says past r.entry.process call reply →
        notified reply ≡ Some k → IsStanding past k
    by (MqSend d prio len) (Queued n) says e = standing-if past says.0.queue k
        (length (present past says.0.queue) == 0) n says.3.2 e
    by (MqTimedSend d prio len until now) (Queued n) says e = standing-if past says.0.queue k
        (length (present past says.0.queue) == 0) n says.3.2 e
    by (MqOpen flags attr) (Queued n) says e = absurd says
    by (MqClose d) (Queued n) says e = absurd says.0
    by MqUnlink (Queued n) says e = absurd says
    by (MqReceive d room) (Queued n) says e = absurd says.3
    by (MqTimedReceive d room until now) (Queued n) says e = absurd says.3
    by (MqGetattr d) (Queued n) says e = absurd says
    by (MqSetattr d nonblock) (Queued n) says e = absurd says
    by (MqNotify d value) (Queued n) says e = absurd says
    by NextNotice (Queued n) says e = absurd (cc)
    by Collect (Queued n) says e = absurd (cc)
    by (Withdraw now) (Queued n) says e = absurd (cc)
    by (MqReceive d room) (Got m a n) says e = standing-if past says.0.queue k
        (is_some a && length (present past says.0.queue) == 1) n says.3.2 e
    by (MqTimedReceive d room until now) (Got m a n) says e = standing-if past says.0.queue k
        (is_some a && length (present past says.0.queue) == 1) n says.3.2 e
    by (MqOpen flags attr) (Got m a n) says e = absurd says
    by (MqClose d) (Got m a n) says e = absurd says.0
    by MqUnlink (Got m a n) says e = absurd says
    by (MqSend d prio len) (Got m a n) says e = absurd says.3
    by (MqTimedSend d prio len until now) (Got m a n) says e = absurd says.3
    by (MqGetattr d) (Got m a n) says e = absurd says
    by (MqSetattr d nonblock) (Got m a n) says e = absurd says
    by (MqNotify d value) (Got m a n) says e = absurd says
    by NextNotice (Got m a n) says e = absurd (cc)
    by Collect (Got m a n) says e = absurd (cc)
    by (Withdraw now) (Got m a n) says e = absurd (cc)
    by call reply says e = absurd (cc)

notified-below : (past : Past) → Legal past → (j k : ℕ) → Has notified past j k → k < length past
notified-below [] legal j k e = absurd (cc)
notified-below (r ∷ past) legal j k e = has-cases notified past r j k e
    (λ here is. let x = notified-standing past r legal.1 k is in
    let lt = (registered-made past x.0 x.1 x.2).place in let at = x.3 in omega (arith, lt, at))
    (λ old lt. let le = notified-below past legal.0 j k old in omega (arith, le))

-- a registration that exists was not notified
standing-unnotified : (past : Past) → Legal past → (q j : ℕ) (n : Registration) →
    registered past q ≡ Some n → Has notified past j n.place → ⊥
standing-unnotified [] legal q j n e h = absurd (cc)
standing-unnotified (r ∷ past) legal q j n e h =
    by (only_if (is_on past r.entry q) (registration_of (length past) r.entry.process r.entry.call
    r.entry.reply)) refl e (λ old there. standing-unnotified past legal.0 q j n old there)
  where
    by : (o : Option Registration) →
        only_if (is_on past r.entry q) (registration_of (length past) r.entry.process r.entry.call
        r.entry.reply) ≡ o → registered (r ∷ past) q ≡ Some n → (registered past q ≡ Some n →
        Has notified past j n.place → ⊥) → ⊥
    by None is e rest =
        let old : unless (ends (is_on past r.entry q) r.entry) (registered past q) ≡ Some n =
        rw is at e in
        let x = unless-parts (ends (is_on past r.entry q) r.entry) (registered past q) n old in
        has-cases notified past r j n.place h
        (λ here told. let is_told : is_place n.place (notified r.entry.reply) ≡ true = rw told
        (eq-eqb n.place n.place refl) in let bad : true ≡ false = rw is_told at x.1 in
        absurd (cc))
        (λ there lt. rest x.0 there)
    by (Some m) is e rest =
        grind (arith, nat_tests, only-some, made-of, has-cases, notified-below)

notified-fresh : (past : Past) (r : Record) → Legal past → IsLegalNext past r → (j k : ℕ) →
    notified r.entry.reply ≡ Some k → Has notified past j k → ⊥
notified-fresh past r legal next j k e old =
    let x = notified-standing past r next k e in
    let P : ℕ → Type 0 = Has notified past j in
    standing-unnotified past legal x.0 j x.1 x.2 (subst P (sym x.3) old)

-- causes ------------------------------------------------------------------------------------------

-- an entry that answers a wait names it
pub record IsNamedBy (past : Past) (p by : ℕ) : Type 0 where
  pub w : ℕ
  pub opened : open_wait past p ≡ Some w
  pub named : Has named_wait past by w

pub answered-named : (past : Past) (p by : ℕ) → answered_by past p ≡ Some by → IsNamedBy past p by
answered-named [] p by e = absurd (cc)
answered-named (r ∷ past) p by e = split (r.entry.process == p)
    (λ own. let bad : None ≡ Some by = rw own at e in absurd (cc))
    (λ other.
    let rest : (if names_wait r.entry.reply (open_wait past p) then Some (length past) else
    answered_by past p) ≡ Some by = rw other at e in
    split (names_wait r.entry.reply (open_wait past p))
    (λ t. let here : Some (length past) ≡ Some by = rw t at rest in let place : length past ≡
    by = cc in named other place (open_wait past p) refl t)
    (λ f. let old : answered_by past p ≡ Some by = rw f at rest in
    let x = answered-named past p by old in
    record {
      w = x.w;
      opened = rw other x.opened;
      named = has-older named_wait past r by x.w x.named;
    }))
  where
    is-named : (o : Option ℕ) (w : ℕ) → is_place w o ≡ true → o ≡ Some w
    is-named None w t = absurd (cc)
    is-named (Some k) w t = ap Some (eqb-true _ _ t)

    named : (r.entry.process == p) ≡ false → length past ≡ by → (o : Option ℕ) →
        open_wait past p ≡ o → names_wait r.entry.reply o ≡ true → IsNamedBy (r ∷ past) p by
    named other place None is t = absurd (cc)
    named other place (Some w) is t =
        let P : ℕ → Type 0 = λ k. Has named_wait (r ∷ past) k w in
        record {
          w = w;
          opened = rw other is;
          named = subst P place (has-here named_wait past r w
              (is-named (named_wait r.entry.reply) w t));
        }

-- the cause of a collect answered its process
pub record IsCollected (past : Past) (r : Record) (by : ℕ) : Type 0 where
  pub answered : answered_by past r.entry.process ≡ Some by
  pub reply : r.entry.reply ≡ Collected by

pub collected : (past : Past) (r : Record) → IsLegalNext past r → (by : ℕ) →
    cause r.entry.reply ≡ Some by → IsCollected past r by
collected past r next by e = grind (arith, legal_says, Says)

pub cause-below : (past : Past) → Legal past → (j by : ℕ) → Has cause past j by → by < length past
cause-below [] legal j by e = absurd (cc)
cause-below (r ∷ past) legal j by e = has-cases cause past r j by e
    (λ here is. let x = answered-named past r.entry.process by
    (collected past r legal.1 by is).answered in
    let y = has-record named_wait past by x.w x.named in
    let lt = record_at-below past by y.r y.at in omega (arith, lt))
    (λ old lt. let le = cause-below past legal.0 j by old in omega (arith, le))

-- a wait whose answer was collected is no longer open
pub closed : (past : Past) → Legal past → (j by w p : ℕ) → Has cause past j by →
    Has named_wait past by w → open_wait past p ≡ Some w → ⊥
closed [] legal j by w p e h o = absurd (cc)
closed (r ∷ past) legal j by w p e h o = has-cases cause past r j by e
    (λ here is.
    let c = collected past r legal.1 by is in
    let x = answered-named past r.entry.process by c.answered in
    grind (arith, nat_tests, has-record, record_at-below, same-waiter, eqb-false))
    (λ old lt.
    let before = older h (cause-below past legal.0 j by old) in
    split (r.entry.process == p)
    (λ own. let last : (if is_wait r.entry.reply then Some (length past) else None) ≡
    Some w = rw own at o in newest (is_wait r.entry.reply) last before)
    (λ other. let still : open_wait past p ≡ Some w = rw other at o in closed past legal.0 j by w p
    old before still))
  where
    older : Has named_wait (r ∷ past) by w → by < length past → Has named_wait past by w
    older h lt = ap (λ (o : Option Record). option_and_then named_wait
        (option_map (λ (x : Record). x.entry.reply) o)) (sym (record_at-older past r by lt)) ∙ h

    newest : (b : Bool) → (if b then Some (length past) else None) ≡ Some w →
        Has named_wait past by w → ⊥
    newest true e h = let same : length past ≡ w = cc in let lt = ended-below past legal.0 by w
        (has-named past by w h) in omega (arith, lt, same)
    newest false e h = let bad : None ≡ Some w = e in cc

cause-fresh : (past : Past) (r : Record) → Legal past → IsLegalNext past r → (j by : ℕ) →
    cause r.entry.reply ≡ Some by → Has cause past j by → ⊥
cause-fresh past r legal next j by e old =
    let x = answered-named past r.entry.process by (collected past r next by e).answered in
    closed past legal j by x.w r.entry.process old x.named x.opened

-- the law -----------------------------------------------------------------------------------------

pub gives-once : (past : Past) → Legal past → GivesOnce past
gives-once past legal = search (
  rules,
  once,
  given-fresh,
  given-not_handed,
  given-earlier,
  ended-once,
  named-once,
  withdrawn-unnamed,
  withdrawn-not_accepted,
  notified-fresh,
  cause-fresh,
)
