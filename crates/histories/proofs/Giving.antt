-- In a legal journal a message is given no more often than it was sent.
use Rattle.std.proofs.Common.{◌≡◌, ℕ, ◌≤◌, ◌==◌, Bool, true, false, ◌&&◌, List, [], ◌∷◌, length, Option, Some, None, nat_eq, ◌⊎◌, inl, inr, refl, sym, ◌∙◌, ap, subst, arith, if◌then◌else◌, eqb-true, eq-eqb}
use Rattle.std.specs.Option.{option_map}
use Rattle.std.specs.Str.{bytes_eq}
use Rattle.std.specs.List.{AllByRecursion, IsDistinct}
use Rattle.std.specs.Cmp.{back_equiv}
use Rattle.std.specs.Ordering.{flip_args}
use Rattle.std.proofs.lemmas.Cmp.{nat_eq_equiv}
use Rattle.std.proofs.lemmas.Bool.{and_parts}
use Rattle.std.proofs.lemmas.Map.Made.{length-le_from_is_member}
use Rattle.mq_model.specs.Record.{Record, Past, Place, first, record_at}
use Rattle.mq_model.specs.Messages.{is_in, with_place, is_send, priority_given, present}
use Rattle.mq_model.specs.Legality.{Legal, IsLegalNext}
use Rattle.mq_model.proofs.Places.{split}
use Rattle.mq_model.proofs.Cases.{Says}
use Rattle.mq_model.proofs.LegalReplies.{legal_says}
use Rattle.mq_model.proofs.Presence.{present-admitted}
use Rattle.mq_model.proofs.Prefixes.{record_at-below}
use Rattle.mq_model.proofs.Frames.{record_at-older}
use Rattle.mq_laws.specs.Laws.{reply_at, message_given, cause, Has}
use Rattle.mq_laws.proofs.LegalPlaces.{has-here, has-record, legal-at}
use Rattle.mq_laws.proofs.EndedWaits.{has-older}
use Rattle.mq_laws.proofs.GivenOnce.{given-present, gives-once}
use Rattle.mq_laws.proofs.SentMessages.{is_sent, admitted-sent}
use Rattle.mq_model.specs.declared.entries.Call.{Call}
use Rattle.mq_model.specs.declared.entries.Reply.{Reply}
use Rattle.mq_model.specs.declared.entries.Reply.TheVariants.{Handed, Got, Collected}
use Rattle.histories.specs.Outcomes.{hands, is_handed, is_message}

-- sends -------------------------------------------------------------------------------------------

-- a send of this message that did not fail
abbrev pub is_sending : ℕ → List ℕ → Record → Bool
is_sending prio message r = is_send r.entry.call && is_sent r.entry.reply &&
    priority_given r.entry.call == prio && bytes_eq r.payload message

-- their places
abbrev pub sent_of : ℕ → List ℕ → Past → List ℕ
sent_of prio message [] = []
sent_of prio message (r ∷ past) = if is_sending prio message r
    then length past ∷ sent_of prio message past else sent_of prio message past

sent-more : (prio : ℕ) (message : List ℕ) (past : Past) (r : Record) (m : ℕ) →
    is_in (sent_of prio message past) m ≡ true → is_in (sent_of prio message (r ∷ past)) m ≡ true
sent-more prio message past r m before = grind arith

sent-in : (prio : ℕ) (message : List ℕ) (past : Past) (m : ℕ) (r : Record) →
    record_at past m ≡ Some r → is_sending prio message r ≡ true →
    is_in (sent_of prio message past) m ≡ true
sent-in prio message [] m r there is = absurd (cc)
sent-in prio message (s ∷ past) m r there is = split (m == length past)
    (λ t.
    let same : Some s ≡ Some r = rw t at there in
    let e : s ≡ r = cc in
    let here : is_sending prio message s ≡ true = ap (is_sending prio message) e ∙ is in
    let place : length past ≡ m = sym (eqb-true _ _ t) in
    rw here (rw (eq-eqb (length past) m place) refl))
    (λ f.
    let old : record_at past m ≡ Some r = rw f at there in
    sent-more prio message past s m (sent-in prio message past m r old is))

-- a handed message is that of a send
pub handed-sends : (past : Past) (p w : ℕ) (call : Call) → Says past p call (Handed w) →
    is_send call ≡ true
handed-sends past p w call says = grind arith

pub handing : (reply : Reply) → hands reply ≡ true → (w : ℕ) × (reply ≡ Handed w)
handing reply e = grind arith

pub record HandedAt (past : Past) (m : ℕ) : Type 0 where
  pub r : Record
  pub w : ℕ
  pub there : record_at past m ≡ Some r
  pub reply : r.entry.reply ≡ Handed w

handed-at : (past : Past) (m : ℕ) → is_handed past m ≡ true → HandedAt past m
handed-at past m e = grind (arith, handing)

-- the message at the place of a record
message-of : (past : Past) (m prio : ℕ) (message : List ℕ) (r : Record) →
    record_at past m ≡ Some r → is_message past m prio message ≡ true →
    ((priority_given r.entry.call == prio) ≡ true) × (bytes_eq r.payload message ≡ true)
message-of past m prio message r there e = grind (arith, and_parts)

sending : (prio : ℕ) (message : List ℕ) (r : Record) → is_send r.entry.call ≡ true →
    is_sent r.entry.reply ≡ true → (priority_given r.entry.call == prio) ≡ true →
    bytes_eq r.payload message ≡ true → is_sending prio message r ≡ true
sending prio message r a b c d = rw (a, b, c, d) refl

-- what is given -----------------------------------------------------------------------------------

-- the place of this message, if a reply hands it to its process
abbrev pub given_by : Past → ℕ → List ℕ → Reply → Option Place
given_by past prio message (Got place admitted notified) = if is_message past place prio message
    then Some place else None
given_by past prio message (Collected by) = if is_handed past by && is_message past by prio message
    then Some by else None
given_by past prio message _ = None

abbrev pub given_of : ℕ → List ℕ → Past → List ℕ
given_of prio message [] = []
given_of prio message (r ∷ past) = with_place (given_by past prio message r.entry.reply)
    (given_of prio message past)

-- how a message was given
abbrev IsGiven : Past → ℕ → Reply → Type 0
IsGiven past m (Got place admitted notified) = place ≡ m
IsGiven past m (Collected by) = (by ≡ m) × (is_handed past m ≡ true)
IsGiven past m _ = ⊥

given-is : (past : Past) (prio : ℕ) (message : List ℕ) (m : ℕ) (reply : Reply) →
    given_by past prio message reply ≡ Some m →
    (is_message past m prio message ≡ true) × IsGiven past m reply
given-is past prio message m reply e = grind (arith, and_parts)

-- what a legal record hands out was sent
handed-sent_of : (past : Past) (prio : ℕ) (message : List ℕ) (m : ℕ) → Legal past →
    is_message past m prio message ≡ true → is_handed past m ≡ true →
    is_in (sent_of prio message past) m ≡ true
handed-sent_of past prio message m legal is handed =
    let h = handed-at past m handed in
    let content = message-of past m prio message h.r h.there is in
    let at_place = legal-at past legal m h.r h.there in
    let says : Says (first m past) h.r.entry.process h.r.entry.call (Handed h.w) =
    subst (λ (y : Reply). Says (first m past) h.r.entry.process h.r.entry.call y) h.reply
    (legal_says (first m past) h.r at_place.next) in
    let sent : is_sent h.r.entry.reply ≡ true = subst (λ (y : Reply). is_sent y ≡ true)
    (sym h.reply) refl in
    sent-in prio message past m h.r h.there (sending prio message h.r
    (handed-sends (first m past) h.r.entry.process h.w h.r.entry.call says) sent
    content.0 content.1)

got-sent_of : (past : Past) (prio : ℕ) (message : List ℕ) (q m : ℕ) →
    is_message past m prio message ≡ true → is_in (present past q) m ≡ true →
    is_in (sent_of prio message past) m ≡ true
got-sent_of past prio message q m is there =
    let x = admitted-sent past q m (present-admitted past q m there) in
    let content = message-of past m prio message x.r x.at is in
    sent-in prio message past m x.r x.at (sending prio message x.r x.send x.reply
    content.0 content.1)

given-sent : (past : Past) (r : Record) (prio : ℕ) (message : List ℕ) (m : ℕ) → Legal past →
    IsLegalNext past r → given_by past prio message r.entry.reply ≡ Some m →
    is_in (sent_of prio message past) m ≡ true
given-sent past r prio message m legal next e =
    let is = given-is past prio message m r.entry.reply e in
    by r.entry.reply refl is.1
  where
    content : is_message past m prio message ≡ true
    content = (given-is past prio message m r.entry.reply e).0

    by : (reply : Reply) → r.entry.reply ≡ reply → IsGiven past m reply →
        is_in (sent_of prio message past) m ≡ true
    by (Got place a n) was is =
        let gives : message_given r.entry.reply ≡ Some m = ap message_given was ∙ ap Some is in
        let there = given-present past r next m gives in
        got-sent_of past prio message there.0 m content there.1
    by (Collected b) was is = handed-sent_of past prio message m legal content is.1
    by _ was is = absurd is

-- a place that was given before
with-cases : {C : Type 0} (o : Option ℕ) (xs : List ℕ) (m : ℕ) → is_in (with_place o xs) m ≡ true →
    (o ≡ Some m → C) → (is_in xs m ≡ true → C) → C
with-cases o xs m e newest older = grind (arith, eqb-true)

all-sent : (prio : ℕ) (message : List ℕ) (past : Past) → Legal past → (m : ℕ) →
    is_in (given_of prio message past) m ≡ true → is_in (sent_of prio message past) m ≡ true
all-sent prio message [] legal m e = absurd (let bad : false ≡ true = e in cc)
all-sent prio message (r ∷ past) legal m e =
    with-cases (given_by past prio message r.entry.reply) (given_of prio message past) m e
    (λ new. sent-more prio message past r m (given-sent past r prio message m legal.0 legal.1 new))
    (λ old. sent-more prio message past r m (all-sent prio message past legal.0 m old))

-- no message is given twice -----------------------------------------------------------------------

-- a reply gave the message, or its process collected it
pub record WasGiven (past : Past) (m : ℕ) : Type 0 where
  pub j : ℕ
  pub how : Has message_given past j m ⊎ (Has cause past j m × (is_handed past m ≡ true))

handed-older : (past : Past) (r : Record) (m : ℕ) → is_handed past m ≡ true →
    is_handed (r ∷ past) m ≡ true
handed-older past r m e = grind (arith, handed-at, record_at-below, record_at-older)

was-older : (past : Past) (r : Record) (m : ℕ) → WasGiven past m → WasGiven (r ∷ past) m
was-older past r m w = grind (arith, has-older, handed-older)

was-newest : (past : Past) (r : Record) (m : ℕ) → IsGiven past m r.entry.reply →
    WasGiven (r ∷ past) m
was-newest past r m is = by r.entry.reply refl is
  where
    by : (reply : Reply) → r.entry.reply ≡ reply → IsGiven past m reply → WasGiven (r ∷ past) m
    by (Got place a n) was is = record {
      j = length past;
      how = inl (has-here message_given past r m (ap message_given was ∙ ap Some is));
    }
    by (Collected b) was is = record {
      j = length past;
      how = inr (
        has-here cause past r m (ap cause was ∙ ap Some is.0),
        handed-older past r m is.1,
      );
    }
    by _ was is = absurd is

was-given : (prio : ℕ) (message : List ℕ) (past : Past) (m : ℕ) →
    is_in (given_of prio message past) m ≡ true → WasGiven past m
was-given prio message [] m e = absurd (let bad : false ≡ true = e in cc)
was-given prio message (r ∷ past) m e =
    with-cases (given_by past prio message r.entry.reply) (given_of prio message past) m e
    (λ new. was-newest past r m (given-is past prio message m r.entry.reply new).1)
    (λ old. was-older past r m (was-given prio message past m old))

-- the place of the newest record is that of no older one
older-place : (part : Reply → Option ℕ) (past : Past) (j m : ℕ) → Has part past j m →
    j ≡ length past → ⊥
older-place part past j m h e = grind (arith, has-record, record_at-below)

not-handed : (past : Past) (r : Record) (k m : ℕ) → Legal (r ∷ past) →
    Has message_given (r ∷ past) k m → is_handed past m ≡ true → ⊥
not-handed past r k m legal given handed =
    let h = handed-at (r ∷ past) m (handed-older past r m handed) in
    let reply : reply_at (r ∷ past) m ≡ Some (Handed h.w) =
    ap (option_map (λ (x : Record). x.entry.reply)) h.there ∙ ap Some h.reply in
    (gives-once (r ∷ past) legal).not_handed k m h.w given reply

given-fresh : (past : Past) (r : Record) (m : ℕ) → Legal (r ∷ past) → IsGiven past m r.entry.reply →
    WasGiven past m → ⊥
given-fresh past r m legal is old = by r.entry.reply refl is
  where
    by : (reply : Reply) → r.entry.reply ≡ reply → IsGiven past m reply → ⊥
    by (Got place a n) was is =
        let here : Has message_given (r ∷ past) (length past) m = has-here message_given past r m
        (ap message_given was ∙ ap Some is) in
        elim old.how [
          | inl given ↦ older-place message_given past old.j m given
              ((gives-once (r ∷ past) legal).messages old.j (length past) m
              (has-older message_given past r old.j m given) here)
          | inr collected ↦ not-handed past r (length past) m legal here collected.1
        ]
    by (Collected b) was is =
        let here : Has cause (r ∷ past) (length past) m = has-here cause past r m (ap cause was ∙
        ap Some is.0) in
        elim old.how [
          | inl given ↦ not-handed past r old.j m legal
              (has-older message_given past r old.j m given) is.1
          | inr collected ↦ older-place cause past old.j m collected.0
              ((gives-once (r ∷ past) legal).causes old.j (length past) m
              (has-older cause past r old.j m collected.0) here)
        ]
    by _ was is = is

all-apart : (x : ℕ) (xs : List ℕ) → is_in xs x ≡ false → AllByRecursion (λ y. (y == x) ≡ false) xs
all-apart x [] e = tt
all-apart x (y ∷ xs) e = split (y == x)
    (λ t. let bad : true ≡ false = rw t at e in absurd (cc))
    (λ f. let rest : is_in xs x ≡ false = rw f at e in (f, all-apart x xs rest))

distinct-with : (o : Option ℕ) (xs : List ℕ) → ((m : ℕ) → o ≡ Some m → is_in xs m ≡ true → ⊥) →
    IsDistinct (flip_args nat_eq) xs → IsDistinct (flip_args nat_eq) (with_place o xs)
unfolding IsDistinct
distinct-with None xs fresh d = d
distinct-with (Some m) xs fresh d =
    (all-apart m xs (split (is_in xs m) (λ t. absurd (fresh m refl t)) (λ f. f)), d)

given-distinct : (prio : ℕ) (message : List ℕ) (past : Past) → Legal past →
    IsDistinct (flip_args nat_eq) (given_of prio message past)
unfolding IsDistinct
given-distinct prio message [] legal = tt
given-distinct prio message (r ∷ past) legal =
    distinct-with (given_by past prio message r.entry.reply) (given_of prio message past)
    (λ m new old. given-fresh past r m legal (given-is past prio message m r.entry.reply new).1
    (was-given prio message past m old))
    (given-distinct prio message past legal.0)

pub given-le-sent : (prio : ℕ) (message : List ℕ) (past : Past) → Legal past →
    length (given_of prio message past) ≤ length (sent_of prio message past)
given-le-sent prio message past legal =
    length-le_from_is_member (back_equiv nat_eq_equiv) (given_of prio message past)
    (sent_of prio message past)
    (given-distinct prio message past legal)
    (λ q h. all-sent prio message past legal q h)
