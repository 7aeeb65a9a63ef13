-- The notices of each process after one more record.
use Rattle.std.proofs.Common.{◌≡◌, ℕ, suc, ◌+◌, ◌<◌, ◌≤◌, Bool, true, false, ◌&&◌, List, [], ◌∷◌, ◌++◌, length, drop, Option, Some, None, if◌then◌else◌, refl, sym, ◌∙◌, ap, arith, eqb-true, eq-eqb, length-drop, length-append, zero, slice_get}
use Rattle.std.specs.Option.{option_to_list}
use Rattle.std.proofs.lemmas.Grind.{common_steps}
use Rattle.mq_model.specs.Threads.{owner_of, shares}
use Rattle.mq_model.specs.Record.{Record, Past, record_at}
use Rattle.mq_model.specs.Descriptors.{is_on}
use Rattle.mq_model.specs.Notices.{registration_of, only_if, notified, ends, unless, registered, value_of_notify, value_given, value_notified, values_notified, gives_notice, notices_given, notices}
use Rattle.mq_model.specs.Legality.{Legal}
use Rattle.mq_model.specs.declared.entries.Registration.{Registration}
use Rattle.mq_model.specs.declared.entries.Call.{Call}
use Rattle.mq_model.specs.declared.entries.Call.TheVariants.{MqClose, MqSend, MqReceive, NextNotice, Collect, MqTimedSend, MqTimedReceive, Withdraw}
use Rattle.mq_model.specs.declared.entries.Reply.{Reply}
use Rattle.mq_model.specs.declared.entries.Reply.TheVariants.{Notice}
use Rattle.mq_model.proofs.Places.{split}
use Rattle.mq_model.proofs.Cases.{Says}
use Rattle.mq_model.proofs.LegalReplies.{legal_says}
use Rattle.mq_model.proofs.Frames.{record_at-older}

-- the record that made a registration
pub record IsMadeBy (past : Past) (n : Registration) : Type 0 where
  pub place : n.place < length past
  pub record_ : Record
  pub at : record_at past n.place ≡ Some record_
  pub process : record_.entry.process ≡ n.process
  pub value : value_of_notify record_.entry.call ≡ Some n.value

made-older : (past : Past) (r : Record) (n : Registration) → IsMadeBy past n → IsMadeBy (r ∷ past) n
made-older past r n x = record {
  place = let lt = x.place in omega (arith, lt);
  record_ = x.record_;
  at = record_at-older past r n.place x.place ∙ x.at;
  process = x.process;
  value = x.value;
}

pub made-of : (p here : ℕ) (call : Call) (reply : Reply) (n : Registration) →
    registration_of here p call reply ≡ Some n →
    (n.place ≡ here) × (n.process ≡ p) × (value_of_notify call ≡ Some n.value)
made-of p here call reply n e = grind arith

pub only-some : (b : Bool) (o : Option Registration) (n : Registration) → only_if b o ≡ Some n →
    o ≡ Some n
only-some b o n e = grind arith

pub unless-some : (ended : Registration → Bool) (o : Option Registration) (n : Registration) →
    unless ended o ≡ Some n → o ≡ Some n
unless-some ended o n e = grind arith

-- a registration was made by its record
pub registered-made : (past : Past) (q : ℕ) (n : Registration) → registered past q ≡ Some n →
    IsMadeBy past n
registered-made [] q n e = absurd (cc)
registered-made (r ∷ past) q n e =
    by (only_if (is_on past r.entry q) (registration_of (length past) r.entry.process r.entry.call
    r.entry.reply)) refl e (λ old. registered-made past q n old)
  where
    by : (o : Option Registration) →
        only_if (is_on past r.entry q) (registration_of (length past) r.entry.process r.entry.call
        r.entry.reply) ≡ o → registered (r ∷ past) q ≡ Some n → (registered past q ≡ Some n →
        IsMadeBy past n) → IsMadeBy (r ∷ past) n
    by None is e rest = let old : unless (ends (is_on past r.entry q) r.entry) (registered past q) ≡
        Some n = rw is at e in made-older past r n
        (rest (unless-some (ends (is_on past r.entry q) r.entry) (registered past q) n old))
    by (Some m) is e rest =
        let here : Some m ≡ Some n = rw is at e in
        let facts = made-of r.entry.process (length past) r.entry.call r.entry.reply n
        (only-some (is_on past r.entry q) _ n (is ∙ here)) in
        record {
          place = let at = facts.0 in omega (arith, at);
          record_ = r;
          at = rw (facts.0, eq-eqb (length past) (length past) refl) refl;
          process = sym facts.1;
          value = facts.2;
        }

-- the notices that come ---------------------------------------------------------------------------

append-nil : (xs : List ℕ) → xs ++ [] ≡ xs
append-nil xs = grind (arith, common_steps)

-- the value that a notified registration brings its process
value-of : (past : Past) (q : ℕ) (n : Registration) → registered past q ≡ Some n → (p : ℕ) →
    value_notified past p (Some n.place) ≡ (if shares n.process p then Some n.value else None)
value-of past q n e p =
    let x = registered-made past q n e in
    ap (value_given p) x.at ∙ rw (x.process, x.value) refl

-- threads of one process have the same notices
given-mates : (past : Past) (a b : ℕ) → owner_of a ≡ owner_of b →
    notices_given past a ≡ notices_given past b
given-mates [] a b e = refl
given-mates (r ∷ past) a b e = rw (e, given-mates past a b e) refl

value-mates : (past : Past) (a b : ℕ) (o : Option ℕ) → owner_of a ≡ owner_of b →
    value_notified past a o ≡ value_notified past b o
value-mates past a b None e = refl
value-mates past a b (Some k) e = by (record_at past k)
  where
    by : (o : Option Record) → value_given a o ≡ value_given b o
    by None = refl
    by (Some r) = rw e refl

values-mates : (past : Past) (a b : ℕ) → owner_of a ≡ owner_of b →
    values_notified past a ≡ values_notified past b
values-mates [] a b e = refl
values-mates (r ∷ past) a b e = rw (
  values-mates past a b e,
  value-mates past a b
      (notified r.entry.reply) e,
) refl

pub notices-mates : (past : Past) (a b : ℕ) → owner_of a ≡ owner_of b →
    notices past a ≡ notices past b
notices-mates past a b e = rw (given-mates past a b e, values-mates past a b e) refl

-- a process was given no more notices than it had
pub given-few : (past : Past) → Legal past → (p : ℕ) →
    notices_given past p ≤ length (values_notified past p)
given-few [] legal p = omega arith
given-few (r ∷ past) legal p =
    let before = given-few past legal.0 p in
    let longer : length (values_notified (r ∷ past) p) ≡ length (values_notified past p) + length
    (option_to_list (value_notified past p (notified r.entry.reply))) =
    length-append (values_notified past p)
    (option_to_list (value_notified past p (notified r.entry.reply))) in
    split (gives_notice r.entry.reply && shares r.entry.process p)
    (λ t. rw t (given r.entry.reply refl (legal_says past r legal.1) t longer before))
    (λ f. rw f (omega (arith, before, longer)))
  where
    some-left : (k : ℕ) (xs : List ℕ) (v : ℕ) → slice_get (drop k xs) 0 ≡ Some v → k < length xs
    some-left k xs v e = by (drop k xs) refl e
      where
        by : (ys : List ℕ) → drop k xs ≡ ys → slice_get ys 0 ≡ Some v → k < length xs
        by [] is e = absurd (cc)
        by (y ∷ ys) is e = let len : length (drop k xs) ≡ length (y ∷ ys) = ap length is in
            omega (arith, len, length-drop k xs)

    given : (reply : Reply) → r.entry.reply ≡ reply → Says past r.entry.process r.entry.call reply →
        (gives_notice r.entry.reply && shares r.entry.process p) ≡ true →
        length (values_notified (r ∷ past) p) ≡ length (values_notified past p) + length
        (option_to_list (value_notified past p (notified r.entry.reply))) →
        notices_given past p ≤ length (values_notified past p) →
        notices_given past p + 1 ≤ length (values_notified (r ∷ past) p)
    given (Notice (Some v)) is says t longer before =
        let own : shares r.entry.process p ≡ true = rw is at t in
        let mine : owner_of r.entry.process ≡ owner_of p = eqb-true _ _ own in
        let first : slice_get (notices past p) 0 ≡ Some v = ap (λ xs. slice_get xs 0)
        (sym (notices-mates past r.entry.process p mine)) ∙ notice-of r.entry.call says in
        let lt = some-left (notices_given past p) (values_notified past p) v first in
        omega (arith, longer, lt)
      where
        notice-of : (call : Call) → Says past r.entry.process call (Notice (Some v)) →
            slice_get (notices past r.entry.process) 0 ≡ Some v
        notice-of NextNotice says = let same : Notice (Some v) ≡
            Notice (slice_get (notices past r.entry.process) 0) = says in cc
        notice-of (MqClose d) says = absurd says.0
        notice-of (MqSend d prio len) says = absurd says.3
        notice-of (MqTimedSend d prio len until now) says = absurd says.3
        notice-of (MqReceive d room) says = absurd says.3
        notice-of (MqTimedReceive d room until now) says = absurd says.3
        notice-of Collect says = absurd (cc)
        notice-of (Withdraw now) says = absurd (cc)
        notice-of call says = absurd says
    given reply is says t longer before = absurd (let bad : false ≡ true = rw is at t in cc)

-- a record that notifies no process and takes no notice
pub notices-same : (past : Past) (r : Record) (p : ℕ) → notified r.entry.reply ≡ None →
    gives_notice r.entry.reply ≡ false → notices (r ∷ past) p ≡ notices past p
notices-same past r p none quiet = rw (none, quiet) (ap (drop (notices_given past p))
    (append-nil (values_notified past p)))

drop-append : (k : ℕ) (xs ys : List ℕ) → k ≤ length xs → drop k (xs ++ ys) ≡ drop k xs ++ ys
drop-append k xs ys le = grind (arith, common_steps)

-- a record that notifies the registration of a queue
pub notices-notified : (past : Past) → Legal past →
    (r : Record) (q : ℕ) (n : Registration) (p : ℕ) → registered past q ≡ Some n →
    notified r.entry.reply ≡ Some n.place → gives_notice r.entry.reply ≡ false →
    notices (r ∷ past) p ≡ (if shares n.process p then notices past p ++ n.value ∷
    [] else notices past p)
notices-notified past legal r q n p stands is quiet = grind (
  arith,
  value-of,
  drop-append,
  given-few,
  append-nil,
)

drop-nothing : (k : ℕ) → drop {A = ℕ} k [] ≡ []
drop-nothing k = grind arith

drop-one : (k : ℕ) (xs : List ℕ) → drop (k + 1) xs ≡ drop 1 (drop k xs)
drop-one k [] = drop-nothing (k + 1) ∙ sym (ap (drop 1) (drop-nothing k))
drop-one zero (x ∷ xs) = refl
drop-one (suc k) (x ∷ xs) = let e : suc k + 1 ≡ suc (k + 1) = omega arith in rw e (drop-one k xs)

-- a record that takes a notice
pub notices-given : (past : Past) (q : ℕ) (call : Call) (v : ℕ) (payload : List ℕ) (p : ℕ) →
    notices (record {
      entry = record { process = q; call = call; reply = Notice (Some v) };
      payload = payload;
    } ∷ past) p ≡ (if shares q p then drop 1 (notices past p) else notices past p)
notices-given past q call v payload p = grind (arith, append-nil, drop-one)
