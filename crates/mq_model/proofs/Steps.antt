-- What the definitions become after one more record.
use Rattle.std.proofs.Common.{◌≡◌, ℕ, suc, ◌<◌, ◌≤◌, ◌==◌, Bool, true, false, ◌||◌, not, List, [], ◌∷◌, length, Option, Some, refl, arith}
use Rattle.std.specs.List.{filter}
use Rattle.std.proofs.lemmas.Bool.{false_from_ne_true}
use Rattle.mq_model.specs.Record.{Record, Past}
use Rattle.mq_model.specs.Messages.{is_in, is_send, if_in, taken, taken_by, with_place, present, admitted, entered, blocked_sends}
use Rattle.mq_model.specs.Descriptors.{is_place, called_queue}
use Rattle.mq_model.specs.Legality.{Legal, IsLegalNext}
use Rattle.mq_model.proofs.Places.{is_in-filter, find-in}
use Rattle.mq_model.proofs.Cases.{Says}
use Rattle.mq_model.proofs.LegalReplies.{legal_says, got_says}
use Rattle.mq_model.specs.declared.entries.Call.{Call}
use Rattle.mq_model.specs.declared.entries.Reply.{Reply}
use Rattle.mq_model.specs.declared.entries.Reply.TheVariants.{Queued, Handed, Got}

-- every place of a list is before n
abbrev pub Below : ℕ → List ℕ → Type 0
Below n xs = (m : ℕ) → is_in xs m ≡ true → m < n

below-with : (n : ℕ) (o : Option ℕ) (xs : List ℕ) → Below n xs → ((k : ℕ) → o ≡ Some k → k ≤ n) →
    Below (suc n) (with_place o xs)
below-with n o xs below le = grind arith

-- the place n itself is not among places before it
pub not-below : (n : ℕ) (xs : List ℕ) → Below n xs → is_in xs n ≡ false
not-below n xs below = false_from_ne_true _ (λ h. omega (arith, below n h))

pub blocked_sends-below : (past : Past) (q : ℕ) → Below (length past) (blocked_sends past q)
blocked_sends-below [] q = λ m h. absurd (cc)
blocked_sends-below (r ∷ past) q = grind (arith, blocked_sends-below past q)

pub if_in-inside : (xs : List ℕ) (o : Option ℕ) (k : ℕ) → if_in xs o ≡ Some k →
    (is_in xs k ≡ true) × (o ≡ Some k)
if_in-inside xs o k h = grind arith

entered-below : (past : Past) (r : Record) (q k : ℕ) → entered past r.entry q ≡ Some k →
    k ≤ length past
entered-below past r q k h = grind (arith, if_in-inside, blocked_sends-below)

pub admitted-below : (past : Past) (q : ℕ) → Below (length past) (admitted past q)
admitted-below [] q = λ m h. absurd (cc)
admitted-below (r ∷ past) q = below-with (length past) (entered past r.entry q) (admitted past q)
    (admitted-below past q) (λ k e. entered-below past r q k e)

-- what a record takes is before it, or is its own message
taken_by-below : (past : Past) (r : Record) → IsLegalNext past r → (k : ℕ) →
    taken_by (length past) r.entry.reply ≡ Some k → k ≤ length past
taken_by-below past r legal k e = by_reply r.entry.reply (legal_says past r legal) e
  where
    by_reply : (reply : Reply) → Says past r.entry.process r.entry.call reply →
        taken_by (length past) reply ≡ Some k → k ≤ length past
    by_reply (Got m a n) says e =
        let got = got_says past r.entry.process r.entry.call m a n says in
        let same : m ≡ k = cc in
        let inside = (is_in-filter (λ j. not (is_in (taken past) j)) (admitted past got.2.queue) m
        (find-in _ (present past got.2.queue) m got.6).0).0 in
        omega (arith, admitted-below past got.2.queue m inside)
    by_reply (Handed w) says e = let same : length past ≡ k = cc in omega arith
    by_reply reply says e = absurd (cc)

pub taken-below : (past : Past) → Legal past → Below (length past) (taken past)
taken-below [] legal = λ m h. absurd (cc)
taken-below (r ∷ past) legal = below-with (length past) (taken_by (length past) r.entry.reply)
    (taken past) (taken-below past legal.0) (λ k e. taken_by-below past r legal.1 k e)

abbrev sent : ℕ → Call → Option ℕ → List ℕ → Record
sent p call n message = record {
  entry = record { process = p; call = call; reply = Queued n };
  payload = message;
}

-- a send that queues its message adds it to its queue, and leaves the others as they are
pub present-queued : (past : Past) (p : ℕ) (call : Call) (q : ℕ) (n : Option ℕ) (message : List ℕ) →
    Legal past → is_send call ≡ true → is_place q (called_queue past p call) ≡ true →
    present (sent p call n message ∷ past) q ≡ length past ∷ present past q
present-queued past p call q n message legal sends on =
    rw (sends, on, not-below (length past) (taken past) (taken-below past legal)) refl

pub present-queued_elsewhere : (past : Past) (p : ℕ) (call : Call) (q : ℕ) (n : Option ℕ)
    (message : List ℕ) → is_place q (called_queue past p call) ≡ false →
    present (sent p call n message ∷ past) q ≡ present past q
present-queued_elsewhere past p call q n message off = grind arith

-- two tests in a row
pub filter-both : (s t : ℕ → Bool) (xs : List ℕ) →
    filter (λ k. not (s k || t k)) xs ≡ filter (λ k. not (s k)) (filter (λ k. not (t k)) xs)
filter-both s t [] = refl
filter-both s t (x ∷ xs) = grind (arith, filter-both s t xs)

-- some places without one of them
abbrev pub without : ℕ → List ℕ → List ℕ
without m xs = filter (λ k. not (m == k)) xs
