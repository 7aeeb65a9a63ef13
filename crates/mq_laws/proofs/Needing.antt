-- What is kept remains enough when entries are added and when what is lost with a queue is dropped.
use Rattle.std.proofs.Common.{◌≡◌, ◌≢◌, ℕ, ◌<◌, ◌==◌, ◌||◌, true, false, [], ◌∷◌, length, Some, refl, sym, ◌∙◌, ap, arith, eqb-true}
use Rattle.mq_model.specs.Record.{Record, Past, first}
use Rattle.mq_model.specs.Descriptors.{alive, created, is_place, is_named, is_held, called_queue}
use Rattle.mq_model.specs.declared.entries.Call.{Call}
use Rattle.mq_model.specs.declared.entries.Reply.{Reply}
use Rattle.mq_model.specs.declared.entries.Reply.TheVariants.{Opened, Queued, Waits}
use Rattle.mq_model.proofs.Frames.{created-below}
use Rattle.mq_model.proofs.HeldQueues.{called-alive}
use Rattle.mq_model.proofs.Prefixes.{first-all}
use Rattle.mq_laws.proofs.LegalPlaces.{first-older}
use Rattle.mq_model.specs.Messages.{is_in}
use Rattle.mq_model.specs.Legality.{Legal}
use Rattle.mq_model.proofs.Places.{split, clash, is_in-filter}
use Rattle.mq_laws.specs.Laws.{IsGoneAt}
use Rattle.mq_laws.proofs.GoneQueues.{never-again}
use Rattle.mq_laws.specs.Needed.{is_kept, ended, ended_before, ended_last, home_of, home, IsNeeded}

-- what is needed is kept
abbrev pub IsEnough : Past → (ℕ → Type 0) → Type 0
IsEnough past Keeps = (k : ℕ) → IsNeeded past k → Keeps k

-- an entry that has not ended had not ended before the latest entry either
pub not-before : (past : Past) (k : ℕ) → is_in (ended past) k ≡ false →
    is_in (ended_before past) k ≡ false
not-before past k e = grind arith

not-last : (past : Past) (k : ℕ) → is_in (ended past) k ≡ false →
    is_place k (ended_last past) ≡ false
not-last past k e = grind arith

pub alive-created : (past : Past) (q : ℕ) → is_in (alive past) q ≡ true →
    is_in (created past) q ≡ true
alive-created past q h = (is_in-filter (λ x. is_named past x || is_held past x)
    (created past) q h).0

created-older : (past : Past) (r : Record) (q : ℕ) → q < length past →
    is_in (created (r ∷ past)) q ≡ true → is_in (created past) q ≡ true
created-older past r q lt h = grind (arith, eqb-true)

-- a queue that exists after an entry existed before it, or is the one that it created
pub alive-older : (past : Past) (r : Record) → Legal (r ∷ past) → (q : ℕ) → q < length past →
    is_in (alive (r ∷ past)) q ≡ true → is_in (alive past) q ≡ true
alive-older past r legal q lt now = split (is_in (alive past) q) (λ t. t)
    (λ f. absurd (clash (is_in (alive (r ∷ past)) q) now (gone f)))
  where
    before : first (length past) (r ∷ past) ≡ past
    before = first-older past r (length past) (omega arith) ∙ first-all past (length past) refl

    gone : is_in (alive past) q ≡ false → is_in (alive (r ∷ past)) q ≡ false
    gone f =
        let at : IsGoneAt (r ∷ past) (length past) q = record {
          place = omega arith;
          created = rw before (created-older past r q lt (alive-created (r ∷ past) q now));
          gone = rw before f;
        } in
        ap (λ b. is_in (alive b) q) (sym (first-all (r ∷ past) (length (r ∷ past)) refl)) ∙
        never-again (r ∷ past) legal (length past) (length (r ∷ past)) q at
        (omega arith) (omega arith)

pub called-below : (past : Past) → Legal past → (p : ℕ) (call : Call) (q : ℕ) →
    called_queue past p call ≡ Some q → q < length past
called-below past legal p call q e = created-below past q
    (alive-created past q (called-alive past legal p call q e))

home-below : (past : Past) → Legal past → (k q : ℕ) → home past k ≡ Some q → q < length past
home-below [] legal k q e = absurd (cc)
home-below (r ∷ past) legal k q e = split (k == length past)
    (λ t. by r.entry.reply (rw t at e))
    (λ f. let lt = home-below past legal.0 k q (rw f at e) in omega (arith, lt))
  where
    by : (reply : Reply) → home_of past r reply ≡ Some q → q < length (r ∷ past)
    by (Opened d new) e = let same : length past ≡ q = cc in omega (arith, same)
    by (Queued n) e = let lt = called-below past legal.0 r.entry.process r.entry.call q e in
        omega (arith, lt)
    by Waits e = let lt = called-below past legal.0 r.entry.process r.entry.call q e in
        omega (arith, lt)
    by reply e = absurd (cc)

-- one more entry: a store that drops what the latest entry ended, and keeps the new entry if it is
-- of a kind that is kept, still has enough
pub enough-push : (past : Past) (r : Record) (Keeps Keeps' : ℕ → Type 0) → Legal (r ∷ past) →
    (is_kept r.entry.call r.entry.reply ≡ true → Keeps' (length past)) →
    ((k : ℕ) → is_place k (ended_last past) ≡ false → Keeps k → Keeps' k) →
    IsEnough past Keeps → IsEnough (r ∷ past) Keeps'
enough-push past r Keeps Keeps' legal new old enough k needed =
    grind (arith, eqb-true, not-last, not-before, alive-older, home-below)

-- what is lost with a queue that no longer exists may be dropped
pub enough-forget : (past : Past) (q : ℕ) (Keeps Keeps' : ℕ → Type 0) →
    is_in (alive past) q ≡ false →
    ((k : ℕ) → home past k ≢ Some q → Keeps k → Keeps' k) → IsEnough past Keeps →
    IsEnough past Keeps'
enough-forget past q Keeps Keeps' gone others enough k needed = grind (arith, clash)
