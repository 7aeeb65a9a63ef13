-- The tables of processes without descriptors, and of callers without waits.
use Rattle.std.proofs.Common.{◌≡◌, ◌≤◌, ℕ, zero, suc, [], length, replicate, Option, Some, None, refl, sym, ◌∙◌, ap, arith, slice_get}
use Rattle.std.proofs.lemmas.List.{length-replicate}
use Rattle.std.specs.Option.{option_and_then, unwrap_or}
use Rattle.mq_model.specs.Owners.{held_in, free_owner, slot_of, OwnersMirror}
use Rattle.mq_model.specs.Callers.{wait_in, answer_in, free_caller, CallersMirror}
use Rattle.mq_model.specs.Threads.{owner_of}
use Rattle.mq_model.specs.declared.callers.Caller.{Caller}
use Rattle.mq_model.specs.declared.entries.Description.{Description}
use Rattle.mq_model.specs.declared.owners.Owner.{Owner}

none-there : (m d : ℕ) → unwrap_or (slice_get (replicate {A = Option Description} m None) d) None ≡
    None
none-there (suc m) (suc d) = none-there m d
none-there _ _ = refl

read-free : {A X : Type 0} (g : A → Option X) (free : A) → g free ≡ None → (m p : ℕ) →
    option_and_then g (slice_get (replicate m free) p) ≡ None
read-free g free e zero p = refl
read-free g free e (suc m) zero = e
read-free g free e (suc m) (suc p) = read-free g free e m p

held-free : (m p d : ℕ) → held_in (replicate m free_owner) p d ≡ None
unfolding held_in
held-free m p d = read-free (slot_of d) free_owner (none-there 16 d) m (owner_of p)

wait-free : (m p : ℕ) → wait_in (replicate m free_caller) p ≡ None
unfolding wait_in
wait-free m p = read-free (λ (x : Caller). x.wait) free_caller refl m p

answer-free : (m p : ℕ) → answer_in (replicate m free_caller) p ≡ None
unfolding answer_in
answer-free m p = read-free (λ (x : Caller). x.answer) free_caller refl m p

slots-free : (m p : ℕ) (o : Owner) → slice_get (replicate m free_owner) p ≡ Some o →
    length o.descriptors ≡ 16
slots-free zero p o e = absurd (cc)
slots-free (suc m) zero o e = let same : free_owner ≡ o =
    cc in ap (λ (x : Owner). length x.descriptors) (sym same)
slots-free (suc m) (suc p) o e = slots-free m p o e

long : (m : ℕ) → m ≤ 33 → length (replicate m free_owner) ≤ 33
long m few = omega (arith, length-replicate m free_owner)

-- each table is that of the empty journal
pub owners-start : (m : ℕ) → m ≤ 33 → OwnersMirror [] (replicate m free_owner)
owners-start m few = record { few = long m few; slots = slots-free m; held = held-free m }

pub callers-start : (m : ℕ) → CallersMirror [] (replicate m free_caller)
callers-start m = record {
  waits = λ p. rw (wait-free m p) refl;
  blocked = λ p w e. absurd (let bad : None ≡ Some w = sym (wait-free m p) ∙ e in cc);
  deadlines = λ p. rw (wait-free m p) refl;
  answers = answer-free m;
}
