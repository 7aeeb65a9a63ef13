-- Closing the lowest descriptor again and again.
use Rattle.std.proofs.lemmas.Bool.Decides.{nat_tests}
use Rattle.std.proofs.Common.{◌≡◌, ◌≢◌, ℕ, zero, suc, ◌+◌, ◌<◌, ◌≤◌, ◌==◌, Bool, true, false, List, [], ◌∷◌, Option, Some, None, is_some, refl, ap, sym, subst, ◌∙◌, arith, eqb, eq-eqb, rules}
use Rattle.std.specs.List.{find, All}
use Rattle.std.proofs.lemmas.List.Elements.{All-nil, All-cons}
use Rattle.std.specs.Option.{option_eq}
use Rattle.std.proofs.lemmas.Bool.{eqb-false}
use Rattle.mq_model.specs.Record.{Past}
use Rattle.mq_model.specs.Descriptors.{held, lowest_held, numbers_from, descriptor_numbers}
use Rattle.mq_model.specs.Legality.{Appends}
use Rattle.mq_model.proofs.Mates.{shares_self}
use Rattle.mq_model.proofs.Places.{split}
use Rattle.mq_model.specs.declared.entries.Call.TheVariants.{MqClose}
use Rattle.mq_model.specs.declared.entries.Reply.{Reply}
use Rattle.mq_model.specs.declared.entries.Reply.TheVariants.{Done, Refused}
use Rattle.mq_model.specs.declared.faults.Fault.{Fault}
use Rattle.mq_model.specs.declared.bounds.Bounds.{Bounds}
use Rattle.mq_model.specs.Bounds.{has_entry, finds_full, HeedsBounds}
use Rattle.fast_mutex.specs.Items.{items_of}
use Rattle.mq.specs.Calls.{author, recorded, closes, Closing, Stops}

-- a process holds no descriptor below d
abbrev pub IsFrom : Past → ℕ → ℕ → Type 0
IsFrom past p d = (e : ℕ) → lowest_held past p ≡ Some e → d ≤ e

find-passes : (t : ℕ → Bool) (low n e : ℕ) → find t (numbers_from low n) ≡ Some e →
    (t e ≡ true) × (low ≤ e) × (e < low + n)
find-passes t low zero e is = absurd (cc)
find-passes t low (suc n) e is = grind (arith, find-passes t (low + 1) n e)

find-first : (t : ℕ → Bool) (low n d e : ℕ) → find t (numbers_from low n) ≡ Some d → t e ≡ true →
    low ≤ e → d ≤ e
find-first t low zero d e is passes le = absurd (cc)
find-first t low (suc n) d e is passes le = grind (arith, split, find-first t (low + 1) n d e)

pub lowest-held : (past : Past) (p d : ℕ) → lowest_held past p ≡ Some d →
    (is_some (held past p d) ≡ true) × (d < 16)
unfolding descriptor_numbers
lowest-held past p d is = let x = find-passes (λ d. is_some (held past p d)) 0 16 d is in (x.0, x.2)

lowest-first : (past : Past) (p d e : ℕ) → lowest_held past p ≡ Some d →
    is_some (held past p e) ≡ true → d ≤ e
unfolding descriptor_numbers
lowest-first past p d e is some = find-first (λ d. is_some (held past p d)) 0 16 d e is
    some (omega arith)

-- d was the lowest, and is closed
pub from-closed : (past : Past) (p d : ℕ) → lowest_held past p ≡ Some d →
    IsFrom (recorded p (MqClose d) [] Done ∷ past) p (d + 1)
from-closed past p d was e is =
    let x = lowest-held (recorded p (MqClose d) [] Done ∷ past) p e is in
    split (d == e)
    (λ here. let gone : held (recorded p (MqClose d) [] Done ∷ past) p e ≡
    None = rw (shares_self p, here) refl in
    absurd (let bad : false ≡ true = rw gone at (x.0) in cc))
    (λ differ. grind (arith, nat_tests, eq-eqb, lowest-first, eqb-false))

-- none of the 16 is held
pub from-end : (past : Past) (p : ℕ) → IsFrom past p 16 → lowest_held past p ≡ None
from-end past p from = by (lowest_held past p) refl
  where
    by : (o : Option ℕ) → lowest_held past p ≡ o → lowest_held past p ≡ None
    by None is = is
    by (Some d) is = let le = from d is in let lt = (lowest-held past p d is).1 in
        absurd (omega (arith, le, lt))

-- the close of a held descriptor is done
pub close-done : (past new : Past) (p d : ℕ) (reply : Reply) → lowest_held past p ≡ Some d →
    Appends past new p (MqClose d) [] reply → reply ≡ Done
close-done past new p d reply lowest appends = let some = (lowest-held past p d lowest).0 in
    appends.replies ∙ rw some refl

pub closing-more : {bounds : Option Bounds} {found now after : Past} {p d : ℕ} →
    Closing bounds found now p → lowest_held now p ≡ Some d →
    finds_full bounds now p (MqClose d) [] ≡ false → after ≡ recorded p (MqClose d) [] Done ∷ now →
    Closing bounds found after p
closing-more {bounds} {found} {now} {after} {p} {d} c lowest room is = record {
  ds = d ∷ c.ds;
  is = is ∙ ap (λ (l : Past). recorded p (MqClose d) [] Done ∷ l) c.is;
  in_turn = (
    c.in_turn,
    subst (λ (l : Past). lowest_held l p ≡ Some d) c.is lowest,
    subst (λ (l : Past). finds_full bounds l p (MqClose d) [] ≡ false) c.is room,
  );
}

-- a close that is done did not find the journal full
pub close-room : (bounds : Option Bounds) (past : Past) (p d : ℕ) (reply : Reply) → reply ≡ Done →
    HeedsBounds bounds past p (MqClose d) [] reply → finds_full bounds past p (MqClose d) [] ≡ false
close-room bounds past p d reply is heeds = grind arith

pub own-closes : (p : ℕ) (ds : List ℕ) → items_of author p (closes p ds) ≡ closes p ds
own-closes p [] = refl
own-closes p (d ∷ ds) = rw (eq-eqb p p refl, own-closes p ds) refl

pub all-closes : (p : ℕ) (ds : List ℕ) → All (λ x. author x ≡ p) (closes p ds)
all-closes p [] = All-nil (λ x. author x ≡ p)
all-closes p (d ∷ ds) = All-cons (λ x. author x ≡ p) (recorded p (MqClose d) [] Done) (closes p ds)
    refl (all-closes p ds)

-- the close of a held descriptor fails only because memory was refused or the journal is full
pub close-refused : (bounds : Option Bounds) (past new : Past) (p d : ℕ) (reply : Reply)
    (fault : Fault) → lowest_held past p ≡ Some d → reply ≡ Refused fault
    → (has_entry reply ≡ true → Appends past new p (MqClose d) [] reply) →
    (has_entry reply ≡ false → new ≡ past) → HeedsBounds bounds past p (MqClose d) [] reply →
    Stops bounds past p fault × (new ≡ past)
close-refused bounds past new p d reply fault lowest is entry none heeds = split (has_entry reply)
    (λ room. absurd (let done = close-done past new p d reply lowest (entry room) in
    let bad : Refused fault ≡ Done = sym is ∙ done in cc))
    (λ want. (
      record {
        d = d;
        lowest = lowest;
        unentered = sym (ap has_entry is) ∙ want;
        heeds = subst (HeedsBounds bounds past p (MqClose d) []) is heeds;
      },
      none want,
    ))

pub lowest-is : (past : Past) (p d : ℕ) (o : Option ℕ) → o ≡ lowest_held past p →
    true ≡ option_eq eqb o (Some d) → lowest_held past p ≡ Some d
lowest-is past p d o is same = search rules

pub lowest-is_not : (past : Past) (p d : ℕ) (o : Option ℕ) → o ≡ lowest_held past p →
    false ≡ option_eq eqb o (Some d) → lowest_held past p ≢ Some d
lowest-is_not past p d o is other lowest = search rules
