-- What threads of one process share, and what the only thread of a process keeps while it waits.
use Rattle.std.proofs.Common.{◌≡◌, ℕ, ◌+◌, ◌≤◌, ◌==◌, Bool, true, false, ◌&&◌, ◌||◌, not, List, [], ◌∷◌, ◌++◌, drop, Option, Some, None, is_none, if◌then◌else◌, refl, ◌∙◌, ap}
use Rattle.std.specs.Option.{option_to_list}
use Rattle.mq_model.specs.Record.{Record, Past, record_at}
use Rattle.mq_model.specs.Threads.{owner_of}
use Rattle.mq_model.specs.Descriptors.{held, descriptor_numbers}
use Rattle.mq_model.specs.Notices.{notices, notices_given, values_notified, value_notified, value_given, value_of_notify, gives_notice, notified}
use Rattle.mq_laws.specs.Laws.{is_lone}
use Rattle.mq_laws.specs.Sharing.{AreFirst, ThreadsShare, HoldsFirst}
use Rattle.mq_model.proofs.Mates.{held-mates, shares_own}
use Rattle.mq_laws.proofs.AsBefore.{find-same, head, tail}
use Rattle.mq_laws.proofs.HeldLaws.{wait-holds}

given-mates : (past : Past) (a b : ℕ) → owner_of a ≡ owner_of b →
    notices_given past a ≡ notices_given past b
given-mates [] a b e = refl
given-mates (r ∷ past) a b e =
    ap (λ (k : ℕ). if gives_notice r.entry.reply && owner_of r.entry.process == k then notices_given
    past a + 1 else notices_given past a) e
    ∙ ap (λ (n : ℕ). if gives_notice r.entry.reply && owner_of r.entry.process == owner_of b then n
    + 1 else n) (given-mates past a b e)

value-mates : (past : Past) (a b : ℕ) (o : Option ℕ) → owner_of a ≡ owner_of b →
    value_notified past a o ≡ value_notified past b o
value-mates past a b None e = refl
value-mates past a b (Some k) e = by (record_at past k)
  where
    by : (o : Option Record) → value_given a o ≡ value_given b o
    by None = refl
    by (Some r) = ap (λ (k : ℕ). if owner_of r.entry.process == k then value_of_notify
        r.entry.call else None) e

values-mates : (past : Past) (a b : ℕ) → owner_of a ≡ owner_of b →
    values_notified past a ≡ values_notified past b
values-mates [] a b e = refl
values-mates (r ∷ past) a b e =
    ap (λ (xs : List ℕ). xs ++ option_to_list (value_notified past a (notified r.entry.reply)))
    (values-mates past a b e)
    ∙ ap (λ (o : Option ℕ). values_notified past b ++ option_to_list o)
    (value-mates past a b (notified r.entry.reply) e)

notices-mates : (past : Past) (a b : ℕ) → owner_of a ≡ owner_of b → notices past a ≡ notices past b
notices-mates past a b e = ap (λ (k : ℕ). drop k (values_notified past a))
    (given-mates past a b e) ∙ ap (drop (notices_given past b)) (values-mates past a b e)

pub threads-share : (past : Past) → ThreadsShare past
threads-share past = record {
  descriptors = λ a b d e. held-mates past a b e d;
  numbers = λ a b e. find-same (λ d. is_none (held past a d)) (λ d. is_none (held past b d))
      descriptor_numbers (λ d. ap is_none (held-mates past a b e d));
  pending = notices-mates past;
}

-- among first threads each is the only one of its process
lone-first : (past : Past) (p : ℕ) → AreFirst past → p ≤ 32 → is_lone past p ≡ true
lone-first [] p all few = refl
lone-first (r ∷ past) p all few =
    ap (λ (b : Bool). (not b || r.entry.process == p) && is_lone past p)
    (shares_own r.entry.process p (head r past all) few)
    ∙ ap (λ (b : Bool). b && is_lone past p) (either-way (r.entry.process == p))
    ∙ lone-first past p (tail r past all) few
  where
    either-way : (b : Bool) → (not b || b) ≡ true
    either-way true = refl
    either-way false = refl

pub holds-first : (past : Past) → AreFirst past → HoldsFirst past
holds-first past all p w few e d = wait-holds past p w e (lone-first past p all few) d
