-- What one more record leaves unchanged.
use Rattle.std.proofs.Common.{◌≡◌, ℕ, ◌<◌, ◌==◌, Bool, true, false, ◌||◌, List, [], ◌∷◌, length, Option, Some, None, if◌then◌else◌, refl, ap, arith, eqb-true, eq-eqb, ne_eqb}
use Rattle.std.specs.List.{filter, list_any}
use Rattle.std.specs.Option.{option_map, unwrap_or}
use Rattle.mq_model.specs.Threads.{shares}
use Rattle.mq_model.specs.Record.{Record, Past, record_at}
use Rattle.mq_model.specs.Names.{creates, unlinks, bound_queue, attributes, attributes_given, default_attributes}
use Rattle.mq_model.specs.Descriptors.{held, held_after, opened_number, created, alive}
use Rattle.mq_model.specs.Messages.{is_in}
use Rattle.mq_model.specs.Waits.{is_wait, names_wait, open_wait, answered_by}
use Rattle.mq_model.proofs.Places.{split}
use Rattle.mq_model.specs.declared.faults.Fault.{Fault}
use Rattle.mq_model.specs.declared.entries.Description.{Description}
use Rattle.mq_model.specs.declared.entries.Call.{Call}
use Rattle.mq_model.specs.declared.entries.Reply.{Reply}
use Rattle.mq_model.specs.declared.entries.Reply.TheVariants.{Refused}
use Rattle.mq_model.specs.Callers.{blocked}
use Rattle.mq_model.specs.declared.callers.WaitKind.{WaitKind}

-- a record that changes neither names nor descriptors
pub record KeepsNames (past : Past) (call : Call) (reply : Reply) (payload : List ℕ) : Type 0 where
  pub creates : creates call reply ≡ false
  pub unlinks : unlinks call reply ≡ false
  pub opens : opened_number call reply ≡ None
  pub descriptors : (d : ℕ) (before : Option Description) →
      held_after past call payload reply d before ≡ before

pub held-same : (past : Past) (r : Record) → KeepsNames past r.entry.call r.entry.reply r.payload →
    (p d : ℕ) → held (r ∷ past) p d ≡ held past p d
held-same past r keeps p d = split (shares r.entry.process p)
    (λ t. rw t (keeps.descriptors d (held past p d))) (λ e. rw e refl)

pub bound_queue-same : (past : Past) (r : Record) →
    KeepsNames past r.entry.call r.entry.reply r.payload → (name : List ℕ) →
    bound_queue (r ∷ past) name ≡ bound_queue past name
bound_queue-same past r keeps name = rw (keeps.creates, keeps.unlinks) refl

pub filter-same : (s t : ℕ → Bool) (xs : List ℕ) → ((x : ℕ) → is_in xs x ≡ true → s x ≡ t x) →
    filter s xs ≡ filter t xs
filter-same s t [] same = refl
filter-same s t (x ∷ xs) same =
    let here : s x ≡ t x = same x (rw (eq-eqb x x refl) refl) in
    let rest : filter s xs ≡ filter t xs =
    filter-same s t xs (λ y h. same y (split (x == y) (λ e. rw e refl) (λ n. rw (n, h) refl)))
    in
    rw (here, rest) refl

pub created-below : (past : Past) (q : ℕ) → is_in (created past) q ≡ true → q < length past
created-below [] q h = absurd (cc)
created-below (r ∷ past) q h = split (creates r.entry.call r.entry.reply)
    (λ t. let h' : (length past == q || is_in (created past) q) ≡ true = rw t at h in
    split (length past == q)
    (λ e. let same : length past ≡ q = eqb-true _ _ e in omega arith)
    (λ n. let old : is_in (created past) q ≡ true = rw n at h' in let lt = created-below past q
    old in omega (arith, lt)))
    (λ f. let old : is_in (created past) q ≡ true = rw f at h in let lt = created-below past q
    old in omega (arith, lt))

pub record_at-older : (past : Past) (r : Record) (q : ℕ) → q < length past →
    record_at (r ∷ past) q ≡ record_at past q
record_at-older past r q lt = rw (ne_eqb q (length past) (λ same. omega arith)) refl

list_any-same : {X : Type 0} (s t : X → Bool) (xs : List X) → ((x : X) → s x ≡ t x) →
    list_any s xs ≡ list_any t xs
list_any-same s t [] same = refl
list_any-same s t (x ∷ xs) same = rw (same x, list_any-same s t xs same) refl

pub alive-same : (past : Past) (r : Record) → KeepsNames past r.entry.call r.entry.reply r.payload →
    alive (r ∷ past) ≡ alive past
alive-same past r keeps = grind (
  arith,
  filter-same,
  created-below,
  record_at-older,
  bound_queue-same,
  list_any-same,
  held-same,
)

-- a record of a process without an open wait, which begins none
pub open_wait-same : (past : Past) (r : Record) → open_wait past r.entry.process ≡ None →
    is_wait r.entry.reply ≡ false → (k : ℕ) → open_wait (r ∷ past) k ≡ open_wait past k
open_wait-same past r none done k = grind (arith, eqb-true)

pub answered_by-none : (past : Past) (p : ℕ) → open_wait past p ≡ None → answered_by past p ≡ None
answered_by-none [] p e = refl
answered_by-none (r ∷ past) p e = split (r.entry.process == p)
    (λ t. rw t refl)
    (λ n. let old : open_wait past p ≡ None = rw n at e in rw (n, old)
    (answered_by-none past p old))

-- the process whose wait a reply answers
pub answered_by-step : (past : Past) (r : Record) → open_wait past r.entry.process ≡ None →
    (k : ℕ) → answered_by (r ∷ past) k ≡ (if names_wait r.entry.reply (open_wait past k) then Some
    (length past) else answered_by past k)
answered_by-step past r none k = grind (arith, eqb-true, answered_by-none)

-- a call that waits remains in the list of its queue
pub blocked-older : (past : Past) (r : Record) (kind : WaitKind) (q w : ℕ) →
    is_in (blocked past kind q) w ≡ true → is_in (blocked (r ∷ past) kind q) w ≡ true
blocked-older past r kind q w h = grind arith

-- an error changes no name and no descriptor
pub keeps-refused : (past : Past) (call : Call) (f : Fault) (payload : List ℕ) →
    KeepsNames past call (Refused f) payload
keeps-refused past call f payload = grind arith

-- a queue keeps its attributes
pub attributes-older : (past : Past) (r : Record) (q : ℕ) → q < length past →
    attributes (r ∷ past) q ≡ attributes past q
attributes-older past r q lt =
    ap (λ o. unwrap_or (option_map (λ (x : Record). attributes_given x.entry.call) o)
    default_attributes) (record_at-older past r q lt)
