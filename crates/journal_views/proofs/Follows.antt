-- The tables remain those of the entries so far.
use Rattle.std.proofs.lemmas.Bool.Decides.{nat_tests}
use Rattle.std.proofs.lemmas.Grind.{common_steps}
use Rattle.std.proofs.Common.{◌≡◌, ℕ, ◌+◌, ◌<◌, ◌≤◌, ◌==◌, Bool, not, List, [], ◌∷◌, ◌++◌, length, get_or, Option, Some, None, if◌then◌else◌, refl, sym, ◌∙◌, ap, subst, arith, eqb-true, replicate, unwrap_or}
use Rattle.std.specs.List.{filter}
use Rattle.std.specs.Str.{bytes_eq}
use Rattle.std.proofs.lemmas.Bool.{eqb-false}
use Rattle.std.proofs.lemmas.List.{get_or_append_left, get_or_push, length_push}
use Rattle.std.proofs.lemmas.Slice.Eq.{bytes_eq-Decides}
use Rattle.mq_model.specs.Record.{Record, Past, first, record_at}
use Rattle.mq_model.specs.Names.{name_of}
use Rattle.mq_model.specs.Descriptors.{called_queue, is_held, is_named, is_place, opened_queue}
use Rattle.mq_model.specs.Legality.{Legal}
use Rattle.mq_model.specs.Owners.{OwnersMirror, free_owner, is_held_in}
use Rattle.mq_model.specs.OwnersNoted.{KeepsMirror}
use Rattle.mq_model.specs.Callers.{CallersMirror, free_caller}
use Rattle.mq_model.specs.CallersNoted.{KeepsCallers}
use Rattle.mq_model.specs.declared.entries.Call.{Call}
use Rattle.mq_model.specs.declared.entries.Reply.TheVariants.{Opened, Waits}
use Rattle.mq_model.specs.declared.owners.Owner.{Owner}
use Rattle.mq_model.proofs.Alive.{is_held-table}
use Rattle.mq_model.proofs.LegalReplies.{legal_says}
use Rattle.mq_model.proofs.OwnersStart.{callers-start, owners-start}
use Rattle.mq_model.proofs.Places.{split}
use Rattle.mq_model.proofs.Prefixes.{first-all, first-none, length-first, record_at-of_first}
use Rattle.mq_checker.proofs.TablesKeep.{queue-of}
use Rattle.journal_views.specs.Followed.{AreBound, AreOn, Follows, bound_after, bound_in, called_in}
use Rattle.journal_views.specs.declared.followed.Followed.{Followed}

-- what a call is made on --------------------------------------------------------------------------

pub called-is : (past : Past) (owners : List Owner) → OwnersMirror past owners →
    (p : ℕ) (call : Call) → called_in owners p call ≡ called_queue past p call
called-is past owners m p call = grind arith

-- the record at a place of the first records
pub record-here : (past : Past) (k : ℕ) (r : Record) → first (k + 1) past ≡ r ∷ first k past →
    k < length past → record_at past k ≡ Some r
record-here past k r is lt =
    ap (λ (p : Past). record_at p k) (sym (first-all past (length past) refl)) ∙
    record_at-of_first past (length past) k r is lt (omega arith)

-- names -------------------------------------------------------------------------------------------

bound-without : (past : Past) (n name : List ℕ) (queues : List ℕ) →
    bound_in past (filter (λ q. not (bytes_eq (name_of past q) n)) queues) name ≡
    (if bytes_eq n name then None else bound_in past queues name)
bound-without past n name [] = split (bytes_eq n name) (λ t. rw t refl) (λ f. rw f refl)
bound-without past n name (q ∷ queues) =
    grind (arith, bytes_eq-Decides, bound-without past n name queues)

bound-more : (past : Past) (k : ℕ) (r : Record) (queues : List ℕ) → k < length past →
    first (k + 1) past ≡ r ∷ first k past → AreBound past k queues →
    AreBound past (k + 1) (bound_after past k r.entry r.payload queues)
bound-more past k r queues lt is bound = grind (arith, record-here, length-first, bound-without)

-- a queue is bound to its name
pub named-by : (past : Past) (q : ℕ) (queues : List ℕ) (o : Option ℕ) →
    AreBound past (length past) queues → o ≡ bound_in past queues (name_of past q) →
    is_place q o ≡ is_named past q
named-by past q queues o bound e = grind (arith, first-all)

-- queues of entries -------------------------------------------------------------------------------

on-more : (past : Past) (k : ℕ) (r : Record) (on : List (Option ℕ)) (o : Option ℕ) →
    first (k + 1) past ≡ r ∷ first k past → AreOn past k on → length on ≡ k →
    o ≡ called_queue (first k past) r.entry.process r.entry.call →
    AreOn past (k + 1) (on ++ o ∷ [])
on-more past k r on o is are count e = λ i s lt here. split (i == k)
    (λ t. grind (arith, nat_tests, eqb-true, get_or_push))
    (λ f. let ne = eqb-false i k f in
    let less : i < k = omega arith in
    get_or_append_left on (o ∷ []) None i (omega (arith, less, count)) ∙ are i s less here)

-- an entry is made on the queue that the table says
pub on-here : (past : Past) (i : ℕ) (r : Record) (on : List (Option ℕ)) (q : ℕ) (o : Option ℕ) →
    first (i + 1) past ≡ r ∷ first i past → i < length past → AreOn past (length past) on →
    length on ≡ length past → o ≡ get_or on i o →
    is_place q o ≡ is_place q (called_queue (first i past) r.entry.process r.entry.call)
on-here past i r on q o is lt are count read = grind (arith, common_steps)

-- one more entry ----------------------------------------------------------------------------------

pub follows-none : (past : Past) (f : Followed) (n m : ℕ) → n ≤ 33 →
    f.owners.items ≡ replicate n free_owner → length f.owners.items ≡ 33 →
    f.callers.items ≡ replicate m free_caller → length f.callers.items ≡ 2049 → f.bound.items ≡ [] →
    f.on.items ≡ [] → Follows past 0 f
follows-none past f n m few owners count callers number bound on =
    grind (arith, first-none, owners-start, callers-start)

pub follows-more : (past : Past) (k : ℕ) (r : Record) (f new : Followed) (q : ℕ) (o : Option ℕ) →
    Legal (first (k + 1) past) → k < length past → first (k + 1) past ≡ r ∷ first k past →
    Follows past k f →
    KeepsMirror f.owners.items r.entry q new.owners.items →
    length new.owners.items ≡ length f.owners.items →
    KeepsCallers f.callers.items k r.entry q new.callers.items →
    length new.callers.items ≡ length f.callers.items →
    new.bound.items ≡ bound_after past k r.entry r.payload f.bound.items →
    new.on.items ≡ f.on.items ++ o ∷ [] →
    o ≡ called_in f.owners.items r.entry.process r.entry.call →
    ((d : ℕ) (created : Bool) → r.entry.reply ≡ Opened d created → q ≡ opened_queue (first k past)
    r.payload created) → (r.entry.reply ≡ Waits → q ≡ unwrap_or o 0) →
    Follows past (k + 1) new
follows-more past k r f new q o legal_all lt is was keeps count keeps_waits number bound_is on_is
    called opened waits =
    let here = first k past in
    let legal : Legal (r ∷ here) = subst Legal is legal_all in
    let called_is : o ≡ called_queue here r.entry.process r.entry.call = called ∙
    called-is here f.owners.items was.owners r.entry.process r.entry.call in
    let at = queue-of here r.entry.process r.entry.call r.payload r.entry.reply q
    (legal_says here r legal.1) opened (λ e. waits e ∙
    ap (λ (x : Option ℕ). unwrap_or x 0) called_is) in
    let long : length here ≡ k = length-first k past (omega (arith, lt)) in
    record {
      owners = subst (λ (p : Past). OwnersMirror p new.owners.items) (sym is)
          (keeps here r.payload was.owners legal.0 legal.1 at);
      owner_count = count ∙ was.owner_count;
      callers = subst (λ (p : Past). CallersMirror p new.callers.items) (sym is)
          (keeps_waits here r.payload long was.callers legal.0 legal.1 at);
      caller_count = number ∙ was.caller_count;
      bound = rw bound_is (bound-more past k r f.bound.items lt is was.bound);
      on = rw on_is (on-more past k r f.on.items o is was.on was.on_count called_is);
      on_count = grind (arith, length_push, was.on_count);
    }

pub held-by : (past : Past) (owners : List Owner) (q : ℕ) →
    OwnersMirror (first (length past) past) owners → is_held_in owners q ≡ is_held past q
held-by past owners q m =
    sym (is_held-table past owners (subst (λ (p : Past). OwnersMirror p owners)
    (first-all past (length past) refl) m) q)
