-- One record, one head or one byte more.
use Rattle.std.proofs.Common.{◌≡◌, ◌≤◌, ◌+◌, ◌++◌, ◌*◌, ◌∙◌, ◌&&◌, ◌==◌, ℕ, false, List, [], ◌∷◌, length, None, Some, if◌then◌else◌, refl, ap, sym, arith, add-one, append-nil, append_assoc, nat_lt, le-ltb}
use Rattle.mq_model.specs.Descriptors.{is_place, opened_number}
use Rattle.mq_model.specs.Record.{Past, Place, Process, Descriptor, Record, first}
use Rattle.mq_model.specs.Threads.{shares}
use Rattle.mq_model.specs.Waits.{ended_wait, is_wait}
use Rattle.std.specs.List.{flat_map}
use Rattle.std.specs.Option.{option_or}
use Rattle.journal_views.specs.Found.{ending, processes, queue_named, wait_begun, with_process}
use Rattle.journal_views.specs.Label.{named}
use Rattle.journal_views.specs.Picture.{entries_text, head_text, heads_text, last_text}

pub processes-nil : processes [] ≡ []
unfolding processes
processes-nil = refl

pub processes-more : (r : Record) (past : Past) →
    processes (r ∷ past) ≡ with_process r.entry.process (processes past)
unfolding processes
processes-more r past = refl

pub ruleset processes_steps = (processes-nil, processes-more)

pub heads-none : (x : ℕ) (number : List ℕ) → heads_text x number 0 ≡ []
unfolding heads_text
heads-none x number = refl

pub heads-more : (x n : ℕ) (number : List ℕ) →
    heads_text x number (n + 1) ≡ heads_text x number n ++ head_text x (n * 816 + 48) number
unfolding heads_text
heads-more x n number = rw add-one refl

pub ruleset heads_steps = (heads-none, heads-more, append-nil, append_assoc)

pub entries-none : (past : Past) (ps : List Process) (from : Place) (count : ℕ) →
    entries_text past ps from count 0 ≡ []
unfolding entries_text
entries-none past ps from count = refl

pub entries-more : (past : Past) (ps : List Process) (from : Place) (count k : ℕ) →
    entries_text past ps from count (k + 1) ≡ entries_text past ps from count k ++
    last_text past ps from count (first (from + k + 1) past)
unfolding entries_text
entries-more past ps from count k = rw add-one refl

pub ruleset entries_steps = (entries-none, entries-more, append-nil, append_assoc)

pub ending-more : (wait : Place) (r : Record) (past : Past) →
    ending wait (r ∷ past) ≡ option_or (ending wait past) (if nat_lt wait (length past) && is_place
    wait (ended_wait r.entry.reply) then Some (length past) else None)
unfolding ending
ending-more wait r past = refl

-- no entry up to a wait ends it
pub ending-none : (wait : Place) (past : Past) → length past ≤ wait + 1 → ending wait past ≡ None
unfolding ending
ending-none wait [] le = refl
ending-none wait (r ∷ past) le =
    let before : ending wait past ≡ None = ending-none wait past (omega arith) in
    let later : nat_lt wait (length past) ≡ false = le-ltb wait (length past) (omega arith) in
    rw (before, later) refl

pub ruleset ending_steps = (ending-more, ending-none)

pub wait_begun-nil : (p : Process) → wait_begun [] p ≡ None
unfolding wait_begun
wait_begun-nil p = refl

pub wait_begun-more : (r : Record) (past : Past) (p : Process) →
    wait_begun (r ∷ past) p ≡
    (if r.entry.process == p then (if is_wait r.entry.reply then Some (length past) else None) else
    wait_begun past p)
unfolding wait_begun
wait_begun-more r past p = refl

pub ruleset wait_begun_steps = (wait_begun-nil, wait_begun-more)

pub queue_named-nil : (p : Process) (d : Descriptor) → queue_named [] p d ≡ []
unfolding queue_named
queue_named-nil p d = refl

pub queue_named-more : (r : Record) (past : Past) (p : Process) (d : Descriptor) →
    queue_named (r ∷ past) p d ≡
    (if shares r.entry.process p && is_place d (opened_number r.entry.call r.entry.reply) then
    r.payload else queue_named past p d)
unfolding queue_named
queue_named-more r past p d = refl

pub ruleset queue_named_steps = (queue_named-nil, queue_named-more)

pub named-append : (xs ys : List ℕ) → flat_map named (xs ++ ys) ≡ flat_map named xs ++
    flat_map named ys
named-append [] ys = refl
named-append (x ∷ xs) ys = ap (λ t. named x ++ t) (named-append xs ys) ∙
    sym (append_assoc (named x) (flat_map named xs) (flat_map named ys))

pub ruleset named_steps = (named-append, append_assoc)
