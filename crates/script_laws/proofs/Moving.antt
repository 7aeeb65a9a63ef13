-- What a process did is a sequence of moves: a call in one critical section, one that failed before
-- it reached the queues, and an exit.
use Rattle.std.proofs.Common.{◌≡◌, ◌≤◌, ℕ, ◌+◌, Bool, true, false, List, [], ◌∷◌, ◌++◌, Some, None, if◌then◌else◌, refl, ap, sym, ◌∙◌, subst, eq-eqb, Vec, Global}
use Rattle.std.specs.List.{All}
use Rattle.std.proofs.lemmas.List.Elements.{All-nil, All-cons}
use Rattle.fast_mutex.specs.Items.{LockId, Ticket, Grows}
use Rattle.mq.specs.Calls.{AreInTurn, Calls, Found, IsFree, author, bounds_in, bounds_of, closes, made, recorded}
use Rattle.mq.proofs.Closings.{all-closes}
use Rattle.mq.proofs.Growing.{grows-on}
use Rattle.mq.proofs.Others.{wait-grown}
use Rattle.mq_model.specs.Bounds.{has_entry}
use Rattle.mq_model.specs.Descriptors.{lowest_held}
use Rattle.mq_model.specs.Legality.{IsLegalNext, Legal}
use Rattle.mq_model.specs.Record.{Past, Record}
use Rattle.mq_model.specs.Waits.{is_wait, open_wait}
use Rattle.mq_model.specs.declared.entries.Call.{Call}
use Rattle.mq_model.specs.declared.entries.Reply.{Reply}
use Rattle.mq_model.specs.declared.faults.Fault.{Fault}
use Rattle.script_orders.specs.Progress.{Progress}
use Rattle.script_orders.specs.Said.{said}
use Rattle.script_orders.specs.Scenes.{close_first}
use Rattle.script_orders.specs.declared.plan.Planned.{Planned}
use Rattle.script_orders.specs.declared.plan.Step.TheVariants as steps
use Rattle.script_text.specs.Replies.{reply_line}
use Rattle.script_text.specs.declared.reply.Outcome.TheVariants as outcomes
use Rattle.script_laws.proofs.Closing.{AreFirst, exit-closes, exit-idles}
use Rattle.script_laws.proofs.Course.{Course, Goes, Move}
use Rattle.script_laws.proofs.Lines.{IsNext, call-goes, turn-by-line}
use Rattle.script_laws.proofs.Splitting.{grows-before, grows-none}

-- a process that can make a call is at this journal: it extends the one that the process last left
-- by records of others only
pub record IsAt (p : ℕ) (at : Past) (process : Ticket Record) : Type 0 where
  pub number : process.number ≡ p
  pub bounds : bounds_in process.lock.fixed ≡ None
  pub free : IsFree process
  pub near : Grows author p at process.left []

pub at-free : (p : ℕ) (at : Past) (process : Ticket Record) → IsAt p at process →
    open_wait at p ≡ None
at-free p at process is = sym (wait-grown is.near) ∙ ap (λ (n : ℕ). open_wait process.left n)
    (sym is.number) ∙ is.free

-- the progress after one more line, for which this is printed
abbrev pub further : Progress → List ℕ → Progress
further progress line = record { begun = progress.begun + 1; text = progress.text ++ line }

-- The process has reached this progress and can make a call: each course that continues from there
-- is also one from here.
pub record Came (p phase : ℕ) (program : Vec Planned Global) (from : Past) (progress : Progress)
    (new : Ticket Record) (next : Progress) : Type 0 where
  pub at : Past
  pub is : IsAt p at new
  pub goes : (to : Past) (end : Progress) (moves : List Move) →
      Course p phase program to end moves at next →
      (all : List Move) × Course p phase program to end all from progress

-- it started and completed its next line, for which this is printed
abbrev pub Moved : ℕ → ℕ → Vec Planned Global → Past → Progress → Ticket Record → List ℕ → Type 0
Moved p phase program from progress new line = Came p phase program from progress new
    (further progress line)

-- the same by one move
pub moved-once : (p phase : ℕ) (program : Vec Planned Global) (from : Past) (progress : Progress)
    (new : Ticket Record) (line : List ℕ) (found own : Past)
    → IsAt p (own ++ found) new
    → Goes p phase program (record { found = found; own = own; next = further progress line }) from
    progress
    → Moved p phase program from progress new line
moved-once p phase program from progress new line found own is goes = record {
  at = own ++ found;
  is = is;
  goes = λ to end moves course. (
    record { found = found; own = own; next = further progress line } ∷
        moves,
    (goes, course),
  );
}

pub mine-one : (p : ℕ) (call : Call) (given : List ℕ) (reply : Reply) →
    All (λ r. author r ≡ p) (recorded p call given reply ∷ [])
mine-one p call given reply = All-cons (λ r. author r ≡ p) (recorded p call given reply) [] refl
    (All-nil (λ r. author r ≡ p))

-- the record of a call is legal after the journal that it found
pub record Stood (p : ℕ) (from : Past) (new : Past) (call : Call) (given : List ℕ)
    (reply : Reply) : Type 0 where
  pub found : Past
  pub others : Grows author p from found []
  pub legal : Legal found
  pub next : IsLegalNext found (recorded p call given reply)
  pub is : new ≡ recorded p call given reply ∷ found

pub stood : (old new : Ticket Record) (from : Past) (call : Call) (given : List ℕ) (reply : Reply) →
    IsAt old.number from old → has_entry reply ≡ true
    → Calls old new (made old.number call given reply) → Found old new call given reply →
    Stood old.number from new.left call given reply
stood old new from call given reply at entered calls found =
    let p : ℕ = old.number in
    let r : Record = recorded p call given reply in
    let one : made p call given reply ≡ r ∷ [] =
    ap (λ (b : Bool). if b then r ∷ [] else []) entered in
    let is : new.left ≡ r ∷ found.journal = found.added ∙ ap (λ (own : Past). own ++
    found.journal) one in
    let grows : Grows author p old.left new.left (r ∷ []) =
    subst (λ (own : Past). Grows author p old.left new.left own) one calls.grows in
    let grown : Grows author p old.left (r ∷ found.journal) (r ∷ []) =
    subst (λ (l : Past). Grows author p old.left l (r ∷ [])) is grows in
    let before : Grows author p old.left found.journal [] = grows-before author p (r ∷ []) old.left
    found.journal (mine-one p call given reply) grown in
    let legal : Legal (r ∷ found.journal) = subst (λ (l : Past). Legal l) is calls.legal in
    record {
      found = found.journal;
      others = grows-on at.near before;
      legal = legal.0;
      next = legal.1;
      is = is;
    }

-- a call in one critical section, for whose reply this is printed
pub record Stay (old new : Ticket Record) (call : Call) (given line : List ℕ) : Type 0 where
  pub reply : Reply
  pub calls : Calls old new (made old.number call given reply)
  pub found : Found old new call given reply
  pub entered : has_entry reply ≡ true
  pub ends : is_wait reply ≡ false
  pub prints : said new.left old.number reply ≡ line

pub stay-moves : (phase : ℕ) (program : Vec Planned Global) (from : Past) (progress : Progress)
    (old new : Ticket Record) (call : Call) (given line : List ℕ)
    → IsAt old.number from old → IsNext phase program progress.begun (steps.Call call) given →
    Stay old new call given line → Moved old.number phase program from progress new line
stay-moves phase program from progress old new call given line at next stay =
    let p : ℕ = old.number in
    let reply : Reply = stay.reply in
    let s = stood old new from call given reply at stay.entered stay.calls stay.found in
    let found : Past = s.found in
    let r : Record = recorded p call given reply in
    let free : open_wait found p ≡ None = wait-grown s.others ∙ at-free p from old at in
    let goes = call-goes found p call given reply progress s.next in
    let turn = turn-by-line found phase p progress program (steps.Call call) given
    (record { past = r ∷ found; text = progress.text ++ said (r ∷ found) p reply })
    free next goes in
    let prints : said (r ∷ found) p reply ≡ line = ap (λ (past : Past). said past p reply)
    (sym s.is) ∙ stay.prints in
    let ended : open_wait (r ∷ found) p ≡ None = rw (eq-eqb p p refl, stay.ends) refl in
    moved-once p phase program from progress new line found (r ∷ [])
    (record {
      number = stay.calls.number;
      bounds = ap (λ (l : LockId). bounds_in l.fixed) stay.calls.lock ∙ at.bounds;
      free = ap (λ (past : Past). open_wait past new.number) s.is ∙
          ap (λ (n : ℕ). open_wait (r ∷ found) n) stay.calls.number ∙ ended;
      near = record { behind = []; is = s.is; mine = refl };
    })
    (record {
      others = s.others;
      mine = mine-one p call given reply;
      eager = λ none. let bad : r ∷ [] ≡ [] = none in absurd (cc);
      turn = turn ∙
          ap (λ (text : List ℕ). Some (record {
            past = r ∷ found;
            progress = further progress text;
          })) prints;
    })

-- a call that failed before it reached the queues
pub refusal-moves : (phase : ℕ) (program : Vec Planned Global) (from : Past) (progress : Progress)
    (old : Ticket Record) (fault : Fault) (given : List ℕ)
    → IsAt old.number from old → IsNext phase program progress.begun (steps.Refusal fault) given →
    Moved old.number phase program from progress old
    (reply_line old.number (outcomes.Refused fault) [])
refusal-moves phase program from progress old fault given at next =
    let p : ℕ = old.number in
    moved-once p phase program from progress old (reply_line p (outcomes.Refused fault) []) from []
    at
    (record {
      others = grows-none author p from;
      mine = All-nil (λ r. author r ≡ p);
      eager = λ none. refl;
      turn = turn-by-line from phase p progress program (steps.Refusal fault) given
          (record { past = from; text = progress.text ++ reply_line p (outcomes.Refused fault) [] })
          (at-free p from old at) next refl;
    })

-- an exit that closed these descriptors
exit-by : (phase : ℕ) (program : Vec Planned Global) (from found : Past) (progress : Progress)
    (old new : Ticket Record) (given ds : List ℕ)
    → IsAt old.number from old → IsNext phase program progress.begun steps.Exit given →
    Calls old new (closes old.number ds)
    → Grows author old.number (closes old.number ds ++ found) new.left [] →
    Grows author old.number from found []
    → close_first found old.number 16 ≡ closes old.number ds ++ found →
    (closes old.number ds ≡ [] → found ≡ from)
    → Moved old.number phase program from progress new (reply_line old.number outcomes.Done [])
exit-by phase program from found progress old new given ds at next calls near others closed eager =
    let p : ℕ = old.number in
    let line : List ℕ = reply_line p outcomes.Done [] in
    let waits : open_wait found p ≡ None = wait-grown others ∙ at-free p from old at in
    let turn = turn-by-line found phase p progress program steps.Exit given
    (record { past = close_first found p 16; text = progress.text ++ line }) waits next refl in
    moved-once p phase program from progress new line found (closes p ds)
    (record {
      number = calls.number;
      bounds = ap (λ (l : LockId). bounds_in l.fixed) calls.lock ∙ at.bounds;
      free = ap (λ (n : ℕ). open_wait new.left n) calls.number ∙ wait-grown near ∙
          closes-free p ds found waits;
      near = near;
    })
    (record {
      others = others;
      mine = all-closes p ds;
      eager = eager;
      turn = turn ∙
          ap (λ (past : Past). Some (record { past = past; progress = further progress line }))
          closed;
    })
  where
    closes-free : (p : ℕ) (ds : List ℕ) (found : Past) → open_wait found p ≡ None →
        open_wait (closes p ds ++ found) p ≡ None
    closes-free p [] found waits = waits
    closes-free p (d ∷ ds) found waits = rw (eq-eqb p p refl) refl

pub exit-moves : (phase : ℕ) (program : Vec Planned Global) (from found : Past)
    (progress : Progress) (old new : Ticket Record) (given ds : List ℕ)
    → IsAt old.number from old → IsNext phase program progress.begun steps.Exit given →
    Calls old new (closes old.number ds)
    → new.left ≡ closes old.number ds ++ found → AreInTurn (bounds_of old) found old.number ds →
    lowest_held new.left new.number ≡ None → (old.number ≤ 32) × AreFirst new.left
    → Moved old.number phase program from progress new (reply_line old.number outcomes.Done [])
exit-moves phase program from found progress old new given [] at next calls is in_turn none few =
    let p : ℕ = old.number in
    let lowest : lowest_held new.left p ≡ None = ap (λ (n : ℕ). lowest_held new.left n)
    (sym calls.number) ∙ none in
    let near : Grows author p from new.left [] = grows-on at.near calls.grows in
    exit-by phase program from from progress old new given [] at next calls near
    (grows-none author p from) (exit-idles p from new.left few.0 few.1 near lowest)
    (λ none. refl)
exit-moves phase program from found progress old new given (d ∷ ds) at next calls is
    in_turn none few =
    let p : ℕ = old.number in
    let lowest : lowest_held (closes p (d ∷ ds) ++ found) p ≡ None =
    ap (λ (past : Past). lowest_held past p) (sym is) ∙ ap (λ (n : ℕ). lowest_held new.left n)
    (sym calls.number) ∙ none in
    let grown : Grows author p old.left (closes p (d ∷ ds) ++ found) (closes p (d ∷ ds)) =
    subst (λ (l : Past). Grows author p old.left l (closes p (d ∷ ds))) is calls.grows in
    let before : Grows author p old.left found [] = grows-before author p (closes p (d ∷ ds))
    old.left found (all-closes p (d ∷ ds)) grown in
    exit-by phase program from found progress old new given (d ∷ ds) at next calls
    (record { behind = []; is = is; mine = refl }) (grows-on at.near before)
    (exit-closes (bounds_of old) found p (d ∷ ds) in_turn lowest) (λ none. let bad : closes p
    (d ∷ ds) ≡ [] = none in absurd (cc))
