-- The journal that a process left is an earlier state of each that it leaves later.
use Rattle.std.proofs.lemmas.Grind.{common_steps}
use Rattle.std.proofs.Common.{◌⊎◌, ◌≡◌, ℕ, List, [], ◌∷◌, ◌++◌, length, Option, Result, refl, ap, sym, ◌∙◌, subst, append_assoc, length-append, arith}
use Rattle.std.specs.List.{All, AllZip}
use Rattle.std.proofs.lemmas.List.Elements.{All-head, All-tail}
use Rattle.fast_mutex.specs.Items.{Grows, Ticket}
use Rattle.mq.specs.Calls.{Calls, author}
use Rattle.mq_model.specs.Record.{Past, Record}
use Rattle.mq_model.specs.declared.entries.Call.{Call}
use Rattle.mq_model.specs.declared.entries.Deadline.{Deadline}
use Rattle.mq_model.specs.declared.entries.Reply.{Reply}
use Rattle.mq_model.specs.declared.faults.Fault.{Fault}
use Rattle.script_runner.specs.Runs.{FindsLength, MakesNamed, Performs, RunsCalls, RunsPhase, RunsPhases}
use Rattle.script_text.specs.Script.{WrittenCall}
use Rattle.script_text.specs.declared.command.Command.{Command}
use Rattle.script_text.specs.declared.command.Command.TheVariants as command
use Rattle.script_text.specs.declared.reply.Completion.{Completion}
use Rattle.script_text.specs.declared.reply.Outcome.{Outcome}
use Rattle.text_io.specs.Words.{Word}
use Rattle.script_laws.proofs.Joins.{two-ends}

-- the journal is an earlier state of the other
pub record IsEnd (older newer : Past) : Type 0 where
  pub more : Past
  pub is : newer ≡ more ++ older

pub end-same : (past : Past) → IsEnd past past
end-same past = record { more = []; is = refl }

pub end-then : (a b c : Past) → IsEnd a b → IsEnd b c → IsEnd a c
end-then a b c x y = record {
  more = y.more ++ x.more;
  is = y.is ∙ (ap (λ (l : Past). y.more ++ l) x.is ∙ sym (append_assoc y.more x.more a));
}

pub by-calls : (old new : Ticket Record) (own : Past) → Calls old new own → IsEnd old.left new.left
by-calls old new own calls = record { more = calls.grows.behind; is = calls.grows.is }

by-same : (old new : Ticket Record) → new ≡ old → IsEnd old.left new.left
by-same old new e = record { more = []; is = ap (λ (t : Ticket Record). t.left) e }

named-grows : {A : Type 0} (says : Reply → Option (Result A Fault)) (shows : A → Outcome)
    (call : Call) (name : List ℕ) (old new : Ticket Record) (came : Outcome) →
    MakesNamed says shows call name old new came → IsEnd old.left new.left
named-grows says shows call name old new came named = grind (arith, by-calls, by-same)

either : {A B C : Type 0} → A ⊎ B → (A → C) → (B → C) → C
either h first second = grind arith

pub performs-grows : (moment : Deadline) (c : Command Word) (before after : List ℕ)
    (old new : Ticket Record) (came : Outcome) → Performs moment c before after old new came →
    IsEnd old.left new.left
performs-grows moment (command.Open name flags attr) before after old new came h =
    named-grows _ _ _ name old new came h
performs-grows moment (command.Unlink name) before after old new came h =
    named-grows _ _ _ name old new came h
performs-grows moment (command.Send d prio message) before after old new came h =
    either h.called (λ one. by-calls old new _ one.calls)
    (λ waits. by-calls old new _ waits.waited.calls)
performs-grows moment (command.Receive d room) before after old new came h =
    either h.called (λ one. by-calls old new _ one.calls)
    (λ waits. by-calls old new _ waits.waited.calls)
performs-grows moment (command.TimedSend d prio until message) before after old new came h =
    either h.called.how (λ one. by-calls old new _ one.calls)
    (λ later. either later (λ waits. by-calls old new _ waits.waited.calls)
    (λ expires. by-calls old new _ expires.calls))
performs-grows moment (command.TimedReceive d room until) before after old new came h =
    either h.called.how (λ one. by-calls old new _ one.calls)
    (λ later. either later (λ waits. by-calls old new _ waits.waited.calls)
    (λ expires. by-calls old new _ expires.0.calls))
performs-grows moment c before after old new came h = by-calls old new _ h.called.calls

pub calls-grow : (calls : List WrittenCall) (completions : List Completion)
    (old new : Ticket Record) → RunsCalls calls completions old new → IsEnd old.left new.left
calls-grow [] [] old new ran = by-same old new ran
calls-grow (call ∷ calls) (completion ∷ completions) old new ran =
    grind (arith, end-then, performs-grows, calls-grow calls completions ran.0 new ran.2)
calls-grow calls completions old new ran = absurd ran

-- the journal that each process left is an earlier state of the journal
abbrev pub AreEnds : Past → List (Ticket Record) → Type 0
AreEnds journal [] = Unit {0}
AreEnds journal (t ∷ tickets) = IsEnd t.left journal × AreEnds journal tickets

-- the journal that each process left is an earlier state of the one that it left later
abbrev pub AllGrown : List (Ticket Record) → List (Ticket Record) → Type 0
AllGrown before after = AllZip (λ old new. IsEnd old.left new.left) before after

ends-before : (journal : Past) (before after : List (Ticket Record)) → AllGrown before after →
    AreEnds journal after → AreEnds journal before
ends-before journal [] [] grown ends = tt
ends-before journal (old ∷ before) (new ∷ after) grown ends =
    grind (arith, end-then, ends-before journal before after grown.1 ends.1)
ends-before journal before after grown ends = absurd grown

found-grow : (n : ℕ) (ended between : List (Ticket Record)) → AllZip (FindsLength n) ended between →
    AllGrown ended between
found-grow n [] [] found = tt
found-grow n (old ∷ ended) (new ∷ between) found = (
  by-calls old new [] found.0.calls,
  found-grow n ended between found.1,
)
found-grow n ended between found = absurd found

pub phase-grows : (calls : List WrittenCall) (before after : List (Ticket Record)) (text : List ℕ) →
    RunsPhase calls before after text → AllGrown before after
phase-grows calls [] [] text ran = tt
phase-grows calls (old ∷ before) (new ∷ after) text ran =
    grind (arith, calls-grow, phase-grows calls before after ran.1 ran.4)
phase-grows calls before after text ran = absurd ran

-- before a phase, after which all processes acquired the lock once more
pub phase-ends : (journal : Past) (n : ℕ) (before ended between : List (Ticket Record)) →
    AllGrown before ended → AllZip (FindsLength n) ended between → AreEnds journal between →
    AreEnds journal before
phase-ends journal n before ended between grown found ends = grind (arith, ends-before, found-grow)

-- the same at the beginning of several phases
pub phases-end : (journal : Past) (phases : List (List WrittenCall))
    (before after : List (Ticket Record)) (text : List ℕ) → RunsPhases phases before after text →
    AreEnds journal after → AreEnds journal before
phases-end journal [] before after text ran ends =
    subst (λ (ts : List (Ticket Record)). AreEnds journal ts) ran.0 ends
phases-end journal (calls ∷ phases) before after text ran ends =
    grind (arith, phase-ends, phase-grows, phases-end journal phases ran.1 after ran.4 ran.7 ends)

pub all-grow : (journal : Past) (tickets : List (Ticket Record)) →
    All (λ process. Grows author process.number process.left journal []) tickets →
    AreEnds journal tickets
all-grow journal [] all = tt
all-grow journal (t ∷ tickets) all =
    let P : Ticket Record →
    Type 0 = λ process. Grows author process.number process.left journal [] in
    let first = All-head P t tickets all in (
      record { more = first.behind; is = first.is },
      all-grow journal tickets
          (All-tail P t tickets all),
    )

-- the last journals -------------------------------------------------------------------------------

-- each process last left this journal
abbrev pub AllLeft : Past → List (Ticket Record) → Type 0
AllLeft past [] = Unit {0}
AllLeft past (t ∷ tickets) = (t.left ≡ past) × AllLeft past tickets

none-more : (w a : Past) → length (w ++ a) ≡ length a → w ++ a ≡ a
none-more w a e = grind (arith, common_steps, length-append)

-- two earlier states of the same length are equal
end-by-length : (journal a b : Past) → IsEnd a journal → IsEnd b journal → length a ≡ length b →
    a ≡ b
end-by-length journal a b x y same = grind (arith, two-ends, none-more)

all-one : (journal past : Past) (n : ℕ) (ended between : List (Ticket Record)) →
    IsEnd past journal → length past ≡ n → AllZip (FindsLength n) ended between →
    AreEnds journal between → AllLeft past between
all-one journal past n [] [] end count found ends = tt
all-one journal past n (old ∷ ended) (new ∷ between) end count found ends = (
  end-by-length journal new.left past ends.0 end (found.0.count ∙ sym count),
  all-one journal past n ended between end count found.1 ends.1,
)
all-one journal past n ended between end count found ends = absurd found

-- the journal that all processes have after a phase that began with this one
pub record Meeting (journal past : Past) (tickets : List (Ticket Record)) : Type 0 where
  pub to : Past
  pub from : IsEnd past to
  pub end : IsEnd to journal
  pub all : AllLeft to tickets

pub meeting : (journal past : Past) (n : ℕ) (before ended between : List (Ticket Record)) →
    IsEnd past journal → AllLeft past before → AllGrown before ended →
    AllZip (FindsLength n) ended between → AreEnds journal between → Meeting journal past between
meeting journal past n [] [] [] here left grown found ends = record {
  to = past;
  from = end-same past;
  end = here;
  all = tt;
}
meeting journal past n [] (new ∷ ended) between here left grown found ends = absurd grown
meeting journal past n (old ∷ before) [] between here left grown found ends = absurd grown
meeting journal past n (old ∷ before) (new ∷ ended) (t ∷ between) here left grown found ends =
    let one : IsEnd old.left t.left = end-then old.left new.left t.left grown.0
    (by-calls new t [] found.0.calls) in
    record {
      to = t.left;
      from = subst (λ (l : Past). IsEnd l t.left) left.0 one;
      end = ends.0;
      all = (refl, all-one journal t.left n ended between ends.0 found.0.count found.1 ends.1);
    }
meeting journal past n before ended between here left grown found ends = absurd found
