-- What the threads of one process share, and what a journal of first threads says.
use Rattle.std.specs.Prelude.{ℕ, ◌≡◌, ◌≤◌, true, List, Some, All}
use Rattle.mq_model.specs.Limits.{most_processes}
use Rattle.mq_model.specs.Record.{Past, first}
use Rattle.mq_model.specs.Threads.{owner_of}
use Rattle.mq_model.specs.Descriptors.{held, lowest_free, lowest_held, alive}
use Rattle.mq_model.specs.Messages.{is_accepted, present, is_full, best, waiting_sends, waiting_receives}
use Rattle.mq_model.specs.Notices.{registered, notices}
use Rattle.mq_model.specs.Waits.{open_wait}
use Rattle.mq_model.specs.Legality.{Legal, reply_to}
use Rattle.mq_laws.specs.Laws.{is_lone}
use Rattle.mq_laws.specs.Before as before
use Rattle.mq_model.specs.declared.entries.Call.{Call}

-- all calls are of first threads
abbrev pub AreFirst : Past → Type 0
AreFirst past = All (λ r. r.entry.process ≤ most_processes) past

-- After calls of first threads alone, each definition gives what it gives for processes with one
-- thread, and each call of a first thread has the same reply.
pub record IsAsBefore (past : Past) : Type 0 where
  pub descriptors : (p d : ℕ) → p ≤ most_processes → held past p d ≡ before.held past p d
  pub free_numbers : (p : ℕ) → p ≤ most_processes → lowest_free past p ≡ before.lowest_free past p
  pub held_numbers : (p : ℕ) → p ≤ most_processes → lowest_held past p ≡ before.lowest_held past p
  pub existing : alive past ≡ before.alive past
  pub accepted : (q m : ℕ) → is_accepted past q m ≡ before.is_accepted past q m
  pub messages : (q : ℕ) → present past q ≡ before.present past q
  pub fullness : (q : ℕ) → is_full past q ≡ before.is_full past q
  pub next_message : (q : ℕ) → best past q ≡ before.best past q
  pub sends : (q : ℕ) → waiting_sends past q ≡ before.waiting_sends past q
  pub receives : (q : ℕ) → waiting_receives past q ≡ before.waiting_receives past q
  pub registrations : (q : ℕ) → registered past q ≡ before.registered past q
  pub pending : (p : ℕ) → p ≤ most_processes → notices past p ≡ before.notices past p
  pub replies : (p : ℕ) (call : Call) (name : List ℕ) → p ≤ most_processes →
      reply_to past p call name ≡ before.reply_to past p call name

-- The legal journals of first threads are exactly the legal ones of processes with one thread.
pub record AreThoseBefore (past : Past) : Type 0 where
  pub first_threads : Legal past → AreFirst past → before.Legal past
  pub one_thread : before.Legal past → Legal past × AreFirst past

-- Threads of one process hold the same descriptors, so an open gives each the same number, and they
-- have the same notices.
pub record ThreadsShare (past : Past) : Type 0 where
  pub descriptors : (a b d : ℕ) → owner_of a ≡ owner_of b → held past a d ≡ held past b d
  pub numbers : (a b : ℕ) → owner_of a ≡ owner_of b → lowest_free past a ≡ lowest_free past b
  pub pending : (a b : ℕ) → owner_of a ≡ owner_of b → notices past a ≡ notices past b

-- the only thread of a process holds, as long as it waits, what it held when its wait began
abbrev pub HoldsAlone : Past → Type 0
HoldsAlone past = (p w : ℕ) → open_wait past p ≡ Some w → is_lone past p ≡ true → (d : ℕ) →
    held past p d ≡ held (first w past) p d

-- the same of each first thread in a journal of first threads
abbrev pub HoldsFirst : Past → Type 0
HoldsFirst past = (p w : ℕ) → p ≤ most_processes → open_wait past p ≡ Some w → (d : ℕ) →
    held past p d ≡ held (first w past) p d
