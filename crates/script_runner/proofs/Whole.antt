-- A script that was run completely on a system that was new or continued from a journal.
use Rattle.std.proofs.Common.{◌≡◌, ◌≤◌, ◌∙◌, ℕ, List, All, None, ap, length, subst, sym, arith}
use Rattle.fast_mutex.specs.Items.{LockId, Ticket, tickets_from, tickets_with}
use Rattle.mq.specs.Calls.{bounds_in}
use Rattle.mq_model.specs.Record.{Past, Record}
use Rattle.script_runner.specs.Runs.{IsReady, NoneWaits, RunsAfter, RunsOn, RunsWhole}
use Rattle.script_runner.proofs.Working.{after-ready, count-after}
use Rattle.script_text.specs.Script.{Whole}

pub whole-of : (script : Whole) (mq : LockId) (before : List (Ticket Record)) (replies : List ℕ)
    (journal : Past) → mq.count ≡ script.processes → script.processes ≤ 32 →
    bounds_in mq.fixed ≡ None → before ≡ tickets_from mq 1 script.processes →
    RunsOn mq before script.phases replies journal → RunsWhole script replies journal
whole-of script mq before replies journal count few unbounded are runs = grind arith

-- the processes of a system that continues from a journal
pub begin-after : (mq : LockId) (past : Past) (m n : ℕ) (before : List (Ticket Record)) →
    before ≡ tickets_with mq past 1 m → m ≡ n → before ≡ tickets_with mq past 1 n
begin-after mq past m n before are same = are ∙ ap (λ (k : ℕ). tickets_with mq past 1 k) same

pub ready-after : (mq : LockId) (past : Past) (n : ℕ) (before : List (Ticket Record)) →
    before ≡ tickets_with mq past 1 n → NoneWaits past n → All (IsReady mq) before
ready-after mq past n before are free = subst (λ (tickets : List (Ticket Record)). All (IsReady mq)
    tickets) (sym are) (after-ready mq past n free)

pub many-after : (mq : LockId) (past : Past) (n : ℕ) (before : List (Ticket Record)) →
    before ≡ tickets_with mq past 1 n → length before ≡ n
many-after mq past n before are = ap (λ (tickets : List (Ticket Record)). length tickets) are ∙
    count-after mq past 1 n

pub after-of : (past : Past) (script : Whole) (mq : LockId) (before : List (Ticket Record))
    (replies : List ℕ) (journal : Past) → mq.count ≡ script.processes → script.processes ≤ 32 →
    bounds_in mq.fixed ≡ None → NoneWaits past script.processes →
    before ≡ tickets_with mq past 1 script.processes →
    RunsOn mq before script.phases replies journal → RunsAfter past script replies journal
after-of past script mq before replies journal count few unbounded free are runs = grind arith
