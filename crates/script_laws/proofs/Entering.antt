-- Without bounds a reply has an entry unless memory was refused.
use Rattle.std.proofs.Common.{arith, ◌≡◌, ◌≢◌, ℕ, true, false, List, Option, None}
use Rattle.mq.proofs.Replies.{unentered}
use Rattle.mq_model.specs.Bounds.{HeedsBounds, has_entry}
use Rattle.mq_model.specs.Record.{Past}
use Rattle.mq_model.specs.declared.bounds.Bounds.{Bounds}
use Rattle.mq_model.specs.declared.entries.Call.{Call}
use Rattle.mq_model.specs.declared.entries.Reply.{Reply}
use Rattle.mq_model.specs.declared.entries.Reply.TheVariants.{Refused}
use Rattle.mq_model.specs.declared.faults.Fault.{Fault}
use Rattle.mq_model.specs.declared.faults.Fault.TheVariants.{NoMemory, JournalFull}

-- an error without an entry
pub no-entry : (fault : Fault) → has_entry (Refused fault) ≡ false → fault ≢ NoMemory →
    fault ≢ JournalFull → ⊥
no-entry fault none memory full = grind arith

-- without bounds no journal is full
pub not-full : (bounds : Option Bounds) (past : Past) (p : ℕ) (call : Call) (given : List ℕ)
    (reply : Reply) → bounds ≡ None → HeedsBounds bounds past p call given reply →
    reply ≢ Refused JournalFull
not-full bounds past p call given reply none heeds is = grind arith

pub entered : (bounds : Option Bounds) (past : Past) (p : ℕ) (call : Call) (given : List ℕ)
    (reply : Reply) → bounds ≡ None → HeedsBounds bounds past p call given reply →
    reply ≢ Refused NoMemory → has_entry reply ≡ true
entered bounds past p call given reply none heeds memory =
    grind (arith, unentered, no-entry, not-full)
