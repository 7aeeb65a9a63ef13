-- The registration on a queue, as a property of whole journals (mq_notify, mq_close).
use Rattle.std.specs.Prelude.{ℕ, ◌≡◌, ◌<◌, ◌≤◌, Option, Some, None, ◌⊎◌}
use Rattle.mq_model.specs.Threads.{owner_of}
use Rattle.mq_model.specs.Record.{Record, Past, record_at, first}
use Rattle.mq_model.specs.Descriptors.{called_queue}
use Rattle.mq_model.specs.Notices.{notified, registered}
use Rattle.mq_model.specs.declared.entries.Registration.{Registration}
use Rattle.mq_model.specs.declared.entries.Call.TheVariants.{MqClose, MqNotify}
use Rattle.mq_model.specs.declared.entries.Reply.TheVariants.{Done}

-- the record, of a thread of p's process, removes the registration on queue q; `before` are the
-- records before it
pub record IsRemoval (before : Past) (r : Record) (q p : ℕ) : Type 0 where
  pub d : ℕ
  pub process : owner_of r.entry.process ≡ owner_of p
  pub call : r.entry.call ≡ MqNotify d None
  pub reply : r.entry.reply ≡ Done
  pub on : called_queue before r.entry.process r.entry.call ≡ Some q

-- the record closes descriptor d of p's process
pub record IsClose (r : Record) (p d : ℕ) : Type 0 where
  pub process : owner_of r.entry.process ≡ owner_of p
  pub call : r.entry.call ≡ MqClose d
  pub reply : r.entry.reply ≡ Done

-- the record notifies the registration, or its process removes it on queue q, or closes the
-- descriptor that it used
abbrev pub IsEndedBy : Past → ℕ → Registration → Record → Type 0
IsEndedBy before q n r = (notified r.entry.reply ≡ Some n.place) ⊎ (IsRemoval before r q n.process ⊎
    IsClose r n.process n.d)

-- a successful notify on queue q made the registration, and no later record ended it
pub record Stands (past : Past) (q : ℕ) (n : Registration) : Type 0 where
  pub r : Record
  pub at : record_at past n.place ≡ Some r
  pub process : r.entry.process ≡ n.process
  pub call : r.entry.call ≡ MqNotify n.d (Some n.value)
  pub reply : r.entry.reply ≡ Done
  pub on : called_queue (first n.place past) r.entry.process r.entry.call ≡ Some q
  pub left : (j : ℕ) (s : Record) → n.place < j → record_at past j ≡ Some s →
      IsEndedBy (first j past) q n s → ⊥

-- it is the latest such registration, or there is none
abbrev pub IsLatest : Past → ℕ → Option Registration → Type 0
IsLatest past q None = (n : Registration) → Stands past q n → ⊥
IsLatest past q (Some n) = Stands past q n × ((m : Registration) → Stands past q m →
    m.place ≤ n.place)

-- on each queue the definition gives the latest such registration
abbrev pub RegistersLatest : Past → Type 0
RegistersLatest past = (q : ℕ) → IsLatest past q (registered past q)
