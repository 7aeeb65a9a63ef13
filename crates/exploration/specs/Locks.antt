-- Mutexes, and locks of readers and writers: when an operation can be made.
use Rattle.std.specs.Prelude.{Bool, true, false, ◌&&◌, ◌||◌}
use Rattle.exploration.specs.declared.kind.Kind.{Kind}
use Rattle.exploration.specs.declared.kind.Kind.TheVariants as kind
use Rattle.exploration.specs.declared.deed.Effect.{Effect}

-- who holds a lock: nobody, readers, or one thread alone, as of a mutex
pub data Lock : Type 0 where
  unheld : Lock
  shared : Lock
  owned : Lock

abbrev pub is_lock : Kind → Bool
is_lock kind.Lock = true
is_lock _ = false

abbrev pub is_unlock : Kind → Bool
is_unlock kind.Unlock = true
is_unlock _ = false

abbrev pub is_write_lock : Kind → Bool
is_write_lock kind.WriteLock = true
is_write_lock _ = false

abbrev pub is_read_lock : Kind → Bool
is_read_lock kind.ReadLock = true
is_read_lock _ = false

abbrev pub is_rwunlock : Kind → Bool
is_rwunlock kind.RwUnlock = true
is_rwunlock _ = false

-- an unlock can be made if somebody holds the lock; a mutex has no readers
abbrev pub can_unlock : Lock → Kind → Bool
can_unlock unheld k = false
can_unlock shared k = is_rwunlock k
can_unlock owned k = is_unlock k || is_rwunlock k

-- A lock can be made if it need not wait for who holds the lock: readers share it. A try, or a call
-- with a deadline, can always be made.
abbrev pub can_lock : Lock → Effect → Bool
can_lock unheld y = true
can_lock shared y = y.is_free || is_read_lock y.kind
can_lock owned y = y.is_free

-- an unlock, and a lock of the same kind of lock
abbrev pub are_on_lock : Effect → Effect → Bool
are_on_lock x y =
    is_unlock x.kind && is_lock y.kind
    || is_rwunlock x.kind && (is_write_lock y.kind || is_read_lock y.kind)
