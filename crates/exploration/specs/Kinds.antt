-- The words of operations.
use Rattle.std.specs.Prelude.{ℕ, List, [], ◌∷◌, find, Option, codes}
use Rattle.std.specs.Str.{bytes_eq}
use Rattle.text_io.specs.Words.{Word}
use Rattle.exploration.specs.declared.kind.Kind.{Kind}
use Rattle.exploration.specs.declared.kind.Kind.TheVariants as kind

-- the word of each kind
abbrev pub kind_text : Kind → List ℕ
kind_text kind.Lock = codes "lock"
kind_text kind.Unlock = codes "unlock"
kind_text kind.Send = codes "send"
kind_text kind.Receive = codes "receive"
kind_text kind.SemWait = codes "semwait"
kind_text kind.Post = codes "post"
kind_text kind.Register = codes "register"
kind_text kind.Wake = codes "wake"
kind_text kind.Signal = codes "signal"
kind_text kind.Broadcast = codes "broadcast"
kind_text kind.Join = codes "join"
kind_text kind.Start = codes "start"
kind_text kind.Create = codes "create"
kind_text kind.TryLock = codes "trylock"
kind_text kind.SemTry = codes "semtry"
kind_text kind.Sleep = codes "sleep"
kind_text kind.Yield = codes "yield"
kind_text kind.Exit = codes "exit"
kind_text kind.Open = codes "open"
kind_text kind.Close = codes "close"
kind_text kind.Unlink = codes "unlink"
kind_text kind.GetAttr = codes "getattr"
kind_text kind.SetAttr = codes "setattr"
kind_text kind.Notify = codes "notify"
kind_text kind.Collect = codes "collect"
kind_text kind.Clock = codes "clock"
kind_text kind.ReadLock = codes "rdlock"
kind_text kind.WriteLock = codes "wrlock"
kind_text kind.RwUnlock = codes "rwunlock"
kind_text kind.Barrier = codes "barrier"
kind_text kind.Once = codes "once"
kind_text kind.FutexWait = codes "futexwait"
kind_text kind.FutexWake = codes "futexwake"
kind_text kind.Write = codes "write"

abbrev pub kinds : List Kind
kinds =
    kind.Lock ∷ kind.Unlock ∷ kind.Send ∷ kind.Receive ∷ kind.SemWait ∷ kind.Post ∷
    kind.Register ∷ kind.Wake ∷ kind.Signal ∷ kind.Broadcast ∷ kind.Join ∷ kind.Start ∷
    kind.Create ∷ kind.TryLock ∷ kind.SemTry ∷ kind.Sleep ∷ kind.Yield ∷ kind.Exit ∷
    kind.Open ∷ kind.Close ∷ kind.Unlink ∷ kind.GetAttr ∷ kind.SetAttr ∷ kind.Notify ∷
    kind.Collect ∷ kind.Clock ∷ kind.ReadLock ∷ kind.WriteLock ∷ kind.RwUnlock ∷ kind.Barrier ∷
    kind.Once ∷ kind.FutexWait ∷ kind.FutexWake ∷ kind.Write ∷ []

-- the kind with this word
unfoldable pub kind_written : Word → Option Kind
kind_written word = find (λ kind. bytes_eq word (kind_text kind)) kinds
