-- A handle may cross threads: its member may, and the heap's right to free names no thread.
use Rattle.std.proofs.Common.{arith, Option, Some, None}
use base.Fraction.{full_share}
use base.Shift.{Keyless}
use mir.Raw.{raw}
use denote.Exit.{Exit, unchanged, leaves, hidden, under}
use denote.Memory.{lone}
use denote.RattleType.{RattleType}
use denote.RawPtr.{Ptr, block_ptr, null_ptr, lies_at}
use denote.Struct.Owning.{to}
use denote.Param.Send.{IsSend, Quiet, part_keyless}
use Rattle.std.specs.Global.{Global}
use Rattle.std.proofs.Crossing as heap
use Rattle.c_handles.specs.Owning.{seal_owns}
use Rattle.c_handles.specs.contracts.member.Member as Member
use Rattle.c_handles.proofs.member.Member.TheSendSync.{the_send as member}
use Rattle.c_handles.specs.contracts.seal.Seal.{the_row}

quiet : {D X : Type 0} (to : D → X) (e : Exit X) → Quiet e → Quiet (hidden (under to e))
quiet to unchanged q = λ x w. tt
quiet to (leaves L l S s r₀) q = λ d. q (to d)

lies : (R : RattleType) → IsSend R → (p : Ptr) (x : R.Denot) → Keyless (lies_at R full_share p x)
lies R s (block_ptr b o) x = part_keyless R s full_share x b o
lies R s null_ptr x = tt

owned : (a : Global) (p : Ptr) (m : Option (Member.the_row).Denot) → Keyless (seal_owns a p m)
owned a p None = tt
owned a p (Some d) = (
  lies Member.the_row member p d,
  heap.frees.frees a
      (raw (lone (Member.the_row).mir)) p,
)

pub send : IsSend the_row
send = grind (arith, member, owned, quiet)
