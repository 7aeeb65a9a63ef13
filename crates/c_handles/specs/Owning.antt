-- What a seal owns: the same as a box of its member, or nothing.
use base.Fml.{Fml, ftrue}
use base.Stored.{Coded}
use denote.RawPtr.{Ptr}
use Rattle.std.specs.Prelude.{Option, Some, None}
use Rattle.std.specs.Coded.{coded_option}
use Rattle.std.specs.Box.Ownership.{box_owns}
use Rattle.std.specs.Global.{Global}
use Rattle.std.specs.contracts.impls.GlobalAllocator.TheImpl.{ghosts}
use Rattle.c_handles.specs.contracts.member.Member.{the_row}

abbrev pub seal_owns : Global → Ptr → Option the_row.Denot → Fml
seal_owns alloc p None = ftrue
seal_owns alloc p (Some d) = box_owns (ghosts.dealloc_token alloc) the_row p d

abbrev pub member_coded : Coded (Option the_row.Denot)
member_coded = coded_option the_row.coded
