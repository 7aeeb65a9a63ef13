-- The arguments of an open.
use Rattle.std.specs.Prelude.{ℕ, ◌==◌, Option, Some, None, List, is_some, if◌then◌else◌}
use Rattle.std.specs.Option.{unwrap_or}
use Rattle.mq_model.specs.Name.{is_name, has_name_form}
use Rattle.mq_model.specs.declared.entries.Access.{Access}
use Rattle.mq_model.specs.declared.entries.Access.TheVariants.{Read, Write, Both}
use Rattle.mq_model.specs.declared.entries.Attr.{Attr}
use Rattle.mq_model.specs.declared.entries.OpenFlags.{OpenFlags}
use Rattle.mq_model.specs.declared.faults.Fault.{Fault}
use Rattle.mq_model.specs.declared.faults.Fault.TheVariants.{Invalid, NameTooLong}
use Rattle.mq_model.specs.declared.entries.Deadline.{Deadline}
use Rattle.c_handles.specs.declared.requests.Opening.{Opening}
use Rattle.c_handles.specs.declared.requests.Moment.{Moment}

-- the error of a malformed name
abbrev pub name_fault : List ℕ → Option Fault
name_fault name = if is_name name then None
    else (if has_name_form name then Some NameTooLong else Some Invalid)

abbrev pub access_of : ℕ → Option Access
access_of n = if n == 0 then Some Read
    else (if n == 1 then Some Write else (if n == 2 then Some Both else None))

-- the flags, if the access mode is valid
abbrev pub flags_of : Opening → OpenFlags
flags_of o = record {
  access = unwrap_or (access_of o.access) Read;
  create = o.create;
  excl = o.exclusive;
  nonblock = o.nonblock;
}

-- why an open fails before it is made
abbrev pub open_fault : List ℕ → Opening → Option Fault
open_fault name o = if is_some (access_of o.access) then name_fault name else Some Invalid

abbrev pub attr_of : Opening → Option Attr
attr_of o = if o.limited then Some (record { maxmsg = o.maxmsg; msgsize = o.msgsize }) else None

abbrev pub deadline_of : Moment → Deadline
deadline_of m = record { sec = m.sec; nsec = m.nsec }
