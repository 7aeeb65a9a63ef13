-- The numbers and the printed names of errors.
use Rattle.std.specs.Prelude.{ℕ, List, codes}
use Rattle.mq_model.specs.declared.faults.Fault.{Fault}
use Rattle.mq_model.specs.declared.faults.Fault.TheVariants.{Again, BadDescriptor, Busy, Exists, Invalid, TooManyOpen, MessageSize, NameTooLong, NoEntry, NoSpace, NoMemory, TimedOut, JournalFull}

-- this library's own number of an error
abbrev pub number_of : Fault → ℕ
number_of Again = 1
number_of BadDescriptor = 2
number_of Busy = 3
number_of Exists = 4
number_of Invalid = 5
number_of TooManyOpen = 6
number_of MessageSize = 7
number_of NameTooLong = 8
number_of NoEntry = 9
number_of NoSpace = 10
number_of NoMemory = 11
number_of TimedOut = 12
number_of JournalFull = 13

-- what an error is printed as: its name in the standard
abbrev pub text_of : Fault → List ℕ
text_of Again = codes "EAGAIN"
text_of BadDescriptor = codes "EBADF"
text_of Busy = codes "EBUSY"
text_of Exists = codes "EEXIST"
text_of Invalid = codes "EINVAL"
text_of TooManyOpen = codes "EMFILE"
text_of MessageSize = codes "EMSGSIZE"
text_of NameTooLong = codes "ENAMETOOLONG"
text_of NoEntry = codes "ENOENT"
text_of NoSpace = codes "ENOSPC"
text_of NoMemory = codes "NOMEMORY"
text_of TimedOut = codes "ETIMEDOUT"
text_of JournalFull = codes "JOURNALFULL"
