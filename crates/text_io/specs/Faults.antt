-- The printed texts of errors.
use Rattle.std.specs.Prelude.{ℕ, List, codes}
use Rattle.text_io.specs.declared.input.ReadFault.{ReadFault}
use Rattle.text_io.specs.declared.input.ReadFault.TheVariants.{Failed, NoMemory}

abbrev pub read_fault_text : ReadFault → List ℕ
read_fault_text Failed = codes "a read failed"
read_fault_text NoMemory = codes "no memory"

abbrev pub write_failed_text : List ℕ
write_failed_text = codes "a write failed"
