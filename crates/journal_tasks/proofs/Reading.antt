-- Reading a script cannot fail with an output error.
use Rattle.std.proofs.Common.{◌≡◌}
use Rattle.text_io.specs.declared.input.ReadFault.{ReadFault}
use Rattle.text_io.specs.declared.input.ReadFault.TheVariants as read
use Rattle.script_text.specs.declared.fault.ScriptFault.{ScriptFault}
use Rattle.script_text.specs.declared.fault.ScriptFault.TheVariants as script
use Rattle.script_runner.specs.RunFault.{of_read_fault, of_script_fault}
use Rattle.script_runner.specs.declared.fault.RunFault.TheVariants.{Output}

pub read-no_output : (fault : ReadFault) → Output ≡ of_read_fault fault → ⊥
read-no_output read.Failed is = cc
read-no_output read.NoMemory is = cc

pub script-no_output : (fault : ScriptFault) → Output ≡ of_script_fault fault → ⊥
script-no_output (script.BadCall line) is = cc
script-no_output script.NoMemory is = cc
