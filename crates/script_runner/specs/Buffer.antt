-- The buffers of calls.
use Rattle.std.specs.Prelude.{ℕ, List, [], replicate}
use Rattle.text_io.specs.Words.{Word}
use Rattle.script_text.specs.declared.command.Command.{Command}
use Rattle.script_text.specs.declared.command.Command.TheVariants as command

-- the buffer of a receive, and an empty one for any other call
abbrev pub buffer_given : Command Word → List ℕ
buffer_given (command.Receive d room) = replicate room 0
buffer_given (command.TimedReceive d room until) = replicate room 0
buffer_given other = []
