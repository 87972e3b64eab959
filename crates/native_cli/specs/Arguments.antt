-- The arguments without where their values lie in memory.
use Rattle.pcc_words.specs.Commands.{word_view}
use Rattle.native_cli.specs.declared.arguments.NativeArgs.{NativeArgs}
use Rattle.native_cli.specs.Invocations.{NativeGiven}

-- the arguments of a translation
abbrev pub args_view : NativeArgs → NativeGiven
args_view a = record { policy = word_view a.policy; file = a.file.now; output = a.output.now; name = a.name.now }
