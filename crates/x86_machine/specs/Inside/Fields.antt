-- The fields of the checking machine as the state that they are.
use Rattle.std.specs.Prelude.{◌≡◌, ◌+◌, ◌*◌, ◌%◌, ◌^◌, ◌≤◌, length}
use Rattle.x86_machine.specs.declared.machine.X86Machine.TheInside.{Inside}
use Rattle.x86_machine.specs.Machine.{X86}
use Rattle.x86_machine.specs.States.{span_state}

-- the state
abbrev pub machine_view : Inside → X86
machine_view m = span_state m.at m.regs m.flags m.base m.words.items

-- sixteen registers, and an aligned span that ends at 2^64 at the latest
pub record IsSpanMachine (m : Inside) : Type 0 where
  pub regs_len : length m.regs ≡ 16
  pub aligned : m.base % 8 ≡ 0
  pub to : m.base + 8 * length m.words.items ≤ 2 ^ 64
