-- Lines that are always the same.
use Rattle.std.specs.Prelude.{ℕ, List, codes}

-- the arguments are no command
abbrev pub usage_line : List ℕ
usage_line = codes "usage: pcc asm|prove|check|run|ref|demo|upgrade|host|bpf\n"

-- no policy has the name
abbrev pub unknown_policy_line : List ℕ
unknown_policy_line = codes "unknown policy\n"

-- the packet file is longer than a file may be
abbrev pub packets_too_long_line : List ℕ
packets_too_long_line = codes "packets TooLong\n"

-- a container is accepted
abbrev pub accepted_line : List ℕ
accepted_line = codes "accepted\n"

-- the container's file is longer than a file may be
abbrev pub container_too_long_line : List ℕ
container_too_long_line = codes "refused 1 TooLong\n"

-- the program's file is longer than what is read of one
abbrev pub bpf_too_long_line : List ℕ
bpf_too_long_line = codes "bpf TooLong\n"

-- the source's file is longer than a source may be
abbrev pub source_too_long_line : List ℕ
source_too_long_line = codes "source TooLong\n"

-- the script is longer than a script may be
abbrev pub script_too_long_line : List ℕ
script_too_long_line = codes "script TooLong\n"

-- the policy's file is longer than what is read of one
abbrev pub policy_too_long_line : List ℕ
policy_too_long_line = codes "policy TooLong\n"

-- the container that is to be upgraded is of a later version; no clause of the gate has this number
abbrev pub already_line : List ℕ
already_line = codes "refused 12 Already\n"
