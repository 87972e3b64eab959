-- Commands without where their values lie in memory.
use Rattle.std.specs.Prelude.{◌≡◌, ℕ, ◌≤◌, Option, Some, None}
use Rattle.pcc_words.specs.Invocations.{PolicyWord, named, from_file, Invocation, asm, prove, check, run, ref, demo, upgrade, host, bpf}
use Rattle.pcc_words.specs.declared.commands.AsmArgs.{AsmArgs}
use Rattle.pcc_words.specs.declared.commands.Command.{Command}
use Rattle.pcc_words.specs.declared.commands.PolicyWord.{PolicyWord as PolicyGiven}
use Rattle.pcc_words.specs.declared.commands.PolicyWord.TheVariants as word
use Rattle.pcc_words.specs.declared.limits.TheConstants.{MAX_BOUND, MAX_DEMO, MAX_STEPS, PLAIN_VERSION, PROFILE_TWO_VERSION, BOUNDED_VERSION}
use Rattle.pcc_words.specs.declared.commands.Command.TheVariants as command

-- how the word tells the policy
abbrev pub word_view : PolicyGiven → PolicyWord
word_view (word.Named name) = named name.now
word_view (word.FromFile name) = from_file name.now

-- `asm` with its values
abbrev pub asm_of : AsmArgs → Invocation
asm_of args = asm args.policy.now args.input.now args.output.now args.version args.bound

-- the command with its values
abbrev pub invocation_of : Command → Invocation
invocation_of (command.Asm args) = asm_of args
invocation_of (command.Prove args) = prove args.policy.now args.input.now args.output.now
invocation_of (command.Check args) = check (word_view args.policy) args.file.now
invocation_of (command.Run args) = run args.policy.now args.file.now args.packets.now args.steps
invocation_of (command.Ref args) = ref args.policy.now args.file.now args.packets.now args.steps
invocation_of (command.Demo n) = demo n
invocation_of (command.Upgrade args) = upgrade args.input.now args.output.now
invocation_of (command.Host script) = host script.now
invocation_of (command.Bpf args) = bpf args.input.now args.output.now

-- The container has the version for a bound and this one, which is in its range, or one without.
abbrev pub IsVersionOf : Option ℕ → ℕ → Type 0
IsVersionOf (Some bound) version = (version ≡ BOUNDED_VERSION) × (1 ≤ bound) × (bound ≤ MAX_BOUND)
IsVersionOf None version = (PLAIN_VERSION ≤ version) × (version ≤ PROFILE_TWO_VERSION)

-- The numbers of a command are in their ranges.
abbrev pub IsInRange : Command → Type 0
IsInRange (command.Asm args) = IsVersionOf args.bound args.version
IsInRange (command.Prove args) = Unit {0}
IsInRange (command.Check args) = Unit {0}
IsInRange (command.Run args) = (1 ≤ args.steps) × (args.steps ≤ MAX_STEPS)
IsInRange (command.Ref args) = (1 ≤ args.steps) × (args.steps ≤ MAX_STEPS)
IsInRange (command.Demo n) = (1 ≤ n) × (n ≤ MAX_DEMO)
IsInRange (command.Upgrade args) = Unit {0}
IsInRange (command.Host script) = Unit {0}
IsInRange (command.Bpf args) = Unit {0}
