use Rattle.bpf_compile.proofs.Made.{at-program, bytes-given, code-bytes, compilation-is, compiled-is, fault-given, no-fault}
use Rattle.bpf_compile.proofs.compiling.with_proof.Goals as goal
use Rattle.word_ops.specs.declared.Profile.TheVariants.{One}

pub unreachable-requires : goal.unreachable-requires
unreachable-requires c =
    let program = c.args.program.now in
    no-fault program _ (c.laws-2.ensures.plain program c.requires.program)
    (at-program program c.args.policy.now c.args.bytes.now c.requires.policy c.requires.bare _
    (fault-given c.args.policy.now c.args.bytes.now
    c.prove_within.result c.in-Err-At.field-0 _ c.in-Err-At.is c.in-Err-At.field-0-is c.prove_within.ensures.exact))

pub returns-in-Ok-clause-made : goal.returns-in-Ok-clause-made
returns-in-Ok-clause-made c =
    at-program c.args.program.now c.args.policy.now c.args.bytes.now c.requires.policy c.requires.bare _
    (bytes-given c.args.policy.now c.args.bytes.now c.prove_within.result c.in-Ok.out c.in-Ok.is c.prove_within.ensures.exact)

pub returns-in-Ok-clause-exact : goal.returns-in-Ok-clause-exact
returns-in-Ok-clause-exact c =
    let program = c.args.program.now in
    let made = at-program c.args.program.now c.args.policy.now c.args.bytes.now c.requires.policy c.requires.bare _
    (bytes-given c.args.policy.now c.args.bytes.now c.prove_within.result c.in-Ok.out c.in-Ok.is c.prove_within.ensures.exact) in
    let holds = code-bytes program c.written_laws.ensures.bytes (c.written_laws.ensures.encode One) (c.code_laws.ensures.code program c.requires.program) (c.code_laws.ensures.profile program c.requires.program) in
    compilation-is program c.in-Ok.out.items holds (c.laws.ensures.proved program c.requires.program)
    (λ code proof are given. c.laws-2.ensures.made program code proof c.requires.program are given) made

pub returns-in-Ok-clause-compiled : goal.returns-in-Ok-clause-compiled
returns-in-Ok-clause-compiled c =
    let program = c.args.program.now in
    compiled-is program c.in-Ok.out.items (c.laws-2.ensures.plain program c.requires.program)
    (at-program c.args.program.now c.args.policy.now c.args.bytes.now c.requires.policy c.requires.bare _
    (bytes-given c.args.policy.now c.args.bytes.now c.prove_within.result c.in-Ok.out c.in-Ok.is c.prove_within.ensures.exact))
