use Rattle.std.proofs.Common.{ap, option_map, sym, ◌∙◌}
use Rattle.pcc_words.specs.Commands.{invocation_of}
use Rattle.auto_cli.specs.Arguments.{found_by_asm}
use Rattle.auto_cli.proofs.arguments.read_args.Goals as goal

pub returns-in-Some-clause-exact : goal.returns-in-Some-clause-exact
returns-in-Some-clause-exact c =
    c.asm_args.ensures.told
    ∙ ap found_by_asm
    (sym (ap (option_map invocation_of) c.in-Some.is) ∙ c.in_ok-command.ensures.exact)
