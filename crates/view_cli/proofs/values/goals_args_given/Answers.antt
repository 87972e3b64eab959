use Rattle.std.proofs.Common.{◌∙◌, codes}
use Rattle.clap.specs.Words.{found_of}
use Rattle.clap.proofs.WalkLemmas.{first_value-rows}
use Rattle.view_cli.proofs.values.goals_args_given.Goals as goal

pub returns-clause-source : goal.returns-clause-source
returns-clause-source c =
    c.get_str-source.ensures ∙ first_value-rows (found_of c.args.matches.now) (codes "SOURCE")
