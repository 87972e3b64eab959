use Rattle.std.proofs.Common.{ap}
use Rattle.std.specs.Option.{option_map_or}
use Rattle.pcc_words.specs.Invocations.{named, from_file}
use Rattle.pcc_words.proofs.values.policy_told.Goals as goal

pub returns-in-Some : goal.returns-in-Some
returns-in-Some c =
    ap (λ o. option_map_or from_file o (named c.args.word.now)) c.in-Some.ensures

pub returns-in-None : goal.returns-in-None
returns-in-None c =
    ap (λ o. option_map_or from_file o (named c.args.word.now)) c.in-None.ensures
