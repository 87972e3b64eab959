use Rattle.std.proofs.Common.{map, string_bytes, Option, option_map, sym, ap, ◌∙◌, subst}
use Rattle.pcc_words.specs.Invocations.{command_of}
use Rattle.auto_cli.specs.Arguments.{AutoArgs, auto_args_view, found_by_asm}
use Rattle.auto_cli.specs.Inside.Finds.{FindsIfTold}
use Rattle.auto_cli.proofs.Decided.{told_nothing}
use Rattle.auto_cli.proofs.finding.decide.Goals as goal

pub returns-in-Ok-Some : goal.returns-in-Ok-Some
returns-in-Ok-Some g c =
    subst
    (λ (o : Option AutoArgs). FindsIfTold o (g.F.Files.log c.args.files.now) (g.F.Files.log c.find.new.files)
    (g.F.Files.state c.args.files.now) (g.F.Files.state c.find.new.files) c.find.result)
    (sym (ap (option_map auto_args_view) c.in-Ok-Some.field-0-is) ∙ c.in-Ok-Some.ensures.exact) c.find.ensures

pub returns-in-Err : goal.returns-in-Err
returns-in-Err g c =
    told_nothing (found_by_asm (command_of (map string_bytes c.args.words.now))) (g.F.Files.log c.args.files.now)
    (g.F.Files.state c.args.files.now)
