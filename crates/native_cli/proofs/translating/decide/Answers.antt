use Rattle.std.proofs.Common.{Option, option_map, sym, ap, ◌∙◌, subst}
use Rattle.native_cli.specs.Arguments.{args_view}
use Rattle.native_cli.specs.Invocations.{NativeGiven}
use Rattle.native_cli.specs.Inside.Making.{MakesIfTold}
use Rattle.native_cli.proofs.Making.{makes-nothing}
use Rattle.native_cli.proofs.translating.decide.Goals as goal

pub returns-in-Ok-Some : goal.returns-in-Ok-Some
returns-in-Ok-Some g c =
    subst
    (λ (o : Option NativeGiven). MakesIfTold o (g.F.Files.log c.args.files.now) (g.F.Files.log c.made.new.files)
    (g.F.Files.state c.args.files.now) (g.F.Files.state c.made.new.files) c.made.result)
    (sym (ap (option_map args_view) c.in-Ok-Some.field-0-is) ∙ c.in-Ok-Some.ensures.exact) c.made.ensures

pub returns-in-Err : goal.returns-in-Err
returns-in-Err g c = makes-nothing c.laws.ensures.accepted _ _ _
