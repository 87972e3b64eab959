use Rattle.std.proofs.Common.{◌∙◌, ap, map, string_bytes, inl, inr}
use Rattle.clap.specs.Words.{app_of, is_simple_and_free}
use Rattle.native_cli.proofs.Reading.{args-parsed, args-not-parsed}
use Rattle.native_cli.proofs.arguments.read_args.Goals as goal

pub returns-in-Ok-clause-exact : goal.returns-in-Ok-clause-exact
returns-in-Ok-clause-exact c =
    let is = c.in_ok-native_command.ensures.app in
    c.args_found.ensures.exact
    ∙ args-parsed (app_of c.in_ok-native_command.field-0) (map string_bytes c.args.words.now)
    c.in-Ok.matches is (c.in-Ok.ensures.kinds (ap is_simple_and_free is)) c.in-Ok.ensures.matches

pub returns-clause-exact : goal.returns-clause-exact
returns-clause-exact c =
    let is = c.in_ok-native_command.ensures.app in
    let h = c.in_default.not-OutOfMemory in
    let k = c.kind.ensures in
    elim (c.in-Err.ensures.kinds (ap is_simple_and_free is)) [
      | inl memory ↦ absurd (h (k ∙ memory))
      | inr among ↦ args-not-parsed (app_of c.in_ok-native_command.field-0) (map string_bytes c.args.words.now) _ is among
    ]
