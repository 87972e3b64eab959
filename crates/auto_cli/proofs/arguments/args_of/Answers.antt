use Rattle.std.proofs.Common.{◌≡◌, ◌==◌, not, Some, sym, ap, ◌∙◌, subst}
use Rattle.pcc_words.specs.Commands.{IsVersionOf, word_view}
use Rattle.pcc_words.specs.Invocations.{policy_word}
use Rattle.auto_cli.specs.Arguments.{version_for}
use Rattle.auto_cli.specs.declared.arguments.TheConstants.{UNFLAGGED_VERSION}
use Rattle.auto_cli.proofs.Versions.{version_fits}
use Rattle.auto_cli.proofs.arguments.args_of.Goals as goal

pub returns-clause-told : goal.returns-clause-told
returns-clause-told c =
    let a = c.args.asm in
    let version : c.version_for-version.result ≡ version_for (policy_word a.policy.now) a.version =
    c.version_for-version.ensures ∙ ap (λ w. version_for w a.version) c.policy_told-policy.ensures in
    (λ i. Some (record {
      policy = c.policy_told-policy.ensures i;
      input = a.input.now;
      output = a.output.now;
      version = version i;
      bound = a.bound;
      flagged = not (a.version == UNFLAGGED_VERSION);
    }))

pub returns-clause-fits : goal.returns-clause-fits
returns-clause-fits c =
    let a = c.args.asm in
    subst (IsVersionOf a.bound) (sym c.version_for-version.ensures)
    (version_fits (word_view c.policy_told-policy.result) a.bound a.version c.requires)
