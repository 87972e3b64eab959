use Rattle.auto_cli.proofs.Drafting.{not_mended}
use Rattle.auto_cli.proofs.drafts.is_mended.Goals as goal

pub returns-in_default : goal.returns-in_default
returns-in_default c =
    not_mended c.args.refusal.now c.in_default.not-Uncut c.in_default.not-UnfoldLimit
