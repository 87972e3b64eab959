use Rattle.formula_tree.specs.Views.{form_view}
use Rattle.policy_set.proofs.Closed.{spelled-form}
use Rattle.policy_set.proofs.reading.line_form.Goals as goal

pub returns-in-Ok-clause-form : goal.returns-in-Ok-clause-form
returns-in-Ok-clause-form c =
    spelled-form c.args.line.now (form_view c.in-Ok.form) c.in-Ok.ensures.spells c.requires.short
