use Rattle.formula_text.proofs.Turns.{spelled_if, closed_if, none_if}
use Rattle.formula_text.proofs.parsing.read_form.Goals as goal

pub returns-clause-spells : goal.returns-clause-spells
returns-clause-spells c = spelled_if c.args.profile c.args.left c.args.text.now c.parse.result c.parse.ensures

pub returns-clause-none : goal.returns-clause-none
returns-clause-none c = none_if c.args.profile c.args.left c.args.text.now c.parse.result c.parse.ensures

pub returns-clause-closed : goal.returns-clause-closed
returns-clause-closed c = closed_if c.args.profile c.args.left c.args.text.now c.parse.result c.parse.ensures
