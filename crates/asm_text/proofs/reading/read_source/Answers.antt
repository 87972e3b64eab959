use Rattle.asm_text.proofs.Taking.{spelled_if, none_if}
use Rattle.asm_text.proofs.reading.read_source.Goals as goal

pub returns-clause-spells : goal.returns-clause-spells
returns-clause-spells c = spelled_if c.args.profile c.args.left c.args.text.now c.parse.result c.parse.ensures

pub returns-clause-none : goal.returns-clause-none
returns-clause-none c = none_if c.args.profile c.args.left c.args.text.now c.parse.result c.parse.ensures
