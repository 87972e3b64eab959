use Rattle.asm_text.specs.Integers.{lexeme_integer}
use Rattle.asm_text.proofs.integers.count.Goals as goal

pub returns : goal.returns
returns c = c.in_count.ensures (lexeme_integer c.args.lexeme.now) c.read_integer.ensures
