use Rattle.std.proofs.Common.{subst}
use Rattle.text_tokens.specs.Lines.{AreLines}
use Rattle.text_tokens.proofs.Endings.{lines_are, are_lines}
use Rattle.text_tokens.proofs.theorems.laws.Goals as goal

pub returns : goal.returns
returns c = record {
  lines = λ text ls. (lines_are text ls, λ e. subst (λ l. AreLines text l) e (are_lines text));
}
