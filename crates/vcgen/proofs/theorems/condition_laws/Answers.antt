use Rattle.vcgen.proofs.Conditions.{wp-other, wp-annotated}
use Rattle.vcgen.proofs.Steps.{condition-safe, condition-returns, holds-start, steps-good, runs-good}
use Rattle.vcgen.proofs.Scopes.{condition-closed}
use Rattle.vcgen.proofs.theorems.condition_laws.Goals as goal

pub returns : goal.returns
returns c = record {
  wp = λ k is i within. record { annotated = wp-annotated k is i; other = wp-other k is i within };
  safe = condition-safe;
  returns = condition-returns;
  start = holds-start;
  steps = steps-good;
  runs = runs-good;
  closed = condition-closed;
}
