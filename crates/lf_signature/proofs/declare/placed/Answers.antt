use Rattle.std.proofs.Common.{◌≡◌, ℕ, sym, arith, Some}
use Rattle.std.proofs.lemmas.List.{length-map}
use Rattle.term_table.specs.Tree.{at}
use Rattle.lf_signature.specs.Constants.{the_rules}
use Rattle.lf_signature.specs.Schemas.{rule_of, sort_of, premise_of, IsShort}
use Rattle.lf_signature.specs.declared.schema.Rule.{Rule}
use Rattle.lf_signature.proofs.Lookup.{rule_in-short}
use Rattle.lf_signature.proofs.declare.placed.Goals as goal

short : (n : ℕ) (r : Rule) → at the_rules n ≡ Some (rule_of r) → IsShort r
short n r e = omega (arith, rule_in-short n (rule_of r) e, length-map r.parameters.now sort_of, length-map r.premises.now premise_of)

pub rule_id-requires : goal.rule_id-requires
rule_id-requires c = short c.in-ByRule.index c.in-Some-rule_in.rule.now (sym c.in-Some-rule_in.ensures)
