use Rattle.lf_truth.proofs.DeclaredModel.{given_sound, falsity_unproved, rules_true, rule_sorted, declared_rules, declared_calc, declared_fact, declared_deny}
use Rattle.lf_truth.proofs.Closed.{encodes_closed}
use Rattle.lf_truth.proofs.theorems.truth_laws.Goals as goal

pub returns : goal.returns
returns c = record {
  sound = given_sound;
  consistent = falsity_unproved;
  rules = rules_true;
  sorted = rule_sorted;
  declares = declared_rules;
  calc = declared_calc;
  fact = declared_fact;
  deny = declared_deny;
  closed = encodes_closed;
}
