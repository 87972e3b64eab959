use Rattle.policy_set.proofs.Closed.{built_in-is, built_in-first}
use Rattle.policy_set.proofs.Numbers.{number-exactly}
use Rattle.policy_set.proofs.Spelled.{spelled-read, read-spelled, spelled-is}
use Rattle.policy_set.proofs.PolicyFlaws.{flaw-is}
use Rattle.policy_set.proofs.Texts.{text-spells, same-formulas}
use Rattle.policy_set.proofs.theorems.laws.Goals as goal

pub returns : goal.returns
returns c = record {
  built_in = built_in-is;
  operators = built_in-first;
  numbers = number-exactly;
  spelled = λ bytes policy. (spelled-read bytes policy, read-spelled bytes policy);
  flawed = flaw-is;
  kept = spelled-is;
  printed = text-spells;
  texts = same-formulas;
}
