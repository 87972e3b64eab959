use Rattle.std.proofs.Common.{arith}
use Rattle.file_port.proofs.FileMaps.{get-insert_same, get-insert_other}
use Rattle.file_port.proofs.PutLemmas.{part_fails, puts_then}
use Rattle.file_port.proofs.theorems.laws.Goals as goal

pub returns : goal.returns
returns c = record {
  set = get-insert_same;
  others = get-insert_other;
  joined = puts_then;
  part = λ a b s t. part_fails b;
  rises = λ before now rose below. omega arith;
  top = λ now rose. omega arith;
  quiet = λ before now quiet rose. omega arith;
}
