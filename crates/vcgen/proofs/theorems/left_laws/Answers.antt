use Rattle.vcgen.proofs.LeftPut.{left-exp, left-mem, left-form}
use Rattle.vcgen.proofs.theorems.left_laws.Goals as goal

pub returns : goal.returns
returns c = record {
  exps = λ ctx e put counted over. left-exp ctx counted put e over;
  mems = λ ctx m put counted over. left-mem ctx counted put m over;
  forms = λ ctx F put counted over part low short. left-form ctx counted put F over part low short;
}
