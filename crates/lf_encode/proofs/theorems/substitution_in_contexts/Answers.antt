use Rattle.std.proofs.Common.{arith}
use Rattle.lf_encode.proofs.Named.{binders-height}
use Rattle.lf_encode.proofs.InContexts.{hsub-exp_in, hsub-mem_in, hsub-form_in, hsub-exp_bound, hsub-mem_bound, hsub-form_bound}
use Rattle.lf_encode.proofs.Without.{length-without}
use Rattle.lf_encode.proofs.theorems.substitution_in_contexts.Goals as goal

pub returns : goal.returns
returns c = record {
  exps_in = hsub-exp_in;
  mems_in = hsub-mem_in;
  forms_in = λ ctx F H x p over at part low short. let deep = binders-height F in hsub-form_in ctx F H x p over at part (omega (arith, deep, low, short));
  exps_bound = hsub-exp_bound;
  mems_bound = hsub-mem_bound;
  forms_bound =
      λ ctx F x p over at part low short.
      let deep = binders-height F in
      let fewer = length-without x ctx in
      hsub-form_bound ctx F x p over at part (omega (arith, deep, low, short, fewer));
}
