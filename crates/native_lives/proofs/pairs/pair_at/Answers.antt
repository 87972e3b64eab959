use Rattle.std.proofs.Common.{◌+◌, refl}
use Rattle.native_lives.specs.Inside.Pairs.{IsBranchOn, IsPair}
use Rattle.native_lives.proofs.Certified.{if-some, pair-of}
use Rattle.native_lives.proofs.pairs.pair_at.Goals as goal

pub returns-in-Oper : goal.returns-in-Oper
returns-in-Oper c =
    if-some c.with_branch.result (λ p. IsBranchOn c.args.code.now (c.args.i + 1) c.in-Oper.op c.in-Oper.rc p.to p.jump)
    (λ p. IsPair c.args.code.now c.args.i p.to p.jump)
    (λ p. pair-of c.args.code.now c.args.i c.in-Oper.op c.in-Oper.ra c.in-Oper.rhs c.in-Oper.rc p.to p.jump _ c.in-Oper.ensures.at refl)
    c.with_branch.ensures
