use Rattle.std.proofs.Common.{◌≡◌, List, get_or, sym, subst}
use Rattle.term_table.specs.Table.{IsKnown}
use Rattle.prover_ids.specs.declared.hypotheses.Hypothesis.{Hypothesis}
use Rattle.prover_bounds.proofs.Scans.{hyp_known}
use Rattle.prover_conditions.proofs.access.hyp_at.Goals as goal

pub returns-clause-known : goal.returns-clause-known
returns-clause-known c =
    let t = c.args.table.now in
    let x = c.index-list-i.result in
    let l = c.args.context.now.hyps in
    let at = subst (λ (z : List Hypothesis). x ≡ get_or z c.args.i x) c.as_slice-list.ensures c.index-list-i.is in
    subst (λ (z : Hypothesis). IsKnown t z.form × IsKnown t z.proof) (sym at) (hyp_known t l c.args.i x c.requires.hyps c.requires.within)
