use Rattle.std.proofs.Common.{List, refl, subst}
use Rattle.prover_ids.specs.declared.hypotheses.Hypothesis.{Hypothesis}
use Rattle.prover_bounds.specs.KeptBounds.{AreBounds}
use Rattle.prover_goals.proofs.WordRows.{if_ok_by, with_memo, with_bounds}
use Rattle.prover_goals.proofs.words.upper.Goals as goal

pub returns-clause-after : goal.returns-clause-after
returns-clause-after c =
    let n = c.upper_bound in
    let t = c.args.table.now in
    if_ok_by n.result (λ (k : AreBounds n.new.table c.as_slice-hyps.result.now n.new.kept). record {
      search = with_memo t n.new.table c.args.search.now n.new.memo c.requires.search n.ensures.extends n.ensures.memo;
      context = with_bounds t n.new.table c.args.context.now n.new.kept c.requires.context n.ensures.extends (subst (λ (l : List Hypothesis). AreBounds n.new.table l n.new.kept) c.as_slice-hyps.ensures k);
      hyps = refl;
      outside = refl;
    }) n.ensures.kept
