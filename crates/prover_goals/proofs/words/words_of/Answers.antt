use Rattle.std.proofs.Common.{List, refl, subst}
use Rattle.prover_ids.specs.declared.hypotheses.Hypothesis.{Hypothesis}
use Rattle.prover_bounds.specs.KeptBounds.{AreBounds}
use Rattle.prover_goals.proofs.WordRows.{if_ok_by, itself, with_memo, with_bounds}
use Rattle.prover_goals.proofs.words.words_of.Goals as goal

pub returns-clause-after : goal.returns-clause-after
returns-clause-after c =
    let n = c.bound_words in
    let t = c.args.table.now in
    if_ok_by n.result (λ (k : AreBounds t c.as_slice-hyps.result.now n.new.kept). record {
      search = with_memo t t c.args.search.now n.new.memo c.requires.search (itself t) n.ensures.memo;
      context = with_bounds t t c.args.context.now n.new.kept c.requires.context (itself t) (subst (λ (l : List Hypothesis). AreBounds t l n.new.kept) c.as_slice-hyps.ensures k);
      hyps = refl;
      outside = refl;
    }) n.ensures.kept
