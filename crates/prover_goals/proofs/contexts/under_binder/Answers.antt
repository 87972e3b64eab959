use Rattle.std.proofs.Common.{◌+◌, arith, ◌∙◌}
use Rattle.prover_goals.proofs.AnswerRows.{under_binder_made}
use Rattle.prover_goals.proofs.Kept.{search-more}
use Rattle.prover_goals.proofs.WordRows.{on_ok, with_memo}
use Rattle.hereditary_subst.proofs.Limits.{never-spent}
use Rattle.prover_goals.proofs.contexts.under_binder.Goals as goal

pub returns-clause-under : goal.returns-clause-under
returns-clause-under c =
    let n = c.new.ensures in
    let o = c.args.context.now in
    let h = c.in_ok-hyps in
    under_binder_made c.args.table.now c.raised_hyps.new.table c.new.new.table o.hyps h.hyps o.outside (o.outside + 1) c.new.result (omega arith) h.ensures.exact h.ensures.known n.extends n.context n.hyps n.outside

pub returns-clause-search : goal.returns-clause-search
returns-clause-search c =
    let r = c.raised_hyps.new in
    let s = with_memo c.args.table.now r.table c.spend_terms.new.self r.memo (c.spend_terms.ensures.search _ c.requires.search) c.in_ok-hyps.ensures.extends c.in_ok-hyps.ensures.memo in
    on_ok c.new.result (search-more _ r.table c.new.new.table s c.new.ensures.extends)

pub returns-clause-spends : goal.returns-clause-spends
returns-clause-spends c =
    let s = c.in_ok-spend_terms.ensures.spends in
    let h = c.in_ok-hyps.ensures.spends in
    (h.0 ∙ s.0, omega (arith, s.1, h.1), never-spent c.new.new.table c.raised_hyps.new.memo c.new.result c.new.ensures.memory)
