use Rattle.prover_goals.proofs.Kept.{search-more}
use Rattle.prover_ids.proofs.HypRows.{known_hyps-more}
use Rattle.prover_goals.proofs.WordRows.{with_memo}
use Rattle.auto_facts.proofs.contexts.under_hypothesis.Goals as goal

pub raised_hyps-requires-clause-hyps : goal.raised_hyps-requires-clause-hyps
raised_hyps-requires-clause-hyps c =
    known_hyps-more c.args.table.now c.raise.new.table c.args.context.now.hyps c.requires.context.hyps
    c.in_ok-form.ensures.extends

pub add_split-requires-clause-hyps : goal.add_split-requires-clause-hyps
add_split-requires-clause-hyps c =
    known_hyps-more c.raised_hyps.new.table c.intern.new.self c.in_ok-hyps.hyps c.in_ok-hyps.ensures.known
    c.in_ok-proof.ensures.extends

pub add_derived-requires-clause-search : goal.add_derived-requires-clause-search
add_derived-requires-clause-search c =
    let t = c.raised_hyps.new.table in
    let h = c.in_ok-hyps.ensures in
    let s = with_memo c.raise.new.table t c.raise.new.search c.raised_hyps.new.memo c.in_ok-form.ensures.search
    h.extends h.memo in
    let p = search-more _ t c.intern.new.self s c.in_ok-proof.ensures.extends in
    search-more _ c.intern.new.self c.add_split.new.table p c.add_split.ensures.extends
