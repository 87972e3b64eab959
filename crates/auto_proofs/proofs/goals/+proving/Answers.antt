use Rattle.prover_goals.proofs.Kept.{search-more, context-more}
use Rattle.auto_proofs.proofs.goals.+proving.Goals as goal

pub proof_of_both-returns-clause-search : goal.proof_of_both-returns-clause-search
proof_of_both-returns-clause-search t c =
    search-more c.proof_by-2.new.search c.proof_by-2.new.table c.rule_term.new.table c.in_ok-right.ensures.search
    c.in_ok-proof.ensures.extends

pub proof_of_both-returns-clause-context : goal.proof_of_both-returns-clause-context
proof_of_both-returns-clause-context t c =
    context-more c.proof_by-2.new.context c.proof_by-2.new.table c.rule_term.new.table
    c.in_ok-right.ensures.context c.in_ok-proof.ensures.extends

pub proof_of_either-returns-in-Some-clause-search : goal.proof_of_either-returns-in-Some-clause-search
proof_of_either-returns-in-Some-clause-search t c =
    search-more c.proof_by.new.search c.proof_by.new.table c.rule_term.new.table c.in_ok-left.ensures.search
    c.in_ok-proof.ensures.extends

pub proof_of_either-returns-in-Some-clause-context : goal.proof_of_either-returns-in-Some-clause-context
proof_of_either-returns-in-Some-clause-context t c =
    context-more c.proof_by.new.context c.proof_by.new.table c.rule_term.new.table
    c.in_ok-left.ensures.context c.in_ok-proof.ensures.extends

pub proof_of_either-returns-clause-search : goal.proof_of_either-returns-clause-search
proof_of_either-returns-clause-search t c =
    search-more c.proof_by-2.new.search c.proof_by-2.new.table c.rule_term-2.new.table c.in_ok-right.ensures.search
    c.in_ok-proof-2.ensures.extends

pub proof_of_either-returns-clause-context : goal.proof_of_either-returns-clause-context
proof_of_either-returns-clause-context t c =
    context-more c.proof_by-2.new.context c.proof_by-2.new.table c.rule_term-2.new.table
    c.in_ok-right.ensures.context c.in_ok-proof-2.ensures.extends

pub proof_by_shape-returns-in_ok-truth-in-True-clause-search : goal.proof_by_shape-returns-in_ok-truth-in-True-clause-search
proof_by_shape-returns-in_ok-truth-in-True-clause-search t c =
    search-more c.args.search.now c.args.table.now c.truth.new.table c.requires.search c.truth.ensures.extends

pub proof_by_shape-returns-in_ok-truth-in-True-clause-context : goal.proof_by_shape-returns-in_ok-truth-in-True-clause-context
proof_by_shape-returns-in_ok-truth-in-True-clause-context t c =
    context-more c.args.context.now c.args.table.now c.truth.new.table c.requires.context c.truth.ensures.extends

pub proof_for_all-returns-clause-search : goal.proof_for_all-returns-clause-search
proof_for_all-returns-clause-search t c =
    search-more c.proof_by.new.search c.proof_by.new.table c.generalized.new.table c.in_ok-proof.ensures.search
    c.generalized.ensures.extends

pub proof_of_implication-returns-clause-search : goal.proof_of_implication-returns-clause-search
proof_of_implication-returns-clause-search t c =
    let l = search-more c.proof_by.new.search c.proof_by.new.table c.intern.new.self c.in_ok-second.ensures.search
    c.in_ok-body.ensures.extends in
    search-more c.proof_by.new.search c.intern.new.self c.rule_term.new.table l c.in_ok-proof.ensures.extends

pub proof_of_implication-under_hypothesis-requires-clause-context :
    goal.proof_of_implication-under_hypothesis-requires-clause-context
proof_of_implication-under_hypothesis-requires-clause-context t c =
    context-more c.args.context.now c.args.table.now c.raise.new.table c.requires.context c.in_ok-goal.ensures.extends
