use Rattle.prover_goals.proofs.Kept.{context-more}
use Rattle.prover_goals.proofs.WordRows.{on_ok}
use Rattle.auto_proofs.proofs.leaves.proof_by_premise.Goals as goal

pub returns-in_default-2-clause-context : goal.returns-in_default-2-clause-context
returns-in_default-2-clause-context c =
    context-more c.args.context.now c.args.table.now c.premise_of.new.table c.requires.context c.premise_of.ensures.extends

pub premise_proof-requires-clause-context : goal.premise_proof-requires-clause-context
premise_proof-requires-clause-context c =
    context-more c.args.context.now c.args.table.now c.premise_of.new.table c.requires.context c.premise_of.ensures.extends

pub returns-clause-context : goal.returns-clause-context
returns-clause-context c =
    on_ok c.access_with.result (context-more c.premise_proof.new.context c.premise_proof.new.table
    c.access_with.new.table c.in_ok-proof.ensures.context c.access_with.ensures.extends)
