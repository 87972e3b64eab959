use Rattle.prover_goals.proofs.Kept.{search-more}
use Rattle.prover_conditions.proofs.access_grants.granted_instance.Goals as goal

pub granted-requires-clause-search : goal.granted-requires-clause-search
granted-requires-clause-search c = search-more c.form_with-2.new.search c.form_with-2.new.table c.instance_proof.new.table c.in_ok-conclusion.ensures.search c.in_ok-proof.ensures.extends
