use Rattle.std.proofs.Common.{Bool, length, is_some, refl, sym, subst}
use Rattle.alpha_cfg.specs.Cuts.{AreFlags}
use Rattle.term_table.specs.Table.{id_trees}
use Rattle.lf_signature.specs.declared.editions.WordSignature.TheVariants.{Sigma1, Sigma2}
use Rattle.pcc_gate.proofs.Refusing.{keys}
use Rattle.prover_conditions.specs.Conditions.{condition_parts, IsPartsAnswer}
use Rattle.prover_conditions.proofs.WholeProof.{parts-first, parts-any, found-proves, found-longest, uncounted}
use Rattle.prover_conditions.proofs.conditions.prove_condition.Goals as goal

pub returns-clause-exact : goal.returns-clause-exact
returns-clause-exact c =
    let invs = id_trees c.args.table.now c.args.invs.now in
    let parts = condition_parts c.args.policy.now c.args.bound c.args.cut.now.code invs in
    subst (λ (b : Bool). IsPartsAnswer c.proof_of_parts.new.table b 0 parts c.in_ok-found.found)
    c.is_some.ensures (c.in_ok-found.ensures.exact parts c.in_ok-condition.ensures.id.is)

pub returns-clause-proves : goal.returns-clause-proves
returns-clause-proves c s rule used =
    let policy = c.args.policy.now in
    let bound = c.args.bound in
    let code = c.args.cut.now.code in
    let marks = c.args.cut.now.marks in
    let invs = id_trees c.args.table.now c.args.invs.now in
    let flags = subst (λ l. AreFlags l (length code) marks)
    (sym (keys c.args.table.now c.args.invs.now)) c.requires.marks in
    found-proves c.class_laws.ensures.sound policy bound code invs marks c.requires.forms
    c.is_cut_code.ensures.code flags c.is_cut_code.ensures.cut c.laws.ensures c.is_word.ensures s
    rule used c.proof_of_parts.new.table c.in_ok-found.found (returns-clause-exact c)

pub returns-clause-first : goal.returns-clause-first
returns-clause-first c none low one used =
    let policy = c.args.policy.now in
    let bound = c.args.bound in
    let code = c.args.cut.now.code in
    let marks = c.args.cut.now.marks in
    let invs = id_trees c.args.table.now c.args.invs.now in
    let flags = subst (λ l. AreFlags l (length code) marks)
    (sym (keys c.args.table.now c.args.invs.now)) c.requires.marks in
    returns-clause-proves c Sigma1 (uncounted bound none Sigma1)
    (parts-first c.class_laws.ensures.sound policy bound code invs marks c.requires.forms
    c.is_cut_code.ensures.code flags c.is_cut_code.ensures.cut c.laws.ensures c.is_word.ensures
    low one used)

pub returns-clause-second : goal.returns-clause-second
returns-clause-second c none =
    let policy = c.args.policy.now in
    let bound = c.args.bound in
    let code = c.args.cut.now.code in
    let marks = c.args.cut.now.marks in
    let invs = id_trees c.args.table.now c.args.invs.now in
    let flags = subst (λ l. AreFlags l (length code) marks)
    (sym (keys c.args.table.now c.args.invs.now)) c.requires.marks in
    returns-clause-proves c Sigma2 (uncounted bound none Sigma2)
    (parts-any c.class_laws.ensures.sound policy bound code invs marks c.requires.forms
    c.is_cut_code.ensures.code flags c.is_cut_code.ensures.cut c.laws.ensures c.is_word.ensures
    Sigma2 refl)

pub returns-clause-third : goal.returns-clause-third
returns-clause-third c =
    let policy = c.args.policy.now in
    let bound = c.args.bound in
    let code = c.args.cut.now.code in
    let marks = c.args.cut.now.marks in
    let invs = id_trees c.args.table.now c.args.invs.now in
    let flags = subst (λ l. AreFlags l (length code) marks)
    (sym (keys c.args.table.now c.args.invs.now)) c.requires.marks in
    found-longest c.class_laws.ensures.sound policy bound code invs marks c.requires.forms
    c.is_cut_code.ensures.code flags c.is_cut_code.ensures.cut c.laws.ensures c.is_word.ensures
    c.proof_of_parts.new.table c.in_ok-found.found (returns-clause-exact c)
