use Rattle.std.proofs.Common.{[], ◌∷◌, ◌∙◌}
use Rattle.lf_signature.specs.Nodes.{IsIdOf}
use Rattle.lf_signature.specs.declared.numbers.TheConstants.{IMP_I}
use Rattle.lf_terms.specs.ProofTerms.{imp_i}
use Rattle.prover_ids.proofs.Standing.{ruled}
use Rattle.prover_goals.proofs.Connecting.{none_made, some_made}
use Rattle.prover_goals.proofs.introductions.implied.Goals as goal

pub returns-in-None-clause-exact : goal.returns-in-None-clause-exact
returns-in-None-clause-exact c = λ A B o qa qb s.
    let t = c.args.table.now in
    none_made t t (imp_i A B) o c.args.second c.in-None.is s

pub returns-in_ok-proof-in-Some-clause-exact : goal.returns-in_ok-proof-in-Some-clause-exact
returns-in_ok-proof-in-Some-clause-exact c = λ A B o qa qb s.
    let t = c.args.table.now in
    let v = c.rule_term.new.table in
    let n = c.in_ok-proof-in-Some in
    let lam = c.in_ok-under-in-Some.ensures in
    some_made t v (imp_i A B) o c.args.second c.in-Some.p n.proof c.in-Some.is s
    (ruled (λ z. IsIdOf v z n.proof) IMP_I (λ i. (lam.extends.same c.args.a c.requires.a ∙ qa) i ∷ (lam.extends.same c.args.b c.requires.b ∙ qb) i ∷ lam.id.1 i ∷ []) n.ensures.id)
