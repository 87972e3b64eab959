use Rattle.std.proofs.Common.{IfOk, ◌∙◌, subst}
use Rattle.term_table.specs.Table.{tree_at}
use Rattle.lf_signature.specs.Nodes.{IsIdOf}
use Rattle.formula_tree.specs.Formulas.{ELit}
use Rattle.prover_class.specs.NormalForms.{rewritten}
use Rattle.prover_sums.specs.Inside.Rounds.{second_moved}
use Rattle.prover_sums.proofs.form_proofs.words_proof.Goals as goal

pub returns-clause-exact : goal.returns-clause-exact
returns-clause-exact c =
    λ x y qa qb qv qw.
    let t = c.args.table.now in
    let tu = c.in_ok-first.ensures.extends in
    let q = c.args.q in
    let first = c.in_ok-first.ensures.exact x qa qv qw in
    let other = rewritten (ELit c.args.w) (tree_at t q.proof) in
    let made = c.second_moved.ensures.exact x y other (tu.same c.args.a c.requires.a ∙ qa) (tu.same c.args.b c.requires.b ∙ qb) (record { now = tu.same q.now c.requires.q.now ∙ qw; proof = tu.same q.proof c.requires.q.proof }) in
    subst (λ z. IfOk c.second_moved.result (IsIdOf c.second_moved.new.table (second_moved c.args.rel x y other z))) first.is made
