use Rattle.std.proofs.Common.{◌≡◌, is_some, sym, ◌∙◌, subst}
use Rattle.term_table.specs.Table.{tree_at}
use Rattle.word_ops.specs.declared.Rel.{Rel}
use Rattle.prover_class.specs.Hypotheses.{same_exp}
use Rattle.prover_class.specs.NormalForms.{equal_proof, equal_forms}
use Rattle.prover_forms.proofs.Choosing.{same_is}
use Rattle.prover_forms.proofs.Decided.{some_if}
use Rattle.prover_forms.proofs.deciding.is_of_equals.Goals as goal

pub returns-in-Eq : goal.returns-in-Eq
returns-in-Eq c = λ x y f g hp hq.
    let t = c.args.table.now in
    let one = same_is c.same.result f.now g.now (tree_at t c.args.p) (tree_at t c.args.q) hp hq c.same.ensures in
    subst (λ (r : Rel). c.same.result ≡ is_some (equal_forms r x y f g)) (sym c.in-Eq.is)
    (one ∙ sym (some_if (same_exp f.now g.now) (equal_proof x y f g)))
