use Rattle.std.proofs.Common.{◌≡◌, IfOk, subst}
use Rattle.formula_tree.specs.Substitution.{subst_form}
use Rattle.formula_tree.specs.Views.{form_view, substitution_of}
use Rattle.formula_tree.proofs.Putting.{change_none}
use Rattle.formula_tree.proofs.form.Form.subst_regs.Goals as goal

pub returns : goal.returns
returns c =
    let none = change_none (substitution_of c.args.regs.now c.args.memory.now) in
    record { exact = subst (λ s. IfOk c.subst_at.result (λ f. form_view f ≡ subst_form (form_view c.args.self.now) s)) none c.subst_at.ensures.exact }
