use Rattle.std.proofs.Common.{[], IfOk, subst, sym, ap, ◌∙◌}
use Rattle.formula_tree.specs.Views.{form_view}
use Rattle.formula_tree.specs.Scope.{IsWithin}
use Rattle.lf_signature.specs.Nodes.{IsIdOf}
use Rattle.lf_encode.specs.Contexts.{machine_context, left_context, encoding_in, IsFormIn}
use Rattle.lf_encode.proofs.MachineContext.{in-left-of, in-context-of, encoding-either}
use Rattle.pcc_asm.proofs.invariants.encode_inv.Goals as goal

-- src/invariants.rt:26:9
pub encode_form-requires-clause-over : goal.encode_form-requires-clause-over
encode_form-requires-clause-over c =
    let form = form_view c.args.form.now in
    subst (λ ctx. IsFormIn ctx 32 form) (sym c.left_context.ensures)
    (in-left-of 32 form (subst (λ b. IsWithin b 32 form []) c.if-left.true c.requires.0))

-- src/invariants.rt:28:9
pub encode_form-requires-else-left-clause-over : goal.encode_form-requires-else-left-clause-over
encode_form-requires-else-left-clause-over c =
    let form = form_view c.args.form.now in
    subst (λ ctx. IsFormIn ctx 32 form) (sym c.machine_context.ensures)
    (in-context-of 32 form (subst (λ b. IsWithin b 32 form []) c.if-left.false c.requires.0))

-- src/invariants.rt:19:1
pub returns-then-left-clause-exact : goal.returns-then-left-clause-exact
returns-then-left-clause-exact c =
    let form = form_view c.args.form.now in
    subst (λ tree. IfOk c.encode_form.result (IsIdOf c.encode_form.new.table tree))
    (ap (λ ctx. encoding_in ctx form) c.left_context.ensures ∙ encoding-either form)
    c.encode_form.ensures.exact
