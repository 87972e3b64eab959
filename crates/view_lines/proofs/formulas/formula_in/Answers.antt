use Rattle.std.proofs.Common.{sym, ◌∙◌, ap}
use Rattle.term_table.specs.Table.{tree_at}
use Rattle.formula_tree.specs.Operators.{Uses}
use Rattle.formula_tree.specs.Views.{form_view}
use Rattle.lf_signature.specs.Constants.{declared, Longest}
use Rattle.lf_signature.specs.Known.{HasOp}
use Rattle.vcgen.specs.Encoded.{context_of}
use Rattle.view_lines.proofs.Encoded.{formula-read}
use Rattle.view_lines.proofs.formulas.formula_in.Goals as goal

pub returns-in-None-clause-exact : goal.returns-in-None-clause-exact
returns-in-None-clause-exact c =
    formula-read c.typing_laws.ensures.checks form_view c.args.bound c.machine_context.result
    (tree_at c.args.table.now c.args.id) (Uses (HasOp (declared Longest))) c.form_of.result
    (c.machine_context.ensures ∙ ap context_of (sym c.in-None.is)) c.form_of.ensures.exact

pub returns-in-Some-clause-exact : goal.returns-in-Some-clause-exact
returns-in-Some-clause-exact c =
    formula-read c.typing_laws.ensures.checks form_view c.args.bound c.left_context.result
    (tree_at c.args.table.now c.args.id) (Uses (HasOp (declared Longest))) c.form_of-in-Some.result
    (c.left_context.ensures ∙ ap context_of (sym c.in-Some.is)) c.form_of-in-Some.ensures.exact
