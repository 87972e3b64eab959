use Rattle.std.proofs.Common.{IfOk, sym, ◌∙◌, ap, subst}
use Rattle.formula_tree.specs.Formulas.{EOp}
use Rattle.lf_terms.specs.Encoding.{exp_encoding}
use Rattle.prover_forms.specs.Rules.{IsRule}
use Rattle.prover_sums.specs.Inside.Rewrites.{AreRewrites}
use Rattle.prover_sums.proofs.Rewrites.{one_step}
use Rattle.hereditary_subst.proofs.Rows.{memo-more}
use Rattle.prover_sums.proofs.rewriting.rewrites_by.Goals as goal

pub returns-in-Turned-clause-exact : goal.returns-in-Turned-clause-exact
returns-in-Turned-clause-exact c =
    λ out x y qe qa qb h.
    let r = subst (IsRule c.args.table.now out c.args.op x y) c.in-Turned.is h in
    subst (λ l. IfOk c.turned.result (λ s. AreRewrites c.turned.new.table s l)) (sym r.is) (c.turned.ensures.exact x r.left r.right (qe ∙ ap exp_encoding r.whole) qa r.left_is r.right_is)

pub returns-in_ok-to_value-in-Value-clause-exact : goal.returns-in_ok-to_value-in-Value-clause-exact
returns-in_ok-to_value-in-Value-clause-exact c =
    λ out x y qe qa qb h.
    let op = c.args.op in
    let r = subst (IsRule c.args.table.now out op x y) c.in-Value.is h in
    one_step c.to_value.new.table c.in_ok-to_value-in-Value.field-0 _ _ r (c.in_ok-to_value-in-Value.ensures.exact (EOp op x y) qe)

pub returns-in_ok-to_sum-in-Negated-clause-exact : goal.returns-in_ok-to_sum-in-Negated-clause-exact
returns-in_ok-to_sum-in-Negated-clause-exact c =
    λ out x y qe qa qb h.
    let op = c.args.op in
    let r = subst (IsRule c.args.table.now out op x y) c.in-Negated.is h in
    one_step c.to_sum.new.table c.in_ok-to_sum-in-Negated.field-0 _ _ r (c.in_ok-to_sum-in-Negated.ensures.exact (EOp op x y) x y qe qa qb)

pub returns-in_ok-to_operand-in-First-clause-exact : goal.returns-in_ok-to_operand-in-First-clause-exact
returns-in_ok-to_operand-in-First-clause-exact c =
    λ out x y qe qa qb h.
    let op = c.args.op in
    let r = subst (IsRule c.args.table.now out op x y) c.in-First.is h in
    one_step c.to_operand.new.table c.in_ok-to_operand-in-First.field-0 _ _ r (c.in_ok-to_operand-in-First.ensures.exact (EOp op x y) x qe qa)

pub returns-in_ok-to_operand-in-Second-clause-exact : goal.returns-in_ok-to_operand-in-Second-clause-exact
returns-in_ok-to_operand-in-Second-clause-exact c =
    λ out x y qe qa qb h.
    let op = c.args.op in
    let r = subst (IsRule c.args.table.now out op x y) c.in-Second.is h in
    one_step c.to_operand-in-Second.new.table c.in_ok-to_operand-in-Second.field-0 _ _ r (c.in_ok-to_operand-in-Second.ensures.exact (EOp op x y) y qe qb)

pub returns-in_ok-regrouped-in-Regrouped-clause-exact : goal.returns-in_ok-regrouped-in-Regrouped-clause-exact
returns-in_ok-regrouped-in-Regrouped-clause-exact c =
    λ out x y qe qa qb h.
    let op = c.args.op in
    let r = subst (IsRule c.args.table.now out op x y) c.in-Regrouped.is h in
    one_step c.regrouped.new.table c.in_ok-regrouped-in-Regrouped.field-0 _ _ r.is (c.in_ok-regrouped-in-Regrouped.ensures.exact (EOp op x y) r.left r.right y qe r.left_is r.right_is qb)

pub returns-in_ok-commuted-in-Swapped-clause-exact : goal.returns-in_ok-commuted-in-Swapped-clause-exact
returns-in_ok-commuted-in-Swapped-clause-exact c =
    λ out x y qe qa qb h.
    let op = c.args.op in
    let r = subst (IsRule c.args.table.now out op x y) c.in-Swapped.is h in
    one_step c.commuted.new.table c.in_ok-commuted-in-Swapped.field-0 _ _ r (c.in_ok-commuted-in-Swapped.ensures.exact (EOp op x y) x y qe qa qb)

pub returns-in_ok-step-in-Scaled-clause-exact : goal.returns-in_ok-step-in-Scaled-clause-exact
returns-in_ok-step-in-Scaled-clause-exact c =
    λ out x y qe qa qb h.
    let op = c.args.op in
    let r = subst (IsRule c.args.table.now out op x y) c.in-Scaled.is h in
    one_step c.to_scaled.new.table c.in_ok-step-in-Scaled.step _ _ r
    (c.in_ok-step-in-Scaled.ensures.exact (EOp op x y) x y qe qa qb)

pub returns-in_ok-to_complement-in-Complemented-clause-exact : goal.returns-in_ok-to_complement-in-Complemented-clause-exact
returns-in_ok-to_complement-in-Complemented-clause-exact c =
    λ out x y qe qa qb h.
    let op = c.args.op in
    let r = subst (IsRule c.args.table.now out op x y) c.in-Complemented.is h in
    one_step c.to_complement.new.table c.in_ok-to_complement-in-Complemented.field-0 _ _ r
    (c.in_ok-to_complement-in-Complemented.ensures.exact (EOp op x y) x y qe qa qb)

pub returns-in_ok-to_zero-in-Cancelled-clause-exact : goal.returns-in_ok-to_zero-in-Cancelled-clause-exact
returns-in_ok-to_zero-in-Cancelled-clause-exact c =
    λ out x y qe qa qb h.
    let op = c.args.op in
    let r = subst (IsRule c.args.table.now out op x y) c.in-Cancelled.is h in
    one_step c.to_zero.new.table c.in_ok-to_zero-in-Cancelled.field-0 _ _ r
    (c.in_ok-to_zero-in-Cancelled.ensures.exact (EOp op x y) x qe qa)

pub returns-in_err-to_value-in-Value-clause-memo : goal.returns-in_err-to_value-in-Value-clause-memo
returns-in_err-to_value-in-Value-clause-memo c = memo-more _ _ _ c.requires.memo c.to_value.ensures.extends

pub returns-in_ok-to_value-in-Value-clause-memo : goal.returns-in_ok-to_value-in-Value-clause-memo
returns-in_ok-to_value-in-Value-clause-memo c = memo-more _ _ _ c.requires.memo c.to_value.ensures.extends

pub returns-in_err-to_sum-in-Negated-clause-memo : goal.returns-in_err-to_sum-in-Negated-clause-memo
returns-in_err-to_sum-in-Negated-clause-memo c = memo-more _ _ _ c.requires.memo c.to_sum.ensures.extends

pub returns-in_ok-to_sum-in-Negated-clause-memo : goal.returns-in_ok-to_sum-in-Negated-clause-memo
returns-in_ok-to_sum-in-Negated-clause-memo c = memo-more _ _ _ c.requires.memo c.to_sum.ensures.extends

pub returns-in_err-to_operand-in-First-clause-memo : goal.returns-in_err-to_operand-in-First-clause-memo
returns-in_err-to_operand-in-First-clause-memo c = memo-more _ _ _ c.requires.memo c.to_operand.ensures.extends

pub returns-in_ok-to_operand-in-First-clause-memo : goal.returns-in_ok-to_operand-in-First-clause-memo
returns-in_ok-to_operand-in-First-clause-memo c = memo-more _ _ _ c.requires.memo c.to_operand.ensures.extends

pub returns-in_err-to_operand-in-Second-clause-memo : goal.returns-in_err-to_operand-in-Second-clause-memo
returns-in_err-to_operand-in-Second-clause-memo c = memo-more _ _ _ c.requires.memo c.to_operand-in-Second.ensures.extends

pub returns-in_ok-to_operand-in-Second-clause-memo : goal.returns-in_ok-to_operand-in-Second-clause-memo
returns-in_ok-to_operand-in-Second-clause-memo c = memo-more _ _ _ c.requires.memo c.to_operand-in-Second.ensures.extends

pub returns-in_err-regrouped-in-Regrouped-clause-memo : goal.returns-in_err-regrouped-in-Regrouped-clause-memo
returns-in_err-regrouped-in-Regrouped-clause-memo c = memo-more _ _ _ c.requires.memo c.regrouped.ensures.extends

pub returns-in_ok-regrouped-in-Regrouped-clause-memo : goal.returns-in_ok-regrouped-in-Regrouped-clause-memo
returns-in_ok-regrouped-in-Regrouped-clause-memo c = memo-more _ _ _ c.requires.memo c.regrouped.ensures.extends

pub returns-in_err-commuted-in-Swapped-clause-memo : goal.returns-in_err-commuted-in-Swapped-clause-memo
returns-in_err-commuted-in-Swapped-clause-memo c = memo-more _ _ _ c.requires.memo c.commuted.ensures.extends

pub returns-in_ok-commuted-in-Swapped-clause-memo : goal.returns-in_ok-commuted-in-Swapped-clause-memo
returns-in_ok-commuted-in-Swapped-clause-memo c = memo-more _ _ _ c.requires.memo c.commuted.ensures.extends

pub returns-in_err-step-in-Scaled-clause-memo : goal.returns-in_err-step-in-Scaled-clause-memo
returns-in_err-step-in-Scaled-clause-memo c = memo-more _ _ _ c.requires.memo c.to_scaled.ensures.extends

pub returns-in_ok-step-in-Scaled-clause-memo : goal.returns-in_ok-step-in-Scaled-clause-memo
returns-in_ok-step-in-Scaled-clause-memo c = memo-more _ _ _ c.requires.memo c.to_scaled.ensures.extends

pub returns-in_err-to_complement-in-Complemented-clause-memo : goal.returns-in_err-to_complement-in-Complemented-clause-memo
returns-in_err-to_complement-in-Complemented-clause-memo c = memo-more _ _ _ c.requires.memo c.to_complement.ensures.extends

pub returns-in_ok-to_complement-in-Complemented-clause-memo : goal.returns-in_ok-to_complement-in-Complemented-clause-memo
returns-in_ok-to_complement-in-Complemented-clause-memo c = memo-more _ _ _ c.requires.memo c.to_complement.ensures.extends

pub returns-in_err-to_zero-in-Cancelled-clause-memo : goal.returns-in_err-to_zero-in-Cancelled-clause-memo
returns-in_err-to_zero-in-Cancelled-clause-memo c = memo-more _ _ _ c.requires.memo c.to_zero.ensures.extends

pub returns-in_ok-to_zero-in-Cancelled-clause-memo : goal.returns-in_ok-to_zero-in-Cancelled-clause-memo
returns-in_ok-to_zero-in-Cancelled-clause-memo c = memo-more _ _ _ c.requires.memo c.to_zero.ensures.extends
