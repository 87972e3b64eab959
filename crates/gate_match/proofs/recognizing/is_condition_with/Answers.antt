use Rattle.std.proofs.Common.{◌≡◌, ◌<◌, length, slice_index_or, refl, sym, ◌∙◌, subst, arith}
use Rattle.term_table.specs.Table.{tree_at, id_trees}
use Rattle.formula_tree.specs.Substitution.{subst_form}
use Rattle.lf_encode.specs.Encoding.{form_encoding}
use Rattle.lf_encode.specs.Contexts.{machine_names}
use Rattle.lf_encode.proofs.MachineContext.{encoding-machine}
use Rattle.lf_encode.proofs.Comparisons.{one-answer}
use Rattle.vcgen.specs.Conditions.{condition}
use Rattle.vcgen.specs.Encoded.{annotated, EncodesCondition}
use Rattle.vcgen.specs.WalkTree.{condition_term}
use Rattle.vcgen.proofs.WalkTrees.{condition_term-is}
use Rattle.vcgen.proofs.Encodings.{encoding-exists, encoding-unique}
use Rattle.vcgen.proofs.Parts.{invs-inside}
use Rattle.gate_match.proofs.Spending.{fault-spent}
use Rattle.gate_match.proofs.recognizing.is_condition_with.Goals as goal

pub is_encoded_condition-requires-clause-inside : goal.is_encoded_condition-requires-clause-inside
is_encoded_condition-requires-clause-inside c k d lt =
    subst (λ l. (slice_index_or c.args.invs.now k d).0 < length l) (sym c.code.ensures.value)
    (invs-inside c.args.invs.now (length c.args.cut.now.code) c.args.cut.now.marks c.requires.marks k d lt)

pub returns-clause-exact : goal.returns-clause-exact
returns-clause-exact c =
    let policy = c.args.policy.now in
    let code = c.args.cut.now.code in
    let bound = c.args.bound in
    let invs = id_trees c.args.table.now c.args.invs.now in
    let formula = tree_at c.args.table.now c.args.formula in
    let has : EncodesCondition policy bound code invs _ = (encoding-exists policy bound code invs c.requires.forms).1 in
    let whole = form_encoding (condition (annotated policy bound code has.formulas)) in
    let term : condition_term bound code invs (form_encoding (subst_form policy.pre machine_names))
    (form_encoding (subst_form policy.post machine_names)) ≡ whole =
    condition_term-is bound code invs has.formulas policy.pre policy.post has.encoded
    c.laws.ensures.asked.over c.laws.ensures.promised.over in
    let made =
    (λ i. condition_term bound (c.code.ensures.value i) invs (encoding-machine policy.pre i)
    (encoding-machine policy.post i)) ∙ term in
    let exact = one-answer c.in_ok-equal.equal formula formula _ whole refl made c.in_ok-equal.ensures.exact in
    let one : EncodesCondition policy bound code invs whole = record { formulas = has.formulas; encoded = has.encoded; is = refl } in (
      omega arith,
      (
        λ b. record { formulas = has.formulas; encoded = has.encoded; is = sym (exact.0 b) },
        λ e. exact.1
            (encoding-unique policy bound code invs formula whole e one),
      ),
    )

pub returns-in_err-equal-clause-spends : goal.returns-in_err-equal-clause-spends
returns-in_err-equal-clause-spends c =
    fault-spent c.is_encoded_condition.new.table c.args.memo.now c.is_encoded_condition.new.shifts
    c.in_err-equal.field-0.0 c.in_err-equal.ensures.spends c.from_residual.result
    c.from_residual.ensures.1
