use Rattle.std.proofs.Common.{◌≡◌, ◌<◌, length, slice_index_or, sym, ◌∙◌, subst, arith}
use Rattle.formula_tree.specs.Substitution.{subst_form}
use Rattle.lf_encode.specs.Encoding.{form_encoding}
use Rattle.lf_encode.specs.Contexts.{machine_names}
use Rattle.vcgen.specs.Conditions.{condition}
use Rattle.term_table.specs.Table.{id_trees}
use Rattle.vcgen.specs.Encoded.{annotated, EncodesCondition}
use Rattle.vcgen.specs.WalkTree.{condition_term}
use Rattle.vcgen.proofs.WalkTrees.{condition_term-is}
use Rattle.vcgen.proofs.Encodings.{encoding-exists}
use Rattle.lf_encode.proofs.MachineContext.{encoding-machine}
use Rattle.vcgen.proofs.Parts.{invs-inside}
use Rattle.vcgen.proofs.condition.vc_with.Goals as goal

pub encoded_condition-requires-clause-inside : goal.encoded_condition-requires-clause-inside
encoded_condition-requires-clause-inside c k d lt =
    subst (λ l. (slice_index_or c.args.invs.now k d).0 < length l) (sym c.code.ensures.value) (invs-inside c.args.invs.now (length c.args.cut.now.code) c.args.cut.now.marks c.requires.marks k d lt)

pub returns-in-Ok-clause-exact : goal.returns-in-Ok-clause-exact
returns-in-Ok-clause-exact c =
    let policy = c.args.policy.now in
    let code = c.args.cut.now.code in
    let bound = c.args.bound in
    let invs = id_trees c.args.table.now c.args.invs.now in
    let has : EncodesCondition policy bound code invs _ = (encoding-exists policy bound code invs c.requires.forms).1 in
    let term : condition_term bound code invs (form_encoding (subst_form policy.pre machine_names))
    (form_encoding (subst_form policy.post machine_names))
    ≡ form_encoding (condition (annotated policy bound code has.formulas)) =
    condition_term-is bound code invs has.formulas policy.pre policy.post has.encoded
    c.laws.ensures.asked.over c.laws.ensures.promised.over in
    let made = c.in-Ok.ensures.id.is
    ∙ (λ i. condition_term bound (c.code.ensures.value i) invs (encoding-machine policy.pre i)
    (encoding-machine policy.post i)) ∙ term in
    (omega arith, c.in-Ok.ensures.id.known, record { formulas = has.formulas; encoded = has.encoded; is = sym made })
