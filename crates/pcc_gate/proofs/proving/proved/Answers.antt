use Rattle.std.proofs.Common.{[], refl, sym, subst}
use Rattle.term_table.specs.Table.{tree_at, id_trees}
use Rattle.hereditary_subst.specs.Simples.{IsResult}
use Rattle.lf_signature.specs.Constants.{declared, Longest}
use Rattle.lf_signature.specs.Terms.{pf}
use Rattle.lf_signature.specs.Typing.{Checks}
use Rattle.lf_lemmas.specs.Lemmas.{formulas_of, with_lemmas}
use Rattle.lf_lemmas.specs.Tables.{lemmas_in}
use Rattle.lf_truth.proofs.Proved.{one-formula}
use Rattle.vcgen.specs.Encoded.{AreForms, EncodesCondition}
use Rattle.pcc_gate.specs.First.{vc_of}
use Rattle.pcc_gate.proofs.Conditions.{judged-true, vc_of-encodes, proves-false}
use Rattle.pcc_gate.proofs.Kept.{low-more, low-same}
use Rattle.pcc_gate.proofs.Refusing.{not-both}
use Rattle.pcc_gate.proofs.proving.proved.Goals as goal
use Rattle.vcgen.proofs.Encodings.{forms-wider}

pub is_condition_with-requires-clause-invs : goal.is_condition_with-requires-clause-invs
is_condition_with-requires-clause-invs c =
    low-more c.args.table.now c.formula_proved.new.table c.args.invs.now c.requires.invs
    c.in_ok-formula.ensures.extends

pub is_condition_with-requires-clause-forms : goal.is_condition_with-requires-clause-forms
is_condition_with-requires-clause-forms c =
    let o = c.args.table.now in
    let invs = c.args.invs.now in
    let same = low-same o c.formula_proved.new.table invs c.requires.invs
    c.in_ok-formula.ensures.extends in
    subst (AreForms Longest c.args.bound) same
    (forms-wider c.args.signature c.args.bound (id_trees o invs) c.requires.forms)

pub returns-in_default-clause-answer : goal.returns-in_default-clause-answer
returns-in_default-clause-answer c =
    let o = c.args.table.now in
    let u = c.formula_proved.new.table in
    let lemmas = lemmas_in o c.args.lemmas.now in
    let sig = with_lemmas (declared c.args.signature) (formulas_of lemmas) in
    let proof = tree_at o c.args.proof in
    let invs = id_trees o c.args.invs.now in
    let vc = vc_of c.args.policy.now c.args.bound c.args.cut.now.code invs in
    let none = subst (λ z. IsResult u (λ g. Checks sig [] proof (pf g)) z) c.in_default.is
    c.in_ok-formula.ensures.exact in
    (proves-false c.args.signature lemmas proof vc (none vc), refl)

pub returns-then-not-equal-clause-answer : goal.returns-then-not-equal-clause-answer
returns-then-not-equal-clause-answer c =
    let o = c.args.table.now in
    let u = c.formula_proved.new.table in
    let lemmas = lemmas_in o c.args.lemmas.now in
    let sig = with_lemmas (declared c.args.signature) (formulas_of lemmas) in
    let policy = c.args.policy.now in
    let most = c.args.bound in
    let code = c.args.cut.now.code in
    let proof = tree_at o c.args.proof in
    let invs = id_trees o c.args.invs.now in
    let vc = vc_of policy most code invs in
    let found = tree_at u c.in-Some.formula in
    let has = subst (λ z. IsResult u (λ g. Checks sig [] proof (pf g)) z) c.in-Some.is
    c.in_ok-formula.ensures.exact in
    let same = low-same o u c.args.invs.now c.requires.invs c.in_ok-formula.ensures.extends in
    let is : EncodesCondition policy most code (id_trees u c.args.invs.now) vc =
    subst (λ l. EncodesCondition policy most code l vc) same
    (vc_of-encodes c.args.signature policy most code invs c.requires.forms) in
    let other : Checks sig [] proof (pf vc) → ⊥ =
    λ k. not-both _ c.if-not-equal.true
    (c.in-Ok.ensures.exact.1.1
    (subst (λ z. EncodesCondition policy most code (id_trees u c.args.invs.now) z)
    (one-formula sig proof vc found k has.1) is)) in
    (proves-false c.args.signature lemmas proof vc other, refl)

pub returns-clause-answer : goal.returns-clause-answer
returns-clause-answer c =
    let o = c.args.table.now in
    let u = c.formula_proved.new.table in
    let lemmas = lemmas_in o c.args.lemmas.now in
    let sig = with_lemmas (declared c.args.signature) (formulas_of lemmas) in
    let policy = c.args.policy.now in
    let most = c.args.bound in
    let code = c.args.cut.now.code in
    let proof = tree_at o c.args.proof in
    let invs = id_trees o c.args.invs.now in
    let found = tree_at u c.in-Some.formula in
    let has = subst (λ z. IsResult u (λ g. Checks sig [] proof (pf g)) z) c.in-Some.is
    c.in_ok-formula.ensures.exact in
    let same = low-same o u c.args.invs.now c.requires.invs c.in_ok-formula.ensures.extends in
    let is : EncodesCondition policy most code invs found =
    subst (λ l. EncodesCondition policy most code l found) (sym same)
    (c.in-Ok.ensures.exact.1.0 c.if-not-equal.false) in
    judged-true c.args.signature lemmas policy most code invs proof found c.requires.forms is has.1
