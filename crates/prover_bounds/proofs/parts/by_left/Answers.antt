use Rattle.std.proofs.Common.{[], ◌∷◌, refl, subst}
use Rattle.word_ops.specs.declared.Op.TheVariants.{Band}
use Rattle.lf_signature.specs.Nodes.{IsIdOf}
use Rattle.lf_signature.specs.Terms.{op_term}
use Rattle.lf_signature.specs.declared.numbers.TheConstants.{AND_COMM, AND_LE}
use Rattle.formula_tree.specs.Formulas.{EOp}
use Rattle.lf_terms.specs.Encoding.{exp_encoding}
use Rattle.hereditary_subst.proofs.Rows.{known-more, memo-more}
use Rattle.prover_ids.proofs.Standing.{own, stands, more, twice, ruled, moved_to}
use Rattle.prover_bounds.specs.declared.bounds.Side.TheVariants.{Lower}
use Rattle.prover_bounds.specs.Candidates.{placed}
use Rattle.prover_bounds.proofs.parts.by_left.Goals as goal

pub returns-clause-is : goal.returns-clause-is
returns-clause-is c = λ z x y qe qa qb.
    let t = c.args.table.now in
    let x1 = c.in_ok-form.ensures.extends in
    let x2 = twice x1 c.in_ok-turned.ensures.extends in
    let x3 = twice x2 c.in_ok-equal.ensures.extends in
    let e4 = c.in_ok-least.ensures.extends in
    let x4 = twice x3 e4 in
    let e6 = c.in_ok-value.ensures.extends in
    let x6 = twice (twice x4 c.in_ok-back.ensures.extends) e6 in
    let a = stands t (exp_encoding x) c.args.a c.requires.a qa in
    let b = stands t (exp_encoding y) c.args.b c.requires.b qb in
    let e = stands t (exp_encoding z) c.args.e c.requires.e qe in
    let v = own t c.args.v.proof c.requires.v in
    let form = more (c.in_ok-form.ensures.is x qa) (twice (twice c.in_ok-turned.ensures.extends c.in_ok-equal.ensures.extends) e4) in
    let turned0 = subst (λ u. IsIdOf c.oper.new.table u c.in_ok-turned.turned) (λ i. op_term Band ((more b x1).is i) ((more a x1).is i)) c.in_ok-turned.ensures.id in
    let turned = more turned0 (twice c.in_ok-equal.ensures.extends e4) in
    let equal = more (ruled (λ z. IsIdOf c.rule_term.new.table z c.in_ok-equal.equal) AND_COMM (λ i. (more b x2).is i ∷ (more a x2).is i ∷ []) c.in_ok-equal.ensures.id) e4 in
    let least = ruled (λ z. IsIdOf c.rule_term-2.new.table z c.in_ok-least.least) AND_LE (λ i. (more b x3).is i ∷ (more a x3).is i ∷ []) c.in_ok-least.ensures.id in
    let back = moved_to (λ z. IsIdOf c.moved.new.table z c.in_ok-back.back) c.in_ok-back.ensures.is (placed Lower x) (EOp Band y x) z form turned (more e x4) equal least in
    let p =
    ruled (λ z. IsIdOf c.rule_term-3.new.table z c.in_ok-proof.proof) 64
    (λ i. (more e x6).is i ∷ (more a x6).is i ∷ c.in_ok-value.ensures.known.is i ∷ (more back e6).is i ∷ (more v x6).is i ∷ []) c.in_ok-proof.ensures.id in
    record { known = p.known; value = refl; is = p.is }

pub returns-in_err-turned-clause-extends : goal.returns-in_err-turned-clause-extends
returns-in_err-turned-clause-extends c = twice c.in_ok-form.ensures.extends c.oper.ensures.extends

pub returns-in_err-turned-clause-memo : goal.returns-in_err-turned-clause-memo
returns-in_err-turned-clause-memo c = memo-more _ _ _ c.in_ok-form.ensures.memo c.oper.ensures.extends

pub returns-in_err-equal-clause-extends : goal.returns-in_err-equal-clause-extends
returns-in_err-equal-clause-extends c = twice c.in_ok-form.ensures.extends (twice c.in_ok-turned.ensures.extends c.rule_term.ensures.extends)

pub returns-in_err-equal-clause-memo : goal.returns-in_err-equal-clause-memo
returns-in_err-equal-clause-memo c = memo-more _ _ _ c.in_ok-form.ensures.memo (twice c.in_ok-turned.ensures.extends c.rule_term.ensures.extends)

pub returns-in_err-least-clause-extends : goal.returns-in_err-least-clause-extends
returns-in_err-least-clause-extends c = twice c.in_ok-form.ensures.extends (twice (twice c.in_ok-turned.ensures.extends c.in_ok-equal.ensures.extends) c.rule_term-2.ensures.extends)

pub returns-in_err-least-clause-memo : goal.returns-in_err-least-clause-memo
returns-in_err-least-clause-memo c = memo-more _ _ _ c.in_ok-form.ensures.memo (twice (twice c.in_ok-turned.ensures.extends c.in_ok-equal.ensures.extends) c.rule_term-2.ensures.extends)

pub returns-in_err-back-clause-extends : goal.returns-in_err-back-clause-extends
returns-in_err-back-clause-extends c = twice c.in_ok-form.ensures.extends (twice (twice (twice c.in_ok-turned.ensures.extends c.in_ok-equal.ensures.extends) c.in_ok-least.ensures.extends) c.moved.ensures.extends)

pub returns-in_err-back-clause-memo : goal.returns-in_err-back-clause-memo
returns-in_err-back-clause-memo c = memo-more _ _ _ c.in_ok-form.ensures.memo (twice (twice (twice c.in_ok-turned.ensures.extends c.in_ok-equal.ensures.extends) c.in_ok-least.ensures.extends) c.moved.ensures.extends)

pub returns-in_err-value-clause-extends : goal.returns-in_err-value-clause-extends
returns-in_err-value-clause-extends c = twice c.in_ok-form.ensures.extends (twice (twice (twice (twice c.in_ok-turned.ensures.extends c.in_ok-equal.ensures.extends) c.in_ok-least.ensures.extends) c.in_ok-back.ensures.extends) c.word.ensures.extends)

pub returns-in_err-value-clause-memo : goal.returns-in_err-value-clause-memo
returns-in_err-value-clause-memo c = memo-more _ _ _ c.in_ok-form.ensures.memo (twice (twice (twice (twice c.in_ok-turned.ensures.extends c.in_ok-equal.ensures.extends) c.in_ok-least.ensures.extends) c.in_ok-back.ensures.extends) c.word.ensures.extends)

pub returns-in_err-proof-clause-extends : goal.returns-in_err-proof-clause-extends
returns-in_err-proof-clause-extends c = twice c.in_ok-form.ensures.extends (twice (twice (twice (twice (twice c.in_ok-turned.ensures.extends c.in_ok-equal.ensures.extends) c.in_ok-least.ensures.extends) c.in_ok-back.ensures.extends) c.in_ok-value.ensures.extends) c.rule_term-3.ensures.extends)

pub returns-in_err-proof-clause-memo : goal.returns-in_err-proof-clause-memo
returns-in_err-proof-clause-memo c = memo-more _ _ _ c.in_ok-form.ensures.memo (twice (twice (twice (twice (twice c.in_ok-turned.ensures.extends c.in_ok-equal.ensures.extends) c.in_ok-least.ensures.extends) c.in_ok-back.ensures.extends) c.in_ok-value.ensures.extends) c.rule_term-3.ensures.extends)

pub returns-clause-extends : goal.returns-clause-extends
returns-clause-extends c = twice c.in_ok-form.ensures.extends (twice (twice (twice (twice (twice c.in_ok-turned.ensures.extends c.in_ok-equal.ensures.extends) c.in_ok-least.ensures.extends) c.in_ok-back.ensures.extends) c.in_ok-value.ensures.extends) c.in_ok-proof.ensures.extends)

pub returns-clause-memo : goal.returns-clause-memo
returns-clause-memo c = memo-more _ _ _ c.in_ok-form.ensures.memo (twice (twice (twice (twice (twice c.in_ok-turned.ensures.extends c.in_ok-equal.ensures.extends) c.in_ok-least.ensures.extends) c.in_ok-back.ensures.extends) c.in_ok-value.ensures.extends) c.in_ok-proof.ensures.extends)

pub oper-requires-clause-a : goal.oper-requires-clause-a
oper-requires-clause-a c = known-more _ _ _ c.requires.b c.in_ok-form.ensures.extends

pub oper-requires-clause-b : goal.oper-requires-clause-b
oper-requires-clause-b c = known-more _ _ _ c.requires.a c.in_ok-form.ensures.extends

pub rule_term-requires : goal.rule_term-requires
rule_term-requires c = let x = twice c.in_ok-form.ensures.extends c.in_ok-turned.ensures.extends in (known-more _ _ _ c.requires.b x, (known-more _ _ _ c.requires.a x, tt))

pub rule_term-requires-2 : goal.rule_term-requires-2
rule_term-requires-2 c = let x = twice (twice c.in_ok-form.ensures.extends c.in_ok-turned.ensures.extends) c.in_ok-equal.ensures.extends in (known-more _ _ _ c.requires.b x, (known-more _ _ _ c.requires.a x, tt))

pub moved-requires-clause-form : goal.moved-requires-clause-form
moved-requires-clause-form c = known-more _ _ _ c.in_ok-form.ensures.known (twice (twice c.in_ok-turned.ensures.extends c.in_ok-equal.ensures.extends) c.in_ok-least.ensures.extends)

pub moved-requires-clause-a : goal.moved-requires-clause-a
moved-requires-clause-a c = known-more _ _ _ c.in_ok-turned.ensures.id.known (twice c.in_ok-equal.ensures.extends c.in_ok-least.ensures.extends)

pub moved-requires-clause-b : goal.moved-requires-clause-b
moved-requires-clause-b c = known-more _ _ _ c.requires.e (twice (twice (twice c.in_ok-form.ensures.extends c.in_ok-turned.ensures.extends) c.in_ok-equal.ensures.extends) c.in_ok-least.ensures.extends)

pub moved-requires-clause-equal : goal.moved-requires-clause-equal
moved-requires-clause-equal c = known-more _ _ _ c.in_ok-equal.ensures.id.known c.in_ok-least.ensures.extends

pub moved-requires-clause-proof : goal.moved-requires-clause-proof
moved-requires-clause-proof c = c.in_ok-least.ensures.id.known

pub rule_term-requires-3 : goal.rule_term-requires-3
rule_term-requires-3 c = let x = twice (twice (twice (twice (twice c.in_ok-form.ensures.extends c.in_ok-turned.ensures.extends) c.in_ok-equal.ensures.extends) c.in_ok-least.ensures.extends) c.in_ok-back.ensures.extends) c.in_ok-value.ensures.extends in (known-more _ _ _ c.requires.e x, (known-more _ _ _ c.requires.a x, (c.in_ok-value.ensures.known.known, (known-more _ _ _ c.in_ok-back.ensures.known c.in_ok-value.ensures.extends, (known-more _ _ _ c.requires.v x, tt)))))
