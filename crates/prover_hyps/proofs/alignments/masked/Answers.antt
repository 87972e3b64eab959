use Rattle.std.proofs.Common.{IfOk, subst}
use Rattle.word_ops.specs.declared.Op.TheVariants.{Band}
use Rattle.term_table.specs.Tree.{Tree}
use Rattle.lf_signature.specs.Nodes.{IsIdOf}
use Rattle.lf_signature.specs.Terms.{op_term}
use Rattle.formula_tree.specs.Formulas.{ELit, EOp}
use Rattle.lf_terms.specs.Encoding.{exp_encoding}
use Rattle.prover_ids.proofs.Standing.{stands, more, twice}
use Rattle.prover_hyps.specs.Alignments.{masked_second, masked_third}
use Rattle.prover_hyps.proofs.alignments.masked.Goals as goal

pub returns-clause-is : goal.returns-clause-is
returns-clause-is c = λ x qa qw.
    let t = c.args.table.now in
    let n = c.args.w in
    let e1 = c.in_ok-seven.ensures.extends in
    let e2 = c.in_ok-zero.ensures.extends in
    let e3 = c.in_ok-inner.ensures.extends in
    let e4 = c.in_ok-left.ensures.extends in
    let e5 = c.in_ok-whole.ensures.extends in
    let e6 = c.in_ok-first.ensures.extends in
    let e7 = c.in_ok-second.ensures.extends in
    let x2 = twice e1 e2 in
    let y5 = twice e4 e5 in
    let x3 = twice x2 e3 in
    let x5 = twice x3 y5 in
    let y7 = twice e6 e7 in
    let a = stands t (exp_encoding x) c.args.a c.requires.a qa in
    let word = stands t (exp_encoding (ELit n)) c.args.word c.requires.word qw in
    let seven0 = stands c.intern.new.self (exp_encoding (ELit 7)) c.in_ok-seven.seven c.in_ok-seven.ensures.id.0 c.in_ok-seven.ensures.id.1 in
    let zero0 = stands c.intern-2.new.self (exp_encoding (ELit 0)) c.in_ok-zero.zero c.in_ok-zero.ensures.id.0 c.in_ok-zero.ensures.id.1 in
    let seven2 = more seven0 e2 in
    let inner0 = subst (λ (k : Tree). IsIdOf c.oper.new.table k c.in_ok-inner.inner) (λ j. op_term Band ((more word x2).is j) (seven2.is j)) c.in_ok-inner.ensures.id in
    let left0 = subst (λ (k : Tree). IsIdOf c.oper-2.new.table k c.in_ok-left.left) (λ j. op_term Band ((more a x3).is j) ((more word x3).is j)) c.in_ok-left.ensures.id in
    let whole = subst (λ (k : Tree). IsIdOf c.oper-3.new.table k c.in_ok-whole.whole) (λ j. op_term Band (left0.is j) ((more seven2 (twice e3 e4)).is j)) c.in_ok-whole.ensures.id in
    let e = EOp Band (EOp Band x (ELit n)) (ELit 7) in
    let i = EOp Band (ELit n) (ELit 7) in
    let inner = more inner0 y5 in
    let a5 = more a x5 in
    let zero = more zero0 (twice e3 y5) in
    let first = c.in_ok-first.ensures.is x (ELit n) (ELit 7) i e a5.is (more word x5).is (more seven2 (twice e3 y5)).is inner.is whole.is in
    let second0 = c.in_ok-second.ensures.is x i e (ELit 0) (more a5 e6).is (more inner e6).is (more whole e6).is (more zero e6).is in
    let second = subst (λ (k : Tree). IsIdOf c.masked_second.new.table (masked_second x i e (ELit 0) n k) c.in_ok-second.second) first.is second0 in
    let third = c.masked_third.ensures.is x e (ELit 0) (more a5 y7).is (more whole y7).is (more zero y7).is in
    subst (λ (k : Tree). IfOk c.masked_third.result (IsIdOf c.masked_third.new.table (masked_third x e (ELit 0) k))) second.is third
