use Rattle.std.proofs.Common.{◌≡◌, Option, Some, None, sym, ◌∙◌, ap, subst}
use Rattle.term_table.specs.Tree.{Tree}
use Rattle.term_table.specs.Table.{Stands}
use Rattle.formula_tree.specs.Formulas.{FRel}
use Rattle.lf_terms.specs.Encoding.{exp_encoding}
use Rattle.prover_class.specs.Goals.{first_of, by_aligned, by_normal, by_bounds, by_words_alone}
use Rattle.prover_ids.proofs.HypRows.{hyps-after}
use Rattle.prover_ids.proofs.Standing.{stands, more, twice}
use Rattle.prover_hyps.proofs.AlignmentRows.{stands_at}
use Rattle.prover_goals.proofs.Kept.{context-more}
use Rattle.prover_goals.proofs.WordRows.{after_now}
use Rattle.prover_goals.proofs.words.relation_by_words.Goals as goal

pub by_bounds-requires-clause-context : goal.by_bounds-requires-clause-context
by_bounds-requires-clause-context c =
    context-more c.args.context.now c.args.table.now c.by_normal.new.table c.requires.context (twice c.in_ok-proof.ensures.extends c.in_ok-proof-in-None.ensures.extends)

pub returns-in-Some-clause-after : goal.returns-in-Some-clause-after
returns-in-Some-clause-after c =
    let u = c.by_aligned.new.table in
    let n = c.args.context.now in
    after_now u c.by_aligned.new.search n c.in_ok-proof.ensures.search (context-more n c.args.table.now u c.requires.context c.in_ok-proof.ensures.extends)

pub returns-in-Some-2-clause-exact : goal.returns-in-Some-2-clause-exact
returns-in-Some-2-clause-exact c = λ Γ x y g qa qb.
    let t = c.args.table.now in
    let out = c.args.context.now.outside in
    let A = FRel c.args.rel x y in
    let e1 = c.in_ok-proof.ensures.extends in
    let a = stands t (exp_encoding x) c.args.a c.requires.a qa in
    let b = stands t (exp_encoding y) c.args.b c.requires.b qb in
    let none = stands_at c.by_aligned.new.table (by_aligned Γ A) c.in_ok-proof.field-0 None c.in-None.is (c.in_ok-proof.ensures.exact Γ x y g qa qb) in
    let some = stands_at c.by_normal.new.table (by_normal out Γ A) c.in_ok-proof-in-None.field-0 (Some c.in-Some-2.proof) c.in-Some-2.is (c.in_ok-proof-in-None.ensures.exact Γ x y (more a e1).is (more b e1).is) in
    (some.0, ap (λ (z : Option Tree). first_of z (first_of (by_normal out Γ A) (by_bounds c.args.counted Γ A))) none ∙ ap (λ (z : Option Tree). first_of z (by_bounds c.args.counted Γ A)) some.1)

pub returns-in-Some-2-clause-after : goal.returns-in-Some-2-clause-after
returns-in-Some-2-clause-after c =
    let u = c.by_normal.new.table in
    let n = c.args.context.now in
    let x = twice c.in_ok-proof.ensures.extends c.in_ok-proof-in-None.ensures.extends in
    after_now u c.by_normal.new.search n c.in_ok-proof-in-None.ensures.search (context-more n c.args.table.now u c.requires.context x)

pub returns-in_ok-rest-in-None-2-clause-exact : goal.returns-in_ok-rest-in-None-2-clause-exact
returns-in_ok-rest-in-None-2-clause-exact c = λ Γ x y g qa qb.
    let t = c.args.table.now in
    let u = c.by_normal.new.table in
    let n = c.args.context.now in
    let A = FRel c.args.rel x y in
    let e1 = c.in_ok-proof.ensures.extends in
    let x2 = twice e1 c.in_ok-proof-in-None.ensures.extends in
    let a = stands t (exp_encoding x) c.args.a c.requires.a qa in
    let b = stands t (exp_encoding y) c.args.b c.requires.b qb in
    let first = stands_at c.by_aligned.new.table (by_aligned Γ A) c.in_ok-proof.field-0 None c.in-None.is (c.in_ok-proof.ensures.exact Γ x y g qa qb) in
    let second = stands_at u (by_normal n.outside Γ A) c.in_ok-proof-in-None.field-0 None c.in-None-2.is (c.in_ok-proof-in-None.ensures.exact Γ x y (more a e1).is (more b e1).is) in
    let h = hyps-after t u n.hyps Γ c.requires.context.hyps x2 g in
    let rest = c.in_ok-rest-in-None-2.ensures.exact Γ x y h (more a x2).is (more b x2).is in
    let same : by_words_alone c.args.counted n.outside Γ A ≡ by_bounds c.args.counted Γ A = ap (λ (z : Option Tree). first_of z (first_of (by_normal n.outside Γ A) (by_bounds c.args.counted Γ A))) first ∙ ap (λ (z : Option Tree). first_of z (by_bounds c.args.counted Γ A)) second in
    subst (λ (z : Option Tree). Stands c.by_bounds.new.table z c.in_ok-rest-in-None-2.rest) (sym same) rest
