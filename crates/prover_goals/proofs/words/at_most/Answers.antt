use Rattle.std.proofs.Common.{Option, Some, [], ◌∷◌, sym, ◌∙◌, ap, subst}
use Rattle.std.specs.Option.{option_map}
use Rattle.term_table.specs.Tree.{Tree}
use Rattle.term_table.specs.Table.{tree_at, Stands}
use Rattle.word_ops.specs.declared.Rel.TheVariants.{Ult}
use Rattle.lf_signature.specs.Nodes.{IsIdOf}
use Rattle.lf_signature.specs.Terms.{rel_term}
use Rattle.lf_signature.specs.declared.numbers.TheConstants.{ULT_ULE}
use Rattle.formula_tree.specs.Formulas.{FRel}
use Rattle.lf_terms.specs.Encoding.{exp_encoding}
use Rattle.lf_terms.specs.ProofTerms.{word_rule}
use Rattle.prover_class.specs.Bounds.{upper_bound, lower_bound}
use Rattle.prover_class.specs.Goals.{first_of, ule_by}
use Rattle.prover_ids.proofs.Standing.{stands, more, twice, ruled}
use Rattle.prover_ids.proofs.HypRows.{known_hyps-more, hyps-after}
use Rattle.prover_goals.proofs.Kept.{search-more, context-more}
use Rattle.prover_goals.proofs.WordRows.{after_now}
use Rattle.prover_goals.proofs.words.at_most.Goals as goal

pub find_hyp-requires-clause-hyps : goal.find_hyp-requires-clause-hyps
find_hyp-requires-clause-hyps c = known_hyps-more c.args.table.now c.relation.new.table c.args.context.now.hyps c.requires.context.hyps c.in_ok-form.ensures.extends

pub at_most_by_bounds-requires-clause-search : goal.at_most_by_bounds-requires-clause-search
at_most_by_bounds-requires-clause-search c = search-more c.args.search.now c.args.table.now c.relation.new.table c.requires.search c.in_ok-form.ensures.extends

pub at_most_by_bounds-requires-clause-context : goal.at_most_by_bounds-requires-clause-context
at_most_by_bounds-requires-clause-context c = context-more c.args.context.now c.args.table.now c.relation.new.table c.requires.context c.in_ok-form.ensures.extends

pub returns-in_ok-proof-in-Some-clause-exact : goal.returns-in_ok-proof-in-Some-clause-exact
returns-in_ok-proof-in-Some-clause-exact c = λ Γ x y g qa qb.
    let t = c.args.table.now in
    let t1 = c.relation.new.table in
    let x1 = c.in_ok-form.ensures.extends in
    let a = stands t (exp_encoding x) c.args.a c.requires.a qa in
    let b = stands t (exp_encoding y) c.args.b c.requires.b qb in
    let form = subst (λ (z : Tree). IsIdOf t1 z c.in_ok-form.form) (λ i. rel_term Ult (qa i) (qb i)) c.in_ok-form.ensures.id in
    let found = c.in-Some.ensures.exact Γ (FRel Ult x y) (hyps-after t t1 c.args.context.now.hyps Γ c.requires.context.hyps x1 g) form.is in
    let less = tree_at t1 c.in-Some.less in
    let made = ruled (λ z. IsIdOf c.rule_term.new.table z c.in_ok-proof-in-Some.proof) ULT_ULE (λ i. (more a x1).is i ∷ (more b x1).is i ∷ less ∷ []) c.in_ok-proof-in-Some.ensures.id in
    (made.known, ap (λ (z : Option Tree). first_of (option_map (λ h. word_rule ULT_ULE (x ∷ y ∷ []) (h ∷ [])) z) (ule_by x y (upper_bound Γ x) (lower_bound c.args.counted Γ y))) found.1 ∙ ap Some (sym made.is))

pub returns-in_ok-proof-in-Some-clause-after : goal.returns-in_ok-proof-in-Some-clause-after
returns-in_ok-proof-in-Some-clause-after c =
    let t = c.args.table.now in
    let u = c.rule_term.new.table in
    let x = twice c.in_ok-form.ensures.extends c.in_ok-proof-in-Some.ensures.extends in
    after_now u c.args.search.now c.args.context.now (search-more c.args.search.now t u c.requires.search x) (context-more c.args.context.now t u c.requires.context x)

pub returns-in_ok-rest-in-None-clause-exact : goal.returns-in_ok-rest-in-None-clause-exact
returns-in_ok-rest-in-None-clause-exact c = λ Γ x y g qa qb.
    let t = c.args.table.now in
    let t1 = c.relation.new.table in
    let x1 = c.in_ok-form.ensures.extends in
    let a = stands t (exp_encoding x) c.args.a c.requires.a qa in
    let b = stands t (exp_encoding y) c.args.b c.requires.b qb in
    let form = subst (λ (z : Tree). IsIdOf t1 z c.in_ok-form.form) (λ i. rel_term Ult (qa i) (qb i)) c.in_ok-form.ensures.id in
    let h = hyps-after t t1 c.args.context.now.hyps Γ c.requires.context.hyps x1 g in
    let found = c.in-None.ensures.exact Γ (FRel Ult x y) h form.is in
    let made = c.in_ok-rest-in-None.ensures.exact Γ x y h (more a x1).is (more b x1).is in
    let same = ap (λ (z : Option Tree). first_of (option_map (λ h. word_rule ULT_ULE (x ∷ y ∷ []) (h ∷ [])) z) (ule_by x y (upper_bound Γ x) (lower_bound c.args.counted Γ y))) found in
    subst (λ (z : Option Tree). Stands c.at_most_by_bounds.new.table z c.in_ok-rest-in-None.rest) (sym same) made
