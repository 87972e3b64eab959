use Rattle.std.proofs.Common.{◌≡◌, sym, ◌∙◌, ap, subst}
use Rattle.word_ops.specs.declared.Rel.TheVariants.{Ule}
use Rattle.term_table.specs.Tree.{Tree, shift}
use Rattle.term_table.specs.Table.{tree_at}
use Rattle.lf_signature.specs.Nodes.{IsIdOf}
use Rattle.lf_signature.specs.Terms.{rel_term}
use Rattle.lf_terms.specs.Encoding.{exp_encoding, form_encoding}
use Rattle.lf_terms.proofs.Encoded.{shift-exp_encoding}
use Rattle.lf_terms.specs.ProofTerms.{up}
use Rattle.prover_ids.proofs.Standing.{more, twice}
use Rattle.prover_bounds.specs.declared.bounds.Side.{Side}
use Rattle.prover_bounds.specs.Candidates.{placed}
use Rattle.hereditary_subst.proofs.Rows.{known-more, memo-more}
use Rattle.prover_bounds.proofs.bounds.placed.Goals as goal

pub returns-in_ok-relation-in-Upper-clause-is : goal.returns-in_ok-relation-in-Upper-clause-is
returns-in_ok-relation-in-Upper-clause-is c = λ x q.
    let id = c.in_ok-relation-in-Upper.field-0 in
    let under : tree_at c.intern.new.self c.in_ok-under.under ≡ exp_encoding (up x) =
    (more c.in_ok-under.ensures.id c.in_ok-place.ensures.extends).is ∙ ap (shift 1 0) q ∙ shift-exp_encoding x 1 0 in
    subst (λ (s : Side). IsIdOf c.relation.new.table (form_encoding (placed s x)) id) (sym c.in-Upper.is)
    (subst (λ (z : Tree). IsIdOf c.relation.new.table z id) (λ i. rel_term Ule (under i) (c.in_ok-place.ensures.id.1 i)) c.in_ok-relation-in-Upper.ensures.id)

pub returns-in_ok-relation-in-Lower-clause-is : goal.returns-in_ok-relation-in-Lower-clause-is
returns-in_ok-relation-in-Lower-clause-is c = λ x q.
    let id = c.in_ok-relation-in-Lower.field-0 in
    let under : tree_at c.intern.new.self c.in_ok-under.under ≡ exp_encoding (up x) =
    (more c.in_ok-under.ensures.id c.in_ok-place.ensures.extends).is ∙ ap (shift 1 0) q ∙ shift-exp_encoding x 1 0 in
    subst (λ (s : Side). IsIdOf c.relation-in-Lower.new.table (form_encoding (placed s x)) id) (sym c.in-Lower.is)
    (subst (λ (z : Tree). IsIdOf c.relation-in-Lower.new.table z id) (λ i. rel_term Ule (c.in_ok-place.ensures.id.1 i) (under i)) c.in_ok-relation-in-Lower.ensures.id)

pub returns-in_err-place-clause-extends : goal.returns-in_err-place-clause-extends
returns-in_err-place-clause-extends c = twice c.in_ok-under.ensures.extends c.intern.ensures.extends

pub returns-in_err-place-clause-memo : goal.returns-in_err-place-clause-memo
returns-in_err-place-clause-memo c = memo-more _ _ _ c.in_ok-under.ensures.memo c.intern.ensures.extends

pub relation-requires-clause-a : goal.relation-requires-clause-a
relation-requires-clause-a c = known-more _ _ _ c.in_ok-under.ensures.id.known c.in_ok-place.ensures.extends

pub relation-requires-clause-b : goal.relation-requires-clause-b
relation-requires-clause-b c = c.in_ok-place.ensures.id.0

pub returns-in_err-relation-in-Upper-clause-extends : goal.returns-in_err-relation-in-Upper-clause-extends
returns-in_err-relation-in-Upper-clause-extends c = twice (twice c.in_ok-under.ensures.extends c.in_ok-place.ensures.extends) c.relation.ensures.extends

pub returns-in_err-relation-in-Upper-clause-memo : goal.returns-in_err-relation-in-Upper-clause-memo
returns-in_err-relation-in-Upper-clause-memo c = memo-more _ _ _ c.in_ok-under.ensures.memo (twice c.in_ok-place.ensures.extends c.relation.ensures.extends)

pub returns-in_ok-relation-in-Upper-clause-extends : goal.returns-in_ok-relation-in-Upper-clause-extends
returns-in_ok-relation-in-Upper-clause-extends c = twice (twice c.in_ok-under.ensures.extends c.in_ok-place.ensures.extends) c.relation.ensures.extends

pub returns-in_ok-relation-in-Upper-clause-memo : goal.returns-in_ok-relation-in-Upper-clause-memo
returns-in_ok-relation-in-Upper-clause-memo c = memo-more _ _ _ c.in_ok-under.ensures.memo (twice c.in_ok-place.ensures.extends c.relation.ensures.extends)

pub relation-requires-in-Lower-clause-a : goal.relation-requires-in-Lower-clause-a
relation-requires-in-Lower-clause-a c = c.in_ok-place.ensures.id.0

pub relation-requires-in-Lower-clause-b : goal.relation-requires-in-Lower-clause-b
relation-requires-in-Lower-clause-b c = known-more _ _ _ c.in_ok-under.ensures.id.known c.in_ok-place.ensures.extends

pub returns-in_err-relation-in-Lower-clause-extends : goal.returns-in_err-relation-in-Lower-clause-extends
returns-in_err-relation-in-Lower-clause-extends c = twice (twice c.in_ok-under.ensures.extends c.in_ok-place.ensures.extends) c.relation-in-Lower.ensures.extends

pub returns-in_err-relation-in-Lower-clause-memo : goal.returns-in_err-relation-in-Lower-clause-memo
returns-in_err-relation-in-Lower-clause-memo c = memo-more _ _ _ c.in_ok-under.ensures.memo (twice c.in_ok-place.ensures.extends c.relation-in-Lower.ensures.extends)

pub returns-in_ok-relation-in-Lower-clause-extends : goal.returns-in_ok-relation-in-Lower-clause-extends
returns-in_ok-relation-in-Lower-clause-extends c = twice (twice c.in_ok-under.ensures.extends c.in_ok-place.ensures.extends) c.relation-in-Lower.ensures.extends

pub returns-in_ok-relation-in-Lower-clause-memo : goal.returns-in_ok-relation-in-Lower-clause-memo
returns-in_ok-relation-in-Lower-clause-memo c = memo-more _ _ _ c.in_ok-under.ensures.memo (twice c.in_ok-place.ensures.extends c.relation-in-Lower.ensures.extends)
