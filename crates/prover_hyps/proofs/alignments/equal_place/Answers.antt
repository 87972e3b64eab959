use Rattle.std.proofs.Common.{◌≡◌, ◌∙◌, ap, subst}
use Rattle.word_ops.specs.declared.Rel.TheVariants.{Eq}
use Rattle.term_table.specs.Tree.{Tree, shift}
use Rattle.term_table.specs.Table.{tree_at}
use Rattle.lf_signature.specs.Nodes.{IsIdOf}
use Rattle.lf_signature.specs.Terms.{rel_term}
use Rattle.lf_terms.specs.Encoding.{exp_encoding}
use Rattle.lf_terms.proofs.Encoded.{shift-exp_encoding}
use Rattle.lf_terms.specs.ProofTerms.{up}
use Rattle.prover_ids.proofs.Standing.{more}
use Rattle.prover_hyps.proofs.alignments.equal_place.Goals as goal

pub returns-clause-is : goal.returns-clause-is
returns-clause-is c = λ x q.
    let under : tree_at c.intern.new.self c.in_ok-under.under ≡ exp_encoding (up x) =
    (more c.in_ok-under.ensures.id c.in_ok-place.ensures.extends).is ∙ ap (shift 1 0) q ∙ shift-exp_encoding x 1 0 in
    subst (λ (z : Tree). IsIdOf c.relation.new.table z c.in_ok-form.form) (λ i. rel_term Eq (under i) (c.in_ok-place.ensures.id.1 i)) c.in_ok-form.ensures.id
