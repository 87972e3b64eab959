use Rattle.std.proofs.Common.{◌≡◌, IfOk, subst}
use Rattle.term_table.specs.Tree.{apps}
use Rattle.term_table.specs.Table.{tree_at}
use Rattle.lf_signature.specs.Schemas.{rule_of}
use Rattle.lf_signature.specs.Nodes.{IsIdOf}
use Rattle.lf_terms.specs.Instance.{trees_of, by_rule}
use Rattle.lf_sequents.specs.Answers.{proofs_taken}
use Rattle.lf_sequents.specs.Room.{sequents_of}
use Rattle.lf_sequents.proofs.Fitting.{placeds-more, proofs-same}
use Rattle.lf_sequents.proofs.conclude.conclusion_term.Goals as goal

pub with_proofs-requires-clause-premises : goal.with_proofs-requires-clause-premises
with_proofs-requires-clause-premises c =
    placeds-more c.args.table.now c.rule_term.new.table _ c.requires.premises c.in_ok-head.ensures.extends

pub returns-clause-id : goal.returns-clause-id
returns-clause-id c =
    let t₀ = c.args.table.now in
    let t₁ = c.rule_term.new.table in
    let qs = (rule_of c.args.rule.now).premises in
    let l = sequents_of c.args.premises.now in
    let whole : apps (tree_at t₁ c.in_ok-head.head) (proofs_taken t₁ qs l)
    ≡ by_rule c.args.number (trees_of t₀ c.args.params.now) (proofs_taken t₀ qs l) =
    λ i. apps (c.in_ok-head.ensures.id.is i) (proofs-same t₀ t₁ qs l c.requires.premises c.in_ok-head.ensures.extends i) in
    subst (λ z. IfOk c.with_proofs.result (IsIdOf c.with_proofs.new.table z)) whole c.with_proofs.ensures.id
