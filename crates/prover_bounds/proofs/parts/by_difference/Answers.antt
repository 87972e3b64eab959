use Rattle.std.proofs.Common.{[], ◌∷◌, IfOk, subst}
use Rattle.word_ops.specs.declared.Op.TheVariants.{Sub}
use Rattle.lf_signature.specs.Nodes.{IsIdOf}
use Rattle.lf_signature.specs.declared.numbers.TheConstants.{SUB_LO}
use Rattle.lf_terms.specs.Encoding.{exp_encoding}
use Rattle.prover_bounds.specs.BoundIds.{IsWordBound}
use Rattle.prover_bounds.specs.Candidates.{folded_at}
use Rattle.prover_bounds.specs.declared.bounds.Side.TheVariants.{Lower}
use Rattle.prover_ids.proofs.Standing.{own, stands, more, twice, ruled}
use Rattle.hereditary_subst.proofs.Rows.{known-more, memo-more}
use Rattle.prover_bounds.proofs.parts.by_difference.Goals as goal

pub returns-clause-is : goal.returns-clause-is
returns-clause-is c = λ z x qe qa.
    let t = c.args.table.now in
    let e2 = c.in_ok-value.ensures.extends in
    let e3 = c.in_ok-taken.ensures.extends in
    let x3 = twice (twice c.in_ok-held.ensures.extends e2) e3 in
    let a = stands t (exp_encoding x) c.args.a c.requires.a qa in
    let e = stands t (exp_encoding z) c.args.e c.requires.e qe in
    let v = own t c.args.v.proof c.requires.v in
    let p =
    ruled (λ u. IsIdOf c.rule_term.new.table u c.in_ok-proof.proof) SUB_LO
    (λ i. (more a x3).is i ∷ (more c.in_ok-value.ensures.known e3).is i
    ∷ c.in_ok-taken.ensures.known.is i ∷ (more v x3).is i
    ∷ (more c.in_ok-held.ensures.id (twice e2 e3)).is i ∷ []) c.in_ok-proof.ensures.id in
    subst (λ u. IfOk c.folded.result
    (IsWordBound c.folded.new.table (folded_at Lower z Sub c.args.v.value c.args.w u))) p.is
    (c.folded.ensures.is z (more e (twice x3 c.in_ok-proof.ensures.extends)).is)

pub returns-in_err-held-clause-memo : goal.returns-in_err-held-clause-memo
returns-in_err-held-clause-memo c = memo-more _ _ _ c.requires.memo c.fact.ensures.extends

pub returns-in_err-value-clause-extends : goal.returns-in_err-value-clause-extends
returns-in_err-value-clause-extends c = twice c.in_ok-held.ensures.extends c.word.ensures.extends

pub returns-in_err-value-clause-memo : goal.returns-in_err-value-clause-memo
returns-in_err-value-clause-memo c = memo-more _ _ _ c.requires.memo (twice c.in_ok-held.ensures.extends c.word.ensures.extends)

pub returns-in_err-taken-clause-extends : goal.returns-in_err-taken-clause-extends
returns-in_err-taken-clause-extends c = twice (twice c.in_ok-held.ensures.extends c.in_ok-value.ensures.extends) c.word-2.ensures.extends

pub returns-in_err-taken-clause-memo : goal.returns-in_err-taken-clause-memo
returns-in_err-taken-clause-memo c = memo-more _ _ _ c.requires.memo (twice (twice c.in_ok-held.ensures.extends c.in_ok-value.ensures.extends) c.word-2.ensures.extends)

pub returns-in_err-proof-clause-extends : goal.returns-in_err-proof-clause-extends
returns-in_err-proof-clause-extends c = twice (twice (twice c.in_ok-held.ensures.extends c.in_ok-value.ensures.extends) c.in_ok-taken.ensures.extends) c.rule_term.ensures.extends

pub returns-in_err-proof-clause-memo : goal.returns-in_err-proof-clause-memo
returns-in_err-proof-clause-memo c = memo-more _ _ _ c.requires.memo (twice (twice (twice c.in_ok-held.ensures.extends c.in_ok-value.ensures.extends) c.in_ok-taken.ensures.extends) c.rule_term.ensures.extends)

pub rule_term-requires : goal.rule_term-requires
rule_term-requires c = (known-more _ _ _ c.requires.a (twice (twice c.in_ok-held.ensures.extends c.in_ok-value.ensures.extends) c.in_ok-taken.ensures.extends), (known-more _ _ _ c.in_ok-value.ensures.known.known c.in_ok-taken.ensures.extends, (c.in_ok-taken.ensures.known.known, (known-more _ _ _ c.requires.v (twice (twice c.in_ok-held.ensures.extends c.in_ok-value.ensures.extends) c.in_ok-taken.ensures.extends), (known-more _ _ _ c.in_ok-held.ensures.id.known (twice c.in_ok-value.ensures.extends c.in_ok-taken.ensures.extends), tt)))))

pub folded-requires-clause-e : goal.folded-requires-clause-e
folded-requires-clause-e c = known-more _ _ _ c.requires.e (twice (twice (twice c.in_ok-held.ensures.extends c.in_ok-value.ensures.extends) c.in_ok-taken.ensures.extends) c.in_ok-proof.ensures.extends)

pub folded-requires-clause-proof : goal.folded-requires-clause-proof
folded-requires-clause-proof c = c.in_ok-proof.ensures.id.known

pub folded-requires-clause-memo : goal.folded-requires-clause-memo
folded-requires-clause-memo c = memo-more _ _ _ c.requires.memo (twice (twice (twice c.in_ok-held.ensures.extends c.in_ok-value.ensures.extends) c.in_ok-taken.ensures.extends) c.in_ok-proof.ensures.extends)

pub returns-clause-extends : goal.returns-clause-extends
returns-clause-extends c = twice (twice (twice (twice c.in_ok-held.ensures.extends c.in_ok-value.ensures.extends) c.in_ok-taken.ensures.extends) c.in_ok-proof.ensures.extends) c.folded.ensures.extends
