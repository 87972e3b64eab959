use Rattle.std.proofs.Common.{◌≡◌, ◌∙◌, subst}
use Rattle.term_table.specs.Table.{tree_at}
use Rattle.hereditary_subst.proofs.Rows.{grows_more, known-more, memo-more}
use Rattle.lf_terms.specs.Encoding.{exp_encoding}
use Rattle.prover_class.specs.NormalForms.{in_left}
use Rattle.prover_sums.specs.Inside.Rewrites.{AreKnownRewrites, left_rewriting}
use Rattle.prover_sums.proofs.Rewrites.{known_rewrite-more, in_left-map, above_is, one_mapped_is, three_mapped_is}
use Rattle.prover_ids.proofs.Standing.{twice}
use Rattle.prover_sums.proofs.rewriting.all_under_left.Goals as goal

pub returns-in_ok-step-in-One-clause-exact : goal.returns-in_ok-step-in-One-clause-exact
returns-in_ok-step-in-One-clause-exact c =
    λ y l qy h.
    let t = c.args.table.now in
    let u = c.raised.new.table in
    let right_is : tree_at u c.args.right ≡ exp_encoding y = c.in_ok-above.ensures.extends.same c.args.right c.requires.right ∙ qy in
    let above = above_is t u c.args.right c.in_ok-above.above y c.in_ok-above.ensures.id qy in
    one_mapped_is t u c.under_left.new.table c.args.steps c.in-One.step c.in_ok-step-in-One.step (left_rewriting c.args.op y) (in_left c.args.op y) c.in-One.is (in_left-map c.args.op y) c.requires.steps c.in_ok-above.ensures.extends
    (λ s g. c.in_ok-step-in-One.ensures.exact y s right_is above g) l h

pub returns-in_ok-third-in-Three-clause-exact : goal.returns-in_ok-third-in-Three-clause-exact
returns-in_ok-third-in-Three-clause-exact c =
    λ y l qy h.
    let t = c.args.table.now in
    let u = c.raised.new.table in
    let v = c.under_left-in-Three.new.table in
    let p = c.under_left-in-Three-2.new.table in
    let right = c.args.right in
    let above = c.in_ok-above.above in
    let tu = c.in_ok-above.ensures.extends in
    let uv = c.in_ok-first-in-Three.ensures.extends in
    let vp = c.in_ok-second-in-Three.ensures.extends in
    let tv = grows_more t u v tu uv in
    let tp = grows_more t v p tv vp in
    let above_in_u = above_is t u right above y c.in_ok-above.ensures.id qy in
    let above_in_v = uv.same above c.in_ok-above.ensures.id.known ∙ above_in_u in
    let above_in_p = (grows_more u v p uv vp).same above c.in_ok-above.ensures.id.known ∙ above_in_u in
    three_mapped_is t u v p c.under_left-in-Three-3.new.table c.args.steps c.in-Three.first c.in-Three.second c.in-Three.third c.in_ok-first-in-Three.first c.in_ok-second-in-Three.second c.in_ok-third-in-Three.third (left_rewriting c.args.op y)
    (in_left c.args.op y) c.in-Three.is (in_left-map c.args.op y) c.requires.steps c.in_ok-first-in-Three.ensures.known c.in_ok-second-in-Three.ensures.known tu uv vp c.in_ok-third-in-Three.ensures.extends
    (λ s g. c.in_ok-first-in-Three.ensures.exact y s (tu.same right c.requires.right ∙ qy) above_in_u g)
    (λ s g. c.in_ok-second-in-Three.ensures.exact y s (tv.same right c.requires.right ∙ qy) above_in_v g)
    (λ s g. c.in_ok-third-in-Three.ensures.exact y s (tp.same right c.requires.right ∙ qy) above_in_p g) l h

pub returns-in_err-step-in-One-clause-extends : goal.returns-in_err-step-in-One-clause-extends
returns-in_err-step-in-One-clause-extends c = twice c.in_ok-above.ensures.extends c.under_left.ensures.extends

pub returns-in_err-step-in-One-clause-memo : goal.returns-in_err-step-in-One-clause-memo
returns-in_err-step-in-One-clause-memo c = memo-more _ _ _ c.in_ok-above.ensures.memo c.under_left.ensures.extends

pub returns-in_ok-step-in-One-clause-extends : goal.returns-in_ok-step-in-One-clause-extends
returns-in_ok-step-in-One-clause-extends c = twice c.in_ok-above.ensures.extends c.under_left.ensures.extends

pub returns-in_ok-step-in-One-clause-memo : goal.returns-in_ok-step-in-One-clause-memo
returns-in_ok-step-in-One-clause-memo c = memo-more _ _ _ c.in_ok-above.ensures.memo c.under_left.ensures.extends

pub returns-in_err-first-in-Three-clause-extends : goal.returns-in_err-first-in-Three-clause-extends
returns-in_err-first-in-Three-clause-extends c = twice c.in_ok-above.ensures.extends c.under_left-in-Three.ensures.extends

pub returns-in_err-first-in-Three-clause-memo : goal.returns-in_err-first-in-Three-clause-memo
returns-in_err-first-in-Three-clause-memo c = memo-more _ _ _ c.in_ok-above.ensures.memo c.under_left-in-Three.ensures.extends

pub returns-in_err-second-in-Three-clause-extends : goal.returns-in_err-second-in-Three-clause-extends
returns-in_err-second-in-Three-clause-extends c = twice (twice c.in_ok-above.ensures.extends c.in_ok-first-in-Three.ensures.extends) c.under_left-in-Three-2.ensures.extends

pub returns-in_err-second-in-Three-clause-memo : goal.returns-in_err-second-in-Three-clause-memo
returns-in_err-second-in-Three-clause-memo c = memo-more _ _ _ c.in_ok-above.ensures.memo (twice c.in_ok-first-in-Three.ensures.extends c.under_left-in-Three-2.ensures.extends)

pub returns-in_err-third-in-Three-clause-extends : goal.returns-in_err-third-in-Three-clause-extends
returns-in_err-third-in-Three-clause-extends c = twice (twice (twice c.in_ok-above.ensures.extends c.in_ok-first-in-Three.ensures.extends) c.in_ok-second-in-Three.ensures.extends) c.under_left-in-Three-3.ensures.extends

pub returns-in_err-third-in-Three-clause-memo : goal.returns-in_err-third-in-Three-clause-memo
returns-in_err-third-in-Three-clause-memo c = memo-more _ _ _ c.in_ok-above.ensures.memo (twice (twice c.in_ok-first-in-Three.ensures.extends c.in_ok-second-in-Three.ensures.extends) c.under_left-in-Three-3.ensures.extends)

pub returns-in_ok-third-in-Three-clause-extends : goal.returns-in_ok-third-in-Three-clause-extends
returns-in_ok-third-in-Three-clause-extends c = twice (twice (twice c.in_ok-above.ensures.extends c.in_ok-first-in-Three.ensures.extends) c.in_ok-second-in-Three.ensures.extends) c.under_left-in-Three-3.ensures.extends

pub returns-in_ok-third-in-Three-clause-memo : goal.returns-in_ok-third-in-Three-clause-memo
returns-in_ok-third-in-Three-clause-memo c = memo-more _ _ _ c.in_ok-above.ensures.memo (twice (twice c.in_ok-first-in-Three.ensures.extends c.in_ok-second-in-Three.ensures.extends) c.under_left-in-Three-3.ensures.extends)

pub returns-in_ok-third-in-Three-clause-known : goal.returns-in_ok-third-in-Three-clause-known
returns-in_ok-third-in-Three-clause-known c = (known_rewrite-more c.in_ok-first-in-Three.ensures.known (twice c.in_ok-second-in-Three.ensures.extends c.in_ok-third-in-Three.ensures.extends), known_rewrite-more c.in_ok-second-in-Three.ensures.known c.in_ok-third-in-Three.ensures.extends, c.in_ok-third-in-Three.ensures.known)

pub under_left-requires-in-Three-clause-right : goal.under_left-requires-in-Three-clause-right
under_left-requires-in-Three-clause-right c = known-more _ _ _ c.requires.right c.in_ok-above.ensures.extends

pub under_left-requires-in-Three-clause-step : goal.under_left-requires-in-Three-clause-step
under_left-requires-in-Three-clause-step c = let k = subst (AreKnownRewrites c.args.table.now) c.in-Three.is c.requires.steps in known_rewrite-more k.0 c.in_ok-above.ensures.extends

pub under_left-requires-in-Three-2-clause-right : goal.under_left-requires-in-Three-2-clause-right
under_left-requires-in-Three-2-clause-right c = known-more _ _ _ c.requires.right (twice c.in_ok-above.ensures.extends c.in_ok-first-in-Three.ensures.extends)

pub under_left-requires-in-Three-2-clause-above : goal.under_left-requires-in-Three-2-clause-above
under_left-requires-in-Three-2-clause-above c = known-more _ _ _ c.in_ok-above.ensures.id.known c.in_ok-first-in-Three.ensures.extends

pub under_left-requires-in-Three-2-clause-step : goal.under_left-requires-in-Three-2-clause-step
under_left-requires-in-Three-2-clause-step c = let k = subst (AreKnownRewrites c.args.table.now) c.in-Three.is c.requires.steps in known_rewrite-more k.1 (twice c.in_ok-above.ensures.extends c.in_ok-first-in-Three.ensures.extends)

pub under_left-requires-in-Three-3-clause-right : goal.under_left-requires-in-Three-3-clause-right
under_left-requires-in-Three-3-clause-right c = known-more _ _ _ c.requires.right (twice (twice c.in_ok-above.ensures.extends c.in_ok-first-in-Three.ensures.extends) c.in_ok-second-in-Three.ensures.extends)

pub under_left-requires-in-Three-3-clause-above : goal.under_left-requires-in-Three-3-clause-above
under_left-requires-in-Three-3-clause-above c = known-more _ _ _ c.in_ok-above.ensures.id.known (twice c.in_ok-first-in-Three.ensures.extends c.in_ok-second-in-Three.ensures.extends)

pub under_left-requires-in-Three-3-clause-step : goal.under_left-requires-in-Three-3-clause-step
under_left-requires-in-Three-3-clause-step c = let k = subst (AreKnownRewrites c.args.table.now) c.in-Three.is c.requires.steps in known_rewrite-more k.2 (twice (twice c.in_ok-above.ensures.extends c.in_ok-first-in-Three.ensures.extends) c.in_ok-second-in-Three.ensures.extends)
