use Rattle.std.proofs.Common.{◌≡◌, subst, IsTrue, ◌↔◌}
use Rattle.term_table.specs.Table.{tree_at, ctx_of}
use Rattle.lf_signature.specs.Typing.{Checks}
use Rattle.lf_terms.proofs.Grown.{known-more}
use Rattle.lf_sequents.proofs.Lasting.{kept-last}
use Rattle.lf_sequents.proofs.Fitting.{ctx-same}
use Rattle.lf_sequents.proofs.premises.is_typed.Goals as goal

pub returns-in_err-kind-clause-kept : goal.returns-in_err-kind-clause-kept
returns-in_err-kind-clause-kept g c =
    kept-last c.args.kept.now (g.S.Signature.declares c.args.sig.now) c.args.table.now c.sort_id.new.table c.requires.kept c.sort_id.ensures.extends
    (g.met.S.Signature.same_types c.args.sig.now c.args.table.now c.sort_id.new.table c.sort_id.ensures.extends c.requires.holds)

pub check_term_with-requires-clause-ctx : goal.check_term_with-requires-clause-ctx
check_term_with-requires-clause-ctx g c = known-more c.args.table.now c.sort_id.new.table c.args.hyps.now c.requires.hyps c.sort_id.ensures.extends

pub check_term_with-requires-clause-kept : goal.check_term_with-requires-clause-kept
check_term_with-requires-clause-kept g c =
    kept-last c.args.kept.now (g.S.Signature.declares c.args.sig.now) c.args.table.now c.sort_id.new.table c.requires.kept c.sort_id.ensures.extends
    (g.met.S.Signature.same_types c.args.sig.now c.args.table.now c.sort_id.new.table c.sort_id.ensures.extends c.requires.holds)

pub returns-in-Ok-clause-answer : goal.returns-in-Ok-clause-answer
returns-in-Ok-clause-answer g c =
    let t = c.args.table.now in
    let u = c.sort_id.new.table in
    let sigs = g.met.S.Signature.same_types c.args.sig.now t u c.sort_id.ensures.extends c.requires.holds in
    let ctx : ctx_of u c.args.hyps.now ≡ ctx_of t c.args.hyps.now = ctx-same t u c.args.hyps.now c.requires.hyps c.sort_id.ensures.extends in
    let param : tree_at u c.args.param ≡ tree_at t c.args.param = c.sort_id.ensures.extends.same c.args.param c.requires.param in
    let kind = c.in_ok-kind.ensures.id.is in
    subst (λ (z : Type 0). IsTrue c.in-Ok.typed ↔ z) (λ i. Checks (sigs i) (ctx i) (param i) (kind i)) c.in-Ok.ensures.answer
