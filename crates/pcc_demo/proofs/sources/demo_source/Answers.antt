use Rattle.std.proofs.Common.{◌≡◌, ◌++◌, ◌∙◌, ap, arith}
use Rattle.pcc_demo.specs.Sources.{clear_line, loads}
use Rattle.pcc_demo.proofs.sources.demo_source.Goals as goal

pub returns-clause-exact : goal.returns-clause-exact
returns-clause-exact c =
    let all : c.loop-j.j ≡ c.args.n = omega (arith, c.loop-j-test.false, c.loop-j.auto.j-end) in
    c.in_ok-extend_from_slice.ensures.items ∙ ap (λ x. x ++ c.as_bytes-2.result.now) (c.loop-j.invariant.text ∙ ap (λ k. clear_line ++ loads k) all) ∙ ap (λ x. (clear_line ++ loads c.args.n) ++ x) c.as_bytes-2.ensures.value
