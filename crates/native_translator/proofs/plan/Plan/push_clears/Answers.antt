use Rattle.std.proofs.Common.{◌≡◌, suc, ◌+◌, ◌++◌, ap, ◌∙◌, arith, append_assoc}
use Rattle.native_code.specs.Blocks.{for_registers, clear}
use Rattle.native_lives.specs.Certificates.{lean_of}
use Rattle.native_translator.proofs.plan.Plan.push_clears.Goals as goal

pub loop-r-preserved : goal.loop-r-preserved
loop-r-preserved c =
    let f = clear c.args.self.now.places (lean_of c.args.self.now.lives.forms.items c.args.self.now.lives.live.items) in
    let n = c.loop-r.r in
    let old = c.args.out.now.items in
    let one : suc n ≡ n + 1 = omega arith in
    c.in_ok-push_clear.ensures ∙ ap (λ l. c.loop-r.out.items ++ f l) c.new.ensures ∙ ap (λ l. l ++ f n) c.loop-r.invariant
    ∙ append_assoc old (for_registers f n) (f n) ∙ ap (λ k. old ++ for_registers f k) one
