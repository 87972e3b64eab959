use Rattle.std.proofs.Common.{◌<◌, ◌≤◌, ◌+◌, length, drop, Option, Some, None, ◌∙◌, ap, subst, arith}
use Rattle.term_table.specs.Tree.{Tree}
use Rattle.term_table.specs.Table.{Stands}
use Rattle.prover_class.specs.Goals.{first_of}
use Rattle.prover_class.specs.Access.{without_access, by_hyps}
use Rattle.prover_ids.proofs.Standing.{twice}
use Rattle.prover_goals.proofs.WordRows.{after_twice}
use Rattle.prover_conditions.specs.Inside.AccessIds.{access_of}
use Rattle.prover_conditions.proofs.AccessRows.{hyps_then, hyps_step, hyps_end}
use Rattle.prover_conditions.proofs.access.by_hyps.Goals as goal

pub returns-in-Some-clause-exact : goal.returns-in-Some-clause-exact
returns-in-Some-clause-exact c = λ Γ a g qa.
    let t = c.loop-i.table in
    let u = c.by_hyp.new.table in
    let n = c.args.context.now in
    let d = c.loop-i.context in
    let before = c.loop-i.invariant in
    let i = c.loop-i.i in
    let k = access_of c.args.asked.now.access in
    let h = hyps_then c.args.table.now t c.loop-i.search n d Γ c.requires.context before.extends before.after g in
    let within : i < length d.hyps = omega (arith, c.loop-i-test.true, ap length c.as_slice-count.ensures, ap length before.after.hyps) in
    let address = before.extends.same c.args.asked.now.address c.requires.asked ∙ qa in
    let step = hyps_step (without_access c.args.asked.now.counted) t u d.hyps Γ i d.outside n.outside k a c.hyp_at-hyp.result c.in_ok-proof.field-0 c.hyp_at-hyp.ensures.at h within before.after.outside (λ A q. c.in_ok-proof.ensures.exact Γ a A h address q) in
    let found : Stands u step.0 (Some c.in-Some.proof) = subst (λ (r : Option _). Stands u step.0 r) c.in-Some.is step.1 in
    (found.0, before.none Γ a g qa ∙ step.2 ∙ ap (λ (z : Option Tree). first_of z (by_hyps (without_access c.args.asked.now.counted) n.outside Γ k a (drop (i + 1) Γ))) found.1)

pub loop-i-preserved : goal.loop-i-preserved
loop-i-preserved c =
    let s = c.args.table.now in
    let t = c.loop-i.table in
    let u = c.by_hyp.new.table in
    let n = c.args.context.now in
    let d = c.loop-i.context in
    let before = c.loop-i.invariant in
    let i = c.loop-i.i in
    let k = access_of c.args.asked.now.access in
    let done = c.in_ok-proof.ensures in
    record {
      extends = twice before.extends done.extends;
      after = after_twice t u c.loop-i.search c.by_hyp.new.search n d c.by_hyp.new.context before.after done.after;
      limited = done.spends.0 ∙ before.limited;
      left = omega (arith, done.spends.1, before.left);
      none = λ Γ a g qa.
          let h = hyps_then s t c.loop-i.search n d Γ c.requires.context before.extends before.after g in
          let within : i < length d.hyps = omega (arith, c.loop-i-test.true, ap length c.as_slice-count.ensures, ap length before.after.hyps) in
          let address = before.extends.same c.args.asked.now.address c.requires.asked ∙ qa in
          let step = hyps_step (without_access c.args.asked.now.counted) t u d.hyps Γ i d.outside n.outside k a c.hyp_at-hyp.result c.in_ok-proof.field-0 c.hyp_at-hyp.ensures.at h within before.after.outside (λ A q. done.exact Γ a A h address q) in
          let found : Stands u step.0 None = subst (λ (r : Option _). Stands u step.0 r) c.in_default.is step.1 in
          before.none Γ a g qa ∙ step.2 ∙ ap (λ (z : Option Tree). first_of z (by_hyps (without_access c.args.asked.now.counted) n.outside Γ k a (drop (i + 1) Γ))) found;
    }

pub returns-clause-exact : goal.returns-clause-exact
returns-clause-exact c = λ Γ a g qa.
    let n = c.args.context.now in
    let last : length n.hyps ≤ c.loop-i.i = omega (arith, c.loop-i-test.false, ap length c.as_slice-count.ensures) in
    c.loop-i.invariant.none Γ a g qa ∙ ap (by_hyps (without_access c.args.asked.now.counted) n.outside Γ (access_of c.args.asked.now.access) a) (hyps_end c.args.table.now n.hyps Γ c.loop-i.i g last)
