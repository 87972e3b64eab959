use Rattle.std.proofs.Common.{◌≡◌, ◌+◌, ◌++◌, ◌∷◌, [], length, sym, ◌∙◌, ap, subst, arith}
use Rattle.std.proofs.Math.ListN.{length-append}
use Rattle.host_steps.specs.Operations.{IsOperationAt}
use Rattle.host_steps.proofs.Growing.{AreFrom, one-more}
use Rattle.host_steps.proofs.operations.operations_of.Goals as goal

pub loop-i-preserved : goal.loop-i-preserved
loop-i-preserved c =
    let list = c.loop-i.operations.items in
    let code = c.args.code.now in
    let o1 = c.operation_of.result in
    let items : c.push.new.self.items ≡ list ++ o1 ∷ [] = c.in_ok-push.ensures.items in
    let at : 0 + length list ≡ c.loop-i.i = omega (arith, c.loop-i.invariant.count) in
    let here : IsOperationAt code (0 + length list) o1 = subst (λ k. IsOperationAt code k o1) (sym at) c.operation_of.ensures in
    record {
      count = ap length items ∙ length-append list (o1 ∷ []) ∙ omega (arith, c.loop-i.invariant.count);
      each = subst (AreFrom code 0) (sym items) (one-more code list 0 o1 c.loop-i.invariant.each here);
    }

pub returns : goal.returns
returns c =
    record {
      count = omega (arith, c.loop-i.invariant.count, c.loop-i-test.false, c.loop-i.auto.i-end, c.count-i-end.ensures.value);
      short = omega (arith, c.loop-i.invariant.count, c.loop-i.auto.i-end, c.count-i-end.ensures.value, c.count-i-end.ensures.code.short);
      each = λ i operation at.
          let none : 0 + i ≡ i = omega arith in
          subst (λ k. IsOperationAt c.args.code.now k operation) none (c.loop-i.invariant.each i operation at);
    }
