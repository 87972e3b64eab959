use Rattle.std.proofs.Common.{arith}
use Rattle.bpf_code.proofs.Pushing.{load-step, load-end}
use Rattle.bpf_code.proofs.blocks.push_load.Goals as goal

pub loop-n-preserved : goal.loop-n-preserved
loop-n-preserved c =
    load-step c.push_word-2.new.code.items c.loop-n.code.items c.extend_from_slice.new.self.items c.byte_code.result c.args.k c.loop-n.n c.quad_reg.result
    c.in_ok-extend_from_slice.ensures.items c.loop-n.invariant c.byte_code.ensures.exact c.quad_reg.ensures.exact

pub returns : goal.returns
returns c = record {
  exact =
      load-end c.args.code.now.items c.push_word.new.code.items c.push_word-2.new.code.items c.loop-n.code.items c.load_quad.result c.load_quad-2.result
      c.args.k c.args.last c.loop-n.n
      c.in_ok-push_word.ensures.exact c.in_ok-push_word-2.ensures.exact c.load_quad.ensures.exact c.load_quad-2.ensures.exact
      c.loop-n.invariant (omega (arith, c.loop-n-test.false, c.loop-n.auto.n-end));
}
