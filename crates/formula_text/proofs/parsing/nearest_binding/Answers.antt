use Rattle.std.proofs.Common.{◌≡◌, ◌+◌, ◌-◌, ◌<◌, length, arith, sym, ap, ◌∙◌}
use Rattle.std.specs.Str.{bytes_eq}
use Rattle.formula_text.specs.Keywords.{binder_sort}
use Rattle.formula_text.proofs.Stacks.{binding_from, binding_none, binding_here, binding_other, binding_past}
use Rattle.formula_text.proofs.parsing.nearest_binding.Goals as goal

pub returns-then-eq : goal.returns-then-eq
returns-then-eq c =
    let fs = c.args.frames.now in
    let w = c.args.name.now in
    let f = c.index-frames-i.result in
    let z : c.loop-i.i - 1 + 1 ≡ c.loop-i.i = omega arith in
    let l : c.loop-i.i - 1 < length fs = omega arith in
    sym (binding_here fs w c.loop-i.number (c.loop-i.i - 1) f c.in-Some.sort l (ap (λ g. binder_sort g.keyword) (sym c.index-frames-i.is) ∙ sym c.binder_sort.ensures ∙ c.in-Some.is) (ap (λ g. bytes_eq g.name.now w) (sym c.index-frames-i.is) ∙ sym c.eq.ensures ∙ c.if-eq.true))
    ∙ ap (binding_from fs w c.loop-i.number) z ∙ c.loop-i.invariant.rest

pub loop-i-preserved-in-Some : goal.loop-i-preserved-in-Some
loop-i-preserved-in-Some c =
    let fs = c.args.frames.now in
    let w = c.args.name.now in
    let f = c.index-frames-i.result in
    let z : c.loop-i.i - 1 + 1 ≡ c.loop-i.i = omega arith in
    let l : c.loop-i.i - 1 < length fs = omega arith in
    record {
      near = omega arith;
      rest = binding_other fs w c.loop-i.number (c.loop-i.i - 1) f c.in-Some.sort l (ap (λ g. binder_sort g.keyword) (sym c.index-frames-i.is) ∙ sym c.binder_sort.ensures ∙ c.in-Some.is) (ap (λ g. bytes_eq g.name.now w) (sym c.index-frames-i.is) ∙ sym c.eq.ensures ∙ c.if-eq.false)
          ∙ ap (binding_from fs w c.loop-i.number) z ∙ c.loop-i.invariant.rest;
    }

pub loop-i-preserved : goal.loop-i-preserved
loop-i-preserved c =
    let fs = c.args.frames.now in
    let w = c.args.name.now in
    let f = c.index-frames-i.result in
    let z : c.loop-i.i - 1 + 1 ≡ c.loop-i.i = omega arith in
    let l : c.loop-i.i - 1 < length fs = omega arith in
    record {
      near = omega arith;
      rest = binding_none fs w c.loop-i.number (c.loop-i.i - 1) f l (ap (λ g. binder_sort g.keyword) (sym c.index-frames-i.is) ∙ sym c.binder_sort.ensures ∙ c.in_default.is)
          ∙ ap (binding_from fs w c.loop-i.number) z ∙ c.loop-i.invariant.rest;
    }

pub returns : goal.returns
returns c =
    let z : 0 ≡ c.loop-i.i = omega arith in
    sym (binding_past c.args.frames.now c.args.name.now c.loop-i.number) ∙ ap (binding_from c.args.frames.now c.args.name.now c.loop-i.number) z ∙ c.loop-i.invariant.rest
